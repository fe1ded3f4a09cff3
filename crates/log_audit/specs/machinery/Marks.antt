-- Pages with the steps that used them last: private words.
use Rattle.std.specs.Prelude.{ℕ, ◌≡◌, ◌≢◌, ◌<◌, ◌≤◌, ◌+◌, max, List, length, replicate, slice_index, slice_index_or, slice_set}
use Rattle.ft_types.specs.declared.names.TheConstants.{HART_LIMIT, HART_ROW}
use Rattle.ft_types.specs.declared.names.Want.{Want}
use Rattle.ft_types.specs.declared.names.Want.TheVariants.{Read, Write}
use Rattle.log_audit.specs.declared.marks.Uses.{Uses}

-- the pages' bytes, and the last uses of each by hart
pub record MarkedView : Type 0 where
  pub contents : List (List ℕ)
  pub uses : List Uses

-- no step used the page
abbrev pub unused : Uses
unused = record { read = replicate HART_ROW 0; written = replicate HART_ROW 0 }

abbrev pub uses_at : List Uses → ℕ → Uses
uses_at uses page = slice_index_or uses page unused

-- the marks of a hart on a page
abbrev pub read_mark : MarkedView → ℕ → ℕ → ℕ
read_mark p page hart = slice_index (uses_at p.uses page).read hart

abbrev pub written_mark : MarkedView → ℕ → ℕ → ℕ
written_mark p page hart = slice_index (uses_at p.uses page).written hart

-- the mark of a hart's last step that conflicts with such a use of the page by another
abbrev pub used_by : Uses → Want → ℕ → ℕ
used_by u Read hart = slice_index u.written hart
used_by u Write hart = max (slice_index u.written hart) (slice_index u.read hart)

-- these pages, without a mark
abbrev pub unmarked : List (List ℕ) → MarkedView
unmarked pages = record { contents = pages; uses = replicate (length pages) unused }

-- what was used, once a step of the hart with this mark has used it so
abbrev pub noted : ℕ → Want → ℕ → Uses → Uses
noted hart Read mark u = record u { read = slice_set u.read hart mark }
noted hart Write mark u = record u { written = slice_set u.written hart mark }

abbrev pub noted_at : List Uses → ℕ → ℕ → Want → ℕ → List Uses
noted_at uses page hart want mark = slice_set uses page (noted hart want mark (uses_at uses page))

-- a step of another hart, by its hart and count, stands against this use: it conflicts with it, and it is none of the first steps
-- that come before
pub record StandsAgainst (uses : List Uses) (page hart : ℕ) (want : Want) (before : List ℕ) (other : ℕ × ℕ) : Type 0 where
  pub on_other : other.0 ≢ hart
  pub there : other.0 < HART_LIMIT
  pub last : used_by (uses_at uses page) want other.0 ≡ other.1 + 1
  pub unordered : slice_index before other.0 ≤ other.1

-- each step of another that conflicts with the use of the page is among those that come before
abbrev pub IsClear : List Uses → ℕ → ℕ → Want → List ℕ → Type 0
IsClear uses page hart want before = (other : ℕ) → other < HART_LIMIT → other ≢ hart → used_by (uses_at uses page) want other ≤ slice_index before other

-- the hart's marks are below this one
abbrev pub IsMarkedBelow : MarkedView → ℕ → ℕ → Type 0
IsMarkedBelow p hart mark = (page : ℕ) → (read_mark p page hart < mark) × (written_mark p page hart < mark)
