-- What a gate has noted, what went out through it, and what waits at it.
use Rattle.std.specs.Prelude.{◌++◌, ◌+◌, ℕ, Bool, List, [], ◌∷◌, not, nat_lt, nat_le, slice_index_or, length, if◌then◌else◌}
use Rattle.std.specs.List.{count_by, filter, flat_map, sum_by}
use Rattle.ft_types.specs.Counts.{count_at}
use Rattle.ft_types.specs.declared.output.Output.{Output}

-- The outputs that were offered of one hart: those with numbers below its mark, which are passed over, since they are known to be out; those that went out,
-- in that order; and those that wait, in the order of their numbers.
pub record LineView : Type 0 where
  pub mark : ℕ
  pub passed : List Output
  pub gone : List Output
  pub waiting : List Output

-- none was offered
abbrev pub fresh_line : ℕ → LineView
fresh_line mark = record { mark = mark; passed = []; gone = []; waiting = [] }

-- all that were offered
abbrev pub offered_in : LineView → List Output
offered_in line = line.passed ++ (line.gone ++ line.waiting)

-- the line with one output more, which is passed over where its number is below the mark, and waits where it is not
abbrev pub with_offer : LineView → Output → LineView
with_offer line o =
    if nat_lt o.number line.mark then record line { passed = line.passed ++ o ∷ [] } else record line { waiting = line.waiting ++ o ∷ [] }

pub record GateView : Type 0 where
  pub term : ℕ
  pub keepers : ℕ
  pub need : ℕ
  pub noted : List (List ℕ)  -- of each keeper, a count for each hart
  pub lines : List LineView  -- of each hart

-- the count that is noted of a keeper and a hart
abbrev pub noted_at : GateView → ℕ → ℕ → ℕ
noted_at gate keeper hart = count_at (slice_index_or gate.noted keeper []) hart

-- what the gate has of a hart
abbrev pub line_of : GateView → ℕ → LineView
line_of gate hart = slice_index_or gate.lines hart (fresh_line 0)

-- the number below which a hart's outputs are passed over
abbrev pub mark_at : GateView → ℕ → ℕ
mark_at gate hart = (line_of gate hart).mark

-- the outputs of a hart that are passed over
abbrev pub passed_of : GateView → ℕ → List Output
passed_of gate hart = (line_of gate hart).passed

-- the outputs of a hart that went out
abbrev pub gone_of : GateView → ℕ → List Output
gone_of gate hart = (line_of gate hart).gone

-- the outputs of a hart that wait
abbrev pub waiting_of : GateView → ℕ → List Output
waiting_of gate hart = (line_of gate hart).waiting

-- the outputs of a hart that were offered
abbrev pub offered_of : GateView → ℕ → List Output
offered_of gate hart = offered_in (line_of gate hart)

-- how many keepers, each counted once, are noted above the step of the hart
abbrev pub holder_count : List (List ℕ) → ℕ → ℕ → ℕ
holder_count noted hart step = count_by (λ row. nat_lt step (count_at row hart)) noted

-- enough keepers are noted above the output's step
abbrev pub is_held : ℕ → List (List ℕ) → Output → Bool
is_held need noted o = nat_le need (holder_count noted o.hart o.step)

abbrev pub is_not_held : ℕ → List (List ℕ) → Output → Bool
is_not_held need noted o = not (is_held need noted o)

-- the line when those of its outputs that wait and are held went out
abbrev pub after_release : ℕ → List (List ℕ) → LineView → LineView
after_release need noted line =
    record line { gone = line.gone ++ filter (is_held need noted) line.waiting; waiting = filter (is_not_held need noted) line.waiting }

-- the outputs that wait and are held, hart by hart
abbrev pub held_outputs : ℕ → List (List ℕ) → List LineView → List Output
held_outputs need noted lines = flat_map (λ line. filter (is_held need noted) line.waiting) lines

-- how many outputs were offered and have not gone out: those that wait, and those that are passed over
abbrev pub kept_count : List LineView → ℕ
kept_count lines = sum_by (λ line. length line.passed + length line.waiting) lines

-- how many of them wait
abbrev pub waiting_count : List LineView → ℕ
waiting_count lines = sum_by (λ line. length line.waiting) lines
