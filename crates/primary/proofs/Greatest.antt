-- A book whose harts get the greatest limit.
use Rattle.std.proofs.Common.{◌≡◌, ℕ, zero, suc, ◌-◌, ◌^◌, ◌<◌, ◌≤◌, List, [], ◌∷◌, length, replicate, refl, sym, ap, subst, ◌∙◌, arith}
use Rattle.std.specs.List.{AllByRecursion}
use Rattle.ft_types.specs.Counts.{count_at, IsCount}
use Rattle.guest_image.specs.Machine.{MachineState}
use Rattle.hart_lease.specs.Runs.{counts_of}
use Rattle.page_book.specs.Books.{BookView}
use Rattle.book_modes.specs.Recordings.{RecordingView, IsUnused}
use Rattle.fragment_codec.specs.Rules.{OpeningParts, IsOpening}
use Rattle.primary.specs.Primaries.{BeginsFrom, no_limits}

below : (row : List ℕ) (n : ℕ) → length row ≡ n → AllByRecursion IsCount row → (hart : ℕ) → count_at row hart ≤ count_at (replicate n (2 ^ 48 - 1)) hart
below [] n many each hart = omega arith
below (x ∷ row) zero many each hart = absurd (omega (arith, many))
below (x ∷ row) (suc n) many (first, rest) zero = let low : x < 2 ^ 48 = first in omega (arith, low)
below (x ∷ row) (suc n) many (first, rest) (suc hart) = below row n (omega (arith, many)) rest hart

-- no hart is past the greatest limit
pub in_limits : (harts : ℕ) (o : OpeningParts) (m : MachineState) → IsOpening o → o.guest.harts ≡ harts →
    ((hart : ℕ) → counts_of m hart ≡ count_at o.base hart) → (hart : ℕ) → counts_of m hart ≤ count_at (no_limits harts) hart
in_limits harts o m rules same are hart =
    subst (λ n. n ≤ count_at (no_limits harts) hart) (sym (are hart)) (below o.base harts (rules.base ∙ same) rules.counts hart)

-- a book with other limits
abbrev pub with_limits : BookView RecordingView → List ℕ → BookView RecordingView
with_limits b limits = record b { mode = record b.mode { limits = limits } }

pub begins_too : (b c : BookView RecordingView) (limits : List ℕ) → c ≡ with_limits b limits → BeginsFrom b.start b → BeginsFrom c.start c
begins_too b c limits is begins =
    subst (λ (x : BookView RecordingView). BeginsFrom x.start x) (sym is) (ap (λ (x : BookView RecordingView). with_limits x limits) begins)

pub unused_too : (b c : BookView RecordingView) (before limits : List ℕ) → c ≡ with_limits b limits → IsUnused b.mode b.start before →
    IsUnused c.mode c.start limits
unused_too b c before limits is unused =
    subst (λ (x : BookView RecordingView). IsUnused x.mode x.start limits) (sym is)
    (record {
      limits_are = refl;
      inputs = unused.inputs;
      notes = unused.notes;
      due = unused.due;
      bells = unused.bells;
      others = unused.others;
      few = unused.few;
      edges = unused.edges;
      log = unused.log;
      log_harts = unused.log_harts;
      log_start = unused.log_start;
      many = unused.many;
      rights = unused.rights;
    })
