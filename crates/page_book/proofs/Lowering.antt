-- Books whose harts go on to other counts.
use Rattle.std.proofs.Common.{◌≡◌, ◌≤◌, ℕ, List, [], ◌∷◌, replicate, Option, None, subst, sym, ap, ◌∙◌, inl, inr, arith}
use Rattle.std.proofs.lemmas.Bool.{cases_lt}
use Rattle.std.proofs.lemmas.List.{get_or-replicate, get_or_past}
use Rattle.ft_types.specs.declared.names.TheConstants.{HART_ROW}
use Rattle.interleaving.proofs.Put.{bump_same}
use Rattle.interleaving.specs.Log as theory
use Rattle.interleaving.specs.Log.{Begins, bump, counts_after}
use Rattle.interleaving.proofs.Beginnings.{counts_after_le}
use Rattle.ft_types.specs.Counts.{count_at}
use Rattle.guest_image.specs.Machine.{MachineState}
use Rattle.hart_lease.specs.declared.stretch.Stretch.{Stretch}
use Rattle.hart_lease.specs.OpenLeases.{OpenView, open_at}
use Rattle.hart_lease.specs.Runs.{Heard, counts_of, harts_of}
use Rattle.page_book.specs.Books.{IsBook}

-- a beginning that leaves no hart past a count takes none past it
begins_within : (edges : List theory.Edge) (cut within now : ℕ → ℕ) (order : List ℕ) → ((hart : ℕ) → counts_after now order hart ≤ within hart) →
    Begins edges cut now order → Begins edges within now order
begins_within edges cut within now [] le b = tt
begins_within edges cut within now (hart ∷ order) le b =
    let further = bump_same now hart in
    let later = counts_after_le (bump now hart) order hart in
    let end = le hart in (
      (omega (arith, further, later, end), b.0.1),
      begins_within edges cut within (bump now hart) order le b.1,
    )

open_none : (leases : List (Option OpenView)) (hart : ℕ) → leases ≡ replicate HART_ROW None → open_at leases hart ≡ None
open_none leases hart idle =
    ap (λ (ls : List (Option OpenView)). open_at ls hart) idle ∙ elim (cases_lt hart HART_ROW) [
      | inl less ↦ get_or-replicate HART_ROW hart None None less
      | inr more ↦ get_or_past (replicate HART_ROW None) hart None (omega arith)
    ]

pub limits_set : (start m : MachineState) (journal : List Stretch) (leases : List (Option OpenView)) (stops within : List ℕ) (edges : List theory.Edge)
    (heard : Heard) (before after : Type 0) → IsBook start m journal leases stops edges heard before → leases ≡ replicate HART_ROW None →
    ((hart : ℕ) → counts_of m hart ≤ count_at within hart) → after →
    IsBook start m journal leases within edges heard after
limits_set start m journal leases stops within edges heard before after p idle le kept =
    record {
      run = p.run;
      harts = p.harts;
      pages = p.pages;
      rows = p.rows;
      known = p.known;
      stopped = λ hart lent e. absurd (let none = open_none leases hart idle in cc);
      unhindered = p.unhindered;
      rights = p.rights;
      begins =
          begins_within edges (count_at stops) (count_at within) (counts_of start) (harts_of journal)
          (λ hart. subst (λ (n : ℕ). n ≤ count_at within hart) (sym (p.counted hart)) (le hart)) p.begins;
      counted = p.counted;
      keeps = kept;
    }
