-- Open leases that a book has written down.
use Rattle.std.proofs.Common.{◌≡◌, ℕ, zero, suc, ◌<◌, ◌≤◌, List, [], ◌∷◌, ◌++◌, Contains, length, slice_get, slice_set, slice_index, Option, None, Some, inl}
use Rattle.std.proofs.Common.{inr, refl, ap, sym, ◌∙◌, subst, arith, length-set}
use Rattle.std.proofs.lemmas.Bool.{cases_eq, cases_lt}
use Rattle.std.proofs.lemmas.List.Elements.{Contains-append_left}
use Rattle.std.proofs.lemmas.List.{get_or-set_same, get_or-set_other}
use Rattle.edge_log.specs.declared.Edge.{Edge as edge_found}
use Rattle.ft_types.specs.declared.names.Want.{Want}
use Rattle.ft_types.specs.Counts.{count_at}
use Rattle.guest_image.specs.Machine.{MachineState}
use Rattle.hart_lease.specs.declared.taken.Taken.{Taken}
use Rattle.hart_lease.specs.Taken.{taken_at, taking}
use Rattle.hart_lease.specs.OpenLeases.{OpenView, open_at, given_more}
use Rattle.hart_lease.specs.Runs.{counts_of, steps_taken}

-- what a book keeps of each open lease
record Keeps (P : ℕ → OpenView → Type 0) (leases : List (Option OpenView)) : Type 0 where
  each : (hart : ℕ) (lent : OpenView) → open_at leases hart ≡ Some lent → P hart lent

-- the lease of one hart is written down anew
pub set_each : (P : ℕ → OpenView → Type 0) (leases : List (Option OpenView)) (hart : ℕ) (new : Option OpenView) → hart < length leases →
    ((lent : OpenView) → new ≡ Some lent → P hart lent) → ((other : ℕ) (lent : OpenView) → open_at leases other ≡ Some lent → P other lent) →
    (other : ℕ) (lent : OpenView) → open_at (slice_set leases hart new) other ≡ Some lent → P other lent
set_each P leases hart new lt here there other lent e =
    elim (cases_eq hart other) [
      | inl same ↦ subst (λ h. P h lent) same (here lent (sym (get_or-set_same leases hart new None lt) ∙ (ap (open_at (slice_set leases hart new)) same ∙ e)))
      | inr ne ↦ there other lent (sym (get_or-set_other leases hart other new None (λ e. ne (sym e))) ∙ e)
    ]

-- an open lease that was given more stays where it was
pub record IsMore (old : Option OpenView) (lent : OpenView) : Type 0 where
  pub was : OpenView
  pub is_old : old ≡ Some was
  pub stop : lent.stop ≡ was.stop
  pub inputs : lent.inputs ≡ was.inputs
  pub row : length lent.taken ≡ length was.taken
  pub edges : (e : edge_found) → Contains was.edges e → Contains lent.edges e

pub more : (old : Option OpenView) (page : ℕ) (want : Want) (count : ℕ) (found : List edge_found) (lent : OpenView) →
    given_more old page want count found ≡ Some lent → IsMore old lent
more None page want count found lent e = cc
more (Some was) page want count found lent e =
    record {
      was = was;
      is_old = refl;
      stop = let f : lent.stop ≡ was.stop = cc in f;
      inputs = let f : lent.inputs ≡ was.inputs = cc in f;
      row =
          let new : Option Taken = Some (taking (taken_at was.taken page) want count) in
          let f : lent.taken ≡ slice_set was.taken page new = cc in
          ap length f ∙ length-set was.taken page new;
      edges =
          let f : lent.edges ≡ was.edges ++ found = cc in
          λ e i. subst (λ es. Contains es e) (sym f) (Contains-append_left was.edges found e i);
    }

-- a row of counts tells of the harts that are not there too
pub counts_told : (row : List ℕ) (m : MachineState) → length row ≡ length m.harts → ((hart : ℕ) → hart < length row → slice_index row hart ≡ counts_of m hart) →
    (hart : ℕ) → count_at row hart ≡ counts_of m hart
counts_told row m same within hart =
    elim (cases_lt hart (length row)) [
      | inl lt ↦ at row hart lt ∙ within hart lt
      | inr le ↦ beyond row hart le ∙ sym (ap steps_taken (nothing m.harts hart (omega (arith, same, le))))
    ]
  where
    at : (row : List ℕ) (hart : ℕ) → hart < length row → count_at row hart ≡ slice_index row hart
    at [] hart lt = absurd (omega arith)
    at (x ∷ row) zero lt = refl
    at (x ∷ row) (suc hart) lt = at row hart (omega arith)

    beyond : (row : List ℕ) (hart : ℕ) → length row ≤ hart → count_at row hart ≡ 0
    beyond [] hart le = refl
    beyond (x ∷ row) zero le = absurd (omega arith)
    beyond (x ∷ row) (suc hart) le = beyond row hart (omega arith)

    nothing : {A : Type 0} (xs : List A) (i : ℕ) → length xs ≤ i → slice_get xs i ≡ None
    nothing [] i le = refl
    nothing (x ∷ xs) zero le = absurd (omega arith)
    nothing (x ∷ xs) (suc i) le = nothing xs i (omega arith)
