-- A replaying book's open leases hear what the log has for them.
use Rattle.std.proofs.Common.{◌≡◌, inl, inr, ℕ, ◌<◌, List, [], slice_set, length, Option, None, Some, refl, ap, sym, subst, ◌∙◌, arith}
use Rattle.edge_log.specs.declared.Edge.{Edge}
use Rattle.ft_types.specs.declared.names.Want.{Want}
use Rattle.guest_image.specs.Machine.{MachineState}
use Rattle.hart_lease.specs.declared.asked.Asked.{Asked}
use Rattle.hart_lease.specs.OpenLeases.{OpenView, LentView, open_at, nothing_taken, given_more}
use Rattle.hart_lease.specs.Leases.{LeaseView, laid, IsLentBy}
use Rattle.hart_lease.specs.Runs.{Heard, IsLease, counts_of, steps_taken, HearsOn}
use Rattle.book_modes.specs.Obeying.{Hears, EachHears}
use Rattle.hart_lease.proofs.journals.GoingOn.{stands_ours, row_within, row-set_some, row-set_other, others_laid}
use Rattle.hart_lease.proofs.journals.OpenLeases.{set_each, more}

-- a hart is lent
pub lent_hears : (heard : Heard) (m : MachineState) (leases : List (Option OpenView)) (hart count : ℕ) (lent : LentView) → hart < length leases →
    count ≡ counts_of m hart → lent.inputs ≡ heard hart count → ((n : ℕ) → count < n → n < lent.stop → heard hart n ≡ []) → EachHears heard m leases →
    EachHears heard m (slice_set leases hart (Some (nothing_taken (length m.pages) lent)))
lent_hears heard m leases hart count lent row at inputs later each =
    set_each (λ h o. Hears heard h (counts_of m h) o) leases hart (Some (nothing_taken (length m.pages) lent)) row
    (λ o e. let same : nothing_taken (length m.pages) lent ≡ o = cc in
    subst (λ (v : OpenView). Hears heard hart (counts_of m hart) v) same
    (record { inputs = inputs ∙ ap (heard hart) at; later = λ n from below. later n (omega (arith, from, at)) below })) each

-- and is given a page
pub given_hears : (heard : Heard) (m : MachineState) (leases : List (Option OpenView)) (hart page : ℕ) (want : Want) (count : ℕ) (found : List Edge) →
    hart < length leases → EachHears heard m leases →
    EachHears heard m (slice_set leases hart (given_more (open_at leases hart) page want count found))
given_hears heard m leases hart page want count found row each =
    set_each (λ h o. Hears heard h (counts_of m h) o) leases hart (given_more (open_at leases hart) page want count found) row
    (λ o e.
    let i = more (open_at leases hart) page want count found o e in
    let was = each hart i.was i.is_old in
    record { inputs = i.inputs ∙ was.inputs; later = λ n from below. was.later n from (omega (arith, below, i.stop)) }) each

-- its lease ends
pub ended_hears : (heard : Heard) (m : MachineState) (leases : List (Option OpenView)) (hart : ℕ) → EachHears heard m leases →
    EachHears heard m (slice_set leases hart None)
ended_hears heard m leases hart each other lent e = each other lent (row-set_some leases hart other lent e)

-- or comes back
pub settled_hears : (heard : Heard) (m : MachineState) (leases : List (Option OpenView)) (l : LeaseView) → IsLentBy (open_at leases l.hart) m l →
    EachHears heard m leases → EachHears heard (laid m l) (slice_set leases l.hart None)
settled_hears heard m leases l ours each other lent e =
    let ne = row-set_other leases l.hart other lent e (row_within leases l.hart m l ours) in
    subst (λ n. Hears heard other n lent) (sym (others_laid m l other ne)) (each other lent (row-set_some leases l.hart other lent e))

-- so its steps are on what the log has
pub hears_on : (heard : Heard) (m : MachineState) (leases : List (Option OpenView)) (l : LeaseView) → IsLease l → IsLentBy (open_at leases l.hart) m l →
    EachHears heard m leases → HearsOn heard heard (counts_of m) l
hears_on heard m leases l lease ours each = of (open_at leases l.hart) refl ours
  where
    at : counts_of m l.hart ≡ l.base.count
    at = ap steps_taken (stands_ours (open_at leases l.hart) m l ours).state

    of : (o : Option OpenView) → open_at leases l.hart ≡ o → IsLentBy o m l → HearsOn heard heard (counts_of m) l
    of None e is = absurd is
    of (Some lent) e is =
        let its = each l.hart lent e in
        record {
          before = λ hart n lt. refl;
          first = λ some. sym its.inputs ∙ sym is.inputs;
          later =
              λ n from below.
              elim lease.within [
                | inl none ↦ absurd (omega (arith, from, below, at, lease.count, none))
                | inr within ↦ its.later n from (omega (arith, below, within, is.stop))
              ];
        }

-- the asker has its row
pub asker_row : (m : MachineState) (leases : List (Option OpenView)) (asked : Asked) (l : LeaseView) → IsLentBy (open_at leases l.hart) m l →
    asked.hart ≡ l.hart → asked.hart < length leases
asker_row m leases asked l ours is = subst (λ h. h < length leases) (sym is) (row_within leases l.hart m l ours)
