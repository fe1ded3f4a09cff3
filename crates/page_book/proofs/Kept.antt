-- What a book keeps, when a lease goes out, is given a page, comes back or ends.
use Rattle.std.proofs.Common.{◌≡◌, ℕ, ◌<◌, ◌≤◌, List, All, length, slice_set, Option, None, inl, inr, ap, sym, ◌∙◌, arith, Some, subst, length-set, refl, [], false}
use Rattle.std.proofs.Common.{◌∷◌, zero, suc, replicate}
use Rattle.std.proofs.lemmas.Bool.{cases_eq}
use Rattle.std.proofs.lemmas.List.{get_or-set_same, get_or-set_other, length-replicate}
use Rattle.ft_types.specs.declared.names.TheConstants.{HART_ROW}
use Rattle.hart_lease.specs.OpenLeases.{OpenView, open_at, LentView, nothing_taken, given_more}
use Rattle.interleaving.specs.Log.{Edge, Begins, bump}
use Rattle.ft_types.specs.Counts.{count_at, greater}
use Rattle.guest_image.specs.Machine.{MachineState}
use Rattle.hart_lease.specs.declared.stretch.Stretch.{Stretch}
use Rattle.hart_lease.specs.declared.taken.Taken.{Taken}
use Rattle.hart_lease.specs.Runs.{Heard, MayGoTo, counts_of, StandsIn, IsLease, added, HearsOn}
use Rattle.page_book.specs.Books.{IsBook}
use Rattle.hart_lease.specs.Leases.{IsLentBy, LeaseView, laid}
use Rattle.hart_lease.proofs.journals.OpenLeases.{set_each, more}
use Rattle.edge_log.specs.declared.Edge.{Edge as edge_found}
use Rattle.ft_types.specs.declared.names.Want.{Want}
use Rattle.hart_lease.proofs.pages.Laid.{length-laid_pages}
use Rattle.hart_lease.proofs.journals.GoingOn.{stands_ours, row-set, row-set_some, may_still_go, others_laid, of_stop, row-set_other, row_within, counts_go_on}
use Rattle.hart_lease.proofs.journals.GoingOn.{run_goes_on, grown, schedule_goes_on}
use Rattle.interleaving.specs.Machine.{after}
use Rattle.interleaving.specs.Log as theory
use Rattle.input_log.specs.declared.Input.{Input}
use Rattle.input_log.specs.Inputs.{is_bell, IsInputOf}
use Rattle.input_log.specs.Notes.{notes_of}
use Rattle.book_modes.specs.Recordings.{RecordingView, IsRecorded, IsOffered, IsNoting, HasRoomed, heard_by}
use Rattle.book_modes.proofs.ledger.Honesty.{offered_kept, renoted_kept, noting_within}
use Rattle.hart_lease.proofs.pages.Slots.{none-replicate}

set_known : (leases : List (Option OpenView)) (hart : ℕ) (new : Option OpenView) (harts : ℕ) → hart < length leases → (harts ≤ hart → new ≡ None) →
    ((other : ℕ) → harts ≤ other → open_at leases other ≡ None) → (other : ℕ) → harts ≤ other → open_at (slice_set leases hart new) other ≡ None
set_known leases hart new harts lt here there other le =
    elim (cases_eq hart other) [
      | inl same ↦ ap (open_at (slice_set leases hart new)) (sym same) ∙ (get_or-set_same leases hart new None lt ∙ here (omega (arith, same, le)))
      | inr ne ↦ get_or-set_other leases hart other new None (λ e. ne (sym e)) ∙ there other le
    ]

-- a hart that had no open lease is lent
pub lent_kept : (start m : MachineState) (journal : List Stretch) (leases : List (Option OpenView)) (stops new_stops : List ℕ)
    (edges new_edges : List Edge) (heard new_heard : Heard) (before after : Type 0) (hart : ℕ) (lent : LentView) →
    IsBook start m journal leases stops edges heard before → new_stops ≡ stops → new_edges ≡ edges → new_heard ≡ heard → hart < length m.harts →
    hart < length leases → lent.stop ≤ count_at stops hart → MayGoTo edges (counts_of m) hart lent.stop → after →
    IsBook start m journal (slice_set leases hart (Some (nothing_taken (length m.pages) lent))) new_stops new_edges new_heard after
lent_kept start m journal leases stops new_stops edges new_edges heard new_heard before after hart out p same_stops same_edges same_heard there row le may
    kept =
    rw (same_stops, same_edges, same_heard)
    (record {
      run = p.run;
      harts = p.harts;
      pages = p.pages;
      rows = length-set leases hart (Some (nothing_taken (length m.pages) out)) ∙ p.rows;
      known = set_known leases hart (Some (nothing_taken (length m.pages) out)) (length m.harts) row (λ beyond. absurd (omega (arith, beyond, there))) p.known;
      stopped = set_each (λ h lent. lent.stop ≤ count_at stops h) leases hart (Some (nothing_taken (length m.pages) out)) row
          (λ lent e. let same : nothing_taken (length m.pages) out ≡ lent = cc in subst (λ (l : OpenView). l.stop ≤ count_at stops hart) same le) p.stopped;
      unhindered = set_each (λ h lent. MayGoTo edges (counts_of m) h lent.stop) leases hart (Some (nothing_taken (length m.pages) out)) row
          (λ lent e. let same : nothing_taken (length m.pages) out ≡ lent = cc in subst (λ (l : OpenView). MayGoTo edges (counts_of m) hart l.stop) same may) p.unhindered;
      rights = set_each (λ h lent. length lent.taken ≡ length m.pages) leases hart (Some (nothing_taken (length m.pages) out)) row
          (λ lent e. let same : nothing_taken (length m.pages) out ≡ lent = cc in
          subst (λ (l : OpenView). length l.taken ≡ length m.pages) same (length-replicate {A = Option Taken} (length m.pages) None)) p.rights;
      begins = p.begins;
      counted = p.counted;
      keeps = kept;
    })

none_more : (old : Option OpenView) (page : ℕ) (want : Want) (count : ℕ) (found : List edge_found) → old ≡ None → given_more old page want count found ≡ None
none_more None page want count found e = refl
none_more (Some was) page want count found e = cc

-- a lease was given a page
pub given_kept : (start m : MachineState) (journal : List Stretch) (leases : List (Option OpenView)) (stops new_stops : List ℕ) (edges new_edges : List Edge)
    (heard new_heard : Heard) (before after : Type 0) (hart page : ℕ) (want : Want) (count : ℕ) (found : List edge_found) →
    IsBook start m journal leases stops edges heard before → new_stops ≡ stops → new_edges ≡ edges → new_heard ≡ heard → hart < length leases → after →
    IsBook start m journal (slice_set leases hart (given_more (open_at leases hart) page want count found)) new_stops new_edges new_heard after
given_kept start m journal leases stops new_stops edges new_edges heard new_heard before after hart page want count found p same_stops same_edges same_heard row
    kept =
    rw (same_stops, same_edges, same_heard)
    (record {
      run = p.run;
      harts = p.harts;
      pages = p.pages;
      rows = length-set leases hart _ ∙ p.rows;
      known = set_known leases hart new (length m.harts) row (λ beyond. none_more (open_at leases hart) page want count found (p.known hart beyond)) p.known;
      stopped = set_each (λ h lent. lent.stop ≤ count_at stops h) leases hart new row
          (λ lent e. let i = more (open_at leases hart) page want count found lent e in
          subst (λ k. k ≤ count_at stops hart) (sym i.stop) (p.stopped hart i.was i.is_old)) p.stopped;
      unhindered = set_each (λ h lent. MayGoTo edges (counts_of m) h lent.stop) leases hart new row
          (λ lent e. let i = more (open_at leases hart) page want count found lent e in
          subst (MayGoTo edges (counts_of m) hart) (sym i.stop) (p.unhindered hart i.was i.is_old)) p.unhindered;
      rights = set_each (λ h lent. length lent.taken ≡ length m.pages) leases hart new row
          (λ lent e. let i = more (open_at leases hart) page want count found lent e in i.row ∙ p.rights hart i.was i.is_old) p.rights;
      begins = p.begins;
      counted = p.counted;
      keeps = kept;
    })
  where
    new : Option OpenView
    new = given_more (open_at leases hart) page want count found

-- a book that has taken a lease back
pub settled_kept : (start m : MachineState) (journal : List Stretch) (leases : List (Option OpenView)) (stops : List ℕ) (edges : List Edge)
    (heard new_heard : Heard) (before after : Type 0) (l : LeaseView) → IsBook start m journal leases stops edges heard before → IsLease l →
    IsLentBy (open_at leases l.hart) m l → HearsOn heard new_heard (counts_of m) l → after →
    IsBook start (laid m l) (added journal l.hart l.steps) (slice_set leases l.hart None) stops edges new_heard after
settled_kept start m journal leases stops edges heard new_heard before after l p lease ours hears kept =
    let on : StandsIn m l = stands_ours (open_at leases l.hart) m l ours in
    record {
      run = run_goes_on start m journal l stops lease on p.counted heard new_heard hears p.pages p.run;
      harts = length-set m.harts l.hart l.present ∙ p.harts;
      pages = length-laid_pages m.pages l.slots ∙ p.pages;
      rows = length-set leases l.hart None ∙ p.rows;
      known = λ hart le.
          row-set leases l.hart hart (p.known hart (omega (arith, le, length-set m.harts l.hart l.present)));
      stopped = λ hart lent e. p.stopped hart lent (row-set_some leases l.hart hart lent e);
      unhindered = λ hart lent e.
          may_still_go edges (counts_of m) (counts_of (laid m l)) hart lent.stop (p.unhindered hart lent (row-set_some leases l.hart hart lent e))
          (others_laid m l hart (row-set_other leases l.hart hart lent e (row_within leases l.hart m l ours)))
          (grown start m journal l stops lease on p.counted);
      rights = λ hart lent e. p.rights hart lent (row-set_some leases l.hart hart lent e) ∙ sym (length-laid_pages m.pages l.slots);
      begins = schedule_goes_on start m journal l stops lease on p.counted edges
          (of_stop (λ stop. stop ≤ count_at stops l.hart) (open_at leases l.hart) m l ours (p.stopped l.hart))
          (of_stop (MayGoTo edges (counts_of m) l.hart) (open_at leases l.hart) m l ours (p.unhindered l.hart)) p.begins;
      counted = counts_go_on start m journal l stops lease on p.counted;
      keeps = kept;
    }

-- a book that has ended a lease
pub ended_kept : (start m : MachineState) (journal : List Stretch) (leases : List (Option OpenView)) (stops : List ℕ) (edges : List Edge)
    (heard : Heard) (before after : Type 0) (hart : ℕ) → IsBook start m journal leases stops edges heard before → after →
    IsBook start m journal (slice_set leases hart None) stops edges heard after
ended_kept start m journal leases stops edges heard before after hart p kept = record {
  run = p.run;
  harts = p.harts;
  pages = p.pages;
  rows = length-set leases hart None ∙ p.rows;
  known = λ other le. row-set leases hart other (p.known other le);
  stopped = λ other lent e. p.stopped other lent (row-set_some leases hart other lent e);
  unhindered = λ other lent e. p.unhindered other lent (row-set_some leases hart other lent e);
  rights = λ other lent e. p.rights other lent (row-set_some leases hart other lent e);
  begins = p.begins;
  counted = p.counted;
  keeps = kept;
}

-- a book whose mode keeps another fact
pub kept_so : (start m : MachineState) (journal : List Stretch) (leases : List (Option OpenView)) (stops : List ℕ) (edges : List theory.Edge)
    (heard : Heard) (before after : Type 0) → IsBook start m journal leases stops edges heard before → after →
    IsBook start m journal leases stops edges heard after
kept_so start m journal leases stops edges heard before after p kept =
    record {
      run = p.run;
      harts = p.harts;
      pages = p.pages;
      rows = p.rows;
      known = p.known;
      stopped = p.stopped;
      unhindered = p.unhindered;
      rights = p.rights;
      begins = p.begins;
      counted = p.counted;
      keeps = kept;
    }

pub offered_book : (r new : RecordingView) (hart not_before : ℕ) (input : Input) (start m : MachineState) (journal : List Stretch)
    (leases : List (Option OpenView)) → IsOffered r hart not_before input new → IsInputOf (length start.harts) input →
    is_bell input ≡ false → IsBook start m journal leases r.limits [] (heard_by r) (IsRecorded r start m journal leases) →
    IsBook start m journal leases new.limits [] (heard_by new) (IsRecorded new start m journal leases)
offered_book r new hart not_before input start m journal leases o told plain p =
    subst (λ v. IsBook start m journal leases v.limits [] (heard_by v) (IsRecorded v start m journal leases)) (sym o.rest)
    (kept_so start m journal leases r.limits [] (heard_by r) (IsRecorded r start m journal leases)
    (IsRecorded (record r { desk = new.desk }) start m journal leases) p
    (subst (λ v. IsRecorded v start m journal leases) o.rest (offered_kept r new hart not_before input start m journal leases o told plain p.keeps)))

pub renoted_book : (r new : RecordingView) (start m : MachineState) (journal : List Stretch) (leases : List (Option OpenView)) →
    new ≡ record r { notes = new.notes } → ((hart : ℕ) → All (λ x. x.0 ≤ counts_of m hart) (notes_of new.notes hart)) →
    IsBook start m journal leases r.limits [] (heard_by r) (IsRecorded r start m journal leases) →
    IsBook start m journal leases new.limits [] (heard_by new) (IsRecorded new start m journal leases)
renoted_book r new start m journal leases rest within p =
    subst (λ v. IsBook start m journal leases v.limits [] (heard_by v) (IsRecorded v start m journal leases)) (sym rest)
    (kept_so start m journal leases r.limits [] (heard_by r) (IsRecorded r start m journal leases)
    (IsRecorded (record r { notes = new.notes }) start m journal leases) p
    (subst (λ v. IsRecorded v start m journal leases) rest (renoted_kept r new start m journal leases rest within p.keeps)))

pub noting_book : (r new : RecordingView) (hart count number : ℕ) (start m : MachineState) (journal : List Stretch) (leases : List (Option OpenView)) →
    IsNoting r hart count number new → count ≤ counts_of m hart → IsBook start m journal leases r.limits [] (heard_by r) (IsRecorded r start m journal leases) →
    IsBook start m journal leases new.limits [] (heard_by new) (IsRecorded new start m journal leases)
noting_book r new hart count number start m journal leases is reached p =
    renoted_book r new start m journal leases is.rest (noting_within r new hart count number m is reached p.keeps.noted) p

pub roomed_book : (r new : RecordingView) (start m : MachineState) (journal : List Stretch) (leases : List (Option OpenView)) → HasRoomed r new →
    IsBook start m journal leases r.limits [] (heard_by r) (IsRecorded r start m journal leases) →
    IsBook start m journal leases new.limits [] (heard_by new) (IsRecorded new start m journal leases)
roomed_book r new start m journal leases is p =
    renoted_book r new start m journal leases is.rest
    (λ hart. subst (All (λ x. x.0 ≤ counts_of m hart)) (sym (is.same hart)) (p.keeps.noted hart)) p

begins_higher : (edges : List theory.Edge) (cut higher now : ℕ → ℕ) (order : List ℕ) → ((hart : ℕ) → cut hart ≤ higher hart) →
    Begins edges cut now order → Begins edges higher now order
begins_higher edges cut higher now [] le b = tt
begins_higher edges cut higher now (hart ∷ order) le b =
    let lt = b.0.0 in
    let more = le hart in ((omega (arith, lt, more), b.0.1), begins_higher edges cut higher (bump now hart) order le b.1)

pub greater_above : (a b : List ℕ) → length a ≡ length b → (hart : ℕ) → count_at a hart ≤ count_at (greater a b) hart
greater_above [] b same hart = omega arith
greater_above (x ∷ a) [] same hart = absurd (omega (arith, same))
greater_above (x ∷ a) (y ∷ b) same zero = omega arith
greater_above (x ∷ a) (y ∷ b) same (suc hart) = greater_above a b (omega (arith, same)) hart

pub greater_many : (a b : List ℕ) → length a ≡ length b → length (greater a b) ≡ length a
greater_many [] b same = refl
greater_many (x ∷ a) [] same = absurd (omega (arith, same))
greater_many (x ∷ a) (y ∷ b) same = ap suc (greater_many a b (omega (arith, same)))

pub limits_kept : (start m : MachineState) (journal : List Stretch) (leases : List (Option OpenView)) (stops higher : List ℕ) (edges : List theory.Edge)
    (heard : Heard) (before after : Type 0) → IsBook start m journal leases stops edges heard before →
    ((hart : ℕ) → count_at stops hart ≤ count_at higher hart) → after →
    IsBook start m journal leases higher edges heard after
limits_kept start m journal leases stops higher edges heard before after p le kept =
    record {
      run = p.run;
      harts = p.harts;
      pages = p.pages;
      rows = p.rows;
      known = p.known;
      stopped = λ hart lent e. let below = p.stopped hart lent e in let more = le hart in omega (arith, below, more);
      unhindered = p.unhindered;
      rights = p.rights;
      begins = begins_higher edges (count_at stops) (count_at higher) (counts_of start) _ le p.begins;
      counted = p.counted;
      keeps = kept;
    }

-- a book without steps
pub begun_book : (start : MachineState) (stops : List ℕ) (edges : List theory.Edge) (heard : Heard) (kept : Type 0) → kept →
    IsBook start start [] (replicate HART_ROW None) stops edges heard kept
begun_book start stops edges heard kept k =
    record {
      run = refl;
      harts = refl;
      pages = refl;
      rows = refl;
      known = λ hart le. none-replicate {A = OpenView} HART_ROW hart;
      stopped = λ hart lent e. let same = sym (none-replicate {A = OpenView} HART_ROW hart) ∙ e in cc;
      unhindered = λ hart lent e. let same = sym (none-replicate {A = OpenView} HART_ROW hart) ∙ e in cc;
      rights = λ hart lent e. let same = sym (none-replicate {A = OpenView} HART_ROW hart) ∙ e in cc;
      begins = tt;
      counted = λ hart. refl;
      keeps = k;
    }
