-- A lease that ends without its steps, in a book that records.
use Rattle.std.proofs.Common.{◌≡◌, inl, inr, ℕ, ◌<◌, ◌≤◌, min, List, length, slice_set, is_some, true, Option, None, Some, option_map, refl, sym, ap, subst}
use Rattle.std.proofs.Common.{◌∙◌, arith, if◌then◌else◌}
use Rattle.std.proofs.lemmas.Bool.{cases_lt}
use Rattle.std.proofs.lemmas.List.{get_or_past}
use Rattle.interleaving.specs.Machine.{Machine, counts}
use Rattle.interleaving.specs.Stored.{view}
use Rattle.input_log.specs.declared.Input.{Input}
use Rattle.crew_pages.specs.declared.right.PageRight.{PageRight}
use Rattle.crew_pages.specs.Rights.{Right, holds, give_up}
use Rattle.lease_ledger.specs.Ledger as ledger
use Rattle.lease_ledger.specs.Calls.{Dropped, dropped}
use Rattle.lease_ledger.specs.Laws.{HasItsRights}
use Rattle.lease_ledger.proofs.Laws.{keeps_rights}
use Rattle.rv32_hart.specs.Hart.{Hart}
use Rattle.rv32_hart.specs.Hardware.{hardware}
use Rattle.hart_lease.specs.declared.taken.Taken.{Taken}
use Rattle.hart_lease.specs.Taken.{taken_at}
use Rattle.hart_lease.specs.Recorded.{system}
use Rattle.book_modes.specs.Modes.{IsEnding}
use Rattle.book_modes.specs.Recordings.{RecordingView, IsRecorded, IsEnded, right_at, stub_as}
use Rattle.book_modes.proofs.ledger.ChangedRights.{AreChanged}
use Rattle.hart_lease.proofs.journals.GoingOn.{row-set_some}
use Rattle.hart_lease.proofs.pages.Counts.{read_of}
use Rattle.book_modes.proofs.ledger.Settling.{open_within, stubs_without}

-- a hart gives a right up, if it took the page
abbrev pub given_back : List (Option Taken) → ℕ → ℕ → ℕ → Right → Right
given_back taken hart count page right = if is_some (taken_at taken page) then give_up right hart count else right

read_taken : (o : Option Taken) → is_some o ≡ true → (k : ℕ) × (read_of o ≡ Some k)
read_taken None e = cc
read_taken (Some t) e = (t.read_at, refl)

taken_read : (o : Option Taken) → is_some (read_of o) ≡ is_some o
taken_read None = refl
taken_read (Some t) = refl

-- pages beyond the row were not taken
pub given_back_all : (taken : List (Option Taken)) (hart count : ℕ) (old now : List PageRight) (n : ℕ) → min (length old) (length taken) ≤ n →
    AreChanged (given_back taken hart count) old now n → (page : ℕ) → page < length old →
    right_at now page ≡ given_back taken hart count page (right_at old page)
given_back_all taken hart count old now n end changed page lt =
    elim (cases_lt page n) [
      | inl below ↦ changed.first page below
      | inr above ↦
          let none : taken_at taken page ≡ None = get_or_past taken page None (omega (arith, end, above, lt)) in
          rw none (changed.others page above)
    ]

module _ (r : RecordingView) (hart count : ℕ) (taken : List (Option Taken))
    (e : IsEnding (λ start machine journal leases. IsRecorded r start machine journal leases) hart count taken) where
  abbrev n : ℕ
  n = length e.start.pages

  abbrev b : ledger.Ledger (Option Hart) (Option (List ℕ)) (List Input)
  b = e.kept.ledger

  abbrev its : ledger.Stub
  its = stub_as e.lent

  stub : b.stubs hart ≡ Some its
  stub = e.kept.led.stubs hart ∙ ap (option_map stub_as) e.is_open

  rights : HasItsRights (system n) (length e.start.harts) b
  rights = keeps_rights (system n) (length e.start.harts) (view (hardware n) e.start) b e.kept.size.few e.kept.led.reached

  -- the hart holds what its lease took
  pub holds_it : (page : ℕ) → page < length r.rights → is_some (taken_at taken page) ≡ true → holds (right_at r.rights page) hart ≡ true
  holds_it page lt took =
      let (k, is) = read_taken (taken_at e.lent.taken page) (ap (λ row. is_some (taken_at row page)) (sym e.took) ∙ took) in
      ap (λ right. holds right hart) (sym (e.kept.rights.each page (omega (arith, lt, e.kept.rights.many)))) ∙ (rights.held hart its page k stub is).0

  -- What the book keeps, once the lease has ended.

  module _ (new : RecordingView) (is : IsEnded r hart count taken new) where
    abbrev after : ledger.Ledger (Option Hart) (Option (List ℕ)) (List Input)
    after = dropped (system n) b hart its

    count_is : counts (system n) b.machine hart ≡ count
    count_is = ap (λ (m : Machine (Option Hart) (Option (List ℕ))). counts (system n) m hart) e.kept.led.at_machine ∙ sym e.at_count

    took_it : (page : ℕ) → is_some (its.read_at page) ≡ is_some (taken_at taken page)
    took_it page = taken_read (taken_at e.lent.taken page) ∙ ap (λ row. is_some (taken_at row page)) (sym e.took)

    rights_are : (page : ℕ) → page < n → after.rights page ≡ right_at new.rights page
    rights_are page lt =
        ap (λ k. if is_some (its.read_at page) then give_up (b.rights page) hart k else b.rights page) count_is ∙
        (ap (λ right. if is_some (its.read_at page) then give_up right hart count else right) (e.kept.rights.each page lt) ∙
        (ap (λ took. if took then give_up (right_at r.rights page) hart count else right_at r.rights page) (took_it page) ∙
        sym (is.rights page (omega (arith, lt, e.kept.rights.many)))))

    pub ended_recorded : IsRecorded new e.start e.machine e.journal (slice_set e.leases hart None)
    ended_recorded =
        subst (λ v. IsRecorded v e.start e.machine e.journal (slice_set e.leases hart None)) (sym is.rest)
        (record {
          ledger = after;
          led = record {
            reached = Dropped hart its e.kept.led.reached stub;
            at_machine = e.kept.led.at_machine;
            in_journal = e.kept.led.in_journal;
            stubs = stubs_without b.stubs e.leases e.kept.led.stubs hart (open_within e.leases hart e.lent e.is_open);
          };
          size = e.kept.size;
          log = e.kept.log;
          rights = record { many = is.many ∙ e.kept.rights.many; each = rights_are };
          limits = e.kept.limits;
          logged = e.kept.logged;
          begun = e.kept.begun;
          noted = e.kept.noted;
          due = record {
            many = e.kept.due.many;
            edges = e.kept.due.edges;
            given = λ other o is_other. e.kept.due.given other o (row-set_some e.leases hart other o is_other);
            given_edges = λ other o is_other. e.kept.due.given_edges other o (row-set_some e.leases hart other o is_other);
          };
          bells = e.kept.bells;
          inputs = e.kept.inputs;
          heard = e.kept.heard;
        })
