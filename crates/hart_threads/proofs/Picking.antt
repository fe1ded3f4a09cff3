-- What threads leave, where it goes on from what they were given.
use Rattle.std.proofs.Common.{◌≡◌, ◌≤◌, ◌++◌, ℕ, zero, suc, List, [], ◌∷◌, length, Option, None, Some, refl, sym, ap, subst, ◌∙◌, arith, append-nil}
use Rattle.interleaving.specs.Log.{bump, counts_after}
use Rattle.interleaving.proofs.Beginnings.{counts_after_le}
use Rattle.edge_log.specs.EdgeLog.{Edges}
use Rattle.input_log.specs.declared.Input.{Input}
use Rattle.input_log.specs.Inputs.{inputs_of}
use Rattle.input_log.specs.Notes.{NotesOfOne, notes_of, NotesMore}
use Rattle.guest_image.specs.Machine.{MachineState}
use Rattle.hart_lease.specs.declared.stretch.Stretch.{Stretch}
use Rattle.hart_lease.specs.OpenLeases.{OpenView, open_at}
use Rattle.hart_lease.specs.Runs.{counts_of, harts_of}
use Rattle.hart_lease.proofs.journals.GoingOn.{harts_of-append}
use Rattle.book_modes.specs.Recordings.{RecordingView, GoesOn, IsEnded, offers_at}
use Rattle.page_book.specs.Books.{BookView}
use Rattle.page_book.specs.Reclaims.{EndsOpen, EndsFirst, GoesOnFrom}
use Rattle.page_book.specs.Tellings.{HearsMore, AddsLater}
use Rattle.page_book.proofs.Later.{adds_nothing}
use Rattle.page_book.proofs.Tellings.{hears_nothing, notes_kept}
use Rattle.lease_rounds.specs.Running.{Continues, KeepsOffered, offers}
use Rattle.lease_rounds.specs.machinery.SoFar.{HasRun, IsRestOf}
use Rattle.lease_rounds.proofs.Offers.{kept_same}
use Rattle.lease_rounds.proofs.Offered.{offered_itself}

-- ---- from book to book

-- the counts after one order and then another
after_both : (now : ℕ → ℕ) (order rest : List ℕ) → counts_after now (order ++ rest) ≡ counts_after (counts_after now order) rest
after_both now [] rest = refl
after_both now (next ∷ order) rest = after_both (bump now next) order rest

-- a book goes on from itself
pub goes_on_itself : (b : BookView RecordingView) → GoesOnFrom (λ r settled new now. GoesOn r settled new now) b b
goes_on_itself b =
    record {
      start = refl;
      journal = ([], sym (append-nil b.journal));
      mode =
          record {
            edges = adds_nothing b.mode.edges (counts_of b.machine) b.mode.edges refl;
            inputs = λ hart.
                record {
                  given = hears_nothing (inputs_of b.mode.inputs hart) (counts_of b.machine hart) (inputs_of b.mode.inputs hart) refl;
                  offered = offered_itself b hart;
                };
            notes = notes_kept b b refl;
          };
    }

module _ (b c : BookView RecordingView) (on : GoesOnFrom (λ r settled new now. GoesOn r settled new now) b c) (first : HasRun b) (second : HasRun c) where
  pub goes_further : (hart : ℕ) → counts_of b.machine hart ≤ counts_of c.machine hart
  goes_further hart =
      let (more, is) = on.journal in
      let order : harts_of c.journal ≡ harts_of b.journal ++ harts_of more = ap harts_of is ∙ harts_of-append b.journal more in
      let later = counts_after_le (counts_after (counts_of b.start) (harts_of b.journal)) (harts_of more) hart in
      let whole : counts_after (counts_of b.start) (harts_of b.journal ++ harts_of more) hart ≡ counts_of c.machine hart =
      ap (λ (o : List ℕ). counts_after (counts_of b.start) o hart) (sym order)
      ∙ ap (λ (m : MachineState). counts_after (counts_of m) (harts_of c.journal) hart) (sym on.start)
      ∙ second.counted hart in
      let both = ap (λ (now : ℕ → ℕ). now hart) (after_both (counts_of b.start) (harts_of b.journal) (harts_of more)) in
      omega (arith, later, whole, both, first.counted hart)

  pub goes_on : Continues b c
  goes_on =
      record {
        start = on.start;
        harts = second.harts ∙ ap (λ (m : MachineState). length m.harts) on.start ∙ sym first.harts;
        journal = on.journal;
        inputs = λ hart. (on.mode.inputs hart).given;
        edges = on.mode.edges;
        notes = on.mode.notes;
      }

-- ---- but for leases, rights and limits

module _ (b c : BookView RecordingView) (rest : IsRestOf b c) where
  pub machine_stays : c.machine ≡ b.machine
  machine_stays = ap (λ (x : BookView RecordingView). x.machine) rest.book

  pub offered_stays : KeepsOffered b c
  offered_stays hart =
      kept_same (offers b hart) (offers c hart)
      (ap (λ (r : RecordingView). offers_at r hart (counts_of c.machine hart)) rest.mode
      ∙ ap (λ (m : MachineState). offers_at b.mode hart (counts_of m hart)) machine_stays)

  -- so it goes on from there
  pub rest_goes_on : (d : BookView RecordingView) → Continues c d → Continues b d
  rest_goes_on d p =
      let start : c.start ≡ b.start = ap (λ (x : BookView RecordingView). x.start) rest.book in
      let journal : c.journal ≡ b.journal = ap (λ (x : BookView RecordingView). x.journal) rest.book in
      let edges = ap (λ (r : RecordingView). r.edges) rest.mode in
      let inputs = ap (λ (r : RecordingView). r.inputs) rest.mode in
      let notes = ap (λ (r : RecordingView). r.notes) rest.mode in
      record {
        start = p.start ∙ start;
        harts = p.harts ∙ ap (λ (m : MachineState). length m.harts) machine_stays;
        journal = (p.journal.0, p.journal.1 ∙ ap (λ (j : List Stretch). j ++ p.journal.0) journal);
        inputs = λ hart.
            subst (λ (m : MachineState). HearsMore (inputs_of b.mode.inputs hart) (counts_of m hart) (inputs_of d.mode.inputs hart)) machine_stays
            (subst (λ (log : List (List (ℕ × Input))). HearsMore (inputs_of log hart) (counts_of c.machine hart) (inputs_of d.mode.inputs hart)) inputs
            (p.inputs hart));
        edges =
            subst (λ (m : MachineState). AddsLater b.mode.edges (counts_of m) d.mode.edges) machine_stays
            (subst (λ (log : Edges). AddsLater log (counts_of c.machine) d.mode.edges) edges p.edges);
        notes = λ hart.
            subst (λ (m : MachineState). NotesMore (notes_of b.mode.notes hart) (counts_of m hart) (notes_of d.mode.notes hart)) machine_stays
            (subst (λ (log : List NotesOfOne). NotesMore (notes_of log hart) (counts_of c.machine hart) (notes_of d.mode.notes hart)) notes (p.notes hart));
      }

-- what is left where leases end and limits are set
pub limited_rest : (b r d : BookView RecordingView) (leases : List (Option OpenView)) (limits : List ℕ) → r ≡ record b { leases = leases; mode = r.mode } →
    r.mode ≡ record b.mode { rights = r.mode.rights } → d ≡ record r { mode = record r.mode { limits = limits } } → IsRestOf b d
limited_rest b r d leases limits is rights then =
    record {
      book =
          subst (λ (x : BookView RecordingView). x ≡ record b { leases = x.leases; mode = x.mode })
          (sym (then ∙ ap (λ (x : BookView RecordingView). let y : BookView RecordingView = record x { mode = record r.mode { limits = limits } } in y) is)) refl;
      mode =
          subst (λ (m : RecordingView). m ≡ record b.mode { rights = m.rights; limits = m.limits })
          (sym (ap (λ (x : BookView RecordingView). x.mode) then
          ∙ ap (λ (m : RecordingView). let y : RecordingView = record m { limits = limits } in y) rights)) refl;
    }

-- other limits change nothing of this
pub limits_aside : (p b f : BookView RecordingView) (limits : List ℕ) → f ≡ record b { mode = record b.mode { limits = limits } } → Continues p b → Continues p f
limits_aside p b f limits is q =
    subst (λ (x : BookView RecordingView). Continues p x) (sym is)
    (record { start = q.start; harts = q.harts; journal = q.journal; inputs = q.inputs; edges = q.edges; notes = q.notes })

-- ---- leases that end

ended_open : (machine : MachineState) (lent : Option OpenView) (hart : ℕ) (before after : RecordingView) →
    EndsOpen (λ r hart count taken new. IsEnded r hart count taken new) machine lent hart before after → after ≡ record before { rights = after.rights }
ended_open machine None hart before after same = subst (λ (x : RecordingView). x ≡ record before { rights = x.rights }) (sym same) refl
ended_open machine (Some lent) hart before after ended = ended.rest

pub ended_rest : (machine : MachineState) (leases : List (Option OpenView)) (n : ℕ) (before after : RecordingView) →
    EndsFirst (λ r hart count taken new. IsEnded r hart count taken new) machine leases n before after → after ≡ record before { rights = after.rights }
ended_rest machine leases zero before after same = subst (λ (x : RecordingView). x ≡ record before { rights = x.rights }) (sym same) refl
ended_rest machine leases (suc n) before after (between, first, one) =
    ended_open machine (open_at leases n) n between after one
    ∙ ap (λ (x : RecordingView). let y : RecordingView = record x { rights = after.rights } in y) (ended_rest machine leases n before between first)
