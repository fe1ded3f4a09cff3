-- A lease that comes back to a book that records.
use Rattle.std.proofs.Common.{◌≡◌, inl, inr, ℕ, zero, suc, ◌<◌, ◌≤◌, List, [], ◌∷◌, ◌++◌, length, map, get_or, slice_set, Option, None, Some, option_map}
use Rattle.std.proofs.Common.{Contains, All, AllPairs, refl, sym, ap, subst, ◌∙◌, arith, append_assoc, length-set, le_trans, le_of_eq}
use Rattle.std.proofs.lemmas.List.{get_or-set_same, get_or-set_other, map-append}
use Rattle.std.proofs.lemmas.List.Elements.{All-cons, All-head, All-tail, Contains-append_left}
use Rattle.std.proofs.lemmas.List.Kept.{AllPairs-cons}
use Rattle.interleaving.specs.Lists.{put, EachPair}
use Rattle.interleaving.specs.Machine.{Machine, Turn, counts, steps, run}
use Rattle.interleaving.proofs.Runs.{steps_append}
use Rattle.interleaving.specs.Stored.{view}
use Rattle.interleaving.proofs.Put.{same_or_not, put_same, put_other}
use Rattle.interleaving.proofs.Each.{each_at}
use Rattle.interleaving.proofs.Beginnings.{counts_after_le}
use Rattle.input_log.specs.declared.Input.{Input}
use Rattle.edge_log.specs.declared.Edge.{Edge}
use Rattle.edge_log.specs.EdgeLog.{edge_as, MayAdd}
use Rattle.lease_ledger.specs.Ledger as ledger
use Rattle.lease_ledger.specs.Ledger.{present}
use Rattle.lease_ledger.specs.Calls.{Settled, settled, kept}
use Rattle.lease_ledger.specs.Laws.{InOrder, HasItsOrder, HasItsRights, IsAdding, IsKept, IsLaid}
use Rattle.lease_ledger.proofs.Laws.{keeps_ledger, keeps_order, keeps_rights, lays_its_run, may_add_next}
use Rattle.ft_types.specs.Counts.{count_at}
use Rattle.rv32_hart.specs.Hart.{Hart}
use Rattle.rv32_hart.specs.Hardware.{hardware}
use Rattle.guest_image.specs.Machine.{MachineState}
use Rattle.book_modes.specs.declared.keep.Keep.{Keep}
use Rattle.hart_lease.specs.Turns.{turns_from}
use Rattle.hart_lease.specs.Runs.{StandsIn, counts_of, harts_of, steps_taken, added, HearsOn}
use Rattle.hart_lease.specs.Leases.{LeaseView, laid, whole, IsOpen, IsLentBy}
use Rattle.hart_lease.specs.OpenLeases.{OpenView, open_at}
use Rattle.hart_lease.specs.Recorded.{stub_of, as_lease, system}
use Rattle.book_modes.specs.Modes.{IsSettling}
use Rattle.book_modes.specs.Recordings.{RecordingView, IsRecorded, IsFrom, IsSettled, LogsInputs, heard_by, keep_as, right_at, stub_as}
use Rattle.book_modes.specs.Hearings.{KeepsBells}
use Rattle.book_modes.proofs.bells.InTurn.{settled_bells}
use Rattle.book_modes.proofs.bells.Steps.{step_below}
use Rattle.hart_lease.proofs.journals.Ledger.{lent_ours, settled_is}
use Rattle.input_log.specs.Inputs.{IsInputOf, inputs_of}
use Rattle.input_log.specs.Notes.{NotesOfOne, notes_of}
use Rattle.book_modes.specs.Dues.{DueView}
use Rattle.hart_lease.proofs.journals.GoingOn.{turns_go_on, stands_ours, row-set_some, row-set_other, others_laid, get-set_here}
use Rattle.hart_lease.proofs.pages.Places.{get_within}
use Rattle.book_modes.proofs.ledger.Dues.{last_logged, heard_on, still_logged, still_begun, still_due, still_rung, dues_stay, others_due, still_inputs}
use Rattle.hart_lease.proofs.steps.Present.{played_with, present_played}
use Rattle.hart_lease.proofs.pages.Laid.{length-laid_pages}
use Rattle.hart_lease.proofs.pages.Slots.{length-map, index-map}

-- a hart whose lease has ended has no stub
pub stubs_without : (stubs : ℕ → Option ledger.Stub) (leases : List (Option OpenView)) → ((g : ℕ) → stubs g ≡ option_map stub_as (open_at leases g)) →
    (hart : ℕ) → hart < length leases → (g : ℕ) → put stubs hart None g ≡ option_map stub_as (open_at (slice_set leases hart None) g)
stubs_without stubs leases same hart row g =
    elim (same_or_not hart g) [
      | inl here ↦
          put_same stubs hart g None here ∙
          sym (ap (λ h. option_map stub_as (open_at (slice_set leases hart None) h)) (sym here) ∙ ap (option_map stub_as)
          (get_or-set_same leases hart None None row))
      | inr ne ↦
          put_other stubs hart g None ne ∙
          (same g ∙ ap (option_map stub_as) (sym (get_or-set_other leases hart g None None (λ e. ne (sym e)))))
    ]

-- an open lease has its row
pub open_within : (leases : List (Option OpenView)) (hart : ℕ) (lent : OpenView) → open_at leases hart ≡ Some lent → hart < length leases
open_within [] hart lent e = cc
open_within (o ∷ leases) zero lent e = omega arith
open_within (o ∷ leases) (suc hart) lent e = let h = open_within leases hart lent e in omega arith

record IsOpened (machine : MachineState) (o : Option OpenView) (l : LeaseView) : Type 0 where
  pub lent : OpenView
  pub is : o ≡ Some lent
  pub is_open : IsOpen machine lent l

opened : (o : Option OpenView) (machine : MachineState) (l : LeaseView) → IsLentBy o machine l → IsOpened machine o l
opened None machine l p = absurd p
opened (Some lent) machine l p = record { lent = lent; is = refl; is_open = p }

-- Edges, in the theory's words.

has_edge : (edges : List Edge) (k : ℕ) (d : Edge) → k < length edges → Contains (map edge_as edges) (edge_as (get_or edges k d))
has_edge edges k d below =
    (k, omega (arith, length-map edge_as edges, below), index-map edge_as d (edge_as (get_or edges k d)) edges k below)

in_rising_order : (hart : ℕ) (edges : List Edge) → EachPair InOrder (map edge_as edges) → All (λ e. e.hart ≡ hart) edges →
    AllPairs (λ a b. a.at ≤ b.at) edges
in_rising_order hart [] pairs own = λ i j d lt below. absurd (omega arith)
in_rising_order hart (e ∷ edges) pairs own =
    AllPairs-cons (λ (a b : Edge). a.at ≤ b.at) e edges
    (λ k d below.
    each_at (InOrder (edge_as e)) (map edge_as edges) (edge_as (get_or edges k d)) pairs.0 (has_edge edges k d below)
    (All-head (λ (e : Edge). e.hart ≡ hart) e edges own ∙ sym (All-tail (λ (e : Edge). e.hart ≡ hart) e edges own k d below)))
    (in_rising_order hart edges pairs.1 (All-tail (λ (e : Edge). e.hart ≡ hart) e edges own))

module _ (r : RecordingView) (l : LeaseView) (s : IsSettling (IsRecorded r) l) where
  abbrev n : ℕ
  n = length s.start.pages

  abbrev b : ledger.Ledger (Option Hart) (Option (List ℕ)) (List Input)
  b = s.kept.ledger

  abbrev settler : ledger.Lease (Option Hart) (Option (List ℕ)) (List Input)
  settler = as_lease l (map edge_as l.edges)

  its : IsOpened s.machine (open_at s.leases l.hart) l
  its = opened (open_at s.leases l.hart) s.machine l s.is_lent

  many : length s.machine.pages ≡ n
  many = s.kept.size.pages

  slots : length l.slots ≡ n
  slots = its.is_open.is_lent.as_many ∙ many

  stub : b.stubs l.hart ≡ Some settler.stub
  stub =
      s.kept.led.stubs l.hart ∙
      (ap (option_map stub_as) its.is ∙
      (ap (λ taken. Some (stub_of taken (map edge_as its.lent.edges))) (sym its.is_open.is_lent.counts) ∙
      ap (λ edges. Some (stub_of l.taken (map edge_as edges))) (sym its.is_open.edges)))

  lease : ledger.IsLease (system n) settler
  lease = (played_with l s.is_lease.played n slots (map edge_as l.edges)).lease

  ours : ledger.IsOurs b settler
  ours = lent_ours s.machine its.lent.taken l s.is_lease its.is_open.is_lent b n (map edge_as l.edges) s.kept.led.at_machine stub

  order_harts : HasItsRights (system n) (length s.start.harts) b
  order_harts = keeps_rights (system n) (length s.start.harts) (view (hardware n) s.start) b s.kept.size.few s.kept.led.reached

  order : HasItsOrder (system n) (length s.start.harts) (view (hardware n) s.start) b
  order = keeps_order (system n) (length s.start.harts) (view (hardware n) s.start) b s.kept.size.few s.kept.led.reached

  -- What adding its edges to the log asks for.

  own : All (λ e. e.hart ≡ l.hart) l.edges
  own k d below = (order.waiting l.hart settler.stub (edge_as (get_or l.edges k d)) stub (has_edge l.edges k d below)).own

  may_add : (before after : List Edge) (e : Edge) → l.edges ≡ before ++ e ∷ after → MayAdd r.edges e
  may_add before after e is =
      may_add_next (system n) (length s.start.harts) (view (hardware n) s.start) b settler (map edge_as before) (map edge_as after) e r.edges s.kept.size.few
      s.kept.led.reached lease ours (ap (map edge_as) is ∙ map-append edge_as before (e ∷ after)) adding
    where
      adding : IsAdding (system n) (length s.start.harts) (view (hardware n) s.start) b (map edge_as before) r.edges
      adding =
          record {
            is_log = s.kept.log.log;
            harts = s.kept.log.harts;
            from_start = λ g lt. s.kept.log.from_start g;
            among = λ x at. Contains-append_left b.edges (map edge_as before) x (s.kept.log.enough.among x at);
          }

  each : (before after : List Edge) → l.edges ≡ before ++ after → All (λ e. MayAdd r.edges e) after
  each before [] is = λ k d below. absurd (omega arith)
  each before (e ∷ after) is =
      All-cons (λ e. MayAdd r.edges e) e after (may_add before after e is)
      (each (before ++ e ∷ []) after (is ∙ sym (append_assoc before (e ∷ []) after)))

  pub edges_own : All (λ e. e.hart ≡ l.hart) l.edges
  edges_own = own

  pub edges_each : All (λ e. MayAdd r.edges e) l.edges
  edges_each = each [] l.edges refl

  pub edges_rising : AllPairs (λ a b. a.at ≤ b.at) l.edges
  edges_rising = in_rising_order l.hart l.edges (order.waiting_in_order l.hart settler.stub stub) own

  -- Where it was lent, and what has become of the counts.

  on : StandsIn s.machine l
  on = stands_ours (open_at s.leases l.hart) s.machine l s.is_lent

  lent_at : counts_of s.machine l.hart ≡ l.base.count
  lent_at = ap steps_taken on.state

  -- its edges are of no step that its hart had settled
  unsettled : All (λ e. counts_of s.machine l.hart ≤ e.at) l.edges
  unsettled k d below =
      subst (λ (m : Machine (Option Hart) (Option (List ℕ))). counts (system n) m l.hart ≤ (get_or l.edges k d).at) s.kept.led.at_machine
      (order.waiting l.hart settler.stub (edge_as (get_or l.edges k d)) stub (has_edge l.edges k d below)).unsettled

  pub edges_from : All (IsFrom l.hart l.base.count) l.edges
  edges_from k d below = record { own = own k d below; from = subst (λ (n : ℕ). n ≤ (get_or l.edges k d).at) lent_at (unsettled k d below) }

  now_at : counts_of (laid s.machine l) l.hart ≡ l.present.count
  now_at = ap steps_taken (get-set_here s.machine.harts l.hart l.present l.base on.state)

  -- it went on from the start
  since : counts_of s.start l.hart ≤ counts_of s.machine l.hart
  since =
      let far = counts_after_le (counts_of s.start) (harts_of s.journal) l.hart in
      omega (arith, far, s.counted l.hart)

  -- no count falls
  counts_grow : (hart : ℕ) → counts_of s.machine hart ≤ counts_of (laid s.machine l) hart
  counts_grow hart = elim (same_or_not l.hart hart) [
    | inl same ↦ subst (λ h. counts_of s.machine h ≤ counts_of (laid s.machine l) h) same (omega (arith, lent_at, now_at, s.is_lease.count))
    | inr ne ↦ le_of_eq (sym (others_laid s.machine l hart ne))
  ]

  harts_many : length (laid s.machine l).harts ≡ length s.machine.harts
  harts_many = length-set s.machine.harts l.hart l.present

  in_row : l.hart < length r.due
  in_row = omega (arith, order_harts.leased l.hart settler.stub stub, s.kept.size.few, s.kept.due.many)

  pub inputs_last : All (λ x. x.0 < l.base.count) (inputs_of r.inputs l.hart)
  inputs_last = last_logged r r s.start s.machine s.journal s.leases l s.is_lease lent_at now_at in_row (others_laid s.machine l) harts_many s.kept

  pub heard_there : (new : RecordingView) → LogsInputs l.steps r.inputs l new.inputs → HearsOn (heard_by r) (heard_by new) (counts_of s.machine) l
  heard_there new logs = heard_on r new s.start s.machine s.journal s.leases l s.is_lease lent_at now_at in_row (others_laid s.machine l) harts_many s.kept
      l.steps refl logs

  -- What the book keeps, once the lease has come back.

  module _ (keep : Keep) (new : RecordingView) (is : IsSettled r l keep new) where
    abbrev after : ledger.Ledger (Option Hart) (Option (List ℕ)) (List Input)
    after = settled (system n) b settler (λ page. keep_as keep)

    machine_is : after.machine ≡ view (hardware n) (laid s.machine l)
    machine_is =
        subst (λ m. (settled (system m) b settler (λ page. keep_as keep)).machine ≡ view (hardware m) (laid s.machine l)) many
        (settled_is s.machine its.lent.taken l s.is_lease its.is_open.is_lent b s.kept.led.at_machine (map edge_as l.edges) (λ page. keep_as keep))

    rights_are : (page : ℕ) → page < n → after.rights page ≡ right_at new.rights page
    rights_are page lt =
        ap (λ right. kept (keep_as keep) right l.hart (present (system n) settler)) (s.kept.rights.each page lt) ∙
        (ap (kept (keep_as keep) (right_at r.rights page) l.hart) (present_played l s.is_lease.played n slots (map edge_as l.edges)) ∙
        sym (is.rights page (omega (arith, lt, s.kept.rights.many))))

    abbrev start_at : Machine (Option Hart) (Option (List ℕ))
    start_at = view (hardware n) s.start

    abbrev turns : List (Turn (List Input))
    turns = turns_from l.inputs l.hart l.steps

    kept_ledger : IsKept (system n) start_at b
    kept_ledger = keeps_ledger (system n) (length s.start.harts) start_at b s.kept.size.few s.kept.led.reached

    laid_run : IsLaid (system n) b settler (λ page. keep_as keep)
    laid_run = lays_its_run (system n) b settler (λ page. keep_as keep) lease ours

    -- bells are still heard in their turn
    heard_after : KeepsBells s.start after.machine (steps (system n) start_at after.journal) after.edges new.due new.desk
    heard_after =
        subst (λ m. KeepsBells s.start m (steps (system n) start_at after.journal) after.edges new.due new.desk) (sym laid_run.machine)
        (subst (λ ts. KeepsBells s.start (run (system n) b.machine turns) ts after.edges new.due new.desk)
        (ap (λ m. steps (system n) start_at b.journal ++ steps (system n) m turns) kept_ledger.machine ∙ sym (steps_append (system n) start_at b.journal turns))
        (settled_bells s.start b.machine (steps (system n) start_at b.journal) b.edges r.due r.desk s.kept.heard l
        (ap (λ (m : Machine (Option Hart) (Option (List ℕ))). m.harts l.hart) s.kept.led.at_machine ∙ on.state) laid_run.runs
        (ap (λ (m : Machine (Option Hart) (Option (List ℕ))). m.harts l.hart) (sym laid_run.machine ∙ machine_is) ∙
        get-set_here s.machine.harts l.hart l.present l.base on.state)
        (λ x i. subst (λ m. (system n).count x.found < counts (system n) m x.hart) (sym kept_ledger.machine) (step_below n start_at b.journal x kept_ledger.runs
        i))
        s.is_lease.rings (its.is_open.inputs ∙ s.kept.due.given l.hart its.lent its.is)
        (λ x i. subst (λ es. Contains es x) (sym its.is_open.edges) (s.kept.due.given_edges l.hart its.lent its.is x i)) in_row new.due is.due new.desk
        is.desk))

    pub settled_recorded : IsRecorded new s.start (laid s.machine l) (added s.journal l.hart l.steps) (slice_set s.leases l.hart None)
    settled_recorded =
        record {
          ledger = after;
          led = record {
            reached = Settled settler (λ page. keep_as keep) s.kept.led.reached lease ours;
            at_machine = machine_is;
            in_journal =
                ap (λ turns. turns ++ turns_from l.inputs l.hart l.steps) s.kept.led.in_journal ∙
                sym
                (turns_go_on s.start s.machine s.journal l [] s.is_lease on s.counted (heard_by r) (heard_by new) (heard_there new is.inputs));
            stubs = stubs_without b.stubs s.leases s.kept.led.stubs l.hart (open_within s.leases l.hart its.lent its.is);
          };
          size = record {
            few = s.kept.size.few;
            harts = length-set s.machine.harts l.hart l.present ∙ s.kept.size.harts;
            pages = length-laid_pages s.machine.pages l.slots ∙ many;
          };
          log = record {
            log = is.edges.log;
            harts = ap length is.edges.start ∙ s.kept.log.harts;
            from_start = λ g. ap (λ start. count_at start g) is.edges.start ∙ s.kept.log.from_start g;
            enough = is.edges.enough b.edges s.kept.log.enough;
          };
          rights = record { many = is.many ∙ s.kept.rights.many; each = rights_are };
          limits = ap length is.limits ∙ s.kept.limits;
          logged = still_logged r new s.start s.machine s.journal s.leases l s.is_lease lent_at now_at in_row (others_laid s.machine l) harts_many s.kept
              l.steps refl is.inputs;
          begun = still_begun r new s.start s.machine s.journal s.leases l s.is_lease lent_at now_at in_row (others_laid s.machine l) harts_many s.kept since
              l.steps is.inputs;
          noted = λ hart.
              subst (λ (notes : List NotesOfOne). All (λ x. x.0 ≤ counts_of (laid s.machine l) hart) (notes_of notes hart)) (sym is.notes)
              (λ k d below. le_trans (s.kept.noted hart k d below) (counts_grow hart));
          due = record {
            many = dues_stay r new s.start s.machine s.journal s.leases l s.is_lease lent_at now_at in_row (others_laid s.machine l) harts_many s.kept l.steps
                is.due;
            edges = still_due r new s.start s.machine s.journal s.leases l s.is_lease lent_at now_at in_row (others_laid s.machine l) harts_many s.kept l.steps
                refl is.due;
            given =
                λ other o e.
                let ne = row-set_other s.leases l.hart other o e (open_within s.leases l.hart its.lent its.is) in
                s.kept.due.given other o (row-set_some s.leases l.hart other o e) ∙
                ap (λ (d : DueView). d.inputs)
                (sym (others_due r new s.start s.machine s.journal s.leases l s.is_lease lent_at now_at in_row (others_laid s.machine l) harts_many s.kept
                l.steps is.due other ne));
            given_edges =
                λ other o e x i.
                let ne = row-set_other s.leases l.hart other o e (open_within s.leases l.hart its.lent its.is) in
                s.kept.due.given_edges other o (row-set_some s.leases l.hart other o e) x
                (subst (λ (d : DueView). Contains d.edges x)
                (others_due r new s.start s.machine s.journal s.leases l s.is_lease lent_at now_at in_row (others_laid s.machine l) harts_many s.kept l.steps
                is.due other ne) i);
          };
          bells = still_rung r new s.start s.machine s.journal s.leases l s.is_lease lent_at now_at in_row (others_laid s.machine l) harts_many s.kept
              (get_within s.machine.harts l.hart l.base on.state) is.desk;
          inputs =
              still_inputs (length s.start.harts) r new l l.steps in_row
              (subst (All (IsInputOf (length s.start.harts))) (sym (its.is_open.inputs ∙ s.kept.due.given l.hart its.lent its.is)) (s.kept.inputs.due l.hart))
              is.inputs is.due is.desk
              s.kept.inputs;
          heard = heard_after;
        }

-- what a lease tells is the same whatever its hart put out before

pub logs_of_whole : (earlier : List (ℕ × ℕ)) (steps : ℕ) (before : List (List (ℕ × Input))) (l : LeaseView) (new : List (List (ℕ × Input))) →
    LogsInputs steps before l new → LogsInputs steps before (whole earlier l) new
logs_of_whole earlier zero before l new logs = logs
logs_of_whole earlier (suc steps) before l new logs = logs

pub settled_of_whole : (earlier : List (ℕ × ℕ)) (r : RecordingView) (l : LeaseView) (keep : Keep) (new : RecordingView) → IsSettled r l keep new →
    IsSettled r (whole earlier l) keep new
settled_of_whole earlier r l keep new is = record {
  limits = is.limits;
  edges = is.edges;
  unsettled = is.unsettled;
  counts = is.counts;
  inputs = logs_of_whole earlier l.steps r.inputs l new.inputs is.inputs;
  notes = is.notes;
  due = is.due;
  desk = record { bells = is.desk.bells; others = is.desk.others };
  many = is.many;
  rights = is.rights;
}
