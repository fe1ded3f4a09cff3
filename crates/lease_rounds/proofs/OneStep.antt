-- One step: a lease whose stop is one above its hart's count.
use Rattle.std.proofs.Common.{◌≡◌, ◌≢◌, ℕ, zero, suc, ◌+◌, ◌-◌, ◌<◌, ◌≤◌, List, [], ◌∷◌, ◌++◌, map, drop, replicate, length, nat_lt, slice_get, slice_index}
use Rattle.std.proofs.Common.{slice_set, Option, None, Some, Bool, true, false}
use Rattle.std.proofs.Common.{Result, Ok, Err, refl, sym, ap, subst, ◌∙◌, inl, inr, arith, if◌then◌else◌}
use Rattle.std.proofs.lemmas.Grind.{common_steps}
use Rattle.std.specs.Result.{IfOk, OnErr}
use Rattle.std.proofs.lemmas.Bool.{cases_lt}
use Rattle.std.proofs.lemmas.List.{get_or-set_same, get_or-set_other}
use Rattle.interleaving.specs.Lists.{put}
use Rattle.interleaving.proofs.Put.{put_same}
use Rattle.crew_pages.specs.declared.right.PageRight.{PageRight}
use Rattle.crew_pages.specs.Rights.{Right, Shared, Exclusive, give_up, holds, nobody}
use Rattle.lease_ledger.specs.Calls.{kept, Nothing}
use Rattle.rv32_hart.specs.Hart.{Hart}
use Rattle.ft_types.specs.Counts.{count_at}
use Rattle.ft_types.specs.declared.names.TheConstants.{INPUT_LIMIT}
use Rattle.ft_types.specs.declared.errors.Memory.{Memory}
use Rattle.guest_image.specs.Machine.{MachineState}
use Rattle.hart_lease.specs.declared.stretch.Stretch.{Stretch}
use Rattle.hart_lease.specs.Leases.{LeaseView, bells_rung}
use Rattle.hart_lease.specs.Runs.{added, counts_of, steps_taken}
use Rattle.hart_lease.proofs.steps.LackedRights.{step_counts}
use Rattle.hart_lease.proofs.journals.GoingOn.{get-set_here}
use Rattle.book_modes.specs.declared.keep.Keep.TheVariants as told
use Rattle.input_log.specs.declared.Input.{Input}
use Rattle.input_log.specs.declared.offered.Offer.{Offer}
use Rattle.input_log.specs.Inputs.{inputs_of}
use Rattle.input_log.specs.Offers.{AreKept}
use Rattle.input_log.specs.Waiting.{bells_of, others_of, going, others_staying, room_beside}
use Rattle.book_modes.specs.Dues.{DueView, nothing_due, due_at, due_from, is_silent}
use Rattle.book_modes.specs.Recordings.{RecordingView, IsFilled, LogsInputs, due_after, offers_at, right_at, right_stored}
use Rattle.book_modes.specs.Silences.{rung_by, bell_from}
use Rattle.page_book.specs.Books.{BookView}
use Rattle.page_book.specs.Tellings.{TellsOn}
use Rattle.page_book.proofs.Tellings.{notes_kept, tells_the_same}
use Rattle.lease_rounds.specs.Leading.{IsIdle, IsHeld, GoesOn, GivesUp, Goes, HasNotGone}
use Rattle.lease_rounds.proofs.Filling.{HasFilled, has_filled}
use Rattle.lease_rounds.proofs.Lending.{hart_at}
use Rattle.lease_rounds.proofs.GoingOn.{HasGoneOn, count_is, from, stop, went_far, has_gone_on, lease_filled, own, harts_stay, harts_are, state_after}
use Rattle.lease_rounds.proofs.GoingOn.{after_rung, after_count}
use Rattle.lease_rounds.specs.Running.{KeepsOffered, offers, recording}
use Rattle.lease_rounds.proofs.Leasing.{KeepsRest, ahead, continues, filled_keeps, keeps_rest, notes, offered}
use Rattle.lease_rounds.proofs.Offered.{cleared, filled_offered, offered_itself}
use Rattle.lease_rounds.proofs.Nexts.{Leaves, filled_due, filled_leaves, keeps_next, next_itself}
use Rattle.lease_rounds.specs.Steps.{AreWithin, inputs_next, bells_left, others_left, bells_between, IsGiven, IsDue, Waits, HasStepped, HoldsNothing, IsUnmoved}
use Rattle.lease_rounds.specs.Steps.{Runs}

-- ---- a book that has not moved

pub unmoved_itself : (hart : ℕ) (b : BookView RecordingView) → IsUnmoved hart b b
unmoved_itself hart b =
    record { book = refl; edges = refl; inputs = refl; notes = refl; limits = refl; next = next_itself hart b; offered = offered_itself b }

-- it tells on from itself
pub tells_itself : (b : BookView RecordingView) → TellsOn b b
tells_itself b = tells_the_same b b refl refl refl (notes_kept b b refl)

module _ (hart : ℕ) (b c : BookView RecordingView) (same : IsUnmoved hart b c) where
  pub machine_stays : c.machine ≡ b.machine
  machine_stays = ap (λ (x : BookView RecordingView). x.machine) same.book

  pub unmoved_tells : TellsOn b c
  unmoved_tells = tells_the_same b c machine_stays same.inputs same.edges (notes_kept b c same.notes)

but_for_mode : (b c : BookView RecordingView) → c.start ≡ b.start → c.machine ≡ b.machine → c.journal ≡ b.journal → c.leases ≡ b.leases →
    c ≡ record b { mode = c.mode }
but_for_mode b c start machine journal leases =
    λ i. record { start = start i; machine = machine i; journal = journal i; leases = leases i; mode = c.mode }

-- a lease that was given up leaves the book unmoved
module _ (hart : ℕ) (b d : BookView RecordingView) (up : GivesUp recording hart b d) where
  abbrev filled : BookView RecordingView
  filled = up.leaves.filled

  opened : up.opened.mode ≡ record b.mode { due = up.opened.mode.due; desk = up.opened.mode.desk }
  opened = filled_keeps _ b.mode hart (counts_of b.machine hart) up.opened.mode up.lends.mode.filled

  rest : KeepsRest up.opened up.leaves.filled
  rest = keeps_rest up.opened up.lease filled up.leaves.lease up.leaves.fills

  book : HasFilled up.opened up.lease up.leaves.filled up.leaves.lease
  book = has_filled recording up.opened up.lease step_counts filled up.leaves.lease up.leaves.fills

  machine : d.machine ≡ b.machine
  machine =
      ap (λ (x : BookView RecordingView). x.machine) up.leaves.ends.book
      ∙ ap (λ (x : BookView RecordingView). x.machine) book.book
      ∙ ap (λ (x : BookView RecordingView). x.machine) up.lends.book

  up_offered : KeepsOffered b d
  up_offered other =
      let now = counts_of b.machine in
      subst (λ (m : MachineState). AreKept (offers b other) (offers_at d.mode other (counts_of m other))) (sym machine)
      (subst (λ (xs : List Offer). AreKept (offers b other) xs)
      (sym
      (ap (λ (m : RecordingView). offers_at m other (now other)) up.leaves.ends.mode.rest
      ∙ ap (λ (m : RecordingView). offers_at m other (now other)) rest.mode))
      (filled_offered b.mode hart now up.opened.mode (is_silent (due_at b.mode.due hart).inputs) refl up.lends.mode.filled other))

  pub given_up : IsIdle b → IsIdle d → IsUnmoved hart b d
  given_up idle now =
      record {
        book =
            but_for_mode b d
            (ap (λ (x : BookView RecordingView). x.start) up.leaves.ends.book
            ∙ ap (λ (x : BookView RecordingView). x.start) book.book
            ∙ ap (λ (x : BookView RecordingView). x.start) up.lends.book)
            machine
            (ap (λ (x : BookView RecordingView). x.journal) up.leaves.ends.book
            ∙ ap (λ (x : BookView RecordingView). x.journal) book.book
            ∙ ap (λ (x : BookView RecordingView). x.journal) up.lends.book)
            (now ∙ sym idle);
        edges =
            ap (λ (m : RecordingView). m.edges) up.leaves.ends.mode.rest
            ∙ ap (λ (m : RecordingView). m.edges) rest.mode
            ∙ ap (λ (m : RecordingView). m.edges) opened;
        inputs =
            ap (λ (m : RecordingView). m.inputs) up.leaves.ends.mode.rest
            ∙ ap (λ (m : RecordingView). m.inputs) rest.mode
            ∙ ap (λ (m : RecordingView). m.inputs) opened;
        notes =
            ap (λ (m : RecordingView). m.notes) up.leaves.ends.mode.rest
            ∙ ap (λ (m : RecordingView). m.notes) rest.mode
            ∙ ap (λ (m : RecordingView). m.notes) opened;
        limits =
            ap (λ (m : RecordingView). m.limits) up.leaves.ends.mode.rest
            ∙ ap (λ (m : RecordingView). m.limits) rest.mode
            ∙ ap (λ (m : RecordingView). m.limits) opened;
        next =
            keeps_next hart b d up.opened.mode (is_silent (due_at b.mode.due hart).inputs) refl up.lends.mode.filled
            (ap (λ (m : RecordingView). m.due) up.leaves.ends.mode.rest ∙ ap (λ (m : RecordingView). m.due) rest.mode)
            (ap (λ (m : RecordingView). m.desk) up.leaves.ends.mode.rest ∙ ap (λ (m : RecordingView). m.desk) rest.mode);
        offered = up_offered;
      }

-- ---- rights

-- a hart that keeps nothing has no right
left_none : (r : Right) (hart n : ℕ) → holds (give_up r hart n) hart ≡ false
left_none (Shared since readers left) hart n = put_same readers hart hart false refl
left_none (Exclusive owner at since left) hart n = of (nat_lt at n)
  where
    of : (b : Bool) →
        holds
        (if b then Shared (Some (record { hart = owner; count = n })) (λ other. false) nobody else Shared since (λ other. false) (put left owner (Some n)))
        hart ≡
        false
    of true = refl
    of false = refl

kept_none : (r : Right) (hart n : ℕ) → holds (kept Nothing r hart n) hart ≡ false
kept_none r hart n = of (holds r hart) refl
  where
    of : (b : Bool) → holds r hart ≡ b → holds (if b then give_up r hart n else r) hart ≡ false
    of true has = left_none r hart n
    of false has = has

beyond : (rights : List PageRight) (page : ℕ) → length rights ≤ page → slice_get rights page ≡ None
beyond [] page le = refl
beyond (r ∷ rights) zero le = absurd (omega (arith, le))
beyond (r ∷ rights) (suc page) le = beyond rights page (omega (arith, le))

-- ---- one step

-- the counts of the harts, one of which has gone on
set_counts : (harts : List Hart) (hart : ℕ) (h after : Hart) (limit other : ℕ) → slice_get harts hart ≡ Some h → h.count < after.count →
    (other ≡ hart → after.count ≤ limit) → steps_taken (slice_get harts other) ≤ limit →
    (steps_taken (slice_get harts other) ≤ steps_taken (slice_get (slice_set harts hart after) other)) ×
    (steps_taken (slice_get (slice_set harts hart after) other) ≤ limit)
set_counts [] hart h after limit other there lt le before = cc
set_counts (x ∷ harts) zero h after limit zero there lt le before =
    let same : x.count ≡ h.count = ap steps_taken there in (omega (arith, same, lt), le refl)
set_counts (x ∷ harts) zero h after limit (suc other) there lt le before = (omega arith, before)
set_counts (x ∷ harts) (suc hart) h after limit zero there lt le before = (omega arith, before)
set_counts (x ∷ harts) (suc hart) h after limit (suc other) there lt le before =
    set_counts harts hart h after limit other there lt (λ e. le (ap suc e)) before

-- the book with other limits
abbrev pub limited : BookView RecordingView → List ℕ → BookView RecordingView
limited b limits = record b { mode = record b.mode { limits = limits } }

module _ (hart : ℕ) (b : BookView RecordingView) (once : List ℕ) (d : BookView RecordingView) (idle : IsIdle b)
    (one : count_at once hart ≡ counts_of b.machine hart + 1) (below : counts_of b.machine hart < count_at b.mode.limits hart) (within : AreWithin b) where
  abbrev low : BookView RecordingView
  low = limited b once

  module _ (on : GoesOn recording told.Nothing hart (limited b once) d) where
    gone : HasGoneOn recording hart (limited b once) d
    gone = has_gone_on recording told.Nothing hart low d on ahead idle (omega arith)

    steps_one : on.leads.lease.steps ≡ 1
    steps_one =
        let far = went_far recording told.Nothing hart low d on ahead idle (omega arith) in
        let end = stop recording told.Nothing hart low d on ahead idle (omega arith) in
        let is = count_is recording told.Nothing hart low d on ahead idle (omega arith) in
        let begun = from recording told.Nothing hart low d on ahead idle (omega arith) in
        let base : on.leads.lease.base.count ≡ on.lends.state.count =
        ap (λ (h : Hart). h.count) (lease_filled recording told.Nothing hart low d on).base ∙ ap (λ (x : LeaseView). x.base.count) on.lends.lent in
        omega (arith, far.0, far.1, end.1, is, begun, base, one, on.leads.back.mode.counts)

    journal : d.journal ≡ added b.journal hart 1
    journal =
        let f = lease_filled recording told.Nothing hart low d on in
        let same : on.leads.filled.journal ≡ b.journal = ap (λ (x : BookView RecordingView). x.journal) f.book ∙ ap (λ (x : BookView RecordingView). x.journal)
        on.lends.book in
        on.leads.back.journal
        ∙ ap (λ (j : List Stretch). added j on.leads.lease.hart on.leads.lease.steps) same
        ∙ ap (λ (h : ℕ). added b.journal h on.leads.lease.steps) (f.hart ∙ own recording told.Nothing hart low d on)
        ∙ ap (λ (n : ℕ). added b.journal hart n) steps_one

    counts_go : (other : ℕ) → (counts_of b.machine other ≤ counts_of d.machine other) × (counts_of d.machine other ≤ count_at b.mode.limits other)
    counts_go other =
        let g = gone in
        let end = g.within in
        subst
        (λ (hs : List Hart). (counts_of b.machine other ≤ steps_taken (slice_get hs other)) × (steps_taken (slice_get hs other) ≤ count_at b.mode.limits other))
        (sym g.harts)
        (set_counts b.machine.harts hart g.before g.after (count_at b.mode.limits other) other g.there g.further
        (λ e. subst (λ (n : ℕ). g.after.count ≤ count_at b.mode.limits n) (sym e) (omega (arith, end, one, below))) (within other))

    holds_nothing : HoldsNothing d hart
    holds_nothing page =
        let settled = on.leads.back.mode in
        let same : on.leads.lease.hart ≡ hart = (lease_filled recording told.Nothing hart low d on).hart ∙ own recording told.Nothing hart low d on in
        elim (cases_lt page (length on.leads.filled.mode.rights)) [
          | inl there ↦
              ap (λ (r : Right). holds r hart) (settled.rights page there)
              ∙ subst
              (λ (h : ℕ). holds (kept Nothing (right_at on.leads.filled.mode.rights page) on.leads.lease.hart on.leads.lease.present.count) h ≡ false) same
              (kept_none (right_at on.leads.filled.mode.rights page) on.leads.lease.hart on.leads.lease.present.count)
          | inr past ↦ ap (λ (o : Option PageRight). holds (right_stored o) hart) (beyond d.mode.rights page (omega (arith, past, settled.many)))
        ]

    is_given : IsGiven hart b d
    is_given =
        let f = lease_filled recording told.Nothing hart low d on in
        let own_hart : on.leads.lease.hart ≡ hart = f.hart ∙ own recording told.Nothing hart low d on in
        let count : on.leads.lease.base.count ≡ counts_of b.machine hart =
        ap (λ (h : Hart). h.count) f.base ∙ ap (λ (x : LeaseView). x.base.count) on.lends.lent ∙ sym (ap steps_taken on.lends.there) in
        let rest : KeepsRest on.opened on.leads.filled = keeps_rest on.opened on.lease on.leads.filled on.leads.lease on.leads.fills in
        let opened : on.opened.mode ≡ record low.mode { due = on.opened.mode.due; desk = on.opened.mode.desk } =
        filled_keeps _ low.mode hart (counts_of b.machine hart) on.opened.mode on.lends.mode.filled in
        let was : on.leads.filled.mode.inputs ≡ b.mode.inputs =
        ap (λ (m : RecordingView). m.inputs) rest.mode ∙ ap (λ (m : RecordingView). m.inputs) opened in
        let inputs : on.leads.lease.inputs ≡ inputs_next b.mode hart (counts_of b.machine hart) =
        f.inputs ∙ on.lends.mode.inputs
        ∙ filled_due low.mode hart (counts_of b.machine hart) on.opened.mode (is_silent (due_at b.mode.due hart).inputs) refl on.lends.mode.filled in
        let added = subst (λ (n : ℕ). LogsInputs n on.leads.filled.mode.inputs on.leads.lease d.mode.inputs) steps_one on.leads.back.mode.inputs in
        record {
          own =
              ap (inputs_of d.mode.inputs) (sym own_hart) ∙ added.row
              ∙ (λ i. inputs_of (was i) (own_hart i) ++ map (λ (x : Input). let pair : ℕ × Input = (count i, x) in pair) (inputs i));
          others = λ other ne.
              added.others other (λ e. ne (e ∙ own_hart)) ∙ ap (λ (log : List (List (ℕ × Input))). inputs_of log other) was;
        }

    -- what the lease was given of the desk, and to whom anything is due
    lent_waits : Leaves b.mode hart (counts_of b.machine hart) on.leads.filled.mode
    lent_waits =
        let rest : KeepsRest on.opened on.leads.filled = keeps_rest on.opened on.lease on.leads.filled on.leads.lease on.leads.fills in
        let left = filled_leaves low.mode hart (counts_of b.machine hart) on.opened.mode (is_silent (due_at b.mode.due hart).inputs) refl on.lends.mode.filled in
        subst (Leaves b.mode hart (counts_of b.machine hart)) (sym rest.mode)
        (record {
          due = left.due;
          bells = left.bells;
          others = left.others;
          bells_of_others = left.bells_of_others;
          others_of_others = left.others_of_others;
        })

    own_hart : on.leads.lease.hart ≡ hart
    own_hart = (lease_filled recording told.Nothing hart low d on).hart ∙ own recording told.Nothing hart low d on

    -- what the lease rang, its hart rang
    rang : (target : ℕ) → bells_rung on.leads.lease target ≡ bells_between b.machine d.machine hart target
    rang target =
        let after : Hart = state_after recording told.Nothing hart low d on in
        let there : slice_get d.machine.harts hart ≡ Some after =
        ap (λ (hs : List Hart). slice_get hs hart) (harts_are recording told.Nothing hart low d on) ∙ get-set_here b.machine.harts hart after on.lends.state on.lends.there in
        let now : rung_by (slice_get d.machine.harts hart) target ≡ slice_index on.leads.lease.present.rung target =
        ap (λ (o : Option Hart). rung_by o target) there
        ∙ ap (λ (row : List ℕ). slice_index row target) (after_rung recording told.Nothing hart low d on) in
        let was : rung_by (slice_get b.machine.harts hart) target ≡ slice_index on.leads.lease.base.rung target =
        ap (λ (o : Option Hart). rung_by o target) on.lends.there
        ∙ sym
        (ap (λ (h : Hart). slice_index h.rung target) (lease_filled recording told.Nothing hart low d on).base
        ∙ ap (λ (x : LeaseView). slice_index x.base.rung target) on.lends.lent) in
        let count : counts_of d.machine hart ≡ on.leads.lease.present.count =
        ap steps_taken there ∙ after_count recording told.Nothing hart low d on in
        λ i. replicate (sym now i - sym was i) (bell_from (own_hart i) (sym count i))

    is_due : IsDue hart b d
    is_due =
        let due : d.mode.due ≡ slice_set on.leads.filled.mode.due hart nothing_due =
        on.leads.back.mode.due
        ∙ ap (λ (n : ℕ). due_after n on.leads.filled.mode.due on.leads.lease.hart) steps_one
        ∙ ap (λ (h : ℕ). slice_set on.leads.filled.mode.due h nothing_due) own_hart in
        record {
          own = ap (λ (ds : List DueView). due_at ds hart) due ∙ cleared on.leads.filled.mode.due hart;
          others = λ other ne.
              ap (λ (ds : List DueView). due_at ds other) due
              ∙ get_or-set_other on.leads.filled.mode.due hart other nothing_due nothing_due ne
              ∙ lent_waits.due other ne;
        }

    waits : Waits hart b d
    waits =
        let rung = on.leads.back.mode.desk in
        record {
          bells = rung.bells hart ∙ (λ i. lent_waits.bells i ++ rang hart i);
          others = rung.others hart ∙ lent_waits.others;
          bells_of_others = λ other ne. rung.bells other ∙ (λ i. lent_waits.bells_of_others other ne i ++ rang other i);
          others_of_others = λ other ne. rung.others other ∙ lent_waits.others_of_others other ne;
        }

    has_stepped : (limits : List ℕ) → limits ≡ b.mode.limits → HasStepped hart b (limited d limits)
    has_stepped limits same =
        let p = continues told.Nothing hart low d on gone.start in
        record {
          idle = on.idle;
          journal = journal;
          continues = record { start = p.start; harts = p.harts; journal = p.journal; inputs = p.inputs; edges = p.edges; notes = p.notes };
          tells = record { counts = λ other. (counts_go other).0; inputs = p.inputs; edges = p.edges; notes = p.notes };
          notes = notes told.Nothing hart low d on;
          limits = same;
          given = record { own = is_given.own; others = is_given.others };
          due = record { own = is_due.own; others = is_due.others };
          desk =
              record {
                bells = waits.bells;
                others = waits.others;
                bells_of_others = waits.bells_of_others;
                others_of_others = waits.others_of_others;
              };
          offered = offered told.Nothing hart low d on (λ other. (counts_go other).0);
        }

  -- where memory was refused
  has_not : IsIdle d → HasNotGone recording hart (limited b once) d → IsUnmoved hart (limited b once) d
  has_not now none = elim none [
    | inl same ↦ subst (λ (x : BookView RecordingView). IsUnmoved hart low x) (sym same) (unmoved_itself hart low)
    | inr up ↦ given_up hart low d up idle now
  ]

  stays : (limits : List ℕ) → limits ≡ b.mode.limits → IsUnmoved hart (limited b once) d → IsUnmoved hart b (limited d limits)
  stays limits same un =
      record {
        book =
            but_for_mode b (limited d limits) (ap (λ (x : BookView RecordingView). x.start) un.book) (ap (λ (x : BookView RecordingView). x.machine) un.book)
            (ap (λ (x : BookView RecordingView). x.journal) un.book) (ap (λ (x : BookView RecordingView). x.leases) un.book);
        edges = un.edges;
        inputs = un.inputs;
        notes = un.notes;
        limits = same;
        next = record { own = un.next.own; due = un.next.due; bells = un.next.bells; others = un.next.others };
        offered = un.offered;
      }

  -- the book that was lent from, and the one with its limits as before
  module _ (a f : BookView RecordingView) (limits : List ℕ) (is : a ≡ limited b once) (back : f ≡ limited d limits) (same : limits ≡ b.mode.limits) where
    pub took_step : GoesOn recording told.Nothing hart a d → HasStepped hart b f
    took_step on =
        subst (λ (x : BookView RecordingView). HasStepped hart b x) (sym back)
        (has_stepped (subst (λ (x : BookView RecordingView). GoesOn recording told.Nothing hart x d) is on) limits same)

    pub took_within : GoesOn recording told.Nothing hart a d → AreWithin f
    took_within on =
        subst (λ (x : BookView RecordingView). AreWithin x) (sym back)
        (λ other.
        subst (λ (l : List ℕ). counts_of d.machine other ≤ count_at l other) (sym same)
        (counts_go (subst (λ (x : BookView RecordingView). GoesOn recording told.Nothing hart x d) is on) other).1)

    pub took_rights : GoesOn recording told.Nothing hart a d → HoldsNothing f hart
    took_rights on =
        subst (λ (x : BookView RecordingView). HoldsNothing x hart) (sym back)
        (holds_nothing (subst (λ (x : BookView RecordingView). GoesOn recording told.Nothing hart x d) is on))

    pub took_none : IsIdle d → HasNotGone recording hart a d → IsUnmoved hart b f
    took_none now none =
        subst (λ (x : BookView RecordingView). IsUnmoved hart b x) (sym back)
        (stays limits same (has_not now (subst (λ (x : BookView RecordingView). HasNotGone recording hart x d) is none)))

  -- one that runs is not held
  module _ (runs : Runs b hart) (hart_there : hart < length b.machine.harts) where
    pub not_held : (a : BookView RecordingView) → a ≡ limited b once → IsHeld recording a hart → ⊥
    not_held a is held =
        let (h, there) = hart_at b.machine.harts hart hart_there in
        let count : counts_of b.machine hart ≡ h.count = ap steps_taken there in
        elim ((subst (λ (x : BookView RecordingView). IsHeld recording x hart) is held) h there) [
          | inl halted ↦ (let ran = runs h there in cc)
          | inr other ↦ elim other [
            | inl past ↦ omega (arith, past, count, one)
            | inr unmet ↦ grind (arith, common_steps, unmet)
          ]
        ]

  module _ (a : BookView RecordingView) (is : a ≡ limited b once) (r : Result Bool Memory) (goes : IfOk r (λ went. Goes recording told.Nothing went hart a d))
      (not_gone : OnErr r (HasNotGone recording hart a d)) (now : IsIdle d) where
    abbrev pub Fits : Type 0
    Fits = (length d.machine.harts ≡ length b.machine.harts) × ((other : ℕ) → counts_of d.machine other ≤ count_at b.mode.limits other)

    of_machine : d.machine ≡ b.machine → Fits
    of_machine e = (
      ap (λ (m : MachineState). length m.harts) e,
      λ other. subst (λ (m : MachineState). counts_of m other ≤ count_at b.mode.limits other) (sym e) (within other),
    )

    pub fits : Fits
    fits = of r goes not_gone
      where
        of : (s : Result Bool Memory) → IfOk s (λ went. Goes recording told.Nothing went hart a d) → OnErr s (HasNotGone recording hart a d) → Fits
        of (Ok true) on _ =
            let lent = subst (λ (x : BookView RecordingView). GoesOn recording told.Nothing hart x d) is on in
            (harts_stay recording told.Nothing hart low d lent, λ other. (counts_go lent other).1)
        of (Ok false) held _ = of_machine (ap (λ (x : BookView RecordingView). x.machine) (held.0 ∙ is))
        of (Err e) _ refused =
            of_machine (ap (λ (x : BookView RecordingView). x.machine)
            (has_not now (subst (λ (x : BookView RecordingView). HasNotGone recording hart x d) is refused)).book)
