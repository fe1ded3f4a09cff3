-- One lease of a book that records: what the book tells, and which rights are held.
use Rattle.std.proofs.Common.{◌≡◌, ◌≢◌, ℕ, zero, suc, ◌<◌, ◌≤◌, ◌++◌, List, [], ◌∷◌, length, slice_get, true, false, Bool, Option, None, Some, refl, sym, ap}
use Rattle.std.proofs.Common.{subst, ◌∙◌, inl, inr, arith, append-nil, eq-eqb}
use Rattle.std.proofs.lemmas.Bool.{cases_lt}
use Rattle.std.proofs.lemmas.Grind.{common_steps}
use Rattle.interleaving.proofs.Put.{same_or_not, put_same}
use Rattle.ft_types.specs.Counts.{count_at}
use Rattle.ft_types.specs.declared.names.Want.{Want}
use Rattle.ft_types.specs.declared.names.Want.TheVariants.{Read, Write}
use Rattle.input_log.specs.declared.offered.Offer.{Offer}
use Rattle.input_log.specs.Inputs.{inputs_of}
use Rattle.input_log.specs.Offers.{AreKept}
use Rattle.input_log.specs.Waiting.{bells_of, others_of, next_going}
use Rattle.crew_pages.specs.declared.right.PageRight.{PageRight}
use Rattle.crew_pages.specs.Rights as crew
use Rattle.crew_pages.specs.Rights.{Right, Shared, Exclusive, holds}
use Rattle.rv32_hart.specs.Hart.{Hart}
use Rattle.book_modes.specs.declared.keep.Keep.{Keep}
use Rattle.book_modes.specs.declared.keep.Keep.TheVariants as told
use Rattle.hart_lease.specs.declared.asked.Asked.{Asked}
use Rattle.hart_lease.specs.declared.stretch.Stretch.{Stretch}
use Rattle.page_book.specs.Books.{BookView}
use Rattle.hart_lease.specs.Runs.{added, counts_of, steps_taken}
use Rattle.book_modes.specs.Dues.{due_at, is_silent, stop_before}
use Rattle.hart_lease.specs.Leases.{LeaseView}
use Rattle.hart_lease.specs.OpenLeases.{OpenView, has_taken}
use Rattle.book_modes.specs.Recordings.{AreLogged, RecordingView, IsFilled, IsTaker, IsGiven, offers_at, right_at, right_met, right_stored}
use Rattle.lease_rounds.specs.Leading.{IsFreeAlone, Fills, NoneYet, Steps, Takes, GoesFor}
use Rattle.lease_rounds.proofs.GoingOn.{IsAhead, lease_filled, own, harts_stay}
use Rattle.page_book.specs.Tellings.{HearsMore}
use Rattle.page_book.proofs.Tellings.{hears_on, edges_on, notes_kept}
use Rattle.lease_rounds.specs.Running.{recording, Continues, KeepsOffered, KeepHeld}
use Rattle.lease_rounds.proofs.Offers.{kept_on}
use Rattle.lease_rounds.proofs.Offered.{same_offered, filled_offered, settled_offered}

-- ---- a hart that is lent

-- no hart is in its own way
not_own : (r : RecordingView) (leases : List (Option OpenView)) (asked : Asked) → IsTaker r leases asked asked.hart → ⊥
not_own r leases asked taker = grind (arith, common_steps, taker.0)

-- where no other lease is open, a page is free
pub free_alone : IsFreeAlone recording
free_alone r leases asked none other taker =
    let ne : other ≢ asked.hart =
    λ (e : other ≡ asked.hart). not_own r leases asked (subst (λ (h : ℕ). IsTaker r leases asked h) e taker) in
    let no : false ≡ true = ap (λ (o : Option OpenView). has_taken o asked.page) (sym (none other ne)) ∙ taker.1 in
    cc

-- how far it goes
stops_within : (limit count stop : ℕ) (next : Option ℕ) → count < limit → stop ≡ stop_before limit count next → (count < stop) × (stop ≤ limit)
stops_within limit count stop None lt is = (omega (arith, is), omega (arith, is))
stops_within limit count stop (Some next) lt is = (omega (arith, is), omega (arith, is))

pub ahead : IsAhead recording
ahead r s hart count lent lt goes = stops_within (count_at r.limits hart) count lent.stop (next_going (bells_of s.desk hart) (others_of s.desk hart)) lt
    goes.stop

pub filled_keeps : (b : Bool) (r : RecordingView) (hart count : ℕ) (new : RecordingView) → IsFilled b r hart count new →
    new ≡ record r { due = new.due; desk = new.desk }
filled_keeps false r hart count new same = subst (λ (x : RecordingView). x ≡ record r { due = x.due; desk = x.desk }) (sym same) refl
filled_keeps true r hart count new takes = takes.rest

-- ---- a lease that is filled

-- whoever is given a right has it
has_given : (r : Right) (hart : ℕ) (want : Want) (n : ℕ) → (other : ℕ) × (holds (crew.given r hart want n) other ≡ true)
has_given (Shared since readers left) hart Read n = (hart, put_same readers hart hart true refl)
has_given (Shared since readers left) hart Write n = (hart, eq-eqb hart hart refl)
has_given (Exclusive owner at since left) hart want n = (owner, eq-eqb owner owner refl)

held_on : (b c : BookView RecordingView) (settled : ℕ → ℕ) (asked : Asked) → IsGiven b.mode settled asked c.mode → KeepHeld b c
held_on b c settled asked g = λ page held.
    elim (same_or_not asked.page page) [
      | inl same ↦
          (let now = has_given (right_met b.mode settled asked) asked.hart asked.want asked.count in
          subst (λ (p : ℕ). (hart : ℕ) × (holds (right_at c.mode.rights p) hart ≡ true)) same (subst (λ (r : Right). (hart : ℕ) × (holds r hart ≡ true))
          (sym g.page) now))
      | inr other ↦ subst (λ (r : Right). (hart : ℕ) × (holds r hart ≡ true)) (sym (g.others page other)) held
    ]

-- rights may have changed, and nothing else of the mode; each page that was held is held
pub record KeepsRest (b c : BookView RecordingView) : Type 0 where
  pub mode : c.mode ≡ record b.mode { rights = c.mode.rights }
  pub held : KeepHeld b c

pub keeps_rest : (b : BookView RecordingView) (l : LeaseView) (c : BookView RecordingView) (k : LeaseView) → Fills recording b l c k → KeepsRest b c
keeps_rest b l c k NoneYet = record { mode = refl; held = λ page held. held }
keeps_rest b l c k (Steps {c = now} {k = before} n fills room t) = keeps_rest b l c before fills
keeps_rest b l c k (Takes {c = before} {k = asker} d n fills room given) =
    let p = keeps_rest b l before asker fills in
    record {
      mode = given.mode.rest ∙ ap (λ (m : RecordingView). let s : RecordingView = record m { rights = c.mode.rights } in s) p.mode;
      held = λ page held.
          held_on before c (counts_of before.machine) (record { hart = asker.hart; count = asker.present.count; page = given.page; want = given.want })
          given.mode page (p.held page held);
    }

-- ---- what the log has then

longer : (journal : List Stretch) (hart steps : ℕ) → (more : List Stretch) × (added journal hart steps ≡ journal ++ more)
longer journal hart zero = ([], sym (append-nil journal))
longer journal hart (suc steps) = (record { hart = hart; steps = suc steps } ∷ [], grind (arith, common_steps))

-- ---- rights

beyond : (rights : List PageRight) (page : ℕ) → length rights ≤ page → slice_get rights page ≡ None
beyond [] page le = refl
beyond (r ∷ rights) zero le = absurd (omega (arith, le))
beyond (r ∷ rights) (suc page) le = beyond rights page (omega (arith, le))

rights_stay : (old new : List PageRight) → length new ≡ length old → ((page : ℕ) → page < length old → right_at new page ≡ right_at old page) →
    (page : ℕ) → right_at new page ≡ right_at old page
rights_stay old new many same page = elim (cases_lt page (length old)) [
  | inl below ↦ same page below
  | inr above ↦ ap right_stored (beyond new page (omega (arith, many, above)) ∙ sym (beyond old page above))
]

-- ---- a lease of a hart

module _ (keep : Keep) (hart : ℕ) (b d : BookView RecordingView) {most : ℕ} (on : GoesFor recording most keep hart b d) where
  abbrev filled : BookView RecordingView
  filled = on.leads.filled

  abbrev k : LeaseView
  k = on.leads.lease

  rest : KeepsRest on.opened on.leads.filled
  rest = keeps_rest on.opened on.lease filled k on.leads.fills

  pub mode_is : on.leads.filled.mode ≡ record b.mode { rights = on.leads.filled.mode.rights; due = on.opened.mode.due; desk = on.opened.mode.desk }
  mode_is =
      rest.mode
      ∙ ap (λ (m : RecordingView). let s : RecordingView = record m { rights = filled.mode.rights } in s)
      (filled_keeps _ b.mode hart (counts_of b.machine hart) on.opened.mode on.lends.mode.filled)

  counted : counts_of b.machine on.leads.lease.hart ≡ on.leads.lease.base.count
  counted =
      let f = lease_filled recording keep hart b d on in
      ap (counts_of b.machine) (f.hart ∙ own recording keep hart b d on)
      ∙ ap steps_taken on.lends.there
      ∙ sym (ap (λ (h : Hart). h.count) f.base ∙ ap (λ (x : LeaseView). x.base.count) on.lends.lent)

  pub limits : d.mode.limits ≡ b.mode.limits
  limits = on.leads.back.mode.limits ∙ ap (λ (m : RecordingView). m.limits) mode_is

  pub notes : d.mode.notes ≡ b.mode.notes
  notes = on.leads.back.mode.notes ∙ ap (λ (m : RecordingView). m.notes) mode_is

  -- its inputs were those due to its hart
  is_due : on.leads.lease.inputs ≡ (due_at on.leads.filled.mode.due on.leads.lease.hart).inputs
  is_due =
      let f = lease_filled recording keep hart b d on in
      f.inputs
      ∙ on.lends.mode.inputs
      ∙ ap (λ (h : ℕ). (due_at on.opened.mode.due h).inputs) (sym (f.hart ∙ own recording keep hart b d on))
      ∙ ap (λ (m : RecordingView). (due_at m.due k.hart).inputs) (sym rest.mode)

  pub offered : ((other : ℕ) → counts_of b.machine other ≤ counts_of d.machine other) → KeepsOffered b d
  offered further other =
      let now = counts_of b.machine in
      kept_on (offers_at b.mode other (now other)) (offers_at filled.mode other (now other)) (offers_at d.mode other (counts_of d.machine other))
      (subst (λ (xs : List Offer). AreKept (offers_at b.mode other (now other)) xs)
      (sym
      (same_offered on.opened.mode filled.mode other (now other) (ap (λ (m : RecordingView). inputs_of m.inputs other) rest.mode)
      (ap (λ (m : RecordingView). (due_at m.due other).inputs) rest.mode) (ap (λ (m : RecordingView). others_of m.desk other) rest.mode)))
      (filled_offered b.mode hart now on.opened.mode (is_silent (due_at b.mode.due hart).inputs) refl on.lends.mode.filled other))
      (settled_offered filled.mode k d.mode now (counts_of d.machine) further counted on.leads.back.mode.desk is_due k.steps on.leads.back.mode.inputs
      on.leads.back.mode.due other)

  pub continues : d.start ≡ b.start → Continues b d
  continues start =
      record {
        start = start;
        harts = harts_stay recording keep hart b d on;
        journal =
            let more = longer b.journal k.hart k.steps in
            let f = lease_filled recording keep hart b d on in
            let same : filled.journal ≡ b.journal = ap (λ (x : BookView RecordingView). x.journal) f.book ∙ ap (λ (x : BookView RecordingView). x.journal)
            on.lends.book in
            (more.0, on.leads.back.journal ∙ ap (λ (j : List Stretch). added j k.hart k.steps) same ∙ more.1);
        inputs = λ other.
            subst (λ (m : RecordingView). HearsMore (inputs_of m.inputs other) (counts_of b.machine other) (inputs_of d.mode.inputs other)) mode_is
            (hears_on b.machine k k.steps filled.mode.inputs d.mode.inputs counted on.leads.back.mode.inputs other);
        edges =
            edges_on (counts_of b.machine) k b.mode.edges d.mode.edges counted
            (subst (λ (m : RecordingView). AreLogged m.edges k.edges d.mode.edges) mode_is on.leads.back.mode.edges) on.leads.back.mode.unsettled;
        notes = notes_kept b d notes;
      }

-- where it keeps all rights, each page that was held is held
module _ (hart : ℕ) (b d : BookView RecordingView) {most : ℕ} (on : GoesFor recording most told.All hart b d) where
  pub keep_held : KeepHeld b d
  keep_held page held =
      let settled = on.leads.back.mode in
      let opened =
      subst (λ (m : RecordingView). (other : ℕ) × (holds (right_at m.rights page) other ≡ true))
      (sym (filled_keeps _ b.mode hart (counts_of b.machine hart) on.opened.mode on.lends.mode.filled)) held in
      subst (λ (r : Right). (other : ℕ) × (holds r other ≡ true))
      (sym (rights_stay on.leads.filled.mode.rights d.mode.rights settled.many settled.rights page)) ((rest told.All hart b d on).held page opened)
