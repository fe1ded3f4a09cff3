-- What a recording book keeps, when a lease is opened and when it gets a page.
use Rattle.std.proofs.Common.{◌≡◌, ◌≢◌, ℕ, zero, suc, ◌<◌, ◌⊎◌, inl, inr, Bool, true, false, is_some, List, ◌++◌, slice_set, map, length, Option, None, Some}
use Rattle.std.proofs.Common.{option_map, Contains, refl, sym, ap, subst, ◌∙◌, arith, true≢false, if◌then◌else◌}
use Rattle.std.proofs.lemmas.List.{get_or-set_same, get_or-set_other, map-append}
use Rattle.std.proofs.lemmas.List.Elements.{All-contains}
use Rattle.ft_types.specs.declared.names.TheConstants.{HART_LIMIT}
use Rattle.interleaving.specs.Lists.{put}
use Rattle.interleaving.specs.Machine.{Machine, counts}
use Rattle.interleaving.specs.Log as theory
use Rattle.interleaving.specs.Stored.{view}
use Rattle.interleaving.proofs.Put.{same_or_not, put_same, put_other}
use Rattle.input_log.specs.declared.Input.{Input}
use Rattle.edge_log.specs.declared.Edge.{Edge}
use Rattle.edge_log.specs.EdgeLog.{edge_as}
use Rattle.edge_log.proofs.Logs.{contains_map, map_contains}
use Rattle.crew_pages.specs.Rights.{Right, stands, holds, give_up, given, IsFree, IsOwed}
use Rattle.lease_ledger.specs.Ledger as ledger
use Rattle.lease_ledger.specs.Ledger.{Ledger, Stub, present}
use Rattle.lease_ledger.specs.Calls as calls
use Rattle.lease_ledger.specs.Calls.{Reached, IsHeard, Opened, Needed, GivenUp, NotYet, Then, IsYielded, Given}
use Rattle.lease_ledger.specs.Laws.{HasItsRights}
use Rattle.lease_ledger.proofs.Laws.{keeps_rights}
use Rattle.rv32_hart.specs.Hart.{Hart}
use Rattle.rv32_hart.specs.Hardware.{hardware}
use Rattle.guest_image.specs.Machine.{MachineState}
use Rattle.hart_lease.specs.declared.asked.Asked.{Asked}
use Rattle.hart_lease.specs.declared.taken.Taken.{Taken}
use Rattle.hart_lease.specs.Taken.{taken_at, right_of_taken, taking}
use Rattle.hart_lease.specs.OpenLeases.{OpenView, LentView, lent_with, open_at, nothing_taken, given_more, has_taken}
use Rattle.hart_lease.specs.Recorded.{system, stub_of, as_lease}
use Rattle.hart_lease.specs.Runs.{counts_of}
use Rattle.hart_lease.specs.Leases.{IsLentBy, IsOpen}
use Rattle.book_modes.specs.Modes.{IsAsking, KeepsLending}
use Rattle.book_modes.specs.Recordings.{RecordingView, right_at, IsTaker, right_met, AreOwed, IsGiven, IsRecorded, IsDueEdge, IsFilled, GoesOut, stub_as}
use Rattle.book_modes.specs.Dues.{due_at, is_silent, stop_before}
use Rattle.input_log.specs.Waiting.{bells_of, others_of, next_going}
use Rattle.ft_types.specs.Counts.{count_at}
use Rattle.hart_lease.specs.declared.stretch.Stretch.{Stretch}
pub use Rattle.hart_lease.proofs.journals.Counts.{counts_is}
use Rattle.hart_lease.proofs.journals.GoingOn.{row_within}
use Rattle.hart_lease.proofs.journals.OpenLeases.{set_each, more}
use Rattle.book_modes.proofs.ledger.Dues.{filled_kept}
use Rattle.hart_lease.proofs.pages.Counts.{stub_fresh, stub_taking}
use Rattle.hart_lease.proofs.steps.Present.{played_with, present_played}
use Rattle.hart_lease.proofs.journals.Ledger.{lent_ours}
use Rattle.book_modes.specs.machinery.Yielding.{yielded}
use Rattle.book_modes.proofs.ledger.Yielding.{still, nobody_stands}
use Rattle.book_modes.proofs.ledger.MetRights.{met_is}

-- the stubs, with one put anew
stubs_put : (stubs : ℕ → Option Stub) (leases : List (Option OpenView)) (hart : ℕ) (stub : Option Stub) (lent : Option OpenView) → hart < length leases →
    stub ≡ option_map stub_as lent → ((other : ℕ) → stubs other ≡ option_map stub_as (open_at leases other)) →
    (other : ℕ) → put stubs hart stub other ≡ option_map stub_as (open_at (slice_set leases hart lent) other)
stubs_put stubs leases hart stub lent lt here there other =
    elim (same_or_not hart other) [
      | inl same ↦
          put_same stubs hart other stub same ∙
          (here ∙ ap (option_map stub_as) (sym (get_or-set_same leases hart lent None lt) ∙ ap (open_at (slice_set leases hart lent)) same))
      | inr ne ↦
          put_other stubs hart other stub ne ∙
          (there other ∙ ap (option_map stub_as) (sym (get_or-set_other leases hart other lent None (λ e. ne (sym e)))))
    ]

-- A hart is lent.

-- with what is due to it
lent_due : (r : RecordingView) (hart : ℕ) (lent : LentView) (start m : MachineState) (journal : List Stretch) (leases : List (Option OpenView)) →
    hart < length m.harts → hart < length leases → open_at leases hart ≡ None → lent.inputs ≡ (due_at r.due hart).inputs →
    lent.edges ≡ (due_at r.due hart).edges → IsRecorded r start m journal leases →
    IsRecorded r start m journal (slice_set leases hart (Some (nothing_taken (length m.pages) lent)))
lent_due r hart lent start m journal leases is_hart row closed inputs edges p =
    let none : p.ledger.stubs hart ≡ None = p.led.stubs hart ∙ ap (option_map stub_as) closed in
    record {
      ledger = calls.opened p.ledger hart (map edge_as lent.edges);
      led = record {
        reached = Opened hart (map edge_as lent.edges) p.led.reached (omega (arith, is_hart, p.size.harts)) none are_heard;
        at_machine = p.led.at_machine;
        in_journal = p.led.in_journal;
        stubs =
            stubs_put p.ledger.stubs leases hart (Some (ledger.fresh_stub (map edge_as lent.edges))) (Some (nothing_taken (length m.pages) lent)) row
            (ap (λ s. Some s) (sym (stub_fresh (length m.pages) (map edge_as lent.edges)))) p.led.stubs;
      };
      size = p.size;
      log = p.log;
      rights = p.rights;
      limits = p.limits;
      logged = p.logged;
      begun = p.begun;
      noted = p.noted;
      due = record {
        many = p.due.many;
        edges = p.due.edges;
        given =
            set_each (λ h o. o.inputs ≡ (due_at r.due h).inputs) leases hart (Some (nothing_taken (length m.pages) lent)) row
            (λ o e. let same : nothing_taken (length m.pages) lent ≡ o = cc in ap (λ (v : OpenView). v.inputs) (sym same) ∙ inputs) p.due.given;
        given_edges =
            set_each (λ h o. (x : Edge) → Contains (due_at r.due h).edges x → Contains o.edges x) leases hart (Some (nothing_taken (length m.pages) lent)) row
            (λ o e x i.
            let same : nothing_taken (length m.pages) lent ≡ o = cc in
            subst (λ (v : OpenView). Contains v.edges x) same (subst (λ es. Contains es x) (sym edges) i)) p.due.given_edges;
      };
      bells = p.bells;
      inputs = p.inputs;
      heard = p.heard;
    }
  where
    pages : ℕ
    pages = length start.pages

    count_in : (other : ℕ) → counts (system pages) p.ledger.machine other ≡ counts_of m other
    count_in other = ap (λ (k : Machine (Option Hart) (Option (List ℕ))). counts (system pages) k other) p.led.at_machine ∙ counts_is pages m other

    are_heard : (e : theory.Edge) → Contains (map edge_as lent.edges) e → IsHeard (system pages) (length start.harts) p.ledger.machine hart e
    are_heard e i =
        let (x, is_in, is) = map_contains edge_as lent.edges e i in
        let d = All-contains (IsDueEdge m hart) (due_at r.due hart).edges x (p.due.edges hart) (subst (λ es. Contains es x) edges is_in) in
        subst (IsHeard (system pages) (length start.harts) p.ledger.machine hart) is
        (record {
          own = d.own;
          at = d.at ∙ sym (count_in hart);
          other = omega (arith, d.other, p.size.harts);
          another = λ e. d.another (e ∙ d.own);
          settled = omega (arith, d.settled, count_in x.other);
        })

-- a hart goes out with what is due to it
pub lent_is_due : (r new : RecordingView) (hart count : ℕ) (lent : LentView) (stop : ℕ) →
    IsFilled (is_silent (due_at r.due hart).inputs) r hart count new → lent ≡ lent_with stop (due_at new.due hart).inputs (due_at new.due hart).edges →
    stop ≡ stop_before (count_at r.limits hart) count (next_going (bells_of new.desk hart) (others_of new.desk hart)) → GoesOut r hart count lent new
lent_is_due r new hart count lent stop filled is at =
    record {
      filled = filled;
      inputs = ap (λ (l : LentView). l.inputs) is;
      edges = ap (λ (l : LentView). l.edges) is;
      stop = ap (λ (l : LentView). l.stop) is ∙ at;
    }

pub lending_kept : (r new : RecordingView) (hart count : ℕ) (lent : LentView) → hart < HART_LIMIT → GoesOut r hart count lent new →
    KeepsLending (IsRecorded r) (IsRecorded new) hart count lent
lending_kept r new hart count lent below out start m journal leases is_hart row closed at p =
    lent_due new hart lent start m journal leases is_hart row closed out.inputs out.edges
    (filled_kept r new hart count start m journal leases below closed at p (is_silent (due_at r.due hart).inputs) refl out.filled)

-- A hart asks.

-- whoever has taken the page has it in its stub
taken_as : (lent : Option OpenView) (page : ℕ) → calls.has_taken (option_map stub_as lent) page ≡ has_taken lent page
taken_as None page = refl
taken_as (Some lent) page = of (taken_at lent.taken page)
  where
    of : (o : Option Taken) → is_some (option_map (λ t. t.read_at) o) ≡ is_some (right_of_taken o)
    of None = refl
    of (Some t) = refl

module _ (r : RecordingView) (machine : MachineState) (leases : List (Option OpenView)) (asked : Asked)
    (a : IsAsking (IsRecorded r) machine leases asked) where
  abbrev p : IsRecorded r a.start machine a.journal leases
  p = a.kept

  abbrev pages : ℕ
  pages = length a.start.pages

  rights_are : HasItsRights (system pages) (length a.start.harts) p.ledger
  rights_are = keeps_rights (system pages) (length a.start.harts) (view (hardware pages) a.start) p.ledger p.size.few p.led.reached

  page_is : asked.page < pages
  page_is = omega (arith, a.page, p.size.pages)

  -- its right is stored
  pub right_stored_there : asked.page < length r.rights
  right_stored_there = omega (arith, page_is, p.rights.many)

  right_is : p.ledger.rights asked.page ≡ right_at r.rights asked.page
  right_is = p.rights.each asked.page page_is

  pub few_hold : (other : ℕ) → holds (right_at r.rights asked.page) other ≡ true → other < HART_LIMIT
  few_hold other e =
      let lt = rights_are.harts asked.page other (ap (λ s. holds s other) right_is ∙ e) in
      omega (arith, lt, p.size.few)

  -- the asker's open lease
  record Lent : Type 0 where
    lent : OpenView
    is_open : open_at leases a.asker.hart ≡ Some lent
    is_of : IsOpen machine lent a.asker

  its_lease : Lent
  its_lease = of (open_at leases a.asker.hart) refl a.is_lent
    where
      of : (o : Option OpenView) → open_at leases a.asker.hart ≡ o → IsLentBy o machine a.asker → Lent
      of None e ours = absurd ours
      of (Some lent) e ours = record { lent = lent; is_open = e; is_of = ours }

  is_hart_lent : asked.hart < length a.start.harts
  is_hart_lent =
      let stub : p.ledger.stubs a.asker.hart ≡ Some (stub_as its_lease.lent) = p.led.stubs a.asker.hart ∙ ap (option_map stub_as) its_lease.is_open in
      let lt = rights_are.leased a.asker.hart (stub_as its_lease.lent) stub in
      omega (arith, lt, a.hart)

  pub asker_there : asked.hart < length machine.harts
  asker_there = omega (arith, is_hart_lent, p.size.harts)

  -- nobody is in its way once all have yielded
  pub nobody_there : (settled : ℕ → ℕ) → IsFree (right_met r settled asked) asked.hart asked.want
  nobody_there settled =
      subst (λ s. IsFree s asked.hart asked.want) (sym (met_is r settled asked few_hold)) (nobody_stands asked settled (right_at r.rights asked.page) few_hold)

  module _ (settled : ℕ → ℕ) (settled_is : (hart : ℕ) → settled hart ≡ counts_of machine hart)
      (free : (other : ℕ) → IsTaker r leases asked other → ⊥) where
    untaken : (other : ℕ) → stands (right_at r.rights asked.page) asked.hart asked.want other ≡ true → calls.has_taken (p.ledger.stubs other) asked.page ≡ false
    untaken other e = of (has_taken (open_at leases other) asked.page) refl
      where
        of : (b : Bool) → has_taken (open_at leases other) asked.page ≡ b → calls.has_taken (p.ledger.stubs other) asked.page ≡ false
        of true took = absurd (free other (e, took))
        of false took = ap (λ s. calls.has_taken s asked.page) (p.led.stubs other) ∙ (taken_as (open_at leases other) asked.page ∙ took)

    -- they give it up at the ledger's counts
    gives_up : (n : ℕ) → GivenUp (system pages) p.ledger asked.hart asked.page asked.want (yielded asked settled n (right_at r.rights asked.page))
    gives_up zero = subst (GivenUp (system pages) p.ledger asked.hart asked.page asked.want) right_is NotYet
    gives_up (suc n) = of (gives_up n) (stands before asked.hart asked.want n) refl
      where
        before : Right
        before = yielded asked settled n (right_at r.rights asked.page)

        at_count : counts (system pages) p.ledger.machine n ≡ settled n
        at_count =
            ap (λ (k : Machine (Option Hart) (Option (List ℕ))). counts (system pages) k n) p.led.at_machine ∙ (counts_is pages machine n ∙ sym (settled_is n))

        of : GivenUp (system pages) p.ledger asked.hart asked.page asked.want before → (b : Bool) → stands before asked.hart asked.want n ≡ b →
            GivenUp (system pages) p.ledger asked.hart asked.page asked.want (if stands before asked.hart asked.want n then give_up before n
            (settled n) else before)
        of earlier true e =
            subst (λ b. GivenUp (system pages) p.ledger asked.hart asked.page asked.want (if b then give_up before n (settled n) else before)) (sym e)
            (subst (λ c. GivenUp (system pages) p.ledger asked.hart asked.page asked.want (give_up before n c)) at_count
            (Then n earlier e (untaken n (still asked settled (right_at r.rights asked.page) n n e).stood)))
        of earlier false e =
            subst (λ b. GivenUp (system pages) p.ledger asked.hart asked.page asked.want (if b then give_up before n (settled n) else before)) (sym e) earlier

    yields : IsYielded (system pages) p.ledger asked.hart asked.page asked.want (right_met r settled asked)
    yields = record {
      given_up = subst (GivenUp (system pages) p.ledger asked.hart asked.page asked.want) (sym (met_is r settled asked few_hold)) (gives_up HART_LIMIT);
      taken = λ other e. absurd (true≢false (sym e ∙ nobody_there settled other));
    }

    module _ (found : List Edge) (owed : AreOwed r settled asked found) where
      edges : List theory.Edge
      edges = map edge_as found

      are_owed : calls.AreOwed (right_met r settled asked) asked.hart asked.want asked.count (map edge_as found)
      are_owed =
          record {
            all =
                λ e is.
                let own : Edge = record { hart = e.hart; at = e.step; other = e.other; after = e.count } in
                contains_map edge_as found own ((owed.exact own).1 is);
            only =
                λ e i.
                let (x, is_in, is) = map_contains edge_as found e i in
                subst (IsOwed (right_met r settled asked) asked.hart asked.want asked.count) is ((owed.exact x).0 is_in);
          }

      abbrev l : ledger.Lease (Option Hart) (Option (List ℕ)) (List Input)
      l = as_lease a.asker (map edge_as a.asker.edges)

      many : length a.asker.slots ≡ pages
      many = its_lease.is_of.is_lent.as_many ∙ p.size.pages

      present_is : present (system pages) l ≡ asked.count
      present_is = present_played a.asker a.is_lease.played pages many (map edge_as a.asker.edges) ∙ sym a.count

      stub_is : p.ledger.stubs a.asker.hart ≡ Some (stub_of a.asker.taken (map edge_as a.asker.edges))
      stub_is =
          p.led.stubs a.asker.hart ∙ (ap (option_map stub_as) its_lease.is_open ∙
          ap (λ s. Some s) (λ i. stub_of (sym its_lease.is_of.is_lent.counts i) (map edge_as (sym its_lease.is_of.edges i))))

      ours : ledger.IsOurs p.ledger l
      ours = lent_ours machine its_lease.lent.taken a.asker a.is_lease its_lease.is_of.is_lent p.ledger pages (map edge_as a.asker.edges) p.led.at_machine
          stub_is

      answered : calls.IsAnswered (right_met r settled asked) l.hart asked.want (present (system pages) l) (Given (map edge_as found))
      answered =
          subst (λ h. IsFree (right_met r settled asked) h asked.want × calls.AreOwed (right_met r settled asked) h asked.want (present (system pages) l)
          (map edge_as found)) a.hart
          (nobody_there settled, subst (λ n. calls.AreOwed (right_met r settled asked) asked.hart asked.want n (map edge_as found)) (sym present_is) are_owed)

      abbrev next : Ledger (Option Hart) (Option (List ℕ)) (List Input)
      next = calls.needed (system pages) p.ledger l asked.page asked.want (right_met r settled asked) (Given (map edge_as found))

      reaches : Reached (system pages) (length a.start.harts) (view (hardware pages) a.start) next
      reaches =
          Needed l asked.page asked.want (right_met r settled asked) (Given (map edge_as found)) p.led.reached (played_with a.asker a.is_lease.played pages many
          (map edge_as a.asker.edges)).lease
          ours (subst (λ h. IsYielded (system pages) p.ledger h asked.page asked.want (right_met r settled asked)) a.hart yields) answered

      stub_next : Some (ledger.taking l.stub asked.page asked.want (present (system pages) l) (map edge_as found)) ≡
          option_map stub_as (given_more (open_at leases asked.hart) asked.page asked.want asked.count found)
      stub_next = of its_lease.lent its_lease.is_open its_lease.is_of
        where
          of : (lent : OpenView) → open_at leases a.asker.hart ≡ Some lent → IsOpen machine lent a.asker →
              Some (ledger.taking l.stub asked.page asked.want (present (system pages) l) (map edge_as found)) ≡
              option_map stub_as (given_more (open_at leases asked.hart) asked.page asked.want asked.count found)
          of lent e is =
              ap (λ n. Some (ledger.taking l.stub asked.page asked.want n (map edge_as found))) present_is ∙
              (ap (λ s. Some s) (sym (stub_taking a.asker.taken asked.page a.row asked.count asked.want (map edge_as a.asker.edges) (map edge_as found))) ∙
              (ap (λ (ts : List (Option Taken)). Some (stub_of (slice_set ts asked.page (Some (taking (taken_at ts asked.page) asked.want asked.count)))
              (map edge_as a.asker.edges ++ map edge_as found))) is.is_lent.counts ∙
              (ap (λ es. Some (stub_of (slice_set lent.taken asked.page (Some (taking (taken_at lent.taken asked.page) asked.want asked.count))) es))
              (sym (map-append edge_as a.asker.edges found) ∙ ap (λ (es : List Edge). map edge_as (es ++ found)) is.edges) ∙
              ap (λ o. option_map stub_as (given_more o asked.page asked.want asked.count found)) (sym (ap (open_at leases) a.hart ∙ e)))))

      row_there : asked.hart < length leases
      row_there = subst (λ h. h < length leases) (sym a.hart) (row_within leases a.asker.hart machine a.asker a.is_lent)

      right_put : (new : RecordingView) → IsGiven r settled asked new → (page : ℕ) → page < pages → (asked.page ≡ page) ⊎ (asked.page ≢ page) →
          put p.ledger.rights asked.page (given (right_met r settled asked) l.hart asked.want (present (system pages) l)) page ≡ right_at new.rights page
      right_put new g page lt (inl same) =
          put_same p.ledger.rights asked.page page _ same ∙
          ((λ i. given (right_met r settled asked) (sym a.hart i) asked.want (present_is i)) ∙ (sym g.page ∙ ap (right_at new.rights) same))
      right_put new g page lt (inr ne) = put_other p.ledger.rights asked.page page _ ne ∙ (p.rights.each page lt ∙ sym (g.others page ne))

      pub giving_kept : (new : RecordingView) → IsGiven r settled asked new →
          IsRecorded new a.start machine a.journal
          (slice_set leases asked.hart (given_more (open_at leases asked.hart) asked.page asked.want asked.count found))
      giving_kept new g =
          subst (λ v. IsRecorded v a.start machine a.journal (slice_set leases asked.hart (given_more (open_at leases asked.hart) asked.page asked.want
          asked.count found)))
          (sym g.rest)
          (record {
            ledger = next;
            led = record {
              reached = reaches;
              at_machine = p.led.at_machine;
              in_journal = p.led.in_journal;
              stubs =
                  λ other.
                  ap (λ h. put p.ledger.stubs h (Some (ledger.taking l.stub asked.page asked.want (present (system pages) l) (map edge_as found))) other)
                  (sym a.hart) ∙
                  stubs_put p.ledger.stubs leases asked.hart _ _ row_there stub_next p.led.stubs other;
            };
            size = p.size;
            log = p.log;
            rights = record { many = g.many ∙ p.rights.many; each = λ page lt. right_put new g page lt (same_or_not asked.page page) };
            limits = p.limits;
            logged = p.logged;
            begun = p.begun;
            noted = p.noted;
            due = record {
              many = p.due.many;
              edges = p.due.edges;
              given =
                  set_each (λ h o. o.inputs ≡ (due_at r.due h).inputs) leases asked.hart _ row_there
                  (λ o e.
                  let i = more (open_at leases asked.hart) asked.page asked.want asked.count found o e in i.inputs ∙ p.due.given asked.hart i.was i.is_old)
                  p.due.given;
              given_edges =
                  set_each (λ h o. (x : Edge) → Contains (due_at r.due h).edges x → Contains o.edges x) leases asked.hart _ row_there
                  (λ o e x at.
                  let i = more (open_at leases asked.hart) asked.page asked.want asked.count found o e in
                  i.edges x (p.due.given_edges asked.hart i.was i.is_old x at)) p.due.given_edges;
            };
            bells = p.bells;
            inputs = p.inputs;
            heard = p.heard;
          })
