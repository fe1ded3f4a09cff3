-- The laws of ledgers and leases.
use Rattle.std.proofs.Common.{◌≡◌, inl, inr, ℕ, zero, suc, ◌<◌, ◌≤◌, true, false, List, [], ◌∷◌, ◌++◌, map, slice_index_or, Some, Contains, refl, sym, ap}
use Rattle.std.proofs.Common.{subst, ◌∙◌, arith, append_assoc, true≢false}
use Rattle.std.proofs.lemmas.List.Elements.{Contains-append_left, Contains-append_right, All-contains, All-contains_itself}
use Rattle.std.specs.List.{flat_map}
use Rattle.ft_types.specs.Counts.{count_at}
use Rattle.interleaving.specs.Lists.{EachPair}
use Rattle.interleaving.specs.Machine.{System, Machine, counts, steps}
use Rattle.interleaving.specs.Log.{Log, EachMet, IsOrdered, IsHonest}
use Rattle.interleaving.specs.Cuts.{IsEnough}
use Rattle.interleaving.specs.Stored.{Store, Hardware, system_of, view}
use Rattle.interleaving.proofs.Each.{each_at}
use Rattle.interleaving.proofs.Cuts.{here, here_or_later}
use Rattle.interleaving.proofs.Fewer.{stays_honest}
use Rattle.interleaving.proofs.Recorder.{records_each_run}
use Rattle.interleaving.proofs.Lists.{list_from_gets, runs_stored}
use Rattle.edge_log.specs.EdgeLog.{edge_as, row_of, IsOfHart}
use Rattle.edge_log.specs.declared.Edge as declared
use Rattle.crew_pages.specs.Rights.{Right, stands, holds, give_up}
use Rattle.lease_ledger.specs.Ledger.{Ledger}
use Rattle.lease_ledger.specs.Calls.{has_taken, All, settled, GivenUp, NotYet, Then, Settled}
use Rattle.lease_ledger.specs.Laws.{InOrder, IsOf, log_of, IsInLog, HasItsOrder, KeepsLedger, HasHonestLog, AddsItsSteps, LaysItsRun, KeepsOrder, MayAddNext}
use Rattle.lease_ledger.specs.Laws.{KeepsRights, LeavesTheWay, HeldByTakers, RunsInLists, LeasesGoOn, NoneIsForeign, TicksGoOn, LendsMore}
use Rattle.lease_ledger.proofs.Stays.{gone, stands_holds, stood_against, still_against}
use Rattle.lease_ledger.proofs.Invariant.{none_in, Ok}
use Rattle.lease_ledger.proofs.Settling.{all_is}
use Rattle.lease_ledger.proofs.Alike.{alike, its_runs, present_is, laid_is}
use Rattle.lease_ledger.proofs.Reached.{reached_ok}
use Rattle.lease_ledger.proofs.GoesOn.{goes_on, tick_goes_on, lent_more}
use Rattle.lease_ledger.proofs.Played.{played_on}

-- an element stands to each later one
pair_at : {A : Type 0} (R : A → A → Type 0) (xs : List A) (y : A) (ys : List A) (x : A) → EachPair R (xs ++ y ∷ ys) → Contains xs x → R x y
pair_at R [] y ys x pairs i = absurd (none_in x i)
pair_at R (z ∷ xs) y ys x pairs i =
    elim (here_or_later z xs x i) [
      | inl is ↦ subst (λ x. R x y) is (each_at (R z) (xs ++ y ∷ ys) y pairs.0 (Contains-append_right xs (y ∷ ys) y (here y ys)))
      | inr later ↦ pair_at R xs y ys x pairs.1 later
    ]

-- an edge of a row is an edge of the log
as_edge : (row : List declared.Edge) (x : declared.Edge) → Contains row x → Contains (map edge_as row) (edge_as x)
as_edge [] x i = absurd (none_in x i)
as_edge (y ∷ row) x i =
    elim (here_or_later y row x i) [
      | inl is ↦ subst (λ x. Contains (edge_as y ∷ map edge_as row) (edge_as x)) is (here (edge_as y) (map edge_as row))
      | inr later ↦ Contains-append_right (edge_as y ∷ []) (map edge_as row) (edge_as x) (as_edge row x later)
    ]

in_log : (rows : List (List declared.Edge)) (hart : ℕ) (x : declared.Edge) → Contains (slice_index_or rows hart []) x →
    Contains (flat_map (map edge_as) rows) (edge_as x)
in_log [] hart x i = absurd (none_in x i)
in_log (row ∷ rows) zero x i = Contains-append_left (map edge_as row) (flat_map (map edge_as) rows) (edge_as x) (as_edge row x i)
in_log (row ∷ rows) (suc hart) x i =
    Contains-append_right (map edge_as row) (flat_map (map edge_as) rows) (edge_as x) (in_log rows hart x i)

module _ {Hart Page Input : Type 0} (system : System Hart Page Input) (crew : ℕ) (start : Machine Hart Page) (b : Ledger Hart Page Input)
    (ok : Ok system crew start b) where
  honest : (log : Log Input) → IsOf system log start b → log.edges ≡ b.edges → IsHonest system log start b.journal
  honest log is edges_are =
      record {
        runs = ok.runs;
        inputs = is.inputs;
        start = is.from_start;
        end = λ h. subst (λ m. log.end h ≡ counts system m h) ok.machine (is.to_end h);
        closed =
            λ e i below.
            let a : counts system start e.hart ≤ e.step = (ok.log e (subst (λ es. Contains es e) edges_are i)).from_start in
            let c : log.start e.hart ≡ counts system start e.hart = is.from_start e.hart in
            absurd (omega arith);
        met =
            subst (λ now. EachMet log.edges now (steps system start b.journal)) (sym start_is)
            (subst (λ es. EachMet es (counts system start) (steps system start b.journal)) (sym edges_are) ok.met);
        ordered = subst (λ es. IsOrdered system es (steps system start b.journal)) (sym edges_are) ok.ordered;
      }
    where
      start_is : log.start ≡ counts system start
      start_is = λ i h. is.from_start h i

  short : (log : Log Input) → IsOf system log start b → IsEnough log.edges b.edges log.start → IsHonest system log start b.journal
  short log is enough =
      stays_honest system (record { edges = b.edges; inputs = log.inputs; start = log.start; end = log.end }) log.edges start b.journal
      (honest (record { edges = b.edges; inputs = log.inputs; start = log.start; end = log.end })
      (record { inputs = is.inputs; from_start = is.from_start; to_end = is.to_end }) refl)
      enough

pub keeps_ledger : {Hart Page Input : Type 0} (system : System Hart Page Input) → KeepsLedger system
keeps_ledger system crew start b few reached =
    let ok = reached_ok system crew few start b reached in
    record {
      runs = ok.runs;
      machine = ok.machine;
      honest = honest system crew start b ok;
      short = short system crew start b ok;
    }

pub has_honest_log : {Hart Page Input : Type 0} (system : System Hart Page Input) → HasHonestLog system
has_honest_log system idle crew start b few reached =
    let ok = reached_ok system crew few start b reached in
    honest system crew start b ok (log_of system idle start b)
    (
    record {
      inputs = (records_each_run system idle start b.journal ok.runs).inputs;
      from_start = λ h. refl;
      to_end = λ h. refl;
    }
    )
    refl

pub adds_its_steps : {Hart Page Input : Type 0} (system : System Hart Page Input) → AddsItsSteps system
adds_its_steps system crew start b l few reached lease ours =
    let ok = reached_ok system crew few start b reached in
    all_is system crew start b ok l lease ours ∙
    ap (λ new. steps system start b.journal ++ new) (sym (alike system b l lease ours).steps_are)

pub lays_its_run : {Hart Page Input : Type 0} (system : System Hart Page Input) → LaysItsRun system
lays_its_run system b l keep lease ours =
    record {
      runs = its_runs system b l lease ours;
      machine = laid_is system b l lease ours;
      count = present_is system b l lease ours;
    }

pub keeps_order : {Hart Page Input : Type 0} (system : System Hart Page Input) → KeepsOrder system
keeps_order system crew start b few reached =
    let ok = reached_ok system crew few start b reached in
    record {
      log = ok.log;
      in_order = ok.in_order;
      waiting = λ h s e is i. (ok.stub h s is).edges e i;
      waiting_in_order = λ h s is. (ok.stub h s is).in_order;
    }

pub keeps_rights : {Hart Page Input : Type 0} (system : System Hart Page Input) → KeepsRights system
keeps_rights system crew start b few reached =
    let ok = reached_ok system crew few start b reached in
    record {
      harts = λ page. (ok.page page).holders;
      leased = λ h s is. (ok.stub h s is).is_hart;
      held = λ h s page k is. (ok.stub h s is).held page k;
      owned = λ h s page k is writes. (((ok.stub h s is).owned page k writes).0, (ok.stub h s is).both page k writes);
    }

-- the settled ledger has the edges of both in their order
pub may_add_next : {Hart Page Input : Type 0} (system : System Hart Page Input) → MayAddNext system
may_add_next system crew start b l before after next log few reached lease ours is adding =
    record {
      hart = subst (λ n. next.hart < n) (sym adding.harts) its.hart;
      other = subst (λ n. next.other < n) (sym adding.harts) its.other;
      from_start =
          let from : counts system start next.hart ≤ next.at = its.from_start in
          let same : count_at log.start next.hart ≡ counts system start next.hart = adding.from_start next.hart its.hart in
          omega arith;
      last = λ k d below. last_of (slice_index_or (row_of log next.hart) k d) (All-contains_itself (row_of log next.hart) k d below);
    }
  where
    order : HasItsOrder system crew start (settled system b l (λ page. All))
    order = keeps_order system crew start (settled system b l (λ page. All)) few (Settled l (λ page. All) reached lease ours)

    edges_are : b.edges ++ l.stub.edges ≡ (b.edges ++ before) ++ edge_as next ∷ after
    edges_are = ap (λ es. b.edges ++ es) is ∙ sym (append_assoc b.edges before (edge_as next ∷ after))

    its : IsInLog system crew start (settled system b l (λ page. All)).machine (edge_as next)
    its =
        order.log (edge_as next)
        (subst (λ es. Contains es (edge_as next)) (sym edges_are)
        (Contains-append_right (b.edges ++ before) (edge_as next ∷ after) (edge_as next) (here (edge_as next) after)))

    last_of : (x : declared.Edge) → Contains (row_of log next.hart) x → x.at ≤ next.at
    last_of x i =
        pair_at InOrder (b.edges ++ before) (edge_as next) after (edge_as x) (subst (EachPair InOrder) edges_are order.in_order)
        (adding.among (edge_as x) (in_log log.rows next.hart x i))
        (All-contains (IsOfHart log.start next.hart) (row_of log next.hart) x (adding.is_log.own next.hart) i).own

pub leaves_the_way : LeavesTheWay
leaves_the_way r h want leaver c other held against = (
  (λ same. gone r leaver c held (subst (λ g. holds (give_up r leaver c) g ≡ true) (sym same) (stands_holds (give_up r leaver c) h want other against))),
  stood_against r h want leaver c other against,
)

pub held_by_takers : {Hart Page Input : Type 0} (system : System Hart Page Input) → HeldByTakers system
held_by_takers {Hart} {Page} {Input} system b hart page want right other yielded =
    ((λ against. (before right yielded.given_up against, yielded.taken other against)), (λ (against, taken). still right yielded.given_up against taken))
  where
    before : (r : Right) → GivenUp system b hart page want r → stands r hart want other ≡ true → stands (b.rights page) hart want other ≡ true
    before _ NotYet against = against
    before _ (Then {right = r} g earlier g_against untaken) against =
        before r earlier (stood_against r hart want g (counts system b.machine g) other against)

    still : (r : Right) → GivenUp system b hart page want r → stands (b.rights page) hart want other ≡ true → has_taken (b.stubs other) page ≡ true →
        stands r hart want other ≡ true
    still _ NotYet against taken = against
    still _ (Then {right = r} g earlier g_against untaken) against taken =
        still_against r hart want g (counts system b.machine g) other
        (λ same. true≢false (sym taken ∙ subst (λ g. has_taken (b.stubs g) page ≡ false) same untaken))
        (stands_holds r hart want g g_against) (still r earlier against taken)

pub runs_in_lists : {Hart Page Input : Type 0} (hardware : Hardware Hart Page Input) → RunsInLists hardware
runs_in_lists {Hart} {Page} {Input} hardware crew start now b few reached machine_is =
    let kept = keeps_ledger (system_of hardware) crew (view hardware start) b few reached in
    let (result, runs, view_is) = runs_stored hardware start b.journal kept.runs in
    runs ∙ ap Some (same_store result now (view_is ∙ (sym kept.machine ∙ machine_is)))
  where
    same_store : (a c : Store Hart Page) → view hardware a ≡ view hardware c → a ≡ c
    same_store a c e =
        λ i.
        record {
          harts = list_from_gets a.harts c.harts (λ n. ap (λ m. m.harts n) e) i;
          pages = list_from_gets a.pages c.pages (λ n. ap (λ m. m.pages n) e) i;
        }

pub leases_go_on : {Hart Page Input : Type 0} (system : System Hart Page Input) → LeasesGoOn system
leases_go_on system crew start b few reached = goes_on system crew start b (reached_ok system crew few start b reached)

pub none_is_foreign : {Hart Page Input : Type 0} (system : System Hart Page Input) → NoneIsForeign system
none_is_foreign system crew start b out few played = played_on system crew few start b out played

pub ticks_go_on : {Hart Page Input : Type 0} (system : System Hart Page Input) → TicksGoOn system
ticks_go_on system l t = tick_goes_on system l t

pub lends_more : {Hart Page Input : Type 0} (system : System Hart Page Input) → LendsMore system
lends_more system b l page want edges lease ours = lent_more system b page want l lease ours edges
