-- A lease that passes the comparison is settled.
use Rattle.std.proofs.Common.{◌≡◌, ◌≢◌, inl, inr, ℕ, is_some, unwrap_or, ◌<◌, ◌≤◌, Bool, true, false, if◌then◌else◌, List, [], ◌++◌, Option, Some, None}
use Rattle.std.proofs.Common.{Contains, refl, sym, ap, subst, ◌∙◌, arith, le_trans, le_refl}
use Rattle.std.proofs.lemmas.List.Elements.{Contains-append_cases, Contains-append_left}
use Rattle.interleaving.specs.Lists.{put, EachPair}
use Rattle.interleaving.specs.Machine.{Writes, System, Machine, Turn, Step, counts, steps, Runs, run}
use Rattle.interleaving.specs.Log.{Edge, Place, Before, EachMet, Conflict, place}
use Rattle.interleaving.proofs.Put.{put_same}
use Rattle.interleaving.proofs.Each.{each_at, pairs_append, pairs_more}
use Rattle.interleaving.proofs.Runs.{steps_append, run_append, runs_append, counts_grow}
use Rattle.crew_pages.specs.Rights.{Right, holds, owns, give_up, lower}
use Rattle.crew_pages.specs.Page.{at_of, IsAmong, MayLeave}
use Rattle.crew_pages.proofs.Page.{before_more, knows_more}
use Rattle.crew_pages.proofs.Laws.{keeps_going_on, keeps_giving_up, keeps_lowering, puts_before}
use Rattle.lease_ledger.specs.Ledger.{Stub, Lease, Ledger, present, Uses, IsLease, IsOurs}
use Rattle.lease_ledger.specs.Calls.{Keep, All, Readable, Nothing, kept, settled}
use Rattle.lease_ledger.specs.Laws.{InOrder, IsInLog}
use Rattle.lease_ledger.proofs.Runs.{pairs_all, steps_numbered, met_more, steps_mine, run_other}
use Rattle.lease_ledger.proofs.Alike.{its_runs, its_uses, present_is, laid_is}
use Rattle.lease_ledger.proofs.Stays.{stays_kept}
use Rattle.lease_ledger.proofs.Used.{IsPlaceOf, wrote_more, touched_more, in_wrote, in_touched, numbered, within}
use Rattle.lease_ledger.proofs.Invariant.{StoodAt, AtFirst, ToRead, ToWrite, pending, own, read_from, write_from, now, late, or_le, among_nil, among_append}
use Rattle.lease_ledger.proofs.Invariant.{at_put, some_put, scene, RightAt, StubOk, LedgerOk, Ok, stub_rights}

or_bound : (o : Option ℕ) (n x : ℕ) → ((k : ℕ) → o ≡ Some k → k ≤ x) → n ≤ x → unwrap_or o n ≤ x
or_bound None n x each le = le
or_bound (Some k) n x each le = each k refl

read_from_le : (n k : ℕ) → n ≤ k → (o : Option Stub) (page : ℕ) → read_from n o page ≤ read_from k o page
read_from_le n k le None page = le
read_from_le n k le (Some s) page = or_le (s.read_at page) n k le

write_from_le : (n k : ℕ) → n ≤ k → (o : Option Stub) (page : ℕ) → write_from n o page ≤ write_from k o page
write_from_le n k le None page = le
write_from_le n k le (Some s) page = or_le (s.write_at page) n k le

module _ {Hart Page Input : Type 0} (system : System Hart Page Input) (crew : ℕ) (start : Machine Hart Page) (b : Ledger Hart Page Input)
    (ok : Ok system crew start b) (l : Lease Hart Page Input) (lease : IsLease system l) (ours : IsOurs b l) where
  abbrev m : Machine Hart Page
  m = b.machine

  abbrev past : List (Step Hart Page Input)
  past = steps system start b.journal

  abbrev taken : ℕ → Bool
  taken page = is_some (l.stub.read_at page)

  stub_is : StubOk system crew m b.rights l.hart l.stub
  stub_is = ok.stub l.hart l.stub ours.stub

  abbrev fresh : List (Step Hart Page Input)
  fresh = steps system m l.turns

  abbrev end : Machine Hart Page
  end = run system m l.turns

  abbrev edges : List Edge
  edges = b.edges ++ l.stub.edges

  abbrev turns : List (Turn Input)
  turns = b.journal ++ l.turns

  abbrev all : List (Step Hart Page Input)
  all = steps system start turns

  abbrev closed : ℕ → Option Stub
  closed = put b.stubs l.hart None

  runs_here : Runs system m l.turns
  runs_here = its_runs system b l lease ours

  present_here : present system l ≡ counts system end l.hart
  present_here = present_is system b l lease ours

  pub all_is : all ≡ past ++ fresh
  all_is = steps_append system start b.journal l.turns ∙ ap (λ m. past ++ steps system m l.turns) (sym ok.machine)

  end_runs : Runs system start turns
  end_runs = runs_append system start b.journal l.turns ok.runs (subst (λ m. Runs system m l.turns) ok.machine runs_here)

  end_is : end ≡ run system start turns
  end_is = ap (λ m. run system m l.turns) ok.machine ∙ sym (run_append system start b.journal l.turns)

  grow : (g : ℕ) → counts system m g ≤ counts system end g
  grow = counts_grow system m l.turns runs_here

  started : (g : ℕ) → counts system start g ≤ counts system m g
  started g = subst (λ m. counts system start g ≤ counts system m g) (sym ok.machine) (counts_grow system start b.journal ok.runs g)

  some_old : IsAmong b.edges edges
  some_old e i = Contains-append_left b.edges l.stub.edges e i

  is_fresh : (s : Step Hart Page Input) → Contains fresh s → Uses system l.stub s
  is_fresh s i = each_at (Uses system l.stub) fresh s (its_uses system b l lease ours) i

  fresh_hart : (s : Step Hart Page Input) → Contains fresh s → s.hart ≡ l.hart
  fresh_hart s i = each_at (λ s. s.hart ≡ l.hart) fresh s (steps_mine system l.hart m l.turns lease.mine) i

  owns_it : (s : Step Hart Page Input) → Contains fresh s → (page : ℕ) → Writes s.effect page →
      (owns (b.rights page) l.hart ≡ true) × (at_of (b.rights page) ≤ system.count s.found)
  owns_it s i page w = let (k, is, le) = (is_fresh s i).writes page w in let o = stub_is.owned page k is in (o.0, le_trans o.1 le)

  holds_it : (s : Step Hart Page Input) → Contains fresh s → (page : ℕ) → Contains s.effect.touched page → holds (b.rights page) l.hart ≡ true
  holds_it s i page t = let (k, is, le) = (is_fresh s i).touches page t in (stub_is.held page k is).0

  -- the rights, once the steps and edges have entered

  abbrev EndAt : ℕ → Right → Type 0
  EndAt page r = RightAt system crew end all edges closed page r

  own_grows : (page g : ℕ) → IsAmong (own b.edges b.stubs page g) (own edges closed page g)
  own_grows page =
      at_put (λ g q. IsAmong (own b.edges b.stubs page g) (edges ++ pending q page)) b.stubs l.hart None
      (subst (λ o. IsAmong (b.edges ++ pending o page) (edges ++ [])) (sym ours.stub) (waited (taken page)))
      (λ g ne. among_append b.edges edges (pending (b.stubs g) page) (pending (b.stubs g) page) some_old (λ e i. i))
    where
      waited : (c : Bool) → IsAmong (b.edges ++ (if c then l.stub.edges else [])) (edges ++ [])
      waited true e i = Contains-append_left edges [] e i
      waited false e i = Contains-append_left edges [] e (some_old e (among_nil b.edges e i))

  now_grows : (page g : ℕ) → now (counts system m) b.stubs page g ≤ now (counts system end) closed page g
  now_grows page =
      at_put (λ g q. now (counts system m) b.stubs page g ≤ read_from (counts system end g) q page) b.stubs l.hart None
      (subst (λ o. read_from (counts system m l.hart) o page ≤ counts system end l.hart) (sym ours.stub)
      (or_bound (l.stub.read_at page) (counts system m l.hart) (counts system end l.hart)
      (λ k e. subst (λ x. k ≤ x) present_here (lease.reads page k e)) (grow l.hart)))
      (λ g ne. read_from_le (counts system m g) (counts system end g) (grow g) (b.stubs g) page)

  late_grows : (page g : ℕ) → late (counts system m) b.stubs page g ≤ late (counts system end) closed page g
  late_grows page =
      at_put (λ g q. late (counts system m) b.stubs page g ≤ write_from (counts system end g) q page) b.stubs l.hart None
      (subst (λ o. write_from (counts system m l.hart) o page ≤ counts system end l.hart) (sym ours.stub)
      (or_bound (l.stub.write_at page) (counts system m l.hart) (counts system end l.hart)
      (λ k e. subst (λ x. k ≤ x) present_here (lease.writes page k e)) (grow l.hart)))
      (λ g ne. write_from_le (counts system m g) (counts system end g) (grow g) (b.stubs g) page)

  page_end : (page : ℕ) → EndAt page (b.rights page)
  page_end page =
      subst (λ ss. RightAt system crew end ss edges closed page (b.rights page)) (sym all_is)
      (keeps_going_on (scene system crew m past b.edges b.stubs page) (scene system crew end (past ++ fresh) edges closed page) (b.rights page)
      (ok.page page)
      (
      record {
        crew = refl;
        edges = some_old;
        settled = grow;
        own = λ g held. own_grows page g;
        now = λ g held. now_grows page g;
        late = λ g held. late_grows page g;
        wrote = λ a w. elim (wrote_more system past fresh page a w) [ inl old ↦ inl old | inr is_new ↦ inr (wrote a is_new) ];
        touched = λ a t. elim (touched_more system past fresh page a t) [ inl old ↦ inl old | inr is_new ↦ inr (touched a is_new) ];
      }
      ))
    where
      wrote : (a : Place) → IsPlaceOf system (λ s. Writes s.effect page) fresh a → (owns (b.rights page) a.hart ≡ true) × (at_of (b.rights page) ≤ a.step)
      wrote a w =
          subst (λ a. (owns (b.rights page) a.hart ≡ true) × (at_of (b.rights page) ≤ a.step)) w.is
          (subst (λ g. (owns (b.rights page) g ≡ true) × (at_of (b.rights page) ≤ system.count w.step.found)) (sym (fresh_hart w.step w.is_past))
          (owns_it w.step w.is_past page w.does))

      touched : (a : Place) → IsPlaceOf system (λ s. Contains s.effect.touched page) fresh a → holds (b.rights page) a.hart ≡ true
      touched a t =
          subst (λ a. holds (b.rights page) a.hart ≡ true) t.is
          (subst (λ g. holds (b.rights page) g ≡ true) (sym (fresh_hart t.step t.is_past)) (holds_it t.step t.is_past page t.does))

  may_leave : (page : ℕ) → MayLeave (scene system crew end all edges closed page) l.hart
  may_leave page =
      record {
        numbered = numbered system start end turns end_runs end_is page;
        within = within system start turns end_runs page;
        mine =
            λ k o n less s.
            knows_more (own edges closed page l.hart) edges
            (subst (λ q. IsAmong (edges ++ pending q page) edges) (sym (put_same b.stubs l.hart l.hart None refl)) (among_nil edges))
            l.hart k k o n (le_refl k) s;
      }

  calm : (page : ℕ) → late (counts system end) closed page l.hart ≤ now (counts system end) closed page l.hart
  calm page =
      subst (λ o. write_from (counts system end l.hart) o page ≤ read_from (counts system end l.hart) o page)
      (sym (put_same b.stubs l.hart l.hart None refl)) (le_refl (counts system end l.hart))

  page_kept : (page : ℕ) (keep : Keep) (r : Right) → EndAt page r → EndAt page (kept keep r l.hart (counts system end l.hart))
  page_kept page All r right = right
  page_kept page Readable r right = go (owns r l.hart) refl
    where
      go : (c : Bool) → owns r l.hart ≡ c → EndAt page (if c then lower r l.hart (counts system end l.hart) else r)
      go false e = right
      go true e = keeps_lowering (scene system crew end all edges closed page) r l.hart right (may_leave page) (calm page) e
  page_kept page Nothing r right = go (holds r l.hart) refl
    where
      go : (c : Bool) → holds r l.hart ≡ c → EndAt page (if c then give_up r l.hart (counts system end l.hart) else r)
      go false e = right
      go true e = keeps_giving_up (scene system crew end all edges closed page) r l.hart right (may_leave page) e

  -- the history stays ordered

  across : (s t : Step Hart Page Input) → Contains past s → Contains fresh t → Conflict system s t → Before edges (place system s) (place system t)
  across s t in_past i (ne, (page, first_touch, then_touch, either)) =
      let (k, is, le) = (is_fresh t i).touches page then_touch in
      let its = fresh_hart t i in
      before_more (own b.edges b.stubs page t.hart) edges (own_among its page)
      (puts_before (scene system crew m past b.edges b.stubs page) (b.rights page) (place system s) (place system t) (ok.page page)
      (λ e i. Contains-append_left b.edges (pending (b.stubs t.hart) page) e i)
      (
      record {
        holder = subst (λ g. holds (b.rights page) g ≡ true) (sym its) (holds_it t i page then_touch);
        since_then =
            subst (λ g. now (counts system m) b.stubs page g ≤ system.count t.found) (sym its)
            (subst (λ x. x ≤ system.count t.found) (sym (now_is page k is)) le);
        unsettled = (steps_numbered system m l.turns runs_here t i).from;
        apart = ne;
        touched = in_touched system past page s in_past first_touch;
        conflict =
            elim either [
              | inl w ↦ inl (in_wrote system past page s in_past w)
              | inr w ↦
                  inr
                  (subst (λ g. (owns (b.rights page) g ≡ true) × (at_of (b.rights page) ≤ system.count t.found)) (sym its) (owns_it t i page w))
            ];
      }
      ))
    where
      now_is : (page k : ℕ) → l.stub.read_at page ≡ Some k → now (counts system m) b.stubs page l.hart ≡ k
      now_is page k is = ap (λ o. read_from (counts system m l.hart) o page) ours.stub ∙ ap (λ o. unwrap_or o (counts system m l.hart)) is

      own_among : t.hart ≡ l.hart → (page : ℕ) → IsAmong (own b.edges b.stubs page t.hart) edges
      own_among its page =
          subst (λ g. IsAmong (own b.edges b.stubs page g) edges) (sym its)
          (subst (λ o. IsAmong (b.edges ++ pending o page) edges) (sym ours.stub)
          (λ e i. waiting (taken page) e i))
        where
          waiting : (c : Bool) → IsAmong (b.edges ++ (if c then l.stub.edges else [])) edges
          waiting true e i = i
          waiting false e i = some_old e (among_nil b.edges e i)

  stood_by : (k : ℕ) → StoodAt (counts system m l.hart) l.stub k → k ≤ counts system end l.hart
  stood_by k (AtFirst is) = let le : counts system m l.hart ≤ counts system end l.hart = grow l.hart in let e : k ≡ counts system m l.hart = is in omega arith
  stood_by k (ToRead page is) = subst (λ x. k ≤ x) present_here (lease.reads page k is)
  stood_by k (ToWrite page is) = subst (λ x. k ≤ x) present_here (lease.writes page k is)

  log_end : (e : Edge) → Contains edges e → IsInLog system crew start end e
  log_end e i =
      elim (Contains-append_cases b.edges l.stub.edges e i) [
        | inl old ↦
            let o = ok.log e old in
            record {
              hart = o.hart;
              other = o.other;
              another = o.another;
              from_start = o.from_start;
              so_far = le_trans o.so_far (grow e.hart);
              met = le_trans o.met (grow e.other);
            }
        | inr f ↦
            let o = stub_is.edges e f in
            record {
              hart = subst (λ g. g < crew) (sym o.own) stub_is.is_hart;
              other = o.other;
              another = o.another;
              from_start = le_trans (started e.hart) (subst (λ g. counts system m g ≤ e.step) (sym o.own) o.unsettled);
              so_far = subst (λ g. e.step ≤ counts system end g) (sym o.own) (stood_by e.step (stub_is.stood e f));
              met = le_trans o.met (grow e.other);
            }
      ]

  in_order : EachPair InOrder edges
  in_order =
      pairs_append InOrder b.edges l.stub.edges ok.in_order stub_is.in_order
      (λ e f in_e in_f same.
      let a : e.step ≤ counts system m e.hart = (ok.log e in_e).so_far in
      let o = stub_is.edges f in_f in
      let c : counts system m l.hart ≤ f.step = o.unsettled in
      let g : counts system m e.hart ≡ counts system m l.hart = ap (counts system m) (same ∙ o.own) in
      omega arith)

  stub_end : (g : ℕ) (k : Stub) → l.hart ≢ g → StubOk system crew m b.rights g k → StubOk system crew end b.rights g k
  stub_end g k ne s =
      record {
        is_hart = s.is_hart;
        edges =
            λ e i.
            let o = s.edges e i in
            record {
              own = o.own;
              other = o.other;
              another = o.another;
              unsettled = subst (λ x. system.count x ≤ e.step) (sym stays_put) o.unsettled;
              met = le_trans o.met (grow e.other);
            };
        in_order = s.in_order;
        stood = λ e i. subst (λ x. StoodAt (system.count x) k e.step) (sym stays_put) (s.stood e i);
        held = λ page n e. let p = s.held page n e in (p.0, subst (λ x. system.count x ≤ n) (sym stays_put) p.1);
        owned = s.owned;
        both = s.both;
      }
    where
      stays_put : end.harts g ≡ m.harts g
      stays_put = run_other system l.hart m l.turns lease.mine g ne

  settled_end : (keep : ℕ → Keep) →
      LedgerOk system crew start end turns edges (λ page. kept (keep page) (b.rights page) l.hart (counts system end l.hart)) closed
  settled_end keep =
      record {
        runs = end_runs;
        machine = end_is;
        log = log_end;
        in_order = in_order;
        met =
            subst (EachMet edges (counts system start)) (sym all_is)
            (met_more system start b.journal b.edges l.stub.edges fresh ok.runs
            (λ e i.
            subst (λ m. counts system m e.hart ≤ e.step) ok.machine
            (let o = stub_is.edges e i in subst (λ g. counts system m g ≤ e.step) (sym o.own) o.unsettled))
            (λ e i.
            subst (λ m. e.count ≤ counts system m e.other) ok.machine
            (elim (Contains-append_cases b.edges l.stub.edges e i) [ inl old ↦ (ok.log e old).met | inr f ↦ (stub_is.edges e f).met ]))
            ok.met);
        ordered =
            subst (EachPair (λ s t. Conflict system s t → Before edges (place system s) (place system t))) (sym all_is)
            (pairs_append (λ s t. Conflict system s t → Before edges (place system s) (place system t)) past fresh
            (pairs_more (λ s t. Conflict system s t → Before b.edges (place system s) (place system t))
            (λ s t. Conflict system s t → Before edges (place system s) (place system t)) (λ s t f c. before_more b.edges edges some_old (f c)) past ok.ordered)
            (pairs_all (λ s t. Conflict system s t → Before edges (place system s) (place system t)) fresh
            (λ s t in_s in_t c. absurd (c.0 (fresh_hart s in_s ∙ sym (fresh_hart t in_t)))))
            across);
        page = λ page. page_kept page (keep page) (b.rights page) (page_end page);
        stub =
            some_put b.stubs l.hart None (StubOk system crew end (λ page. kept (keep page) (b.rights page) l.hart (counts system end l.hart)))
            (λ k same. absurd (cc))
            (λ g k ne stub.
            stub_rights system crew end b.rights (λ page. kept (keep page) (b.rights page) l.hart (counts system end l.hart)) g k
            (stub_end g k ne (ok.stub g k stub))
            (λ page takes. stays_kept g l.hart (counts system end l.hart) (keep page) (b.rights page) (λ e. ne (sym e))));
      }

  pub settled_ok : (keep : ℕ → Keep) → Ok system crew start (settled system b l keep)
  settled_ok keep =
      subst (λ n. LedgerOk system crew start n turns edges (λ page. kept (keep page) (b.rights page) l.hart (present system l)) closed)
      (sym (laid_is system b l lease ours))
      (subst (λ c. LedgerOk system crew start end turns edges (λ page. kept (keep page) (b.rights page) l.hart c) closed) (sym present_here)
      (settled_end keep))
