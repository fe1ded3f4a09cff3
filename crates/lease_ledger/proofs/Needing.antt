-- A lease asks for a page.
use Rattle.std.proofs.Common.{◌≡◌, ◌≢◌, inl, inr, ℕ, is_some, unwrap_or, ◌≤◌, true, false, if◌then◌else◌, List, [], ◌++◌, Option, Some, None, Contains, refl}
use Rattle.std.proofs.Common.{sym, ap, subst, ◌∙◌, arith, le_trans, le_refl, le_of_eq, true≢false}
use Rattle.std.proofs.lemmas.List.Elements.{Contains-append_cases, Contains-append_left, Contains-append_right}
use Rattle.ft_types.specs.declared.names.Want.{Want}
use Rattle.ft_types.specs.declared.names.Want.TheVariants.{Read, Write}
use Rattle.ft_types.specs.declared.names.TheConstants.{HART_LIMIT}
use Rattle.interleaving.specs.Lists.{put, EachPair}
use Rattle.interleaving.specs.Machine.{System, Machine, Step, counts, steps}
use Rattle.interleaving.specs.Log.{Edge}
use Rattle.interleaving.proofs.Put.{put_same}
use Rattle.interleaving.proofs.Each.{pairs_append}
use Rattle.interleaving.proofs.Runs.{counts_grow}
use Rattle.crew_pages.specs.Rights.{Right, holds, owns, IsFree, has_it, given, give_up}
use Rattle.crew_pages.specs.Page.{at_of, IsAmong, MayLeave}
use Rattle.crew_pages.proofs.Page.{knows_more}
use Rattle.crew_pages.proofs.Laws.{keeps_giving_up, keeps_giving, owes_only_settled, gives_it}
use Rattle.lease_ledger.specs.Ledger.{Stub, Lease, Ledger, noted, noted_to_write, taking, present, lent, IsLease, IsOurs}
use Rattle.lease_ledger.specs.Calls.{has_taken, AreOwed, Answer, HeldBy, Given, IsAnswered, GivenUp, NotYet, Then, IsYielded, needed}
use Rattle.lease_ledger.specs.Laws.{InOrder, IsWaiting}
use Rattle.lease_ledger.proofs.Runs.{pairs_all}
use Rattle.lease_ledger.proofs.Stays.{Stays, stays, stays_on, stays_give_up, stays_given, stands_holds, lacks_to_read, lacks_to_write, given_holds, given_owns}
use Rattle.lease_ledger.proofs.Stays.{reading_owns_nothing, at_given}
use Rattle.lease_ledger.proofs.Used.{numbered, within}
use Rattle.lease_ledger.proofs.Noted.{noted_same, noted_keeps, noted_cases, noted_le, to_write_cases, to_write_le, pending_grows, stood_still}
use Rattle.lease_ledger.proofs.Invariant.{StoodAt, AtFirst, ToRead, ToWrite, pending, own, read_from, write_from, now, late, is_some_of, some_of, among_nil}
use Rattle.lease_ledger.proofs.Invariant.{among_append, at_put, some_put, scene, RightAt, StubOk, Ok, stub_rights, stub_put}

module _ {Hart Page Input : Type 0} (system : System Hart Page Input) (crew : ℕ) (start : Machine Hart Page) (b : Ledger Hart Page Input)
    (ok : Ok system crew start b) where
  abbrev m : Machine Hart Page
  m = b.machine

  abbrev past : List (Step Hart Page Input)
  past = steps system start b.journal

  abbrev IsAt : (ℕ → Option Stub) → ℕ → Right → Type 0
  IsAt stubs page r = RightAt system crew m past b.edges stubs page r

  abbrev StaysFor : ℕ → Right → Type 0
  StaysFor page r = (g : ℕ) (s : Stub) → b.stubs g ≡ Some s → is_some (s.read_at page) ≡ true → Stays g (b.rights page) r

  untaken_pending : (o : Option Stub) (page : ℕ) → has_taken o page ≡ false → pending o page ≡ []
  untaken_pending None page e = refl
  untaken_pending (Some s) page e = rw e refl

  -- a hart whose open lease has not taken the page may leave it
  may_leave : (page g : ℕ) → has_taken (b.stubs g) page ≡ false → MayLeave (scene system crew m past b.edges b.stubs page) g
  may_leave page g is =
      record {
        numbered = numbered system start m b.journal ok.runs ok.machine page;
        within = within system start b.journal ok.runs page;
        mine =
            λ k o n less s.
            knows_more (own b.edges b.stubs page g) b.edges
            (subst (λ es. IsAmong (b.edges ++ es) b.edges) (sym (untaken_pending (b.stubs g) page is)) (among_nil b.edges)) g k k o n (le_refl k) s;
      }

  given_up_ok : (h page : ℕ) (want : Want) (r : Right) → GivenUp system b h page want r → IsAt b.stubs page r
  given_up_ok h page want _ NotYet = ok.page page
  given_up_ok h page want _ (Then {right = r} g before against untaken) =
      keeps_giving_up (scene system crew m past b.edges b.stubs page) r g (given_up_ok h page want r before) (may_leave page g untaken)
      (stands_holds r h want g against)

  -- whoever has taken the page keeps its right
  given_up_stays : (h page : ℕ) (want : Want) (r : Right) → GivenUp system b h page want r → StaysFor page r
  given_up_stays h page want _ NotYet g s stub takes = stays g (b.rights page)
  given_up_stays h page want _ (Then {right = r} other before against untaken) g s stub takes =
      stays_on g (b.rights page) r (give_up r other (counts system m other)) (given_up_stays h page want r before g s stub takes)
      (stays_give_up g other (counts system m other) r apart (stands_holds r h want other against))
    where
      apart : g ≢ other
      apart same =
          true≢false (sym takes ∙ subst (λ o. has_taken o page ≡ false) stub (subst (λ g. has_taken (b.stubs g) page ≡ false) (sym same) untaken))

  put_stays : (page : ℕ) (r : Right) → StaysFor page r → (g : ℕ) (s : Stub) → b.stubs g ≡ Some s → (q : ℕ) → is_some (s.read_at q) ≡ true →
      Stays g (b.rights q) (put b.rights page r q)
  put_stays page r stay g s is q takes =
      at_put (λ q t. is_some (s.read_at q) ≡ true → Stays g (b.rights q) t) b.rights page r (stay g s is) (λ q ne takes. stays g (b.rights q)) q takes

  held_ok : (page : ℕ) (r : Right) → IsAt b.stubs page r → StaysFor page r → Ok system crew start (record b { rights = put b.rights page r })
  held_ok page r right stay =
      record {
        runs = ok.runs;
        machine = ok.machine;
        log = ok.log;
        in_order = ok.in_order;
        met = ok.met;
        ordered = ok.ordered;
        page = at_put (IsAt b.stubs) b.rights page r right (λ q ne. ok.page q);
        stub = λ g s is. stub_rights system crew m b.rights (put b.rights page r) g s (ok.stub g s is) (put_stays page r stay g s is);
      }

  -- the right is given at count n
  module _ (few : crew ≤ HART_LIMIT) (h page : ℕ) (want : Want) (s : Stub) (n : ℕ) (is : b.stubs h ≡ Some s) (above : counts system m h ≤ n)
      (reads : (page k : ℕ) → s.read_at page ≡ Some k → k ≤ n) (writes : (page k : ℕ) → s.write_at page ≡ Some k → k ≤ n) (r : Right)
      (right : IsAt b.stubs page r) (stay : StaysFor page r) (free : IsFree r h want) (fresh : List Edge) (owed : AreOwed r h want n fresh) where
    abbrev new : Right
    new = given r h want n

    abbrev next : Stub
    next = taking s page want n fresh

    abbrev stubs : ℕ → Option Stub
    stubs = put b.stubs h (Some next)

    abbrev rights : ℕ → Right
    rights = put b.rights page new

    stub_ok : StubOk system crew m b.rights h s
    stub_ok = ok.stub h s is

    given_stays : StaysFor page new
    given_stays g k stub takes = stays_on g (b.rights page) r new (stay g k stub takes) (stays_given g h n want r free)

    stub_now : StubOk system crew m rights h s
    stub_now = stub_rights system crew m b.rights rights h s stub_ok (put_stays page new given_stays h s is)

    next_is : stubs h ≡ Some next
    next_is = put_same b.stubs h h (Some next) refl

    -- what the hart had of another page, it has
    grows : (q : ℕ) (t : Right) → IsAt b.stubs q t → IsAt stubs q t
    grows q t at =
        stub_put system crew m past b.edges b.stubs h (Some next) q t at
        (λ held.
        subst (λ o. IsAmong (b.edges ++ pending o q) (b.edges ++ pending (Some next) q)) (sym is)
        (among_append b.edges b.edges (pending (Some s) q) (pending (Some next) q) (λ e i. i)
        (pending_grows (s.read_at q) (next.read_at q) s.edges next.edges (noted_keeps s.read_at page n q)
        (λ e i. Contains-append_left s.edges fresh e i))))
        (λ held.
        subst (λ o. read_from (counts system m h) o q ≤ read_from (counts system m h) (Some next) q) (sym is)
        (noted_le s.read_at page n (counts system m h) above q))
        (λ held.
        subst (λ o. write_from (counts system m h) o q ≤ write_from (counts system m h) (Some next) q) (sym is)
        (to_write_le s.write_at page n want (counts system m h) above q))

    own_is : own b.edges stubs page h ≡ b.edges ++ (s.edges ++ fresh)
    own_is =
        ap (λ o. b.edges ++ pending o page) next_is ∙
        ap (λ o. b.edges ++ (if is_some o then s.edges ++ fresh else [])) (noted_same s.read_at page n)

    -- who did not hold the page had not taken it, and takes it now
    untaken : (o : Option ℕ) → s.read_at page ≡ o → holds r h ≡ false → o ≡ None
    untaken None e not = refl
    untaken (Some k) e not = absurd (true≢false (sym ((stay h s is (is_some_of (s.read_at page) k e)).held (stub_ok.held page k e).0) ∙ not))

    unowned : (o : Option ℕ) → s.write_at page ≡ o → owns r h ≡ false → o ≡ None
    unowned None e not = refl
    unowned (Some k) e not = absurd (true≢false (sym ((stay h s is (stub_ok.both page k e)).owned (stub_ok.owned page k e).0) ∙ not))

    read_here : holds r h ≡ false → noted s.read_at page n page ≡ Some n
    read_here not = noted_same s.read_at page n ∙ ap (λ o. Some (unwrap_or o n)) (untaken (s.read_at page) refl not)

    write_here : owns r h ≡ false → noted s.write_at page n page ≡ Some n
    write_here not = noted_same s.write_at page n ∙ ap (λ o. Some (unwrap_or o n)) (unowned (s.write_at page) refl not)

    now_is : holds r h ≡ false → now (counts system m) stubs page h ≡ n
    now_is not = ap (λ o. read_from (counts system m h) o page) next_is ∙ ap (λ o. unwrap_or o (counts system m h)) (read_here not)

    late_is : owns r h ≡ false → owns new h ≡ true → n ≤ late (counts system m) stubs page h
    late_is not owned = subst (λ o. n ≤ write_from (counts system m h) o page) (sym next_is) (go want owned)
      where
        go : (want : Want) → owns (given r h want n) h ≡ true → n ≤ unwrap_or (noted_to_write want s.write_at page n page) (counts system m h)
        go Read owned = absurd (true≢false (sym (reading_owns_nothing r h n owned) ∙ not))
        go Write owned = le_of_eq (sym (ap (λ o. unwrap_or o (counts system m h)) (write_here not)))

    new_right : IsAt stubs page new
    new_right =
        keeps_giving (scene system crew m past b.edges stubs page) r h want n (grows page r right)
        (
        record {
          few = few;
          is_hart = stub_ok.is_hart;
          free = free;
          owed =
              λ e is_owed.
              subst (λ es. Contains es e) (sym own_is)
              (Contains-append_right b.edges (s.edges ++ fresh) e (Contains-append_right s.edges fresh e (owed.all e is_owed)));
          first = now_is;
          bound = late_is;
        }
        )

    -- the edges that it owes
    fresh_edge : (e : Edge) → Contains fresh e → IsWaiting system crew m h e
    fresh_edge e i =
        let o = owed.only e i in
        let p = owes_only_settled (scene system crew m past b.edges b.stubs page) r h want n e right o in
        let at : e.step ≡ n = o.at in
        record { own = o.own; other = p.0; another = subst (λ g. e.other ≢ g) (sym o.own) o.other; unsettled = omega arith; met = p.1 }

    stands_now : has_it r h want ≡ false → StoodAt (counts system m h) next n
    stands_now lacks = go want free lacks
      where
        go : (want : Want) → IsFree r h want → has_it r h want ≡ false → StoodAt (counts system m h) (taking s page want n fresh) n
        go Read free lacks = ToRead page (read_here (lacks_to_read r h free lacks))
        go Write free lacks = ToWrite page (write_here (lacks_to_write r h lacks))

    stood_by : (k : ℕ) → StoodAt (counts system m h) s k → k ≤ n
    stood_by k (AtFirst is) = let e : k ≡ counts system m h = is in omega arith
    stood_by k (ToRead page is) = reads page k is
    stood_by k (ToWrite page is) = writes page k is

    next_in_order : EachPair InOrder (s.edges ++ fresh)
    next_in_order =
        pairs_append InOrder s.edges fresh stub_ok.in_order
        (pairs_all InOrder fresh
        (λ e f in_e in_f same.
        let a : e.step ≡ n = (owed.only e in_e).at in
        let c : f.step ≡ n = (owed.only f in_f).at in
        omega arith))
        (λ e f in_e in_f same.
        let a : e.step ≤ n = stood_by e.step (stub_ok.stood e in_e) in
        let c : f.step ≡ n = (owed.only f in_f).at in
        omega arith)

    -- who asked to write owns the page, and got it by then
    owned_here : s.write_at page ≡ None → want ≡ Write → (owns new h ≡ true) × (at_of new ≤ n)
    owned_here none is_write = (owned, at_given r h n want (λ o. le_trans (right.owner h o).at late_le) owned)
      where
        owned : owns new h ≡ true
        owned = given_owns new h (subst (λ w. has_it new h w ≡ true) is_write (gives_it r h want n free))

        late_le : late (counts system m) b.stubs page h ≤ n
        late_le = subst (λ o. write_from (counts system m h) o page ≤ n) (sym is) (subst (λ o. unwrap_or o (counts system m h) ≤ n) (sym none) above)

    next_ok : StubOk system crew m rights h next
    next_ok =
        record {
          is_hart = stub_ok.is_hart;
          edges = λ e i. elim (Contains-append_cases s.edges fresh e i) [ inl old ↦ stub_ok.edges e old | inr f ↦ fresh_edge e f ];
          in_order = next_in_order;
          stood =
              λ e i.
              elim (Contains-append_cases s.edges fresh e i) [
                | inl old ↦ stood_still (counts system m h) s page want n fresh e.step (stub_ok.stood e old)
                | inr f ↦ let o = owed.only e f in subst (StoodAt (counts system m h) next) (sym o.at) (stands_now o.lacks)
              ];
          held =
              λ q k e.
              elim (noted_cases s.read_at page n q k e) [
                | inl old ↦ stub_now.held q k old
                | inr (same, is_n, none) ↦ (
                  subst (λ t. holds t h ≡ true) (sym (put_same b.rights page q new same)) (given_holds new h want (gives_it r h want n free)),
                  (omega arith),
                )
              ];
          owned =
              λ q k e.
              elim (to_write_cases s.write_at page n want q k e) [
                | inl old ↦ stub_now.owned q k old
                | inr (is_write, same, is_n, none) ↦
                    subst (λ t. (owns t h ≡ true) × (at_of t ≤ k)) (sym (put_same b.rights page q new same))
                    (subst (λ k. (owns new h ≡ true) × (at_of new ≤ k)) is_n (owned_here none is_write))
              ];
          both =
              λ q k e.
              elim (to_write_cases s.write_at page n want q k e) [
                | inl old ↦
                    let (j, taken) = some_of (s.read_at q) (stub_ok.both q k old) in
                    is_some_of (next.read_at q) j (noted_keeps s.read_at page n q j taken)
                | inr (is_write, same, is_n, none) ↦
                    subst (λ q. is_some (next.read_at q) ≡ true) same (ap is_some (noted_same s.read_at page n))
              ];
        }

    given_ok : Ok system crew start (record b { rights = rights; stubs = stubs })
    given_ok =
        record {
          runs = ok.runs;
          machine = ok.machine;
          log = ok.log;
          in_order = ok.in_order;
          met = ok.met;
          ordered = ok.ordered;
          page = at_put (IsAt stubs) b.rights page new new_right (λ q ne. grows q (b.rights q) (ok.page q));
          stub =
              some_put b.stubs h (Some next) (StubOk system crew m rights)
              (λ t same. let e : next ≡ t = cc in subst (StubOk system crew m rights h) e next_ok)
              (λ g t ne stub. stub_rights system crew m b.rights rights g t (ok.stub g t stub) (put_stays page new given_stays g t stub));
        }

  -- a lease that is ours is not behind its hart's settled count
  pub not_behind : (l : Lease Hart Page Input) → IsLease system l → IsOurs b l → counts system m l.hart ≤ present system l
  not_behind l lease ours =
      subst (λ x. system.count x ≤ present system l) ours.state (counts_grow system (lent l) l.turns lease.runs l.hart)

  pub needed_ok : crew ≤ HART_LIMIT → (l : Lease Hart Page Input) (page : ℕ) (want : Want) (r : Right) (answer : Answer) → IsLease system l → IsOurs b l →
      IsYielded system b l.hart page want r → IsAnswered r l.hart want (present system l) answer →
      Ok system crew start (needed system b l page want r answer)
  needed_ok few l page want r (HeldBy harts) lease ours yielded answered =
      held_ok page r (given_up_ok l.hart page want r yielded.given_up) (given_up_stays l.hart page want r yielded.given_up)
  needed_ok few l page want r (Given edges) lease ours yielded answered =
      given_ok few l.hart page want l.stub (present system l) ours.stub (not_behind l lease ours) lease.reads lease.writes r
      (given_up_ok l.hart page want r yielded.given_up) (given_up_stays l.hart page want r yielded.given_up) answered.0 edges answered.1
