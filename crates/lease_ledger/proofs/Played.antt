-- Leases that only the calls change, over every list of calls.
use Rattle.std.proofs.Common.{◌≡◌, ◌≢◌, ℕ, ◌<◌, ◌≤◌, List, Option, Some, None, Contains, refl, subst, ◌∙◌}
use Rattle.ft_types.specs.declared.names.Want.{Want}
use Rattle.ft_types.specs.declared.names.TheConstants.{HART_LIMIT}
use Rattle.interleaving.specs.Lists.{put}
use Rattle.interleaving.specs.Machine.{System, Machine, Turn}
use Rattle.interleaving.specs.Log.{Edge}
use Rattle.interleaving.proofs.Put.{put_same, put_other}
use Rattle.crew_pages.specs.Rights.{Right}
use Rattle.lease_ledger.specs.Ledger.{Stub, Lease, Ledger, fresh_stub, taking, present, IsLease, IsOurs}
use Rattle.lease_ledger.specs.Calls.{IsHeard, Answer, HeldBy, Given, Keep, IsYielded, IsAnswered, opened, needed, settled, dropped, Reached, Begun, Opened}
use Rattle.lease_ledger.specs.Calls.{Needed, Settled, Dropped}
use Rattle.lease_ledger.specs.Laws.{MayTick, GoesOn, Played, Begins, Opens, Ticks, Asks, Settles, Drops, IsOut, lease_opened, lease_needed, lease_ticked}
use Rattle.lease_ledger.proofs.Invariant.{at_put, some_put}
use Rattle.lease_ledger.proofs.Reached.{reached_ok}
use Rattle.lease_ledger.proofs.GoesOn.{goes_on}

module _ {Hart Page Input : Type 0} (system : System Hart Page Input) (crew : ℕ) (few : crew ≤ HART_LIMIT) (start : Machine Hart Page) where
  -- the ledger is reached, its open leases are those that are out, and each is the ledger's
  record Goes (b : Ledger Hart Page Input) (out : ℕ → Option (Lease Hart Page Input)) : Type 0 where
    reached : Reached system crew start b
    closed : (hart : ℕ) → out hart ≡ None → b.stubs hart ≡ None
    out_is : (hart : ℕ) (l : Lease Hart Page Input) → out hart ≡ Some l → IsOut system b hart l

  its : (b : Ledger Hart Page Input) (out : ℕ → Option (Lease Hart Page Input)) → Goes b out → GoesOn system b
  its b out goes = goes_on system crew start b (reached_ok system crew few start b goes.reached)

  -- a lease goes out, or comes back, together with its stub
  both_put : (stubs : ℕ → Option Stub) (out : ℕ → Option (Lease Hart Page Input)) (h : ℕ) (o : Option Stub) (q : Option (Lease Hart Page Input)) →
      ((g : ℕ) → out g ≡ None → stubs g ≡ None) → (q ≡ None → o ≡ None) → (g : ℕ) → put out h q g ≡ None → put stubs h o g ≡ None
  both_put stubs out h o q closed none =
      at_put (λ g q. q ≡ None → put stubs h o g ≡ None) out h q (λ e. put_same stubs h h o refl ∙ none e)
      (λ g ne e. put_other stubs h g o ne ∙ closed g e)

  -- a lease changes that is out
  still_put : (stubs : ℕ → Option Stub) (out : ℕ → Option (Lease Hart Page Input)) (h : ℕ) (l : Lease Hart Page Input) →
      ((g : ℕ) → out g ≡ None → stubs g ≡ None) → (g : ℕ) → put out h (Some l) g ≡ None → stubs g ≡ None
  still_put stubs out h l closed = at_put (λ g q. q ≡ None → stubs g ≡ None) out h (Some l) (λ e. absurd (cc)) (λ g ne. closed g)

  -- what is out after a call is as it was, but for one hart's
  out_put : (b next : Ledger Hart Page Input) (out : ℕ → Option (Lease Hart Page Input)) (h : ℕ) (q : Option (Lease Hart Page Input)) → Goes b out →
      ((l : Lease Hart Page Input) → q ≡ Some l → IsOut system next h l) →
      ((x : Lease Hart Page Input) → h ≢ x.hart → IsOurs b x → IsOurs next x) → (g : ℕ) (x : Lease Hart Page Input) → put out h q g ≡ Some x →
      IsOut system next g x
  out_put b next out h q goes mine still =
      some_put out h q (IsOut system next) mine
      (λ g x ne is.
      let old = goes.out_is g x is in
      record { hart_is = old.hart_is; lease = old.lease; ours = still x (λ e. ne (e ∙ old.hart_is)) old.ours })

  one : (next : Ledger Hart Page Input) (h : ℕ) (new : Lease Hart Page Input) → new.hart ≡ h → IsLease system new → IsOurs next new →
      (l : Lease Hart Page Input) → Some new ≡ Some l → IsOut system next h l
  one next h new hart_is lease ours l same =
      let e : new ≡ l = cc in subst (IsOut system next h) e (record { hart_is = hart_is; lease = lease; ours = ours })

  opens_on : (b : Ledger Hart Page Input) (out : ℕ → Option (Lease Hart Page Input)) → Goes b out → (hart : ℕ) (edges : List Edge) → hart < crew →
      out hart ≡ None → ((e : Edge) → Contains edges e → IsHeard system crew b.machine hart e) →
      Goes (opened b hart edges) (put out hart (Some (lease_opened system b hart edges)))
  opens_on b out goes hart edges is_hart none heard =
      let (lease, ours) = (its b out goes).opens hart edges in
      record {
        reached = Opened hart edges goes.reached is_hart (goes.closed hart none) heard;
        closed =
            both_put b.stubs out hart (Some (fresh_stub edges)) (Some (lease_opened system b hart edges)) goes.closed (λ e. absurd (cc));
        out_is =
            out_put b (opened b hart edges) out hart (Some (lease_opened system b hart edges)) goes
            (one (opened b hart edges) hart (lease_opened system b hart edges) refl lease ours) (λ x. (its b out goes).other_opens hart edges x);
      }

  ticks_on : (b : Ledger Hart Page Input) (out : ℕ → Option (Lease Hart Page Input)) → Goes b out → (l : Lease Hart Page Input) (t : Turn Input) →
      out l.hart ≡ Some l → MayTick system l t → Goes b (put out l.hart (Some (lease_ticked system l t)))
  ticks_on b out goes l t is may =
      let old = goes.out_is l.hart l is in
      record {
        reached = goes.reached;
        closed = still_put b.stubs out l.hart (lease_ticked system l t) goes.closed;
        out_is =
            out_put b b out l.hart (Some (lease_ticked system l t)) goes
            (one b l.hart (lease_ticked system l t) refl ((its b out goes).ticks l t old.lease may) ((its b out goes).still_ours l t old.ours))
            (λ x ne ours. ours);
      }

  asks_on : (b : Ledger Hart Page Input) (out : ℕ → Option (Lease Hart Page Input)) → Goes b out → (l : Lease Hart Page Input) (page : ℕ) (want : Want)
      (right : Right) (answer : Answer) → out l.hart ≡ Some l → IsYielded system b l.hart page want right →
      IsAnswered right l.hart want (present system l) answer →
      Goes (needed system b l page want right answer) (put out l.hart (Some (lease_needed system b l page want answer)))
  asks_on b out goes l page want right answer is yielded answered =
      let old = goes.out_is l.hart l is in
      let (lease, ours) = (its b out goes).needs l page want right answer old.lease old.ours in
      record {
        reached = Needed l page want right answer goes.reached old.lease old.ours yielded answered;
        closed = closed answer;
        out_is =
            out_put b (needed system b l page want right answer) out l.hart (Some (lease_needed system b l page want answer)) goes
            (one (needed system b l page want right answer) l.hart (lease_needed system b l page want answer) (same_hart answer) lease ours)
            (λ x. (its b out goes).other_needs l page want right answer x);
      }
    where
      same_hart : (answer : Answer) → (lease_needed system b l page want answer).hart ≡ l.hart
      same_hart (HeldBy harts) = refl
      same_hart (Given edges) = refl

      closed : (answer : Answer) (g : ℕ) → put out l.hart (Some (lease_needed system b l page want answer)) g ≡ None →
          (needed system b l page want right answer).stubs g ≡ None
      closed (HeldBy harts) = still_put b.stubs out l.hart l goes.closed
      closed (Given edges) =
          both_put b.stubs out l.hart (Some (taking l.stub page want (present system l) edges)) (Some (lease_needed system b l page want (Given edges)))
          goes.closed (λ e. absurd (cc))

  settles_on : (b : Ledger Hart Page Input) (out : ℕ → Option (Lease Hart Page Input)) → Goes b out → (l : Lease Hart Page Input) (keep : ℕ → Keep) →
      out l.hart ≡ Some l → Goes (settled system b l keep) (put out l.hart None)
  settles_on b out goes l keep is =
      let old = goes.out_is l.hart l is in
      record {
        reached = Settled l keep goes.reached old.lease old.ours;
        closed = both_put b.stubs out l.hart None None goes.closed (λ e. refl);
        out_is =
            out_put b (settled system b l keep) out l.hart None goes (λ x e. absurd (cc))
            (λ x ne ours. (its b out goes).other_settles l keep x ne old.lease old.ours ours);
      }

  drops_on : (b : Ledger Hart Page Input) (out : ℕ → Option (Lease Hart Page Input)) → Goes b out → (l : Lease Hart Page Input) → out l.hart ≡ Some l →
      Goes (dropped system b l.hart l.stub) (put out l.hart None)
  drops_on b out goes l is =
      let old = goes.out_is l.hart l is in
      record {
        reached = Dropped l.hart l.stub goes.reached old.ours.stub;
        closed = both_put b.stubs out l.hart None None goes.closed (λ e. refl);
        out_is =
            out_put b (dropped system b l.hart l.stub) out l.hart None goes (λ x e. absurd (cc))
            (λ x. (its b out goes).other_drops l.hart l.stub x);
      }

  goes : (b : Ledger Hart Page Input) (out : ℕ → Option (Lease Hart Page Input)) → Played system crew start b out → Goes b out
  goes _ _ Begins = record { reached = Begun; closed = λ hart is. refl; out_is = λ hart l is. absurd (cc) }
  goes _ _ (Opens {b = b} {out = out} hart edges before is_hart none heard) = opens_on b out (goes b out before) hart edges is_hart none heard
  goes _ _ (Ticks {b = b} {out = out} l t before is may) = ticks_on b out (goes b out before) l t is may
  goes _ _ (Asks {b = b} {out = out} l page want right answer before is yielded answered) =
      asks_on b out (goes b out before) l page want right answer is yielded answered
  goes _ _ (Settles {b = b} {out = out} l keep before is) = settles_on b out (goes b out before) l keep is
  goes _ _ (Drops {b = b} {out = out} l before is) = drops_on b out (goes b out before) l is

  pub played_on : (b : Ledger Hart Page Input) (out : ℕ → Option (Lease Hart Page Input)) → Played system crew start b out →
      Reached system crew start b × ((hart : ℕ) (l : Lease Hart Page Input) → out hart ≡ Some l → IsOut system b hart l)
  played_on b out played = let g = goes b out played in (g.reached, g.out_is)
