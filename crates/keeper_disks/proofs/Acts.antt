-- What is done with a keeper's disk, as events of the world.
use Rattle.std.proofs.Common.{◌≡◌, ◌≤◌, ◌<◌, max, ℕ, List, [], ◌∷◌, ◌++◌, take, drop, Contains, Option, Some, None, refl, sym, ap, subst, ◌∙◌, append-nil, append_assoc, arith, inl, inr}
use Rattle.std.proofs.lemmas.List.Elements.{Contains-append_right}
use Rattle.interleaving.specs.Lists.{put}
use Rattle.interleaving.proofs.Cuts.{here_or_later}
use Rattle.interleaving.proofs.Put.{same_or_not, put_same, put_other}
use Rattle.ft_types.specs.Counts.{count_at}
use Rattle.ft_types.specs.Guests.{GuestParts}
use Rattle.ft_types.specs.declared.position.Position.{Position}
use Rattle.fragment_codec.specs.declared.frame.Frame.{Frame}
use Rattle.fragment_codec.specs.Streams.{spelling, IsFrame, IsPartial, Splits}
use Rattle.fragment_codec.proofs.streams.HasReading.{has_reading}
use Rattle.fragment_codec.proofs.streams.Splits.{splits_more, alone as one_frame}
use Rattle.log_join.specs.Coming.{IsJoinOf}
use Rattle.log_join.specs.Stores.{StoreView, IsJoin, alone, nothing}
use Rattle.closed_cut.specs.Position.{IsPosition}
use Rattle.stations.specs.Stations.{Acknowledges as MayAcknowledge}
use Rattle.stations.specs.Acts.{Act, Added, CutTo, Fenced as WasFenced, Synced as WasSynced}
use Rattle.stations.specs.Handshake.{Did, Crash, after, IsBeginning}
use Rattle.stations.specs.Logs.{IsFrontOf}
use Rattle.stations.specs.Stations.{StationView, IsOnLog}
use Rattle.stations.proofs.Handshakes.{begins_more}
use Rattle.fenced_theory.specs.Recorders.{Recorder}
use Rattle.fenced_theory.specs.Worlds.{Quorum, World, held, saving, acking, fenced, Save, Restart, Fence, Acknowledge}
use Rattle.fenced_theory.proofs.Acking.{raised_keeps, raised_reaches}
use Rattle.keeper_disks.specs.Disks.{Phase, Away, HasRead, Rests, Adding, Synced, Hand, Nobody, Saw, HasFenced, Disk, Out, Nothing, Says, Hands, logged, Keeps, Reads, Begins, Adds, AddsMore, Syncs, Looks, Acknowledges, Gives, Sees, Fences, HandsOver, WereSent, KeeperDoes, HandDoes, Takes, KeeperEnds, HandEnds, Crashes}
use Rattle.keeper_disks.specs.Standing.{HasFrames, HasFront, Knows, KnowsFence, IsSite, StandsOn, OnlyKeeper, IsTold, LeadsTo, Same, Then, IsFollowed, DisksGo}
use Rattle.keeper_disks.proofs.Frames.{stuck_nothing, reading_of, whole_one, begins_frames, begins_itself, cut_leaves}
use Rattle.keeper_disks.proofs.Comings.{come_more, come_there, OnlyStore, Delivered, held_only, delivers}
use Rattle.keeper_disks.proofs.Has.{front_of_whole, front_is, one_store, has_more, begin_sent}

module _ {Book Fact : Type 0} (recorder : Recorder Book Fact) (guest : GuestParts) (quorum : Quorum) (w : World Book) (keeper : ℕ) (d : Disk)
    (s : StandsOn guest w keeper d) where
  -- ---- where nothing happens in the world

  only_itself : OnlyKeeper w w keeper d
  only_itself =
      record {
        terms = refl;
        sent = refl;
        released = refl;
        notes = refl;
        marks = refl;
        others = λ k other. record { stores = refl; saved = refl; fence = refl; given = λ u. refl; acked = λ u. refl };
        acked = λ u hart. omega arith;
        given = λ u le not. refl;
      }

  still : (e : Disk) → StandsOn guest w keeper e → IsFollowed recorder guest quorum w keeper d e Nothing
  still e t = record { world = w; events = Same; stands = t; only = only_itself; told = tt; silent = λ u hart none. refl }

  -- where the files are as they were
  now : (phase : Phase) (hand : Hand) → Knows guest w.sent d.files.log d.files.safe phase → KnowsFence d.files.fence hand →
      StandsOn guest w keeper (record { files = d.files; keeper = phase; hand = hand })
  now phase hand knows fence =
      record {
        store = s.store;
        written = s.written;
        has_it = s.has_it;
        wrote_it = s.wrote_it;
        log = s.log;
        safe = s.safe;
        begins = s.begins;
        fence_is = s.fence_is;
        keeper = knows;
        hand = fence;
      }

  knows : (phase : Phase) → d.keeper ≡ phase → Knows guest w.sent d.files.log d.files.safe phase
  knows phase is = subst (Knows guest w.sent d.files.log d.files.safe) is s.keeper

  knows_fence : (hand : Hand) → d.hand ≡ hand → KnowsFence d.files.fence hand
  knows_fence hand is = subst (KnowsFence d.files.fence) is s.hand

  in_phase : (phase : Phase) → Knows guest w.sent d.files.log d.files.safe phase →
      IsFollowed recorder guest quorum w keeper d (record d { keeper = phase }) Nothing
  in_phase phase is = still (record d { keeper = phase }) (now phase d.hand is s.hand)

  in_hand : (hand : Hand) → KnowsFence d.files.fence hand → IsFollowed recorder guest quorum w keeper d (record d { hand = hand }) Nothing
  in_hand hand is = still (record d { hand = hand }) (now d.keeper hand s.keeper is)

  -- ---- where frames come to the keeper

  only_store : (v : World Book) → OnlyStore w v keeper → OnlyKeeper w v keeper d
  only_store v o =
      record {
        terms = o.terms;
        sent = o.sent;
        released = o.released;
        notes = o.notes;
        marks = o.marks;
        others = λ k other.
            record {
              stores = o.others k other;
              saved = ap (λ f. f k) o.saved;
              fence = ap (λ f. f k) o.fence;
              given = λ u. ap (λ f. f u k) o.given;
              acked = λ u. ap (λ f. f u k) o.acked;
            };
        acked = λ u hart. let e : v.acked u keeper hart ≡ w.acked u keeper hart = ap (λ f. f u keeper hart) o.acked in omega (arith, e);
        given = λ u le not. ap (λ f. f u keeper) o.given;
      }

  delivered : (e : Disk) (store : StoreView) → Delivered recorder guest quorum w keeper store →
      IsSite guest w.sent (Some store) (w.saved keeper) (w.fence keeper) e → IsFollowed recorder guest quorum w keeper d e Nothing
  delivered e store v t =
      record {
        world = v.world;
        events = v.events;
        stands =
            subst (λ sent. IsSite guest sent (v.world.stores keeper) (v.world.saved keeper) (v.world.fence keeper) e) (sym v.only.sent)
            (subst (λ has. IsSite guest w.sent has (v.world.saved keeper) (v.world.fence keeper) e) (sym v.has)
            (subst (λ wrote. IsSite guest w.sent (Some store) wrote (v.world.fence keeper) e) (sym (ap (λ f. f keeper) v.only.saved))
            (subst (λ fence. IsSite guest w.sent (Some store) (w.saved keeper) fence e) (sym (ap (λ f. f keeper) v.only.fence)) t)));
        only = only_store v.world v.only;
        told = tt;
        silent = λ u hart none. ap (λ f. f u keeper hart) v.only.acked;
      }

  only_now : OnlyStore w w keeper
  only_now =
      record { terms = refl; sent = refl; saved = refl; fence = refl; given = refl; acked = refl; released = refl; notes = refl; marks = refl; others = λ k other. refl }

  -- behind more bytes it has all frames that are read there then, where these were sent
  pub record Grown (bytes : List ℕ) : Type 0 where
    pub store : StoreView
    pub front : HasFront guest w.sent bytes store
    pub delivered : Delivered recorder guest quorum w keeper store

  grows : (v : World Book) → LeadsTo recorder guest quorum w v → OnlyStore w v keeper → (bytes more : List ℕ) (store : StoreView) →
      v.stores keeper ≡ Some store → HasFront guest w.sent bytes store → WereSent w.sent (bytes ++ more) → Grown (bytes ++ more)
  grows v events only bytes more store has h were =
      let r = has_reading (bytes ++ more) in
      let b = begins_frames (bytes ++ more) r.1 (h.0 ++ more) r.0 h.2.frames r.2 r.3 (splits_more bytes h.0 more h.2.frames h.2.splits) in
      let (last, come) = come_there store b.0 in
      let each : (f : Frame) → Contains b.0 f → Contains v.sent f =
      λ f new.
      subst (λ (fs : List Frame). Contains fs f) (sym only.sent)
      (were r.0 r.1 r.2 f (subst (λ (fs : List Frame). Contains fs f) (sym b.1) (Contains-append_right h.2.frames b.0 f new))) in
      record {
        store = last;
        front = (
          r.1,
          r.3,
          record {
            frames = r.0;
            splits = r.2;
            each = were r.0 r.1 r.2;
            join =
                subst (λ (fs : List Frame). IsJoinOf guest fs last) (sym b.1) (come_more (nothing guest) store last h.2.frames b.0 h.2.join come);
          },
        );
        delivered = delivers recorder guest quorum w v events keeper only store last has b.0 each come;
      }

  -- ---- a keeper

  begins : (log : List ℕ) (frames : List Frame) (size : ℕ) (st : StationView) → d.keeper ≡ HasRead log → IsFrontOf log frames size None →
      IsOnLog (take size log) st → st.store.guest ≡ guest → st.fresh ≡ [] →
      IsFollowed recorder guest quorum w keeper d (record d { files = after d.files (Did (CutTo size)); keeper = Rests st }) Nothing
  begins log frames size st read front_ on_ of_guest fresh =
      let same_log : log ≡ d.files.log = knows (HasRead log) read in
      let front : IsFrontOf d.files.log frames size None = subst (λ (x : List ℕ). IsFrontOf x frames size None) same_log front_ in
      let on : IsOnLog (take size d.files.log) st = subst (λ (x : List ℕ). IsOnLog (take size x) st) same_log on_ in
      let reads = reading_of d.files.log frames size front in
      let h = front_is guest w.sent d.files.log (drop size d.files.log) frames s.store s.log reads.0 reads.1 in
      let left = cut_leaves d.files.safe d.files.log s.safe.frames frames size s.begins s.safe.splits front in
      let on_whole : Splits (take size d.files.log) on.frames [] =
      subst (λ (x : List ℕ). Splits x on.frames []) (ap (λ (x : List ℕ). take size d.files.log ++ x) fresh ∙ append-nil (take size d.files.log)) on.splits in
      let its : on.frames ≡ frames = whole_one (take size d.files.log) on.frames frames on_whole front.splits in
      let cut : HasFrames guest w.sent (take size d.files.log) [] s.store =
      record { frames = frames; splits = front.splits; each = h.each; join = h.join } in
      still (record d { files = after d.files (Did (CutTo size)); keeper = Rests st })
      (record {
        store = s.store;
        written = s.written;
        has_it = s.has_it;
        wrote_it = s.wrote_it;
        log = front_of_whole guest w.sent (take size d.files.log) s.store cut;
        safe = subst (λ (x : List ℕ). HasFrames guest w.sent x [] s.written) (sym left.0) s.safe;
        begins = subst (λ (x : List ℕ). IsBeginning x (take size d.files.log)) (sym left.0) left.1;
        fence_is = s.fence_is;
        keeper =
            record {
              frames = on.frames;
              splits = on.splits;
              each = subst (λ (fs : List Frame). (f : Frame) → Contains fs f → Contains w.sent f) (sym its) h.each;
              join = subst (λ (g : GuestParts). IsJoinOf g on.frames st.store) of_guest on.join;
            };
        hand = s.hand;
      })

  takes : (st : StationView) (f : Frame) (store : StoreView) → d.keeper ≡ Rests st → Contains w.sent f → IsFrame f → IsJoin st.store (alone f) store →
      IsFollowed recorder guest quorum w keeper d
      (record d { keeper = Rests (record st { store = store; fresh = st.fresh ++ spelling f }) }) Nothing
  takes st f store rests has rules joined =
      let k = knows (Rests st) rests in
      in_phase (Rests (record st { store = store; fresh = st.fresh ++ spelling f }))
      (subst (λ (x : List ℕ). HasFrames guest w.sent x [] store) (append_assoc d.files.log st.fresh (spelling f))
      (has_more guest w.sent (d.files.log ++ st.fresh) (spelling f) [] st.store store (f ∷ []) k (one_frame f rules)
      (λ g one. subst (Contains w.sent) (only_one f g one) has) (store, joined, refl)))
    where
      only_one : (x y : Frame) → Contains (x ∷ []) y → x ≡ y
      only_one x y has_it = elim (here_or_later x [] y has_it) [ inl same ↦ same | inr (k, below, same) ↦ absurd (omega (arith, below)) ]

  adds : (st : StationView) (front rest : List ℕ) → HasFrames guest w.sent (d.files.log ++ (front ++ rest)) [] st.store →
      IsFollowed recorder guest quorum w keeper d (record d { files = after d.files (Did (Added front)); keeper = Adding st rest }) Nothing
  adds st front rest has =
      let all : HasFrames guest w.sent ((d.files.log ++ front) ++ rest) [] st.store =
      subst (λ (x : List ℕ). HasFrames guest w.sent x [] st.store) (sym (append_assoc d.files.log front rest)) has in
      let g = grows w Same only_now d.files.log front s.store s.has_it s.log (begin_sent guest w.sent (d.files.log ++ front) rest st.store all) in
      delivered (record d { files = after d.files (Did (Added front)); keeper = Adding st rest }) g.store g.delivered
      (record {
        store = g.store;
        written = s.written;
        has_it = refl;
        wrote_it = s.wrote_it;
        log = g.front;
        safe = s.safe;
        begins = begins_more d.files.safe d.files.log front s.begins;
        fence_is = s.fence_is;
        keeper = all;
        hand = s.hand;
      })

  syncs : (st : StationView) → d.keeper ≡ Adding st [] →
      IsFollowed recorder guest quorum w keeper d (record d { files = after d.files (Did WasSynced); keeper = Synced st }) Nothing
  syncs st added =
      let all : HasFrames guest w.sent d.files.log [] st.store =
      subst (λ (x : List ℕ). HasFrames guest w.sent x [] st.store) (append-nil d.files.log) (knows (Adding st []) added) in
      record {
        world = saving w keeper s.store;
        events = Then Same (Save keeper s.store s.has_it);
        stands =
            record {
              store = s.store;
              written = s.store;
              has_it = s.has_it;
              wrote_it = put_same w.saved keeper keeper (Some s.store) refl;
              log = s.log;
              safe = front_is guest w.sent d.files.log [] all.frames s.store s.log all.splits stuck_nothing;
              begins = begins_itself d.files.log;
              fence_is = s.fence_is;
              keeper = (all, refl);
              hand = s.hand;
            };
        only =
            record {
              terms = refl;
              sent = refl;
              released = refl;
              notes = refl;
              marks = refl;
              others = λ k other.
                  record { stores = refl; saved = put_other w.saved keeper k (Some s.store) other; fence = refl; given = λ u. refl; acked = λ u. refl };
              acked = λ u hart. omega arith;
              given = λ u le not. refl;
            };
        told = tt;
        silent = λ u hart none. refl;
      }

  -- what is on disk is the keeper's store
  on_disk : (st : StationView) → d.keeper ≡ Synced st → s.written ≡ st.store
  on_disk st synced =
      let k = knows (Synced st) synced in
      one_store guest w.sent d.files.log s.written st.store
      (front_of_whole guest w.sent d.files.log s.written (subst (λ (x : List ℕ). HasFrames guest w.sent x [] s.written) k.1 s.safe))
      (front_of_whole guest w.sent d.files.log st.store k.0)

  -- it rests behind a look at the fence
  looked : (st : StationView) (fence : ℕ) → d.keeper ≡ Synced st → Knows guest w.sent d.files.log d.files.safe (Rests (logged st fence))
  looked st fence synced =
      subst (λ (x : List ℕ). HasFrames guest w.sent x [] st.store) (sym (append-nil d.files.log)) (knows (Synced st) synced).0

  acknowledges : (st : StationView) (fence : ℕ) (p : Position) → d.keeper ≡ Synced st → d.files.fence ≤ fence →
      MayAcknowledge st.store (max 1 (max st.seen fence)) p →
      IsFollowed recorder guest quorum w keeper d (record d { keeper = Rests (logged st fence) }) (Says p)
  acknowledges st fence p synced seen may =
      let position : IsPosition s.written p = subst (λ (x : StoreView). IsPosition x p) (sym (on_disk st synced)) may.is in
      let above : w.fence keeper ≤ p.term = (let f = s.fence_is in let a = may.above in omega (arith, f, a, seen)) in
      record {
        world = acking w p.term keeper (count_at p.counts);
        events = Then Same (Acknowledge keeper s.written p s.wrote_it position above);
        stands = now (Rests (logged st fence)) d.hand (looked st fence synced) s.hand;
        only =
            record {
              terms = refl;
              sent = refl;
              released = refl;
              notes = refl;
              marks = refl;
              others = λ k other. record { stores = refl; saved = refl; fence = refl; given = λ u. refl; acked = λ u. acked_other u k other };
              acked = λ u hart. raised_keeps w.acked p.term keeper (count_at p.counts) u keeper hart;
              given = λ u le not. refl;
            };
        told = λ hart. raised_reaches w.acked p.term keeper (count_at p.counts) p.term keeper hart refl refl;
        silent = λ u hart none.
            ap (λ (r : ℕ → ℕ → ℕ). r keeper hart)
            (put_other w.acked p.term u (put (w.acked p.term) keeper (λ h. max (w.acked p.term keeper h) (count_at p.counts h))) (none p refl));
      }
    where
      acked_other : (u k : ℕ) → (keeper ≡ k → ⊥) → (acking w p.term keeper (count_at p.counts)).acked u k ≡ w.acked u k
      acked_other u k other =
          let high : ℕ → ℕ = λ hart. max (w.acked p.term keeper hart) (count_at p.counts hart) in
          let row : ℕ → ℕ → ℕ = put (w.acked p.term) keeper high in
          elim (same_or_not p.term u) [
            | inl same ↦
                ap (λ (r : ℕ → ℕ → ℕ). r k) (put_same w.acked p.term u row same) ∙ put_other (w.acked p.term) keeper k high other
                ∙ ap (λ n. w.acked n k) same
            | inr elsewhere ↦ ap (λ (r : ℕ → ℕ → ℕ). r k) (put_other w.acked p.term u row elsewhere)
          ]

  -- ---- a crash

  crashes : (left : List ℕ) → IsBeginning d.files.safe left → WereSent w.sent left →
      IsFollowed recorder guest quorum w keeper d (record d { files = after d.files (Crash left); keeper = Away }) Nothing
  crashes left begins were =
      let g =
      grows (held w keeper s.written) (Then Same (Restart keeper s.written s.wrote_it)) (held_only recorder guest quorum w keeper s.written) d.files.safe
      begins.0 s.written (put_same w.stores keeper keeper (Some s.written) refl) (front_of_whole guest w.sent d.files.safe s.written s.safe)
      (subst (WereSent w.sent) begins.1 were) in
      delivered (record d { files = after d.files (Crash left); keeper = Away }) g.store g.delivered
      (record {
        store = g.store;
        written = s.written;
        has_it = refl;
        wrote_it = s.wrote_it;
        log = subst (λ (x : List ℕ). HasFront guest w.sent x g.store) (sym begins.1) g.front;
        safe = s.safe;
        begins = begins;
        fence_is = s.fence_is;
        keeper = tt;
        hand = s.hand;
      })

  -- ---- fences, and logs that are handed over

  gives : (term : ℕ) → w.fence keeper ≤ term → (e : Disk) → IsSite guest w.sent (w.stores keeper) (w.saved keeper) term e →
      ((u : ℕ) → u ≤ d.files.fence → (d.hand ≡ HasFenced u → ⊥) → term ≡ u → ⊥) → (out : Out) → IsTold guest (fenced w keeper term s.store) keeper out →
      IsFollowed recorder guest quorum w keeper d e out
  gives term le e t apart out told =
      record {
        world = fenced w keeper term s.store;
        events = Then Same (Fence keeper term s.store s.has_it le);
        stands = subst (λ fence. IsSite guest w.sent (w.stores keeper) (w.saved keeper) fence e) (sym (put_same w.fence keeper keeper term refl)) t;
        only =
            record {
              terms = refl;
              sent = refl;
              released = refl;
              notes = refl;
              marks = refl;
              others = λ k other.
                  record {
                    stores = refl;
                    saved = refl;
                    fence = put_other w.fence keeper k term other;
                    given = λ u. given_other u k other;
                    acked = λ u. refl;
                  };
              acked = λ u hart. omega arith;
              given = λ u below not.
                  ap (λ (r : ℕ → Option StoreView). r keeper)
                  (put_other w.given term u (put (w.given term) keeper (Some s.store)) (apart u below not));
            };
        told = told;
        silent = λ u hart none. refl;
      }
    where
      given_other : (u k : ℕ) → (keeper ≡ k → ⊥) → (fenced w keeper term s.store).given u k ≡ w.given u k
      given_other u k other =
          let row : ℕ → Option StoreView = put (w.given term) keeper (Some s.store) in
          elim (same_or_not term u) [
            | inl here ↦
                ap (λ (r : ℕ → Option StoreView). r k) (put_same w.given term u row here)
                ∙ put_other (w.given term) keeper k (Some s.store) other ∙ ap (λ n. w.given n k) here
            | inr elsewhere ↦ ap (λ (r : ℕ → Option StoreView). r k) (put_other w.given term u row elsewhere)
          ]

  fences : (last term : ℕ) → d.hand ≡ Saw last → last < term →
      IsFollowed recorder guest quorum w keeper d (record d { files = after d.files (Did (WasFenced term)); hand = HasFenced term }) Nothing
  fences last term saw less =
      let seen : d.files.fence ≤ last = knows_fence (Saw last) saw in
      gives term (let f = s.fence_is in omega (arith, f, seen, less)) (record d { files = after d.files (Did (WasFenced term)); hand = HasFenced term })
      (record {
        store = s.store;
        written = s.written;
        has_it = s.has_it;
        wrote_it = s.wrote_it;
        log = s.log;
        safe = s.safe;
        begins = s.begins;
        fence_is = omega (arith, seen, less);
        keeper = s.keeper;
        hand = (omega (arith, seen, less), omega (arith, less));
      })
      (λ u below not e. omega (arith, seen, less, below, e)) Nothing tt

  hands_over : (term : ℕ) (bytes rest : List ℕ) (frames : List Frame) → d.hand ≡ HasFenced term → d.files.log ≡ bytes ++ rest → Splits bytes frames [] →
      IsPartial rest → IsFollowed recorder guest quorum w keeper d (record d { hand = Nobody }) (Hands term bytes)
  hands_over term bytes rest frames has log splits partial =
      let k = knows_fence (HasFenced term) has in
      let h : HasFrames guest w.sent d.files.log rest s.store =
      front_is guest w.sent d.files.log rest frames s.store s.log
      (subst (λ (x : List ℕ). Splits x frames rest) (sym log) (splits_more bytes [] rest frames splits)) (inl partial) in
      gives term (let f = s.fence_is in omega (arith, f, k.0, k.1)) (record d { hand = Nobody })
      (record {
        store = s.store;
        written = s.written;
        has_it = s.has_it;
        wrote_it = s.wrote_it;
        log = s.log;
        safe = s.safe;
        begins = s.begins;
        fence_is = omega (arith, k.0, k.1);
        keeper = s.keeper;
        hand = tt;
      })
      (λ u below not e. not (has ∙ ap HasFenced e)) (Hands term bytes) (
        s.store,
        ap (λ (row : ℕ → Option StoreView). row keeper) (put_same w.given term term (put (w.given term) keeper (Some s.store)) refl)
            ∙ put_same (w.given term) keeper keeper (Some s.store) refl,
        record { frames = frames; splits = splits; each = h.each; join = h.join },
      )

  -- ---- all of it

  keeps : (phase : Phase) (act : Act) (next : Phase) (out : Out) → d.keeper ≡ phase → Keeps guest d.files phase act next out →
      IsFollowed recorder guest quorum w keeper d (record d { files = after d.files (Did act); keeper = next }) out
  keeps phase act next out is Reads = in_phase (HasRead d.files.log) refl
  keeps phase act next out is (Begins log frames size st front on of_guest fresh) = begins log frames size st is front on of_guest fresh
  keeps phase act next out is (Adds st front rest parts) =
      adds st front rest (subst (λ (x : List ℕ). HasFrames guest w.sent (d.files.log ++ x) [] st.store) parts (knows (Rests st) is))
  keeps phase act next out is (AddsMore st front rest) = adds st front rest (knows (Adding st (front ++ rest)) is)
  keeps phase act next out is (Syncs st) = syncs st is
  keeps phase act next out is (Looks st fence seen) = in_phase (Rests (logged st fence)) (looked st fence is)
  keeps phase act next out is (Acknowledges st fence p seen may) = acknowledges st fence p is seen may

  hand_does : (hand : Hand) (act : Act) (next : Hand) (out : Out) → d.hand ≡ hand → Gives d.files hand act next out →
      IsFollowed recorder guest quorum w keeper d (record d { files = after d.files (Did act); hand = next }) out
  hand_does hand act next out is (Sees fence seen) = in_hand (Saw fence) seen
  hand_does hand act next out is (Fences last term less) = fences last term is less
  hand_does hand act next out is (HandsOver term bytes rest frames log splits partial) = hands_over term bytes rest frames is log splits partial

pub disks_go : {Book Fact : Type 0} (recorder : Recorder Book Fact) (guest : GuestParts) (quorum : Quorum) → DisksGo recorder guest quorum
disks_go recorder guest quorum w k d e out s (KeeperDoes act next told does) = keeps recorder guest quorum w k d s d.keeper act next told refl does
disks_go recorder guest quorum w k d e out s (HandDoes act next told does) = hand_does recorder guest quorum w k d s d.hand act next told refl does
disks_go recorder guest quorum w k d e out s (Takes st f store rests has rules joined) = takes recorder guest quorum w k d s st f store rests has rules joined
disks_go recorder guest quorum w k d e out s KeeperEnds = in_phase recorder guest quorum w k d s Away tt
disks_go recorder guest quorum w k d e out s HandEnds = in_hand recorder guest quorum w k d s Nobody tt
disks_go recorder guest quorum w k d e out s (Crashes left begins were) = crashes recorder guest quorum w k d s left begins were
