-- A keeper's number goes to a new log, and the world stays tied.
use Rattle.std.proofs.Common.{◌≡◌, ℕ, ◌<◌, ◌≤◌, List, [], Contains, Some, refl, sym, ap, subst, ◌∙◌, arith, le_trans}
use Rattle.interleaving.specs.Lists.{put}
use Rattle.interleaving.proofs.Put.{put_same, put_other}
use Rattle.guest_image.specs.Image.{guest_of}
use Rattle.fragment_codec.specs.declared.frame.Frame.{Frame}
use Rattle.fenced_theory.specs.Worlds as theory
use Rattle.fenced_theory.proofs.Growing.{some_same}
use Rattle.fenced_live.specs.declared.given.Given.{Given}
use Rattle.keeper_disks.specs.Disks.{Disk, HasFenced}
use Rattle.keeper_disks.specs.Standing.{HasFrames, StandsOn, OnlyKeeper}
use Rattle.keeper_disks.proofs.Frames.{begins_itself}
use Rattle.keeper_disks.proofs.Has.{front_of_whole}
use Rattle.wire.specs.declared.acknowledgements.Acknowledgement.{Acknowledgement}
use Rattle.process_world.specs.Worlds.{Handed, ProcessWorld}
use Rattle.process_world.specs.Happenings.{HasAllHanded, made_with}
use Rattle.process_world.specs.machinery.Tied.{IsTied}
use Rattle.process_world.proofs.Lists.{none_in}
use Rattle.process_world.proofs.Seats.{Theory}
use Rattle.process_world.proofs.Disks.{IsGivenOnce, with_lists}
use Rattle.process_world.proofs.Giving.{gave, enough, all_given}

module _ (w : ProcessWorld) (is : IsTied w) (keeper term : ℕ) (d : Disk) (given : List Given) (bytes : List ℕ) (at : w.disks keeper ≡ Some d)
    (under : d.files.fence ≤ term) (granted : 0 < term) (before : (a : Acknowledgement) → Contains w.said a → a.keeper ≡ keeper → a.term < term)
    (all : HasAllHanded w term given bytes) where
  -- the theory's world behind that
  abbrev renewed : Theory w is
  renewed = theory.replaced is.world keeper term all.store

  -- the old log's fence is not above the term
  fence_under : is.world.fence keeper ≤ term
  fence_under = let f = (is.standing keeper d at).fence_is in omega (arith, f, under, granted)

  -- it acknowledged nothing in the term or behind it
  silent_behind : (u hart : ℕ) → term ≤ u → is.world.acked u keeper hart ≡ 0
  silent_behind u hart le = is.only_said u keeper hart (λ a has of_term own. let less : a.term < term = before a has own in absurd (omega arith))

  -- the new one is whole frames that were sent
  has_frames : HasFrames (guest_of w.image) is.world.sent bytes [] all.store
  has_frames =
      record {
        frames = all.frames;
        splits = all.splits;
        each = λ f has. subst (λ (fs : List Frame). Contains fs f) (sym is.sent) (all.sent f has);
        join = all.join;
      }

  -- and the keeper's disk
  stands_new : StandsOn (guest_of w.image) renewed keeper (made_with bytes term)
  stands_new =
      record {
        store = all.store;
        written = all.store;
        has_it = put_same is.world.stores keeper keeper (Some all.store) refl;
        wrote_it = put_same is.world.saved keeper keeper (Some all.store) refl;
        log = front_of_whole (guest_of w.image) is.world.sent bytes all.store has_frames;
        safe = has_frames;
        begins = begins_itself bytes;
        fence_is = put_same is.world.fence keeper keeper term refl ∙ omega (arith, granted);
        keeper = tt;
        hand = tt;
      }

  -- nothing but what there is of this keeper is another
  only_new : OnlyKeeper is.world renewed keeper d
  only_new =
      record {
        terms = refl;
        sent = refl;
        released = refl;
        notes = refl;
        marks = refl;
        others = λ k other. record {
          stores = put_other is.world.stores keeper k (Some all.store) other;
          saved = put_other is.world.saved keeper k (Some all.store) other;
          fence = put_other is.world.fence keeper k term other;
          given = λ u. refl;
          acked = λ u. refl;
        };
        acked = λ u hart. omega arith;
        given = λ u le not. refl;
      }

  -- what the old log handed over was given, and is given once
  once_new : (h : Handed) → Contains w.handed h → keeper ≡ h.keeper → IsGivenOnce w is keeper d (Some (made_with bytes term)) renewed only_new h
  once_new h has own =
      let (le, not) = (is.handed h has).once d (ap w.disks (sym own) ∙ at) in (
        refl,
        λ b same.
            subst (λ (b : Disk). (h.term ≤ b.files.fence) × (b.hand ≡ HasFenced h.term → ⊥)) (some_same refl same) (le_trans le under, λ this. absurd cc),
      )

  pub renews : IsTied (record w { disks = put w.disks keeper (Some (made_with bytes term)) })
  renews =
      with_lists w is keeper d (Some (made_with bytes term)) renewed only_new
      (
      theory.Then is.comes
      (theory.Replace keeper term (gave given) all.store (all_given w is term given all.handed all.store all.joined) (enough w.keepers w.need given all.enough)
      fence_under silent_behind)
      )
      (λ b same. subst (StandsOn (guest_of w.image) renewed keeper) (some_same refl same) stands_new) once_new [] [] (λ a has. none_in [] a refl has)
      (λ u hart none. refl) (λ h has. none_in [] h refl has)
