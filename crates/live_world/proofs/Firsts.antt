-- The first world, and that no event makes it one of another image or of other keepers.
use Rattle.std.proofs.Common.{◌≡◌, ℕ, zero, suc, ◌<◌, ◌≤◌, [], Contains, length, replicate, Option, None, Some, refl, sym, ap, subst, ◌∙◌, arith}
use Rattle.ft_types.specs.declared.quorum.Quorum.{Quorum}
use Rattle.guest_image.specs.Image.{ImageContents}
use Rattle.keeper_disks.specs.Disks.{Nothing, Says, Hands}
use Rattle.keeper_disks.specs.Standing.{nothing_there}
use Rattle.process_world.specs.Worlds.{Begins, ProcessWorld}
use Rattle.process_world.specs.Happenings.{Happens, AtKeeper, Comes, First, Then as ComesThen}
use Rattle.process_world.specs.Promises.{KeepsPromises}
use Rattle.process_world.proofs.All.{processes}
use Rattle.live_world.specs.declared.site.Site.{Site}
use Rattle.live_world.specs.Sites.{IsAtRest, disk_at, empty_site, site_at}
use Rattle.live_world.specs.Views.{Follows, GoesTo, IsWorldOf, LiveView, Same, Then as FollowsThen, first_world}
use Rattle.live_world.proofs.Following.{comes_on}

-- ---- the first world

-- each of so many machines is there, with nothing on disk, and no other is
first_there : (keepers k : ℕ) → k < keepers → disk_at (replicate keepers (Some empty_site)) k ≡ Some nothing_there
first_there zero k less = absurd (omega arith)
first_there (suc keepers) zero less = refl
first_there (suc keepers) (suc k) less = first_there keepers k (omega arith)

first_others : (keepers k : ℕ) → keepers ≤ k → disk_at (replicate keepers (Some empty_site)) k ≡ None
first_others zero k less = refl
first_others (suc keepers) zero less = absurd (omega arith)
first_others (suc keepers) (suc k) less = first_others keepers k (omega arith)

-- each stands still, whichever keeper's it is
first_rests : (keepers k keeper : ℕ) (s : Site) → site_at (replicate keepers (Some empty_site)) k ≡ Some s → IsAtRest keeper s
first_rests zero k keeper s there = absurd cc
first_rests (suc keepers) zero keeper s there =
    let same : empty_site ≡ s = cc in subst (IsAtRest keeper) same (record { handed = refl; lives = refl; own = λ st runs. absurd cc })
first_rests (suc keepers) (suc k) keeper s there = first_rests keepers k keeper s there

module _ (image : ImageContents) (quorum : Quorum) where
  abbrev first : ProcessWorld
  first = record {
    image = image;
    keepers = quorum.keepers;
    need = quorum.need;
    disks = disk_at (replicate quorum.keepers (Some empty_site));
    frames = [];
    said = [];
    handed = [];
    led = [];
    told = [];
    clients = [];
    asked = [];
  }

  first_begins : Begins image quorum.keepers quorum.need first
  first_begins = record {
    of_image = refl;
    of_keepers = refl;
    of_need = refl;
    there = first_there quorum.keepers;
    others = first_others quorum.keepers;
    no_frames = refl;
    none_said = refl;
    none_handed = refl;
    none_led = refl;
    none_told = refl;
    no_clients = refl;
    none_asked = refl;
  }

  first_is : IsWorldOf (first_world image quorum) first
  first_is = record {
    image = refl;
    keepers = refl;
    need = refl;
    disks = λ k. refl;
    at_rest = λ k. first_rests quorum.keepers k k;
    frames = λ f has. has;
    said = λ a. (λ has. has, λ has. has);
    handed = λ h has. absurd (omega (arith, has.1));
    led = tt;
    told = λ a. (λ has. has, λ has. has);
    clients = refl;
    asked = λ r. (λ has. has, λ has. has);
  }

  -- there is a world of processes of the first one
  pub first_comes : (p : ProcessWorld) × Comes image quorum.keepers quorum.need p × IsWorldOf (first_world image quorum) p
  first_comes = (first, First first first_begins, first_is)

-- ---- what stays

-- its image, its keepers, and how many of them hold whatever goes out
abbrev IsOfSame : ProcessWorld → ProcessWorld → Type 0
IsOfSame w x = (x.image ≡ w.image) × (x.keepers ≡ w.keepers) × (x.need ≡ w.need)

same_happens : {w x : ProcessWorld} → Happens w x → IsOfSame w x
same_happens (AtKeeper keeper d e Nothing at goes) = (refl, refl, refl)
same_happens (AtKeeper keeper d e (Says p) at goes) = (refl, refl, refl)
same_happens (AtKeeper keeper d e (Hands term bytes) at goes) = (refl, refl, refl)
same_happens other = (refl, refl, refl)

same_follows : {w x : ProcessWorld} → Follows w x → IsOfSame w x
same_follows Same = (refl, refl, refl)
same_follows (FollowsThen f h) =
    let (image, keepers, need) = same_follows f in
    let (next_image, next_keepers, next_need) = same_happens h in (next_image ∙ image, next_keepers ∙ keepers, next_need ∙ need)

-- a world of processes that comes of what it was, behind what may have happened
pub goes_on : (v u : LiveView) → GoesTo v u → (p : ProcessWorld) × Comes v.image v.quorum.keepers v.quorum.need p × IsWorldOf v p →
    (p : ProcessWorld) × Comes u.image u.quorum.keepers u.quorum.need p × IsWorldOf u p
goes_on v u goes (p, comes, is) =
    let (x, follows, is_x) = goes p comes is in
    let (image, keepers, need) = same_follows follows in
    let same_image : v.image ≡ u.image = sym is.image ∙ sym image ∙ is_x.image in
    let same_keepers : v.quorum.keepers ≡ u.quorum.keepers = sym is.keepers ∙ sym keepers ∙ is_x.keepers in
    let same_need : v.quorum.need ≡ u.quorum.need = sym is.need ∙ sym need ∙ is_x.need in
    let now : Comes v.image v.quorum.keepers v.quorum.need x = comes_on comes follows in (
      x,
      subst (λ (image : ImageContents). Comes image u.quorum.keepers u.quorum.need x) same_image
          (subst (λ (keepers : ℕ). Comes v.image keepers u.quorum.need x) same_keepers (subst (λ (need : ℕ). Comes v.image v.quorum.keepers need x) same_need now)),
      is_x,
    )

-- and the promises that such a world keeps
pub keeps_promises : (v : LiveView) → (p : ProcessWorld) × Comes v.image v.quorum.keepers v.quorum.need p × IsWorldOf v p →
    (p : ProcessWorld) × Comes v.image v.quorum.keepers v.quorum.need p × IsWorldOf v p × KeepsPromises p
keeps_promises v (p, comes, is) = (p, comes, is, processes v.image v.quorum.keepers v.quorum.need p comes)
