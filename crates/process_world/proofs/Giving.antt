-- What was handed over to a term was given to it: a join of it is of the world's terms and has what each keeper gave, and there are enough of them.
use Rattle.std.proofs.Common.{◌≡◌, inl, inr, ℕ, zero, suc, ◌+◌, ◌<◌, ◌==◌, ◌||◌, Bool, true, false, cond, List, [], ◌∷◌, map, Contains, slice_index_or}
use Rattle.std.proofs.Common.{if◌then◌else◌}
use Rattle.std.proofs.Common.{Some, refl, sym, ap, subst, ◌∙◌, arith}
use Rattle.std.specs.Prelude.{All}
use Rattle.std.specs.List.{list_any}
use Rattle.std.proofs.lemmas.Bool.Decides.{eqb_tells}
use Rattle.std.proofs.lemmas.List.Elements.{All-nil, All-cons, All-head, All-tail, All-map, All-contains, Contains-append_right}
use Rattle.interleaving.proofs.Cuts.{here}
use Rattle.ft_types.specs.Guests.{GuestParts}
use Rattle.guest_image.specs.Image.{guest_of}
use Rattle.fragment_codec.specs.declared.frame.Frame.{Frame}
use Rattle.fragment_codec.specs.Streams.{Splits}
use Rattle.log_join.specs.Coming.{IsJoinOf}
use Rattle.log_join.specs.Families.{HonestStore, Below}
use Rattle.log_join.specs.Stores.{StoreView, nothing}
use Rattle.log_join.proofs.Families.{honest_nothing}
use Rattle.fenced_theory.specs.Lists.{how_many}
use Rattle.fenced_theory.specs.Worlds.{HasGiven}
use Rattle.fenced_theory.proofs.Events.{always}
use Rattle.fenced_live.specs.declared.given.Given.{Given}
use Rattle.keeper_disks.specs.Standing.{HasFrames}
use Rattle.keeper_disks.proofs.Comings.{come_same}
use Rattle.keeper_disks.proofs.Frames.{whole_one}
use Rattle.go_live.specs.Histories.{AreOfHistory}
use Rattle.go_live.specs.Joined.{AreJoined}
use Rattle.go_live.specs.Quorums.{distinct_below, AreEnough}
use Rattle.go_live.proofs.Joins.{joined_guest}
use Rattle.leading.specs.Beginning.{stores_in, givers_in}
use Rattle.failover_world.specs.machinery.Tied.{history}
use Rattle.failover_world.proofs.Chosen.{joined_has, honest_retold}
use Rattle.process_world.specs.Worlds.{ProcessWorld}
use Rattle.process_world.specs.Happenings.{WasHanded}
use Rattle.process_world.specs.machinery.Tied.{quorum_of, IsTied}
use Rattle.process_world.proofs.Seats.{tell, told}

-- ---- who gave

-- whether the keeper is among those who gave
abbrev pub gave : List Given → ℕ → Bool
gave given keeper = list_any (λ n. n == keeper) (givers_in given)

-- what it gave
gift_of : (given : List Given) (keeper : ℕ) → gave given keeper ≡ true → (g : Given) × Contains given g × (g.keeper ≡ keeper)
gift_of [] keeper is = cc
gift_of (g ∷ given) keeper is =
    elim (eqb_tells g.keeper keeper) [
      | inl (this, same) ↦ (g, here g given, same)
      | inr (this, other) ↦
          let (h, has, own) = gift_of given keeper (sym (ap (λ (b : Bool). b || gave given keeper) this) ∙ is) in
          (h, Contains-append_right (g ∷ []) given h has, own)
    ]

-- as many are chosen as there are numbers in the list
counted : (n : ℕ) (numbers : List ℕ) → distinct_below n numbers ≡ how_many n (λ k. list_any (λ m. m == k) numbers)
counted zero numbers = refl
counted (suc n) numbers = of (list_any (λ m. m == n) numbers) (counted n numbers)
  where
    of : (b : Bool) → distinct_below n numbers ≡ how_many n (λ k. list_any (λ m. m == k) numbers) →
        (if b then distinct_below n numbers + 1 else distinct_below n numbers) ≡ cond b 1 0 + how_many n (λ k. list_any (λ m. m == k) numbers)
    of true same = omega (arith, same)
    of false same = omega (arith, same)

-- so with any `need` keepers they are more than there are
pub enough : (keepers need : ℕ) (given : List Given) → AreEnough keepers need (givers_in given) → keepers < need + how_many keepers (gave given)
enough keepers need given are = let same = counted keepers (givers_in given) in omega (arith, are, same)

-- what holds of what is told of each holds of each
told_all : {A B : Type 0} (f : A → B) (Q : B → Type 0) (xs : List A) → All Q (map f xs) → All (λ x. Q (f x)) xs
told_all f Q [] all = All-nil (λ x. Q (f x))
told_all f Q (x ∷ xs) all = All-cons (λ x. Q (f x)) x xs (All-head Q (f x) (map f xs) all) (told_all f Q xs (All-tail Q (f x) (map f xs) all))

-- ---- what they gave

-- the store of whole frames is the join of whatever frames the bytes are
pub one_join : (guest : GuestParts) (sent : List Frame) (bytes : List ℕ) (s t : StoreView) (frames : List Frame) → HasFrames guest sent bytes [] s →
    Splits bytes frames [] → IsJoinOf guest frames t → s ≡ t
one_join guest sent bytes s t frames has splits join =
    come_same (nothing guest) (nothing guest) frames s t refl
    (subst (λ (fs : List Frame). IsJoinOf guest fs s) (whole_one bytes has.frames frames has.splits splits) has.join) join

module _ (w : ProcessWorld) (is : IsTied w) (term : ℕ) (given : List Given) (handed : All (WasHanded w term) given) where
  -- what was handed over is what the keeper gave
  was_given : (g : Given) → WasHanded w term g → is.world.given term g.keeper ≡ Some g.store.now
  was_given g was =
      let h = is.handed (record { keeper = g.keeper; term = term; bytes = was.bytes }) was.there in
      h.given ∙ ap Some (one_join (guest_of w.image) is.world.sent was.bytes h.store g.store.now was.frames h.frames was.splits was.join)

  -- which is of the world's terms
  is_honest : (g : Given) → WasHanded w term g → HonestStore is.world.terms g.store.now
  is_honest g was =
      ((always is.is_recorder.recorder (guest_of w.image) (quorum_of w) is.comes).given term g.keeper g.store.now (was_given g was)).honest

  -- as all of it is
  all_honest : All (HonestStore is.world.terms) (stores_in given)
  all_honest = All-map (HonestStore is.world.terms) (λ g. g.store.now) given (λ k d less. is_honest (slice_index_or given k d) (handed k d less))

  -- and so of the history that the books tell
  pub honest : AreOfHistory w.image (history is.terms) (stores_in given)
  honest =
      record {
        is_history = is.is_history;
        each = λ k d less.
            honest_retold (told w is) (tell w is) is.terms (slice_index_or (stores_in given) k d)
            (subst (λ terms. HonestStore terms (slice_index_or (stores_in given) k d)) is.terms_are (all_honest k d less));
      }

  -- the join has what each of them gave
  pub all_given : (all : StoreView) → AreJoined (guest_of w.image) (stores_in given) all →
      HasGiven (guest_of w.image) is.world.terms (is.world.given term) (gave given) w.keepers all
  all_given all joined =
      let has =
      joined_has is.world.terms (nothing (guest_of w.image)) (stores_in given) all (honest_nothing is.world.terms (guest_of w.image)) all_honest joined in
      record {
        of_guest = joined_guest (nothing (guest_of w.image)) (stores_in given) all joined;
        honest = has.honest;
        has = λ keeper below chosen.
            let (g, within, own) = gift_of given keeper chosen in (
              g.store.now,
              sym (ap (is.world.given term) own) ∙ was_given g (All-contains (WasHanded w term) given g handed within),
              All-contains (λ (g : Given). Below g.store.now all) given g (told_all (λ (g : Given). g.store.now) (λ s. Below s all) given has.each) within,
            );
      }
