-- Texts that are written piece by piece.
use Rattle.std.proofs.Common.{◌≡◌, ℕ, ◌+◌, ◌<◌, List, ◌∷◌, ◌++◌, length, get_or, drop, Option, Result, Err, refl, ap, sym, subst, ◌∙◌, inl, inr}
use Rattle.std.proofs.Common.{◌⊎◌, append_assoc, add-one, drop-cons}
use Rattle.std.specs.List.{flat_map}
use Rattle.ft_types.specs.Guests.{GuestParts}
use Rattle.log_join.specs.Stores.{StoreView}
use Rattle.guest_image.specs.Image.{ImageContents, guest_of}
use Rattle.guest_image.proofs.TextFacts.{Wrote, Stopped, WritesTo, LeftOf, then_writes, then_stops, goes_on, stops}
use Rattle.log_streams.specs.declared.faults.StreamsFault.{StreamsFault}
use Rattle.log_streams.specs.declared.faults.StreamsFault.TheVariants.{Read, Frame, Guest, Replay, Write, Memory}
use Rattle.log_streams.specs.Streams.{OfStreams, AreJoined}
use Rattle.log_streams.specs.Faults.{IsFirstFault}
use Rattle.log_streams.specs.Writing.{WritesOne}
use Rattle.log_streams.specs.Stores.{IsCutCause}
use Rattle.log_streams.proofs.FirstFault.{no_write}
use Rattle.log_streams.proofs.Lifted.{streams_to}

-- the text of an element comes first of those from it on
at_place : {A : Type 0} (t : A → List ℕ) (xs : List A) (i : ℕ) (x d : A) → x ≡ get_or xs i d → i < length xs →
    flat_map t (drop i xs) ≡ t x ++ flat_map t (drop (i + 1) xs)
at_place {A = A} t xs i x d is h =
    let first : drop i xs ≡ get_or xs i d ∷ drop (i + 1) xs = rw add-one (drop-cons xs i d h) in
    ap (λ (ys : List A). flat_map t ys) first ∙ ap (λ (y : A). t y ++ flat_map t (drop (i + 1) xs)) (sym is)

module _ {Writer : Type 0} (bytes : Writer → Option (List ℕ)) (failures : Writer → ℕ) where
  -- a loop's turn that wrote an element's text
  pub each_goes_on : {A : Type 0} (t : A → List ℕ) (xs : List A) (i : ℕ) (x d : A) (old now new : Writer) → x ≡ get_or xs i d → i < length xs →
      LeftOf bytes failures old now (flat_map t xs) (flat_map t (drop i xs)) → Wrote bytes failures now new (t x) →
      LeftOf bytes failures old new (flat_map t xs) (flat_map t (drop (i + 1) xs))
  each_goes_on t xs i x d old now new is h p q =
      goes_on bytes failures old now new (flat_map t xs) (flat_map t (drop i xs)) (t x) (flat_map t (drop (i + 1) xs)) (at_place t xs i x d is h) p q

  -- a loop's turn that failed at it
  pub each_stops : {A B E : Type 0} (t : A → List ℕ) (xs : List A) (i : ℕ) (x d : A) (r : Result B E) (e : E) (old now new : Writer) → r ≡ Err e →
      x ≡ get_or xs i d → i < length xs → LeftOf bytes failures old now (flat_map t xs) (flat_map t (drop i xs)) →
      Stopped bytes failures now new (t x) → WritesTo bytes failures r old new (flat_map t xs)
  each_stops t xs i x d r e old now new failed is h p q =
      stops bytes failures r e old now new (flat_map t xs) (flat_map t (drop i xs)) (t x) (flat_map t (drop (i + 1) xs)) failed (at_place t xs i x d is h) p q

  -- three texts, one behind the other
  pub first_stops : {A E : Type 0} (r : Result A E) (e : E) (a b : Writer) (x y z : List ℕ) → r ≡ Err e → Stopped bytes failures a b x →
      WritesTo bytes failures r a b (x ++ y ++ z)
  first_stops r e a b x y z is p =
      subst (λ (t : List ℕ). WritesTo bytes failures r a b t) (sym (append_assoc x y z)) (then_stops bytes failures r e a b x (y ++ z) is p)

  pub second_stops : {A E : Type 0} (r : Result A E) (e : E) (a b c : Writer) (x y z : List ℕ) → r ≡ Err e → Wrote bytes failures a b x →
      Stopped bytes failures b c y → WritesTo bytes failures r a c (x ++ y ++ z)
  second_stops r e a b c x y z is p q =
      subst (λ (t : List ℕ). WritesTo bytes failures r a c t) (sym (append_assoc x y z))
      (then_writes bytes failures r a b c x (y ++ z) p (then_stops bytes failures r e b c y z is q))

  pub third_writes : {A E : Type 0} (r : Result A E) (a b c d : Writer) (x y z : List ℕ) → Wrote bytes failures a b x → Wrote bytes failures b c y →
      WritesTo bytes failures r c d z → WritesTo bytes failures r a d (x ++ y ++ z)
  third_writes r a b c d x y z p q s =
      subst (λ (t : List ℕ). WritesTo bytes failures r a d t) (sym (append_assoc x y z))
      (then_writes bytes failures r a b d x (y ++ z) p (then_writes bytes failures r b c d y z q s))

-- what was written of one thing is written of another
writes_other : {A E : Type 0} (write : E) (P Q : List ℕ → Type 0) (r : Result A E) (old new : Option (List ℕ)) (f g : ℕ) →
    ((text : List ℕ) → P text → Q text) → WritesOne write P r old new f g → WritesOne write Q r old new f g
writes_other write P Q r old new f g to (inl h) = inl (h.0, to h.0 h.1, h.2, h.3)
writes_other write P Q r old new f g to (inr h) = inr h

-- what is written of a joined store is the streams' text
pub joined_writes : {A E : Type 0} (write : E) (image : ImageContents) (guest : GuestParts) (lefts : List (Option (List ℕ))) (store : StoreView)
    (P : List ℕ → Type 0) (Q : List (List ℕ) → List ℕ → Type 0) (r : Result A E) (old new : Option (List ℕ)) (f g : ℕ) → guest ≡ guest_of image →
    OfStreams lefts (λ streams. AreJoined guest streams store) →
    ((streams : List (List ℕ)) (text : List ℕ) → AreJoined (guest_of image) streams store → P text → Q streams text) → WritesOne write P r old new f g →
    OfStreams lefts (λ streams. WritesOne write (Q streams) r old new f g)
joined_writes write image guest lefts store P Q r old new f g is h to w =
    streams_to (λ streams. AreJoined guest streams store) (λ streams. WritesOne write (Q streams) r old new f g) lefts
    (λ streams j. writes_other write P (Q streams) r old new f g
    (λ text p. to streams text (subst (λ (x : GuestParts). AreJoined x streams store) is j) p) w) h

-- where the streams have a fault, however it is told, nothing is written
pub fault_writes : {E : Type 0} (A : Type 0) (tell : StreamsFault → E) (guest : GuestParts) (lefts : List (Option (List ℕ))) (Q : List (List ℕ) → List ℕ → Type 0)
    (fault : StreamsFault) (old : Option (List ℕ)) (f : ℕ) → (tell fault ≡ tell Write → fault ≡ Write) →
    OfStreams lefts (λ streams. IsFirstFault 0 guest streams fault) →
    OfStreams lefts (λ streams. WritesOne {A = A} (tell Write) (Q streams) (Err (tell fault)) old old f f)
fault_writes A tell guest lefts Q fault old f one h =
    streams_to (λ streams. IsFirstFault 0 guest streams fault) (λ streams. WritesOne {A = A} (tell Write) (Q streams) (Err (tell fault)) old old f f) lefts
    (λ streams first. inr (
      λ is. no_write 0 guest streams (subst (λ (x : StreamsFault). IsFirstFault 0 guest streams x) (one is) first),
      refl,
      refl,
    )) h

-- ---- why a position is not told

pub first_cause : (image : ImageContents) (streams : List (List ℕ)) (fault : StreamsFault) → IsFirstFault 0 (guest_of image) streams fault →
    IsCutCause image streams fault
first_cause image streams (Frame i g) h = h
first_cause image streams (Guest i) h = h
first_cause image streams (Read i) h = h
first_cause image streams (Replay x) h = h
first_cause image streams Memory h = tt
first_cause image streams Write h = tt

pub own_cause : (image : ImageContents) (streams : List (List ℕ)) (fault : StreamsFault) → (fault ≡ Write) ⊎ (fault ≡ Memory) → IsCutCause image streams fault
own_cause image streams fault h = elim h [
  | inl is ↦ subst (λ (x : StreamsFault). IsCutCause image streams x) (sym is) tt
  | inr is ↦ subst (λ (x : StreamsFault). IsCutCause image streams x) (sym is) tt
]
