-- Frames that a store takes, one after the other.
use Rattle.std.proofs.Common.{◌≡◌, List, [], ◌∷◌, ◌++◌, ◌∙◌, ap, inl, inr, ⊎_elim, refl, subst, sym}
use Rattle.fragment_codec.specs.declared.frame.Frame.{Frame}
use Rattle.log_join.specs.Stores.{StoreView, IsJoin, alone}
use Rattle.log_join.specs.Answers.{answer_to}
use Rattle.log_join.specs.declared.answers.Put.{Put}
use Rattle.log_join.specs.declared.answers.Put.TheVariants.{New, Same, Clash, OtherGuest}
use Rattle.pair.specs.Keeping.{IsTaken, AreTaken}

-- what a put does
pub put_taken : (old : StoreView) (frame : Frame) (p : Put) (new : StoreView) → p ≡ answer_to old frame →
    ((p ≡ OtherGuest → ⊥) → IsJoin old (alone frame) new) → (p ≡ OtherGuest → new ≡ old) → IsTaken old frame new
put_taken old frame New new is join kept = inl (join (λ e. cc e))
put_taken old frame Same new is join kept = inl (join (λ e. cc e))
put_taken old frame Clash new is join kept = inl (join (λ e. cc e))
put_taken old frame OtherGuest new is join kept = inr (sym is, kept refl)

-- one frame more
pub taken_more : (old between new : StoreView) (frames : List Frame) (frame : Frame) → AreTaken old frames between → IsTaken between frame new →
    AreTaken old (frames ++ frame ∷ []) new
taken_more old between new [] frame t last = (new, subst (λ (s : StoreView). IsTaken s frame new) t last, refl)
taken_more old between new (f ∷ fs) frame t last = (t.0, t.1, taken_more t.0 between new fs frame t.2 last)

-- a store that takes a frame stays of its guest
pub taken_guest : (old : StoreView) (frame : Frame) (new : StoreView) → IsTaken old frame new → new.guest ≡ old.guest
taken_guest old frame new t = ⊎_elim (λ (j : IsJoin old (alone frame) new). j.guest)
    (λ (k : (answer_to old frame ≡ OtherGuest) × (new ≡ old)). ap (λ (s : StoreView). s.guest) k.1) t

-- and so does one that takes many
pub all_taken_guest : (old new : StoreView) (frames : List Frame) → AreTaken old frames new → new.guest ≡ old.guest
all_taken_guest old new [] t = ap (λ (s : StoreView). s.guest) t
all_taken_guest old new (f ∷ fs) t = all_taken_guest t.0 new fs t.2 ∙ taken_guest old f t.0 t.1
