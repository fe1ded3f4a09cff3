-- What the answer of a store says of a frame's guest.
use Rattle.std.proofs.Common.{◌≡◌, Bool, true, false, refl, sym, ◌∙◌}
use Rattle.std.specs.Prelude.{if◌then◌else◌}
use Rattle.fragment_codec.specs.declared.frame.Frame.{Frame}
use Rattle.fragment_codec.specs.declared.frame.Frame.TheVariants.{Log, Opening}
use Rattle.log_join.specs.Cells.{Cell, Absent, One, Clash}
use Rattle.log_join.specs.declared.answers.Put.{Put}
use Rattle.log_join.specs.declared.answers.Put.TheVariants.{Same, Clash as Clashes, OtherGuest}
use Rattle.log_join.specs.Stores.{StoreView, opening_at, fragment_at}
use Rattle.log_join.specs.Answers.{answer, answer_to}
use Rattle.frame_content.specs.Tests.{same_guest, same_opening, same_fragment}
use Rattle.log_join.proofs.Told.{guests_told}
use Rattle.log_streams.specs.Streams.{IsOf}

-- a content is never answered by OtherGuest
never_other : {X : Type 0} (same : X → X → Bool) (c : Cell X) (x : X) → answer same c x ≡ OtherGuest → ⊥
never_other same Absent x e = cc
never_other same (One y) x e = of (same y x) e
  where
    of : (b : Bool) → (if b then Same else Clashes) ≡ OtherGuest → ⊥
    of true e = cc
    of false e = cc
never_other same Clash x e = cc

-- an answer behind a test
tested : (b : Bool) (p : Put) → ((if b then p else OtherGuest) ≡ OtherGuest → ⊥) → b ≡ true
tested true p n = refl
tested false p n = absurd (n refl)

failed : (b : Bool) (p : Put) → (p ≡ OtherGuest → ⊥) → (if b then p else OtherGuest) ≡ OtherGuest → b ≡ true → ⊥
failed true p n e t = n e
failed false p n e t = cc

-- a frame that is taken is of the store's guest
pub taken_own : (s : StoreView) (frame : Frame) (p : Put) → p ≡ answer_to s frame → (p ≡ OtherGuest → ⊥) → IsOf s.guest frame
taken_own s (Opening o) p e n =
    (guests_told o.guest s.guest).0 (tested (same_guest o.guest s.guest) (answer same_opening (opening_at s o.term) o) (λ k. n (e ∙ k)))
taken_own s (Log f) p e n =
    (guests_told f.guest s.guest).0 (tested (same_guest f.guest s.guest) (answer same_fragment (fragment_at s f.key) f) (λ k. n (e ∙ k)))

-- and one that is not, is of another
pub refused_other : (s : StoreView) (frame : Frame) (p : Put) → p ≡ answer_to s frame → p ≡ OtherGuest → IsOf s.guest frame → ⊥
refused_other s (Opening o) p e k own =
    failed (same_guest o.guest s.guest) (answer same_opening (opening_at s o.term) o) (never_other same_opening (opening_at s o.term) o) (sym e ∙ k)
    ((guests_told o.guest s.guest).1 own)
refused_other s (Log f) p e k own =
    failed (same_guest f.guest s.guest) (answer same_fragment (fragment_at s f.key) f) (never_other same_fragment (fragment_at s f.key) f) (sym e ∙ k)
    ((guests_told f.guest s.guest).1 own)
