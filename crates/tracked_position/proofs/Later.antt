-- That nothing came at a place or behind it.
use Rattle.std.proofs.Common.{◌≡◌, ◌≢◌, ℕ, ◌<◌, ◌≤◌, Bool, true, false, cond, refl, sym, ◌∙◌, arith}
use Rattle.std.specs.Prelude.{IsTrue}
use Rattle.fragment_codec.specs.declared.types.Key.{Key}
use Rattle.fragment_codec.specs.declared.frame.Frame.TheVariants.{Opening}
use Rattle.fragment_codec.specs.Rules.{FragmentParts, OpeningParts}
use Rattle.frame_content.specs.Tests.{same_fragment}
use Rattle.log_join.specs.declared.answers.Put.TheVariants.{New, OtherGuest}
use Rattle.log_join.specs.Answers.{answer}
use Rattle.log_join.specs.Cells.{Cell, Absent, One, Clash}
use Rattle.log_join.specs.Stores.{StoreView, fragment_at, IsJoin, IsLastTerm, alone}
use Rattle.tracked_position.specs.declared.walk.Cursor.{Cursor}
use Rattle.tracked_position.specs.declared.walk.Ahead.TheVariants.{Unseen, End}
use Rattle.tracked_position.specs.machinery.Walks.{EndsAt, IsAhead}
use Rattle.tracked_position.proofs.Clashes.{nothing_more}

-- a walk to a place at which nothing came has ended there
pub ends_absent : (pieces : ℕ → Cell FragmentParts) (at : Cursor) → pieces at.place ≡ Absent → EndsAt pieces at
ends_absent pieces at none piece one from = let both : Absent ≡ One piece = sym none ∙ one in cc

pub ahead_last : (pieces : ℕ → Cell FragmentParts) (cut : ℕ → ℕ) (place end : ℕ) (last : Bool) → (IsTrue last → pieces place ≡ Absent) →
    IsAhead pieces cut (record { place = place; end = end; ahead = cond last End Unseen }) (cond last End Unseen)
ahead_last pieces cut place end true none = ends_absent pieces (record { place = place; end = end; ahead = End }) (none refl)
ahead_last pieces cut place end false none = tt

-- a piece at whose key nothing came is new
pub absent_new : (own : Bool) (cell : Cell FragmentParts) (f : FragmentParts) → own ≡ true → cell ≡ Absent →
    cond own (answer same_fragment cell f) OtherGuest ≡ New
absent_new own cell f is none = rw (is, none) refl

absent : {X : Type 0} (c : Cell X) → (c ≢ Absent → ⊥) → c ≡ Absent
absent Absent none = refl
absent (One x) none = absurd (none (λ e. cc))
absent Clash none = absurd (none (λ e. cc))

-- nothing came in a term that is later than all that came, and an opening adds no piece
pub nothing_later : (old new : StoreView) (o : OpeningParts) (last : ℕ) → IsLastTerm old last → last < o.term → IsJoin old (alone (Opening o)) new →
    (key : Key) → key.term ≡ o.term → fragment_at new key ≡ Absent
nothing_later old new o last is later join key at =
    join.fragments key ∙
    (nothing_more same_fragment old.fragments key ∙
    absent (fragment_at old key) (λ there. let le : key.term ≤ last = is.fragments key there in omega arith))
