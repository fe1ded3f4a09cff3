-- Terms whose books are a recorder's, and whose pieces are cut from them.
use Rattle.std.specs.Prelude.{ℕ, ◌≡◌, ◌<◌, ◌≤◌, ◌⊎◌, Contains, slice_get, Option, Some, None}
use Rattle.ft_types.specs.Counts.{count_at}
use Rattle.ft_types.specs.declared.position.Position.{Position}
use Rattle.interleaving.specs.Log.{Edge, IsClosed}
use Rattle.fragment_codec.specs.Rules.{FragmentParts}
use Rattle.log_join.specs.Families.{Past, NoGap}
use Rattle.closed_cut.specs.Position.{edges_of, base_of}
use Rattle.fenced_theory.specs.Recorders.{Recorder, IsBoot, LivesOn, GoesOn}

-- step `step` of the hart in the term is inside the chain of u, up to u's base
pub data Keeps {Book : Type 0} (terms : ℕ → Option (Past Book)) (term hart step : ℕ) : ℕ → Type 0 where
  Here : {u : ℕ} (p : Past Book) → terms u ≡ Some p → p.opening.parent ≡ term → step < base_of p.opening hart → Keeps terms term hart step u
  Above : {u : ℕ} (p : Past Book) → terms u ≡ Some p → Keeps terms term hart step p.opening.parent → Keeps terms term hart step u

-- the step is inside the position: of its term, below the counts, or kept by the position's term
abbrev pub IsInside : {Book : Type 0} → (ℕ → Option (Past Book)) → ℕ → ℕ → ℕ → Position → Type 0
IsInside terms term hart step p = ((p.term ≡ term) × (step < count_at p.counts hart)) ⊎ Keeps terms term hart step p.term

module _ {Book Fact : Type 0} (recorder : Recorder Book Fact) where
  -- the piece has exactly the edges of the hart's steps in its range
  pub record IsCutFrom (b : Book) (hart : ℕ) (x : FragmentParts) : Type 0 where
    pub rises : x.from < x.to
    pub settled : x.to ≤ recorder.counts b hart
    pub has : (e : Edge) → Contains (recorder.edges b) e → e.hart ≡ hart → x.from ≤ e.step → e.step < x.to → Contains (edges_of x) e
    pub only : (e : Edge) → Contains (edges_of x) e → Contains (recorder.edges b) e × (e.hart ≡ hart) × (x.from ≤ e.step) × (e.step < x.to)

  -- the term starts from boot, or from the machine at a closed cut of its parent's log
  pub data Starts (terms : ℕ → Option (Past Book)) (term : ℕ) (p : Past Book) : Type 0 where
    Boot : p.opening.parent ≡ 0 → ((hart : ℕ) → base_of p.opening hart ≡ 0) → (first : Book) → IsBoot recorder first → GoesOn recorder first p.told →
        Starts terms term p
    At : (q : Past Book) → terms p.opening.parent ≡ Some q → p.opening.parent < term → ((hart : ℕ) → base_of q.opening hart ≤ base_of p.opening hart) →
        ((hart : ℕ) → base_of p.opening hart ≤ recorder.counts q.told hart) → IsClosed (recorder.edges q.told) (base_of p.opening) →
        (first : Book) → LivesOn recorder q.told (base_of p.opening) first → GoesOn recorder first p.told → Starts terms term p

  pub record IsHonestTerm (terms : ℕ → Option (Past Book)) (term : ℕ) (p : Past Book) : Type 0 where
    pub start : (hart : ℕ) → recorder.start p.told hart ≡ base_of p.opening hart
    pub starts : Starts terms term p
    pub no_gap : (hart : ℕ) → NoGap (base_of p.opening hart) (p.pieces hart)
    pub cut_from : (hart place : ℕ) (x : FragmentParts) → slice_get (p.pieces hart) place ≡ Some x → IsCutFrom p.told hart x

  -- an honest family: no term is 0, and each one is honest
  pub record IsFamily (terms : ℕ → Option (Past Book)) : Type 0 where
    pub none : terms 0 ≡ None
    pub honest : (term : ℕ) (p : Past Book) → terms term ≡ Some p → IsHonestTerm terms term p
