-- Each event keeps what is noted: a grant's marks are above all notes that are inside its position.
use Rattle.std.proofs.Common.{◌≡◌, ◌≢◌, inl, inr, ℕ, ◌<◌, ◌≤◌, List, [], ◌∷◌, ◌++◌, Contains, Option, Some, None, refl, sym, ap, subst, ◌∙◌, arith, le_trans}
use Rattle.std.specs.Prelude.{slice_get}
use Rattle.ft_types.specs.Guests.{GuestParts}
use Rattle.ft_types.specs.declared.position.Position.{Position}
use Rattle.fragment_codec.specs.Rules.{FragmentParts}
use Rattle.log_join.specs.Families.{Past, no_terms, HonestStore}
use Rattle.log_join.specs.Stores.{StoreView}
use Rattle.closed_cut.specs.Position.{base_of, IsPosition}
use Rattle.interleaving.specs.Lists.{put}
use Rattle.interleaving.proofs.Put.{same_or_not, put_same, put_other}
use Rattle.fenced_theory.specs.Recorders.{Recorder}
use Rattle.fenced_theory.specs.Families.{Boot, At, IsFamily, Keeps, Here, Above, IsInside}
use Rattle.fenced_theory.specs.Notes.{HasNotes, IsMark}
use Rattle.fenced_theory.specs.Worlds.{Quorum, Released, WentOutBy, World, IsNewTo, first_term, new_term, Happens, Idle, Step, Seal, Deliver, Join, Save, Restart, Lose, Replace, Fence, Acknowledge, Release, Note, Grant, Comes, Nobody, Begins, Then}
use Rattle.fenced_theory.specs.Laws.{Notes}
use Rattle.fenced_theory.proofs.Growing.{some_same, some_none, a_piece}
use Rattle.fenced_theory.proofs.Onward.{put_cases}
use Rattle.fenced_theory.proofs.Terms.{nth_either}
use Rattle.fenced_theory.proofs.Invariant.{Invariant}
use Rattle.fenced_theory.proofs.Events.{always, failover}
use Rattle.fenced_theory.proofs.Reaching.{inside_reached}
use Rattle.fenced_theory.proofs.Noting.{WentOutBefore, AreNoted, noted_put, noted_releases, noted_more, told_in, told_out}

-- a term begins at a position of a store, which may be below others that were granted
module _ {Book Fact : Type 0} (recorder : Recorder Book Fact) (guest : GuestParts) (w : World Book) (family : IsFamily recorder w.terms)
    (had : (r : Released) → Contains w.released r → (p : Past Book) × (w.terms r.term ≡ Some p))
    (n : AreNoted w.terms w.notes w.marks w.released) (u : ℕ) (free : w.terms u ≡ None) (positive : 0 < u) (all : StoreView)
    (honest : HonestStore w.terms all) (is_new : IsNewTo all u) (p : Position) (position : IsPosition all p) (below : p.term < u) (book : Book)
    (marks : ℕ → ℕ) (are_marks : (hart : ℕ) → IsMark w.terms all p hart (marks hart)) where
  abbrev terms : ℕ → Option (Past Book)
  terms = w.terms

  abbrev new : Past Book
  new = new_term guest u p book

  abbrev more : ℕ → Option (Past Book)
  more = put terms u (Some new)

  abbrev notes : ℕ → ℕ → List (ℕ × ℕ)
  notes = put w.notes u (λ hart. [])

  not_new : (term : ℕ) (q : Past Book) → terms term ≡ Some q → u ≢ term
  not_new term q is e = some_none is (ap terms (sym e) ∙ free)

  was : (term : ℕ) (q : Past Book) → u ≢ term → more term ≡ Some q → terms term ≡ Some q
  was term q ne is = sym (put_other terms u term (Some new) ne) ∙ is

  -- a parent was granted before
  not_parent : (c : ℕ) (q : Past Book) → terms c ≡ Some q → u ≢ q.opening.parent
  not_parent c q is e =
      elim ((family.honest c q is).starts) [
        | Boot none zeros first begun on ↦ let z : q.opening.parent ≡ 0 = none in omega arith
        | At d there less above settled closed first lives on ↦ not_new q.opening.parent d there e
      ]

  -- the new term has no notes, and the others have those that they had
  as_noted : (term hart : ℕ) (note : ℕ × ℕ) → Contains (notes term hart) note → record { 0 : u ≢ term; 1 : Contains (w.notes term hart) note }
  as_noted term hart note has =
      elim (same_or_not u term) [
        | inl e ↦
            (let (k, less, is) : Contains [] note =
            subst (λ (l : List (ℕ × ℕ)). Contains l note) (ap (λ (f : ℕ → List (ℕ × ℕ)). f hart) (put_same w.notes u term (λ hart. []) e)) has in
            absurd (omega arith))
        | inr ne ↦
            (ne, subst (λ (l : List (ℕ × ℕ)). Contains l note) (ap (λ (f : ℕ → List (ℕ × ℕ)). f hart) (put_other w.notes u term (λ hart. []) ne)) has)
      ]

  -- what another term keeps it kept
  others_keep : (term hart step : ℕ) {c : ℕ} → u ≢ c → Keeps more term hart step c → Keeps terms term hart step c
  others_keep term hart step ne (Here {u = c} q is parent low) = Here q (was c q ne is) parent low
  others_keep term hart step ne (Above {u = c} q is k) =
      let there : terms c ≡ Some q = was c q ne is in Above q there (others_keep term hart step (not_parent c q there) k)

  -- what the new term keeps is inside the position
  new_keeps : (term hart step : ℕ) {c : ℕ} → c ≡ u → Keeps more term hart step c → IsInside terms term hart step p
  new_keeps term hart step same (Here {u = c} q is parent low) =
      let e : new ≡ q = some_same (put_same terms u c (Some new) (sym same)) is in
      inl (
        ap (λ (q : Past Book). q.opening.parent) e ∙ parent,
        subst (λ (q : Past Book). step < base_of q.opening hart) (sym e) low,
      )
  new_keeps term hart step same (Above {u = c} q is k) =
      let e : new ≡ q = some_same (put_same terms u c (Some new) (sym same)) is in
      inr (others_keep term hart step (λ e. omega arith) (subst (λ n. Keeps more term hart step n) (ap (λ (q : Past Book). q.opening.parent) (sym e)) k))

  marked_new : (term hart : ℕ) (note : ℕ × ℕ) → Keeps more term hart note.0 u → Contains (w.notes term hart) note → note.1 ≤ marks hart
  marked_new term hart note k has =
      let inside : IsInside terms term hart note.0 p = new_keeps term hart note.0 refl k in
      let r = inside_reached recorder terms family all honest p position term hart note.0 inside in
      (are_marks hart).greatest term note inside
      (told_in recorder terms family w.notes w.marks w.released n all honest term hart r.cut note r.covered r.below has)

  passed_new : (hart k : ℕ) → k < marks hart → WentOutBefore w.released u hart k
  passed_new hart k less =
      elim (are_marks hart).told [
        | inl none ↦ absurd (omega arith)
        | inr (term, note, told, is) ↦
            (let older : term < u = is_new term told.opening told.opens in
            let (r, has, same, number, le) : WentOutBy w.released term hart k =
            told_out recorder terms family w.notes w.marks w.released n all honest term hart note k told (omega arith) in
            (r, has, same, number, let a : r.term ≤ term = le in omega arith))
      ]

  pub noted_granted : AreNoted more notes (put w.marks u marks) w.released
  noted_granted =
      record {
        told =
            λ term q is hart place x there.
            elim (put_cases terms u new term q is) [
              | inl (e, f) ↦ some_none (subst (λ (q : Past Book). slice_get (q.pieces hart) place ≡ Some x) (sym f) there) refl
              | inr old ↦
                  subst (λ (f : ℕ → List (ℕ × ℕ)). HasNotes (f hart) x) (sym (put_other w.notes u term (λ hart. []) (not_new term q old)))
                  (n.told term q old hart place x there)
            ];
        from =
            λ term q is hart note has.
            let (ne, had) = as_noted term hart note has in
            elim (put_cases terms u new term q is) [
              | inl (e, f) ↦ absurd (ne e)
              | inr old ↦ n.from term q old hart note had
            ];
        out = λ term hart note k has less. n.out term hart note k (as_noted term hart note has).1 less;
        passed =
            λ term hart k less.
            elim (same_or_not u term) [
              | inl e ↦
                  subst (λ u. WentOutBefore w.released u hart k) e
                  (passed_new hart k (subst (λ (f : ℕ → ℕ). k < f hart) (put_same w.marks u term marks e) less))
              | inr ne ↦ n.passed term hart k (subst (λ (f : ℕ → ℕ). k < f hart) (put_other w.marks u term marks ne) less)
            ];
        marked =
            λ c term hart note k has.
            let (ne, had) = as_noted term hart note has in
            elim (same_or_not u c) [
              | inl e ↦
                  subst (λ (f : ℕ → ℕ). note.1 ≤ f hart) (sym (put_same w.marks u c marks e))
                  (marked_new term hart note (subst (λ n. Keeps more term hart note.0 n) (sym e) k) had)
              | inr other ↦
                  subst (λ (f : ℕ → ℕ). note.1 ≤ f hart) (sym (put_other w.marks u c marks other))
                  (n.marked c term hart note (others_keep term hart note.0 other k) had)
            ];
        above =
            λ r has.
            let (q, is) = had r has in
            subst (λ (f : ℕ → ℕ). f r.hart ≤ r.number) (sym (put_other w.marks u r.term marks (not_new r.term q is))) (n.above r has);
      }

module _ {Book Fact : Type 0} (recorder : Recorder Book Fact) (guest : GuestParts) (quorum : Quorum) where
  on : (w v : World Book) → Comes recorder guest quorum w → AreNoted w.terms w.notes w.marks w.released → Happens recorder guest quorum w v →
      AreNoted v.terms v.notes v.marks v.released
  on w v c n Idle = n
  on w v c n (Step term p b is goes) =
      noted_put w.terms w.notes w.marks w.released n term p (record p { told = b }) is refl (λ hart place x at. n.told term p is hart place x at)
  on w v c n (Seal term p hart x is rules from cut tells) =
      noted_put w.terms w.notes w.marks w.released n term p (record p { pieces = put p.pieces hart (p.pieces hart ++ x ∷ []) }) is refl told
    where
      told : (h place : ℕ) (y : FragmentParts) → slice_get (put p.pieces hart (p.pieces hart ++ x ∷ []) h) place ≡ Some y → HasNotes (w.notes term h) y
      told h place y at =
          elim (same_or_not hart h) [
            | inl e ↦
                elim
                (nth_either (p.pieces hart) x place y (subst (λ xs. slice_get xs place ≡ Some y) (put_same p.pieces hart h (p.pieces hart ++ x ∷ []) e) at)) [
                  | inl old ↦ n.told term p is h place y (subst (λ h. slice_get (p.pieces h) place ≡ Some y) e old)
                  | inr is_x ↦ subst (λ y. HasNotes (w.notes term h) y) is_x (subst (λ h. HasNotes (w.notes term h) x) e tells)
                ]
            | inr ne ↦ n.told term p is h place y (subst (λ xs. slice_get xs place ≡ Some y) (put_other p.pieces hart h (p.pieces hart ++ x ∷ []) ne) at)
          ]
  on w v c n (Deliver keeper s r f is has join) = n
  on w v c n (Join keeper other s t r is at join) = n
  on w v c n (Save keeper s is) = n
  on w v c n (Restart keeper s is) = n
  on w v c n (Lose keeper) = n
  on w v c n (Replace keeper u chosen all has enough under silent) = n
  on w v c n (Fence keeper u s is under) = n
  on w v c n (Acknowledge keeper s p is position under) = n
  on w v c n (Release term p hart number o noted is at low enough above) =
      noted_releases w.terms w.notes w.marks w.released (record { term = term; hart = hart; number = number; output = o }) n above
  on w v c n (Note term p hart number notes is one known) =
      noted_more recorder w.terms (always recorder guest quorum c).family w.notes w.marks w.released n term p is hart number notes one known
  on w v c n (Grant u chosen all p b marks free has enough new position rules begun are_marks) =
      let i : Invariant recorder quorum w = always recorder guest quorum c in
      noted_granted recorder guest w i.family (λ r has. let k = i.released r has in (k.past, k.is)) n u free
      (let a : 1 ≤ u = rules.granted in omega arith) all has.honest new p position (let less : p.term < u = rules.parent in less) b marks are_marks

  pub noted : {w : World Book} → Comes recorder guest quorum w → AreNoted w.terms w.notes w.marks w.released
  noted Nobody =
      record {
        told = λ u p is hart place x there. some_none is refl;
        from = λ u p is hart note (k, below, e). absurd (omega arith);
        out = λ u hart note k (j, below, e) less. absurd (omega arith);
        passed = λ u hart k less. absurd (omega arith);
        marked = λ u t hart note k (j, below, e). absurd (omega arith);
        above = λ r (k, below, is). absurd (omega arith);
      }
  noted (Begins b boots) =
      record {
        told =
            λ u p is hart place x there.
            elim (put_cases no_terms 1 (first_term guest b) u p is) [
              | inl (e, f) ↦ some_none (subst (λ (p : Past Book). slice_get (p.pieces hart) place ≡ Some x) (sym f) there) refl
              | inr none ↦ some_none none refl
            ];
        from = λ u p is hart note (k, below, e). absurd (omega arith);
        out = λ u hart note k (j, below, e) less. absurd (omega arith);
        passed = λ u hart k less. absurd (omega arith);
        marked = λ u t hart note k (j, below, e). absurd (omega arith);
        above = λ r (k, below, is). absurd (omega arith);
      }
  noted (Then {w = w} {v = v} c h) = on w v c (noted c) h

  pub right_notes : Notes recorder guest quorum
  right_notes w c =
      let n = noted c in
      let law = failover recorder guest quorum w c in
      record {
        noted = λ u hart note number has less. n.out u hart note number has less;
        fresh = λ r u note has told kept. le_trans (n.marked r.term u r.hart note kept told) (n.above r has);
        marked =
            λ u hart number p o is less at.
            let (r, has, same, number_is, before) = n.passed u hart number less in
            let low : r.term < u = before in
            let out : slice_get (recorder.outputs p.told r.hart) r.number ≡ Some r.output = law.has r u p has is (omega arith) in (
              r,
              has,
              same,
              number_is,
              some_same
                  (subst (λ n. slice_get (recorder.outputs p.told hart) n ≡ Some r.output) number_is
                  (subst (λ h. slice_get (recorder.outputs p.told h) r.number ≡ Some r.output) same out)) at,
              before,
            );
      }

  -- where nothing was ever noted, no store of the family's frames tells of a note, and each mark may be 0
  pub unnoted : (w : World Book) → Comes recorder guest quorum w → ((term hart : ℕ) → w.notes term hart ≡ []) → (all : StoreView) →
      HonestStore w.terms all → (p : Position) (hart : ℕ) → IsMark w.terms all p hart 0
  unnoted w c none all honest p hart =
      record {
        greatest =
            λ term note inside told.
            let (past, is, there) = a_piece w.terms all term hart told.place told.piece honest told.one in
            let (k, below, same) : Contains [] note =
            subst (λ (l : List (ℕ × ℕ)). Contains l note) (none term hart) (((noted c).told term past is hart told.place told.piece there).only note told.tells).0 in
            absurd (omega arith);
        told = inl refl;
      }
