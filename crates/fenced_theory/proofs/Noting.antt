-- What is noted as released: that it was, and that no later term releases it again.
use Rattle.std.proofs.Common.{◌≡◌, ◌⊎◌, inl, inr, ℕ, ◌<◌, ◌≤◌, List, [], ◌∷◌, Contains, Option, Some, refl, sym, ap, subst, ◌∙◌, arith}
use Rattle.std.specs.Prelude.{slice_get}
use Rattle.std.proofs.lemmas.List.Elements.{Contains-append_right}
use Rattle.interleaving.specs.Lists.{put}
use Rattle.interleaving.proofs.Put.{same_or_not, put_same, put_other}
use Rattle.interleaving.proofs.Cuts.{here_or_later}
use Rattle.log_join.specs.Families.{Past, HonestStore}
use Rattle.fragment_codec.specs.Rules.{FragmentParts, OpeningParts}
use Rattle.log_join.specs.Stores.{StoreView}
use Rattle.closed_cut.specs.Position.{pieces_of, base_of}
use Rattle.fenced_theory.specs.Recorders.{Recorder}
use Rattle.fenced_theory.specs.Families.{Starts, Boot, At, IsFamily, Keeps, Here, Above}
use Rattle.fenced_theory.specs.Notes.{HasNotes, IsNoting, IsTold}
use Rattle.fenced_theory.specs.Worlds.{Released, WentOutBy}
use Rattle.fenced_theory.proofs.Growing.{some_same, Covered, a_piece}
use Rattle.fenced_theory.proofs.Onward.{put_cases}
use Rattle.fenced_theory.proofs.Walks.{in_a_piece}

-- in an older term than this one
abbrev pub WentOutBefore : List Released → ℕ → ℕ → ℕ → Type 0
WentOutBefore released term hart number = (r : Released) × Contains released r × (r.hart ≡ hart) × (r.number ≡ number) × (r.term < term)

by_then : (released : List Released) (term hart number : ℕ) → WentOutBefore released term hart number → WentOutBy released term hart number
by_then released term hart number (r, has, same, is, less) = (r, has, same, is, let a : r.term < term = less in omega arith)

-- one more went out
by_grows : (released : List Released) (new : Released) (term hart number : ℕ) → WentOutBy released term hart number → WentOutBy (new ∷ released) term hart number
by_grows released new term hart number (r, has, same, is, le) = (r, Contains-append_right (new ∷ []) released r has, same, is, le)

before_grows : (released : List Released) (new : Released) (term hart number : ℕ) → WentOutBefore released term hart number →
    WentOutBefore (new ∷ released) term hart number
before_grows released new term hart number (r, has, same, is, less) = (r, Contains-append_right (new ∷ []) released r has, same, is, less)

module _ {Book : Type 0} where
  -- each term's pieces have exactly its notes
  abbrev pub AreTold : (ℕ → Option (Past Book)) → (ℕ → ℕ → List (ℕ × ℕ)) → Type 0
  AreTold terms notes =
      (u : ℕ) (p : Past Book) → terms u ≡ Some p → (hart place : ℕ) (x : FragmentParts) → slice_get (p.pieces hart) place ≡ Some x → HasNotes (notes u hart) x

  pub record AreNoted (terms : ℕ → Option (Past Book)) (notes : ℕ → ℕ → List (ℕ × ℕ)) (marks : ℕ → ℕ → ℕ) (released : List Released) : Type 0 where
    pub told : AreTold terms notes
    -- none is at a count before the term's base
    pub from : (u : ℕ) (p : Past Book) → terms u ≡ Some p → (hart : ℕ) (note : ℕ × ℕ) → Contains (notes u hart) note → base_of p.opening hart ≤ note.0
    -- what is noted went out by then, and what is below a mark in an older term
    pub out : (u hart : ℕ) (note : ℕ × ℕ) (k : ℕ) → Contains (notes u hart) note → k < note.1 → WentOutBy released u hart k
    pub passed : (u hart k : ℕ) → k < marks u hart → WentOutBefore released u hart k
    -- no note inside a term's base is above its mark, and what went out in the term is not below it
    pub marked : (u t hart : ℕ) (note : ℕ × ℕ) → Keeps terms t hart note.0 u → Contains (notes t hart) note → note.1 ≤ marks u hart
    pub above : (r : Released) → Contains released r → marks r.term r.hart ≤ r.number

  -- each term was there, with its opening
  abbrev pub HadAll : (ℕ → Option (Past Book)) → (ℕ → Option (Past Book)) → Type 0
  HadAll terms more = (u : ℕ) (q : Past Book) → more u ≡ Some q → (p : Past Book) × (terms u ≡ Some p) × (p.opening ≡ q.opening)

  -- what is kept was kept
  keeps_back : (terms more : ℕ → Option (Past Book)) → HadAll terms more → (term hart step : ℕ) {u : ℕ} → Keeps more term hart step u → Keeps terms term hart step u
  keeps_back terms more had term hart step (Here {u = u} q is parent below) =
      let (p, was, e) = had u q is in
      Here p was (ap (λ (o : OpeningParts). o.parent) e ∙ parent) (subst (λ (o : OpeningParts). step < base_of o hart) (sym e) below)
  keeps_back terms more had term hart step (Above {u = u} q is k) =
      let (p, was, e) = had u q is in
      Above p was (subst (λ n. Keeps terms term hart step n) (sym (ap (λ (o : OpeningParts). o.parent) e)) (keeps_back terms more had term hart step k))

  -- the terms go on
  noted_evolves : (terms more : ℕ → Option (Past Book)) (notes : ℕ → ℕ → List (ℕ × ℕ)) (marks : ℕ → ℕ → ℕ) (released : List Released) →
      AreNoted terms notes marks released → HadAll terms more → AreTold more notes → AreNoted more notes marks released
  noted_evolves terms more notes marks released v had told =
      record {
        told = told;
        from =
            λ u q is hart note has.
            let (p, was, e) = had u q is in
            subst (λ (o : OpeningParts). base_of o hart ≤ note.0) e (v.from u p was hart note has);
        out = v.out;
        passed = v.passed;
        marked = λ u t hart note k has. v.marked u t hart note (keeps_back terms more had t hart note.0 k) has;
        above = v.above;
      }

  -- one term goes on, with these pieces
  told_one : (terms : ℕ → Option (Past Book)) (notes : ℕ → ℕ → List (ℕ × ℕ)) (now : ℕ) (r : Past Book) → AreTold terms notes →
      ((hart place : ℕ) (x : FragmentParts) → slice_get (r.pieces hart) place ≡ Some x → HasNotes (notes now hart) x) → AreTold (put terms now (Some r)) notes
  told_one terms notes now r told its u p is hart place x at =
      elim (put_cases terms now r u p is) [
        | inl (e, same) ↦
            subst (λ n. HasNotes (notes n hart) x) e (its hart place x (subst (λ (q : Past Book). slice_get (q.pieces hart) place ≡ Some x) (sym same) at))
        | inr was ↦ told u p was hart place x at
      ]

  pub noted_put : (terms : ℕ → Option (Past Book)) (notes : ℕ → ℕ → List (ℕ × ℕ)) (marks : ℕ → ℕ → ℕ) (released : List Released) →
      AreNoted terms notes marks released → (now : ℕ) (p r : Past Book) → terms now ≡ Some p → p.opening ≡ r.opening →
      ((hart place : ℕ) (x : FragmentParts) → slice_get (r.pieces hart) place ≡ Some x → HasNotes (notes now hart) x) →
      AreNoted (put terms now (Some r)) notes marks released
  noted_put terms notes marks released v now p r is same its =
      noted_evolves terms (put terms now (Some r)) notes marks released v
      (λ u q at.
      elim (put_cases terms now r u q at) [
        | inl (e, f) ↦ (p, ap terms (sym e) ∙ is, same ∙ ap (λ (q : Past Book). q.opening) f)
        | inr was ↦ (q, was, refl)
      ])
      (told_one terms notes now r v.told its)

  -- an output went out
  pub noted_releases : (terms : ℕ → Option (Past Book)) (notes : ℕ → ℕ → List (ℕ × ℕ)) (marks : ℕ → ℕ → ℕ) (released : List Released) (new : Released) →
      AreNoted terms notes marks released → marks new.term new.hart ≤ new.number → AreNoted terms notes marks (new ∷ released)
  noted_releases terms notes marks released new v above =
      record {
        told = v.told;
        from = v.from;
        out = λ u hart note k has less. by_grows released new u hart k (v.out u hart note k has less);
        passed = λ u hart k less. before_grows released new u hart k (v.passed u hart k less);
        marked = v.marked;
        above =
            λ r has.
            elim (here_or_later new released r has) [
              | inl e ↦ subst (λ (r : Released). marks r.term r.hart ≤ r.number) e above
              | inr later ↦ v.above r later
            ];
      }

module _ {Book Fact : Type 0} (recorder : Recorder Book Fact) (terms : ℕ → Option (Past Book)) (family : IsFamily recorder terms)
    (notes : ℕ → ℕ → List (ℕ × ℕ)) (marks : ℕ → ℕ → ℕ) (released : List Released) (v : AreNoted terms notes marks released) where
  -- a step that a later term keeps is below the counts of its term's book
  pub kept_settled : (term hart step : ℕ) (t : Past Book) → terms term ≡ Some t → {u : ℕ} → Keeps terms term hart step u → step < recorder.counts t.told hart
  kept_settled term hart step t is_t (Here {u = u} p is parent below) = of ((family.honest u p is).starts)
    where
      of : Starts recorder terms u p → step < recorder.counts t.told hart
      of (Boot none zeros first begun on) = let z : base_of p.opening hart ≡ 0 = zeros hart in absurd (omega arith)
      of (At q there less above settled closed first lives on) =
          let low : base_of p.opening hart ≤ recorder.counts q.told hart = settled hart in
          subst (λ (q : Past Book). step < recorder.counts q.told hart) (some_same there (ap terms parent ∙ is_t)) (omega arith)
  kept_settled term hart step t is_t (Above {u = u} p is k) = kept_settled term hart step t is_t k

  -- a note more of a term, whatever later ones there are
  module _ (now : ℕ) (p : Past Book) (is : terms now ≡ Some p) (hart number : ℕ) (more : List (ℕ × ℕ))
      (one : IsNoting (notes now hart) (recorder.counts p.told hart) number more)
      (known : (k : ℕ) → k < number → (k < marks now hart) ⊎ WentOutBy released now hart k) where
    abbrev after : ℕ → ℕ → List (ℕ × ℕ)
    after = put notes now (put (notes now) hart more)

    either : (u h : ℕ) → record { 0 : now ≡ u; 1 : hart ≡ h; 2 : after u h ≡ more } ⊎ (after u h ≡ notes u h)
    either u h =
        elim (same_or_not now u) [
          | inl e ↦
              let row : after u h ≡ put (notes now) hart more h = ap (λ (f : ℕ → List (ℕ × ℕ)). f h) (put_same notes now u (put (notes now) hart more) e) in
              elim (same_or_not hart h) [
                | inl f ↦ inl (e, f, row ∙ put_same (notes now) hart h more f)
                | inr ne ↦ inr (row ∙ put_other (notes now) hart h more ne ∙ ap (λ n. notes n h) e)
              ]
          | inr ne ↦ inr (ap (λ (f : ℕ → List (ℕ × ℕ)). f h) (put_other notes now u (put (notes now) hart more) ne))
        ]

    -- of the pieces of the hart nothing is new
    still_told : (place : ℕ) (x : FragmentParts) → slice_get (p.pieces hart) place ≡ Some x → HasNotes more x
    still_told place x at =
        let old : HasNotes (notes now hart) x = v.told now p is hart place x at in
        let settled : x.to ≤ recorder.counts p.told hart = ((family.honest now p is).cut_from hart place x at).settled in
        record {
          has =
              λ note has lo hi.
              elim (one.only note has) [
                | inl was ↦ old.has note was lo hi
                | inr new ↦ let e : note.0 ≡ recorder.counts p.told hart = new.0 in absurd (omega arith)
              ];
          only =
              λ note has.
              let (was, lo, hi) = old.only note has in
              (one.kept note was (let high : note.0 < x.to = hi in omega arith), lo, hi);
        }

    -- and no later term keeps it
    not_kept : (u t h : ℕ) (note : ℕ × ℕ) → now ≡ t → hart ≡ h → Keeps terms t h note.0 u → note.0 ≡ recorder.counts p.told hart → note.1 ≤ marks u h
    not_kept u t h note e f k at =
        let less : note.0 < recorder.counts p.told h = kept_settled t h note.0 p (ap terms (sym e) ∙ is) k in
        let same : recorder.counts p.told hart ≡ recorder.counts p.told h = ap (λ h. recorder.counts p.told h) f in
        absurd (omega arith)

    pub noted_more : AreNoted terms after marks released
    noted_more =
        record {
          told =
              λ u q at_u h place x at.
              elim (either u h) [
                | inl (e, f, row) ↦
                    (let same : p ≡ q = some_same is (ap terms e ∙ at_u) in
                    let here : slice_get (p.pieces hart) place ≡ Some x =
                    subst (λ (q : Past Book). slice_get (q.pieces hart) place ≡ Some x) (sym same) (subst (λ n. slice_get (q.pieces n) place ≡ Some x) (sym f) at) in
                    subst (λ (l : List (ℕ × ℕ)). HasNotes l x) (sym row) (still_told place x here))
                | inr row ↦ subst (λ (l : List (ℕ × ℕ)). HasNotes l x) (sym row) (v.told u q at_u h place x at)
              ];
          from =
              λ u q at_u h note has.
              elim (either u h) [
                | inl (e, f, row) ↦
                    (let same : p ≡ q = some_same is (ap terms e ∙ at_u) in
                    let base : base_of p.opening hart ≤ note.0 =
                    elim (one.only note (subst (λ (l : List (ℕ × ℕ)). Contains l note) row has)) [
                      | inl was ↦ v.from now p is hart note was
                      | inr new ↦
                          (let at_count : note.0 ≡ recorder.counts p.told hart = new.0 in
                          let start : recorder.start p.told hart ≡ base_of p.opening hart = (family.honest now p is).start hart in
                          let forward : recorder.start p.told hart ≤ recorder.counts p.told hart = recorder.forward p.told hart in
                          omega arith)
                    ] in
                    subst (λ n. base_of q.opening n ≤ note.0) f (subst (λ (q : Past Book). base_of q.opening hart ≤ note.0) same base))
                | inr row ↦ v.from u q at_u h note (subst (λ (l : List (ℕ × ℕ)). Contains l note) row has)
              ];
          out =
              λ u h note k has less.
              elim (either u h) [
                | inl (e, f, row) ↦
                    subst (λ u. WentOutBy released u h k) e
                    (subst (λ n. WentOutBy released now n k) f
                    (elim (one.only note (subst (λ (l : List (ℕ × ℕ)). Contains l note) row has)) [
                      | inl was ↦ v.out now hart note k was less
                      | inr new ↦
                          elim (known k (let is_number : note.1 ≡ number = new.1 in omega arith)) [
                            | inl below ↦ by_then released now hart k (v.passed now hart k below)
                            | inr out ↦ out
                          ]
                    ]))
                | inr row ↦ v.out u h note k (subst (λ (l : List (ℕ × ℕ)). Contains l note) row has) less
              ];
          passed = v.passed;
          marked =
              λ u t h note k has.
              elim (either t h) [
                | inl (e, f, row) ↦
                    elim (one.only note (subst (λ (l : List (ℕ × ℕ)). Contains l note) row has)) [
                      | inl was ↦
                          v.marked u t h note k
                          (subst (λ t. Contains (notes t h) note) e (subst (λ n. Contains (notes now n) note) f was))
                      | inr new ↦ not_kept u t h note e f k new.0
                    ]
                | inr row ↦ v.marked u t h note k (subst (λ (l : List (ℕ × ℕ)). Contains l note) row has)
              ];
          above = v.above;
        }

  -- a note inside what a store covers of its term is told in the store
  pub told_in : (s : StoreView) → HonestStore terms s → (t hart : ℕ) (cut : ℕ → ℕ) (note : ℕ × ℕ) → Covered recorder terms s t cut → note.0 < cut hart →
      Contains (notes t hart) note → IsTold s t hart note
  told_in s honest t hart cut note c below has =
      let (place, end, goes, far) = c.goes hart in
      let base : base_of c.past.opening hart ≤ note.0 = v.from t c.past c.is hart note has in
      let (at, x, under, one, lo, hi) = in_a_piece (pieces_of s t hart) (base_of c.past.opening hart) place end note.0 goes base (omega arith) in
      let (q, is_q, there) = a_piece terms s t hart at x honest one in
      record {
        opening = c.past.opening;
        opens = c.opens;
        places = place;
        end = end;
        goes = goes;
        place = at;
        over = under;
        piece = x;
        one = one;
        tells = (v.told t q is_q hart at x there).has note has lo hi;
      }

  -- and what is told in a store went out by then
  pub told_out : (s : StoreView) → HonestStore terms s → (t hart : ℕ) (note : ℕ × ℕ) (k : ℕ) → IsTold s t hart note → k < note.1 → WentOutBy released t hart k
  told_out s honest t hart note k told less =
      let (q, is_q, there) = a_piece terms s t hart told.place told.piece honest told.one in
      v.out t hart note k ((v.told t q is_q hart told.place told.piece there).only note told.tells).0 less
