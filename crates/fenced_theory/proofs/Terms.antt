-- A term goes on, and what it seals is sent.
use Rattle.std.proofs.Common.{◌≡◌, ◌⊎◌, inl, inr, ℕ, ◌<◌, ◌≤◌, zero, suc, List, [], ◌∷◌, ◌++◌, length, Contains, Option, Some, refl, sym, ap, subst, ◌∙◌, arith, le_trans}
use Rattle.std.specs.Prelude.{slice_get}
use Rattle.std.proofs.lemmas.List.Elements.{Contains-append_cases}
use Rattle.fragment_codec.specs.declared.types.Key.{Key}
use Rattle.fragment_codec.specs.declared.frame.Frame.{Frame}
use Rattle.fragment_codec.specs.declared.frame.Frame.TheVariants.{Log}
use Rattle.fragment_codec.specs.Rules.{FragmentParts}
use Rattle.log_join.proofs.Families.{piece_granted}
use Rattle.log_join.specs.Families.{Past, NoGap, end_of, OfFamily}
use Rattle.closed_cut.specs.Position.{base_of}
use Rattle.interleaving.specs.Lists.{put}
use Rattle.interleaving.proofs.Put.{same_or_not, put_same, put_other}
use Rattle.interleaving.proofs.Cuts.{here_or_later}
use Rattle.fenced_theory.specs.Recorders.{Recorder, GoesTo, Same, More}
use Rattle.fenced_theory.specs.Families.{IsCutFrom}
use Rattle.fenced_theory.specs.Worlds.{Quorum, World, stepped, sealed}
use Rattle.fenced_theory.proofs.Growing.{some_none, some_same, Later, later_itself}
use Rattle.fenced_theory.proofs.Onward.{put_cases, Own, Came, onward_one, own_of}
use Rattle.fenced_theory.proofs.Invariant.{Invariant}
use Rattle.fenced_theory.proofs.Changes.{evolve}

-- a piece more at the end
nth_more : {A : Type 0} (xs : List A) (x : A) (i : ℕ) (y : A) → slice_get xs i ≡ Some y → slice_get (xs ++ x ∷ []) i ≡ Some y
nth_more [] x i y is = some_none is refl
nth_more (z ∷ xs) x zero y is = is
nth_more (z ∷ xs) x (suc i) y is = nth_more xs x i y is

nth_last : {A : Type 0} (xs : List A) (x : A) → slice_get (xs ++ x ∷ []) (length xs) ≡ Some x
nth_last [] x = refl
nth_last (z ∷ xs) x = nth_last xs x

pub nth_either : {A : Type 0} (xs : List A) (x : A) (i : ℕ) (y : A) → slice_get (xs ++ x ∷ []) i ≡ Some y → (slice_get xs i ≡ Some y) ⊎ (x ≡ y)
nth_either [] x zero y is = inr (some_same refl is)
nth_either [] x (suc i) y is = some_none is refl
nth_either (z ∷ xs) x zero y is = inl is
nth_either (z ∷ xs) x (suc i) y is = nth_either xs x i y is

-- the last one, or one before
pub sent_cases : (xs : List Frame) (f g : Frame) → Contains (xs ++ f ∷ []) g → (f ≡ g) ⊎ Contains xs g
sent_cases xs f g has =
    elim (Contains-append_cases xs (f ∷ []) g has) [
      | inl before ↦ inr before
      | inr last ↦ elim (here_or_later f [] g last) [ inl e ↦ inl e | inr (k, below, is) ↦ absurd (omega arith) ]
    ]

no_gap_more : (from : ℕ) (xs : List FragmentParts) (x : FragmentParts) → NoGap from xs → x.from ≡ end_of from xs → NoGap from (xs ++ x ∷ [])
no_gap_more from [] x h e = (e, tt)
no_gap_more from (y ∷ xs) x h e = (h.0, no_gap_more y.to xs x h.1 e)

-- a piece of the family whose key is this
piece_at : {Book : Type 0} (terms : ℕ → Option (Past Book)) (p : Past Book) (x : FragmentParts) (k : Key) → x.key ≡ k → terms k.term ≡ Some p →
    slice_get (p.pieces k.hart) k.place ≡ Some x → OfFamily terms (Log x)
piece_at terms p x k e is at = piece_granted terms x.key p x (ap (λ (k : Key). terms k.term) e ∙ is) (ap (λ (k : Key). slice_get (p.pieces k.hart) k.place) e ∙ at)

module _ {Book Fact : Type 0} (recorder : Recorder Book Fact) (quorum : Quorum) where
  evolve_one : (w : World Book) (term : ℕ) (p r : Past Book) → Invariant recorder quorum w → w.terms term ≡ Some p → Later recorder p r →
      Own recorder r → Came recorder p r → Invariant recorder quorum (record w { terms = put w.terms term (Some r) })
  evolve_one w term p r v is l own came =
      evolve recorder quorum w (put w.terms term (Some r)) v (onward_one recorder w.terms term p r is l came)
      (elim (same_or_not term 0) [
        | inl same ↦ some_none is (ap w.terms same ∙ v.family.none)
        | inr ne ↦ put_other w.terms term 0 (Some r) ne ∙ v.family.none
      ])
      (λ t q at.
      elim (put_cases w.terms term r t q at) [
        | inl (same, e) ↦
            record {
              past = p;
              is = ap w.terms (sym same) ∙ is;
              later = subst (λ q. Later recorder p q) e l;
              own = subst (Own recorder) e own;
              came = subst (λ q. Came recorder p q) e came;
            }
        | inr was ↦ record { past = q; is = was; later = later_itself recorder q; own = own_of recorder w.terms v.family t q was; came = Same }
      ])

  pub on_step : (w : World Book) (term : ℕ) (p : Past Book) (b : Book) → Invariant recorder quorum w → w.terms term ≡ Some p →
      GoesTo recorder p.told b → Invariant recorder quorum (stepped w term p b)
  on_step w term p b v is goes = evolve_one w term p r v is later own (More b Same goes)
    where
      r : Past Book
      r = record p { told = b }

      later : Later recorder p r
      later =
          record {
            opening = refl;
            parent = refl;
            base = refl;
            start = recorder.step_start p.told b goes.0 goes.1;
            counts = recorder.step_counts p.told b goes.0 goes.1;
            fresh = recorder.new_edges p.told b goes.0 goes.1;
            outputs = recorder.old_outputs p.told b goes.0 goes.1;
            fewer = recorder.new_outputs p.told b goes.0 goes.1;
            pieces = λ hart place x at. at;
          }

      own : Own recorder r
      own = let o = own_of recorder w.terms v.family term p is in
          record {
            start = λ hart. recorder.step_start p.told b goes.0 goes.1 hart ∙ o.start hart;
            no_gap = o.no_gap;
            cut_from =
                λ hart place x at.
                let c = o.cut_from hart place x at in
                record {
                  rises = c.rises;
                  settled = le_trans c.settled (recorder.step_counts p.told b goes.0 goes.1 hart);
                  has =
                      λ e has at_hart lo hi.
                      elim (recorder.new_edges p.told b goes.0 goes.1 e has) [
                        | inl old ↦ c.has e old at_hart lo hi
                        | inr above ↦
                            let f : recorder.counts p.told e.hart ≡ recorder.counts p.told hart = ap (recorder.counts p.told) at_hart in
                            let g : x.to ≤ recorder.counts p.told hart = c.settled in
                            absurd (omega arith)
                      ];
                  only =
                      λ e has.
                      let o = c.only e has in
                      let f : recorder.counts p.told e.hart ≡ recorder.counts p.told hart = ap (recorder.counts p.told) o.1 in
                      let g : x.to ≤ recorder.counts p.told hart = c.settled in
                      let h : e.step < x.to = o.3 in
                      (recorder.old_edges p.told b goes.0 goes.1 e o.0 (omega arith), o.1, o.2, o.3);
                };
          }

  -- a frame more is sent
  send : (w : World Book) (f : Frame) → Invariant recorder quorum w → OfFamily w.terms f → Invariant recorder quorum (record w { sent = w.sent ++ f ∷ [] })
  send w f v fine =
      record {
        family = v.family;
        passed = v.passed;
        frames = λ g has. elim (sent_cases w.sent f g has) [ inl e ↦ subst (λ g. OfFamily w.terms g) e fine | inr later ↦ v.frames g later ];
        stores = v.stores;
        saves = v.saves;
        has_saved = v.has_saved;
        acks = v.acks;
        given = v.given;
        grants = v.grants;
        released = v.released;
      }

  pub on_seal : (w : World Book) (term : ℕ) (p : Past Book) (hart : ℕ) (x : FragmentParts) → Invariant recorder quorum w →
      w.terms term ≡ Some p → x.key ≡ record { term = term; hart = hart; place = length (p.pieces hart) } →
      x.from ≡ end_of (base_of p.opening hart) (p.pieces hart) → IsCutFrom recorder p.told hart x → Invariant recorder quorum (sealed w term p hart x)
  on_seal w term p hart x v is key from cut =
      send (record w { terms = more }) (Log x) (evolve_one w term p r v is later own Same)
      (
      piece_at more r x (record { term = term; hart = hart; place = length (p.pieces hart) }) key (put_same w.terms term term (Some r) refl)
      (subst (λ xs. slice_get xs (length (p.pieces hart)) ≡ Some x) (sym (put_same p.pieces hart hart (p.pieces hart ++ x ∷ []) refl)) (nth_last (p.pieces hart) x))
      )
    where
      r : Past Book
      r = record p { pieces = put p.pieces hart (p.pieces hart ++ x ∷ []) }

      more : ℕ → Option (Past Book)
      more = put w.terms term (Some r)

      later : Later recorder p r
      later =
          record {
            opening = refl;
            parent = refl;
            base = refl;
            start = λ h. refl;
            counts = λ h. omega arith;
            fresh = λ e has. inl has;
            outputs = λ h number o at. at;
            fewer = λ h number o at. inl at;
            pieces =
                λ h place y at.
                elim (same_or_not hart h) [
                  | inl e ↦
                      subst (λ xs. slice_get xs place ≡ Some y) (sym (put_same p.pieces hart h (p.pieces hart ++ x ∷ []) e))
                      (nth_more (p.pieces hart) x place y (subst (λ h. slice_get (p.pieces h) place ≡ Some y) (sym e) at))
                  | inr ne ↦ subst (λ xs. slice_get xs place ≡ Some y) (sym (put_other p.pieces hart h (p.pieces hart ++ x ∷ []) ne)) at
                ];
          }

      own : Own recorder r
      own = let o = own_of recorder w.terms v.family term p is in
          record {
            start = o.start;
            no_gap =
                λ h.
                elim (same_or_not hart h) [
                  | inl e ↦
                      subst (λ xs. NoGap (base_of p.opening h) xs) (sym (put_same p.pieces hart h (p.pieces hart ++ x ∷ []) e))
                      (subst (λ h. NoGap (base_of p.opening h) (p.pieces hart ++ x ∷ [])) e
                      (no_gap_more (base_of p.opening hart) (p.pieces hart) x (o.no_gap hart) from))
                  | inr ne ↦ subst (λ xs. NoGap (base_of p.opening h) xs) (sym (put_other p.pieces hart h (p.pieces hart ++ x ∷ []) ne)) (o.no_gap h)
                ];
            cut_from =
                λ h place y at.
                elim (same_or_not hart h) [
                  | inl e ↦
                      elim
                      (nth_either (p.pieces hart) x place y (subst (λ xs. slice_get xs place ≡ Some y) (put_same p.pieces hart h (p.pieces hart ++ x ∷ []) e) at)) [
                        | inl old ↦ o.cut_from h place y (subst (λ h. slice_get (p.pieces h) place ≡ Some y) e old)
                        | inr is_x ↦ subst (λ y. IsCutFrom recorder p.told h y) is_x (subst (λ h. IsCutFrom recorder p.told h x) e cut)
                      ]
                  | inr ne ↦ o.cut_from h place y (subst (λ xs. slice_get xs place ≡ Some y) (put_other p.pieces hart h (p.pieces hart ++ x ∷ []) ne) at)
                ];
          }
