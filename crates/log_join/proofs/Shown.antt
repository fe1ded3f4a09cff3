-- How maps of contents are seen, key by key.
use Rattle.std.proofs.Common.{◌≡◌, refl, sym, ap, subst, ◌∙◌, Bool, true, false, cond, List, [], ◌∷◌, map}
use Rattle.std.specs.Prelude.{Option, Some, None}
use Rattle.std.specs.Bool.{Decides}
use Rattle.std.specs.declared.cmp.Ordering.{Ordering}
use Rattle.std.specs.declared.cmp.Ordering.TheVariants.{Equal}
use Rattle.std.specs.List.{AllByRecursion}
use Rattle.std.specs.Option.{option_map}
use Rattle.std.specs.Ordering.{eq_by_cmp, is_eq}
use Rattle.std.specs.Cmp.{IsTotalOrder, eq_by_cmp_equiv, Equal-is}
use Rattle.std.specs.Map.{lookup}
use Rattle.std.specs.BTreeMap.{BTreeMap, get}
use Rattle.std.specs.FinMap as finite
use Rattle.fragment_codec.specs.declared.frame.Frame.{Frame}
use Rattle.log_join.specs.declared.answers.Put.TheVariants.{Same, Clash as Clashes}
use Rattle.frame_content.specs.declared.content.Content.{Content}
use Rattle.frame_content.specs.declared.content.Content.TheVariants.{One as OneFrame, Clash as Clashed}
use Rattle.log_join.specs.Cells.{Cell, One, Clash, join_cell, cell_of}
use Rattle.log_join.specs.Answers.{answer}
use Rattle.log_join.specs.machinery.Contents.{met, taken, put_answer, content_of, shown, FitsAt}
use Rattle.frame_content.specs.machinery.Contents.{same_frame, joined}
use Rattle.log_join.proofs.Maps.{tied_get}
use Rattle.log_join.proofs.Joins.{join_absent}

-- the test of frames is that of what they hold
pub record Agrees {X : Type 0} (part : Frame → Option X) (same : X → X → Bool) : Type 0 where
  pub as_parts : (f g : Frame) (x y : X) → part f ≡ Some x → part g ≡ Some y → same_frame f g ≡ same x y
  pub told : (x y : X) → Decides (same x y) (x ≡ y)

abbrev pub cell : {X : Type 0} → (Frame → Option X) → Option Content → Cell X
cell part c = cell_of (option_map (content_of part) c)

pub fits_weaker : {X : Type 0} (part : Frame → Option X) (P Q : X → Type 0) → ((x : X) → P x → Q x) → (c : Option Content) → FitsAt part P c → FitsAt part Q c
fits_weaker part P Q weaker None h = tt
fits_weaker part P Q weaker (Some Clashed) h = tt
fits_weaker part P Q weaker (Some (OneFrame f)) (x, is, p) = (x, is, weaker x p)

module _ {X : Type 0} (part : Frame → Option X) (P : X → Type 0) where
  -- what one content is
  pub one_fits : (c : Option Content) (x : X) → FitsAt part P c → cell part c ≡ One x → P x
  one_fits None x h e = absurd (cc e)
  one_fits (Some Clashed) x h e = absurd (cc e)
  one_fits (Some (OneFrame f)) x (y, is, p) e =
      let same : One y ≡ One x = sym (ap (λ v. cell_of (Some v)) is) ∙ e in
      let one : y ≡ x = cc same in
      subst P one p

  pub fits_taken : (c : Option Content) (f : Frame) (x : X) → FitsAt part P c → part f ≡ Some x → P x → FitsAt part P (Some (taken c f))
  fits_taken None f x h is p = (x, is, p)
  fits_taken (Some Clashed) f x h is p = tt
  fits_taken (Some (OneFrame g)) f x h is p = elim (same_frame g f) as (λ b. FitsAt part P (Some (cond b (OneFrame g) Clashed))) [ true ↦ h | false ↦ tt ]

  fits_joined : (c d : Content) → FitsAt part P (Some c) → FitsAt part P (Some (joined c d))
  fits_joined Clashed d h = tt
  fits_joined (OneFrame f) Clashed h = tt
  fits_joined (OneFrame f) (OneFrame g) h = elim (same_frame f g) as (λ b. FitsAt part P (Some (cond b (OneFrame f) Clashed))) [ true ↦ h | false ↦ tt ]

  pub fits_met : (c d : Option Content) → FitsAt part P c → FitsAt part P d → FitsAt part P (met c d)
  fits_met None None h k = tt
  fits_met None (Some d) h k = fits_joined d d k
  fits_met (Some c) None h k = h
  fits_met (Some c) (Some d) h k = fits_joined c d h

  module _ {same : X → X → Bool} (agrees : Agrees part same) where
    -- a frame comes to a key
    pub taken_cell : (c : Option Content) (f : Frame) (x : X) → FitsAt part P c → part f ≡ Some x → cell part (Some (taken c f)) ≡ join_cell same (cell part c)
        (One x)
    taken_cell None f x h is = ap (λ v. cell_of (Some v)) is
    taken_cell (Some Clashed) f x h is = refl
    taken_cell (Some (OneFrame g)) f x (y, own, p) is =
        ap (λ b. cell part (Some (cond b (OneFrame g) Clashed))) (agrees.as_parts g f y x own is)
        ∙ elim (same y x) as (λ b. cell part (Some (cond b (OneFrame g) Clashed)) ≡ cond b (One y) Clash) [
          | true ↦ ap (λ v. cell_of (Some v)) own
          | false ↦
              refl
        ]
        ∙ sym (ap (λ v. join_cell same (cell_of (Some v)) (One x)) own)

    pub answer_is : (c : Option Content) (f : Frame) (x : X) → FitsAt part P c → part f ≡ Some x → put_answer c f ≡ answer same (cell part c) x
    answer_is None f x h is = refl
    answer_is (Some Clashed) f x h is = refl
    answer_is (Some (OneFrame g)) f x (y, own, p) is =
        ap (λ b. cond b Same Clashes) (agrees.as_parts g f y x own is) ∙ sym (ap (λ v. answer same (cell_of (Some v)) x) own)

    joined_cell : (c d : Content) → FitsAt part P (Some c) → FitsAt part P (Some d) → cell part (Some (joined c d)) ≡ join_cell same (cell part (Some c))
        (cell part (Some d))
    joined_cell Clashed d h k = refl
    joined_cell (OneFrame f) Clashed (x, is, p) k = sym (ap (λ v. join_cell same (cell_of (Some v)) Clash) is)
    joined_cell (OneFrame f) (OneFrame g) h (y, own, q) = taken_cell (Some (OneFrame f)) g y h own ∙
        sym (ap (λ v. join_cell same (cell part (Some (OneFrame f))) (cell_of (Some v))) own)

    itself : (c : Content) → FitsAt part P (Some c) → join_cell same (cell part (Some c)) (cell part (Some c)) ≡ cell part (Some c)
    itself Clashed h = refl
    itself (OneFrame f) (x, is, p) =
        ap (λ v. join_cell same (cell_of (Some v)) (cell_of (Some v))) is ∙ ap (λ b. cond b (One x) Clash) ((agrees.told x x).1 refl) ∙
        sym (ap (λ v. cell_of (Some v)) is)

    -- what is here meets what is there
    pub met_cell : (c d : Option Content) → FitsAt part P c → FitsAt part P d → cell part (met c d) ≡ join_cell same (cell part c) (cell part d)
    met_cell None None h k = refl
    met_cell None (Some d) h k = joined_cell d d k k ∙ itself d k
    met_cell (Some c) None h k = sym (join_absent same (cell part (Some c)))
    met_cell (Some c) (Some d) h k = joined_cell c d h k

module _ {K L X : Type 0} {R : L → L → Ordering} (o : IsTotalOrder R) (key : K → L) (part : Frame → Option X) where
  abbrev by_key : K → K → Ordering
  by_key a b = R (key a) (key b)

  find_shown : (q : L) (es : List (K × Content)) →
      finite.find R q (map {B = L × Option X} (λ e. (key e.0, content_of part e.1)) es) ≡ option_map (content_of part) (lookup (λ k. is_eq (R q (key k))) es)
  find_shown q [] = refl
  find_shown q (e ∷ es) =
      elim (is_eq (R q (key e.0))) as (λ b. cond b (Some (content_of part e.1)) (finite.find R q (map {B = L × Option X} (λ e. (key e.0, content_of part e.1))
      es)) ≡ option_map (content_of part) (cond b (Some e.1) (lookup (λ k. is_eq (R q (key k))) es))) [
        | true ↦ refl
        | false ↦ find_shown q es
      ]

  -- what a finite map has at a key is what the map of contents has there
  pub cell_shown : (m : BTreeMap K Content) (k : K) → cell_of (finite.get (shown R key part m) (key k)) ≡ cell part (get by_key m k)
  cell_shown m k = ap cell_of (finite.get-from_entries o _ (key k) ∙ find_shown (key k) m.entries)

  -- one frame that comes to its key is joined
  pub taken_shown : (P : K → X → Type 0) {same : X → X → Bool} → Agrees part same → (m n : BTreeMap K Content) (k : K) (f : Frame) (x : X) → part f ≡ Some x →
      ((q : K) → FitsAt part (P q) (get by_key m q)) →
      ((q : K) → get by_key n q ≡ cond (eq_by_cmp by_key k q) (Some (taken (get by_key m k) f)) (get by_key m q)) →
      IsTotalOrder by_key → (q : K) →
      cell_of (finite.get (shown R key part n) (key q)) ≡ join_cell same (cell_of (finite.get (shown R key part m) (key q)))
      (cell_of (finite.get (finite.insert (finite.empty {R = R}) (key k) (Some x)) (key q)))
  taken_shown P {same} agrees m n k f x is fits taken_at total q =
      let old = get by_key m q in
      let one : cell_of (finite.get (finite.insert (finite.empty {R = R}) (key k) (Some x)) (key q)) ≡ cell_of (cond (eq_by_cmp by_key q k)
      (Some (Some x)) None) =
      ap cell_of (finite.get-insert o finite.empty (key k) (Some x) (key q) ∙ ap (cond (eq_by_cmp by_key q k) (Some (Some x))) (finite.get-empty R (key q))) in
      cell_shown n q ∙ ap (cell part) (taken_at q)
      ∙ elim (eq_by_cmp by_key k q) as (λ b. eq_by_cmp by_key k q ≡ b → cell part (cond b (Some (taken (get by_key m k) f)) old) ≡ join_cell same
      (cell part old) (cell_of (cond b (Some (Some x)) None))) [
        | true ↦ λ t. taken_cell part (P k) agrees (get by_key m k) f x (fits k) is ∙ sym (ap (λ c. join_cell same (cell part c) (One x))
            (tied_get total m k q t))
        | false ↦ λ t. sym (join_absent same (cell part old))
      ] refl
      ∙ ap (λ b. join_cell same (cell part old) (cell_of (cond b (Some (Some x)) None))) ((eq_by_cmp_equiv total).symm k q)
      ∙ sym (ap (join_cell same (cell part old)) one)
      ∙ sym (ap (λ c. join_cell same c (cell_of (finite.get (finite.insert (finite.empty {R = R}) (key k) (Some x)) (key q)))) (cell_shown m q))

  -- what is here meets what is there
  pub met_shown : (P : K → X → Type 0) {same : X → X → Bool} → Agrees part same → (m other n : BTreeMap K Content) →
      ((q : K) → FitsAt part (P q) (get by_key m q)) → ((q : K) → FitsAt part (P q) (get by_key other q)) →
      ((q : K) → get by_key n q ≡ met (get by_key m q) (get by_key other q)) → (q : K) →
      cell_of (finite.get (shown R key part n) (key q)) ≡ join_cell same (cell_of (finite.get (shown R key part m) (key q)))
      (cell_of (finite.get (shown R key part other) (key q)))
  met_shown P {same} agrees m other n fits others meets q =
      cell_shown n q ∙ ap (cell part) (meets q) ∙ met_cell part (P q) agrees (get by_key m q) (get by_key other q) (fits q) (others q)
      ∙ sym (ap (λ c. join_cell same c (cell part (get by_key other q))) (cell_shown m q))
      ∙ sym (ap (join_cell same (cell_of (finite.get (shown R key part m) (key q)))) (cell_shown other q))

  -- maps with the same at each key are seen as the same
  pub same_shown : (m n : BTreeMap K Content) → ((q : K) → get by_key n q ≡ get by_key m q) → (q : K) → cell_of (finite.get (shown R key part n) (key q)) ≡
      cell_of (finite.get (shown R key part m) (key q))
  same_shown m n h q = cell_shown n q ∙ ap (cell part) (h q) ∙ sym (cell_shown m q)

  -- what stands at keys still fits after a frame came
  pub taken_fits : (P : K → X → Type 0) (m n : BTreeMap K Content) (k : K) (f : Frame) (x : X) → part f ≡ Some x → P k x → ((a b : K) → by_key a b ≡ Equal →
      a ≡ b) →
      ((q : K) → FitsAt part (P q) (get by_key m q)) →
      ((q : K) → get by_key n q ≡ cond (eq_by_cmp by_key k q) (Some (taken (get by_key m k) f)) (get by_key m q)) → (q : K) → FitsAt part (P q) (get by_key n q)
  taken_fits P m n k f x is p exact fits taken_at q =
      subst (FitsAt part (P q)) (sym (taken_at q))
      (elim (eq_by_cmp by_key k q) as (λ b. eq_by_cmp by_key k q ≡ b → FitsAt part (P q) (cond b (Some (taken (get by_key m k) f)) (get by_key m q))) [
        | true ↦ λ t. subst (λ (z : K). FitsAt part (P z) (Some (taken (get by_key m k) f))) (exact k q ((Equal-is (by_key k q)).0 t))
            (fits_taken part (P k) (get by_key m k) f x (fits k) is p)
        | false ↦ λ t. fits q
      ] refl)

-- what stands at the entries of a map fits
pub entries_fit : {K X : Type 0} (cmp : K → K → Ordering) (part : Frame → Option X) (P : K → X → Type 0) (m : BTreeMap K Content) →
    ((q : K) → FitsAt part (P q) (get cmp m q)) →
    (es : List (K × Content)) → AllByRecursion (λ e. get cmp m e.0 ≡ Some e.1) es → AllByRecursion (λ e. FitsAt part (P e.0) (Some e.1)) es
entries_fit cmp part P m fits [] h = tt
entries_fit cmp part P m fits (e ∷ es) h = (subst (FitsAt part (P e.0)) h.0 (fits e.0), entries_fit cmp part P m fits es h.1)
