-- A frame at a key at which something came.
use Rattle.std.proofs.Common.{◌≡◌, ◌≢◌, refl, sym, ap, ◌∙◌, Bool, true, false, cond}
use Rattle.std.specs.Prelude.{Option, Some, Result, Ok, Err, IfOk, OnErr}
use Rattle.std.specs.Ordering.{eq_by_cmp}
use Rattle.std.specs.declared.cmp.Ordering.{Ordering}
use Rattle.std.specs.declared.cmp.Ordering.TheVariants.{Equal}
use Rattle.std.specs.Cmp.{IsTotalOrder, nat_cmp_total, Equal-is}
use Rattle.std.specs.FinMap as finite
use Rattle.std.proofs.lemmas.Map.Lookups.{exact_unsigned}
use Rattle.fragment_codec.specs.declared.frame.Frame.{Frame}
use Rattle.fragment_codec.specs.declared.frame.Frame.TheVariants.{Log, Opening}
use Rattle.ft_types.specs.declared.errors.Memory.{Memory}
use Rattle.log_join.specs.declared.answers.Put.{Put}
use Rattle.log_join.specs.declared.answers.Put.TheVariants.{Clash as Clashes, OtherGuest}
use Rattle.log_join.specs.Cells.{Cell, Absent, One, Clash, join_cell, cell_of}
use Rattle.frame_content.specs.Tests.{same_guest, same_opening, same_fragment}
use Rattle.log_join.specs.Stores.{StoreView, opening_at, fragment_at, IsJoin, alone}
use Rattle.log_join.specs.Answers.{answer, answer_to}
use Rattle.log_join.proofs.Joins.{keys_total, keys_exact, join_absent, one_store}
use Rattle.tracked_position.specs.machinery.Keeping.{IsClashAt, IsOneAt}

-- ---- where unequal contents came already

-- one content more changes no cell
cell_stays : {K X : Type 0} {R : K → K → Ordering} → IsTotalOrder R → ((a b : K) → R a b ≡ Equal → a ≡ b) → (same : X → X → Bool)
    (m : finite.FinMap R (Option X)) (k q : K) (x : X) → cell_of (finite.get m k) ≡ Clash →
    join_cell same (cell_of (finite.get m q)) (cell_of (finite.get (finite.insert (finite.empty {R = R}) k (Some x)) q)) ≡ cell_of (finite.get m q)
cell_stays {K} {X} {R} total exact same m k q x clash =
    let here : Cell X = cell_of (finite.get m q) in
    let seen : Bool → Cell X = λ b. cell_of (cond b (Some (Some x)) (finite.get (finite.empty {R = R}) q)) in
    ap (λ c. join_cell same here (cell_of c)) (finite.get-insert total finite.empty k (Some x) q)
    ∙ elim (eq_by_cmp R q k) as (λ b. eq_by_cmp R q k ≡ b → join_cell same here (seen b) ≡ here) [
      | true ↦ λ t.
          let is : here ≡ Clash = ap (λ (z : K). cell_of (finite.get m z)) (exact q k ((Equal-is (R q k)).0 t)) ∙ clash in
          ap (λ c. join_cell same c (One x)) is ∙ sym is
      | false ↦ λ t. ap (λ c. join_cell same here (cell_of c)) (finite.get-empty R q) ∙ join_absent same here
    ] refl

pub nothing_more : {K X : Type 0} {R : K → K → Ordering} (same : X → X → Bool) (m : finite.FinMap R (Option X)) (q : K) →
    join_cell same (cell_of (finite.get m q)) (cell_of (finite.get (finite.empty {X = Option X} {R = R}) q)) ≡ cell_of (finite.get m q)
nothing_more {K} {X} {R} same m q = ap (λ c. join_cell same (cell_of (finite.get m q)) (cell_of c)) (finite.get-empty R q) ∙ join_absent same _

-- one frame more changes nothing
pub clash_stays : (store new : StoreView) (frame : Frame) → IsClashAt store frame → IsJoin store (alone frame) new → new ≡ store
clash_stays store new (Opening o) clash join =
    one_store new store join.guest
    (λ t. join.openings t ∙ cell_stays nat_cmp_total exact_unsigned same_opening store.openings o.term t o clash)
    (λ k. join.fragments k ∙ nothing_more same_fragment store.fragments k)
clash_stays store new (Log f) clash join =
    one_store new store join.guest
    (λ t. join.openings t ∙ nothing_more same_opening store.openings t)
    (λ k. join.fragments k ∙ cell_stays keys_total keys_exact same_fragment store.fragments f.key k f clash)

-- be it refused or not
pub put_stays : (old new : StoreView) (frame : Frame) (result : Result Put Memory) → answer_to old frame ≡ Clashes → IsClashAt old frame →
    IfOk result (λ q. q ≡ answer_to old frame) → IfOk result (λ q. q ≢ OtherGuest → IsJoin old (alone frame) new) → OnErr result (new ≡ old) → new ≡ old
put_stays old new frame (Ok q) is clash answer joined err =
    clash_stays old new frame clash (joined (λ other. let e : Clashes ≡ OtherGuest = sym is ∙ (sym answer ∙ other) in cc))
put_stays old new frame (Err e) is clash answer joined err = err

-- ---- where they do not

one_in : {X : Type 0} (same : X → X → Bool) (own : Bool) (c : Cell X) (x : X) → cond own (answer same c x) OtherGuest ≡ Clashes → c ≢ Clash →
    (there : X) × (c ≡ One there)
one_in same false c x is other = absurd (cc is)
one_in same true Absent x is other = absurd (cc is)
one_in same true (One y) x is other = (y, refl)
one_in same true Clash x is other = absurd (other refl)

-- a frame that clashes does so with one content
pub one_there : (store : StoreView) (frame : Frame) → answer_to store frame ≡ Clashes → (IsClashAt store frame → ⊥) → IsOneAt store frame
one_there store (Opening o) is other = one_in same_opening (same_guest o.guest store.guest) (opening_at store o.term) o is other
one_there store (Log f) is other = one_in same_fragment (same_guest f.guest store.guest) (fragment_at store f.key) f is other
