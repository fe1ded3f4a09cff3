-- A step's parts, as its loop has them.
use Rattle.std.proofs.Common.{◌≡◌, ℕ, zero, suc, ◌+◌, ◌<◌, ◌≤◌, Bool, true, false, List, [], ◌∷◌, length, length-set, slice_get, slice_set, slice_index_or, Option, Some, None, inl, inr}
use Rattle.std.proofs.Common.{refl, ap, sym, subst, ◌∙◌, arith}
use Rattle.interleaving.specs.Machine.{Write as MachineWrite}
use Rattle.interleaving.specs.Stored.{written_in}
use Rattle.interleaving.proofs.Lists.{get_set_same, get_set_other}
use Rattle.interleaving.proofs.Put.{same_or_not}
use Rattle.ft_types.specs.declared.names.TheConstants.{HART_LIMIT, HART_ROW, PAGE_LIMIT}
use Rattle.guest_image.specs.Machine.{MachineState}
use Rattle.ft_types.specs.declared.names.Want.{Want}
use Rattle.ft_types.specs.declared.names.Want.TheVariants.{Read, Write}
use Rattle.input_log.specs.declared.Input.{Input}
use Rattle.rv32_hart.specs.Hart.{Hart}
use Rattle.rv32_hart.specs.Ram.{Ram}
use Rattle.rv32_hart.specs.Step.{IsTaken, IsMissing, effect_on}
use Rattle.rv32_hart.proofs.Wanted.{missing_there}
use Rattle.log_audit.specs.declared.marks.Uses.{Uses}
use Rattle.log_audit.specs.machinery.Marks.{uses_at, noted_at, IsMarkedBelow, IsClear, StandsAgainst}
use Rattle.log_audit.specs.machinery.Asking.{granted}
use Rattle.log_audit.specs.machinery.Covered.{HartsView, AreHarts, TakesStep, Clashes}
use Rattle.log_audit.proofs.Asking.{IsAsking, lacking}
use Rattle.log_audit.proofs.AskingOn.{asked_to_read, asked_to_write}
use Rattle.log_audit.proofs.Stepped.{step_taken, step_clashes, lacked_touches, lacked_writes}

-- what stands at a place where something was found
found_there : {A : Type 0} (xs : List A) (i : ℕ) (x d : A) → slice_get xs i ≡ Some x → slice_index_or xs i d ≡ x
found_there [] i x d e = cc
found_there (y ∷ ys) zero x d e = cc
found_there (y ∷ ys) (suc i) x d e = found_there ys i x d e

pub there_below : {A : Type 0} (xs : List A) (i : ℕ) → i < length xs → (x : A) × (slice_get xs i ≡ Some x)
there_below [] i lt = absurd (omega arith)
there_below (y ∷ ys) zero lt = (y, refl)
there_below (y ∷ ys) (suc i) lt = there_below ys i (omega arith)

-- the state of a hart that was found there, as it was read
pub read_state : (harts now : List Hart) (hart index : ℕ) (state : Hart) → harts ≡ now → index ≡ hart → state ≡ slice_index_or harts index state →
    (k : Hart) → slice_get now hart ≡ Some k → state ≡ k
read_state harts now hart index state harts_are index_is state_is k there =
    state_is ∙ found_there harts index k state (ap (λ (hs : List Hart). slice_get hs index) harts_are ∙ (ap (slice_get now) index_is ∙ there))

-- one right more, one fewer lacking
one_fewer : (rights : List Bool) (i : ℕ) → i < length rights → slice_index_or rights i false ≡ false → lacking (slice_set rights i true) + 1 ≡ lacking rights
one_fewer [] i lt e = absurd (omega arith)
one_fewer (true ∷ rest) zero lt e = cc
one_fewer (false ∷ rest) zero lt e = refl
one_fewer (true ∷ rest) (suc i) lt e = one_fewer rest i (omega arith) e
one_fewer (false ∷ rest) (suc i) lt e = let less = one_fewer rest i (omega arith) e in omega (arith, less)

no_more : (rights : List Bool) (i : ℕ) → lacking (slice_set rights i true) ≤ lacking rights
no_more [] i = omega arith
no_more (true ∷ rest) zero = omega arith
no_more (false ∷ rest) zero = omega arith
no_more (true ∷ rest) (suc i) = no_more rest i
no_more (false ∷ rest) (suc i) = let le = no_more rest i in omega (arith, le)

module _ (hart : ℕ) (inputs : List Input) (before : List ℕ) (b : HartsView)
    (marks : (h : Hart) → slice_get b.harts hart ≡ Some h → IsMarkedBelow b.pages hart (h.count + 1)) (state : Hart) (r : Ram) (now : List Uses)
    (same_state : (h : Hart) → slice_get b.harts hart ≡ Some h → state ≡ h)
    (asking : (h : Hart) → slice_get b.harts hart ≡ Some h → IsAsking hart h inputs before b.pages.contents b.pages.uses r now) where
  pub done_answer : (after : Hart) (left : Ram) (c : HartsView) → IsTaken inputs state r after left → c.start ≡ b.start → c.befores ≡ b.befores →
      c.harts ≡ slice_set b.harts hart after → c.pages.contents ≡ left.contents → c.pages.uses ≡ now → (h : Hart) → slice_get b.harts hart ≡ Some h →
      TakesStep hart h inputs before b c
  done_answer after left c taken start befores harts contents uses h found =
      let t : IsTaken inputs h r after left = subst (λ (k : Hart). IsTaken inputs k r after left) (same_state h found) taken in
      step_taken hart h inputs before b found (marks h found) r now (asking h found) t.granted c t.running start befores
      (harts ∙ ap (λ (k : Hart). slice_set b.harts hart k) t.hart) (contents ∙ ap (λ (x : Ram). x.contents) t.pages) uses

  pub clash_answer : (page : ℕ) (want : Want) (other : ℕ × ℕ) → IsMissing inputs state r (page, want) → StandsAgainst now page hart want before other →
      (h : Hart) → slice_get b.harts hart ≡ Some h → Clashes hart h inputs before b page other
  clash_answer page want other missing against h found =
      let m : IsMissing inputs h r (page, want) = subst (λ (k : Hart). IsMissing inputs k r (page, want)) (same_state h found) missing in
      let there = there_below r.contents page (missing_there h inputs r page want m).0 in
      step_clashes hart h inputs before b found (marks h found) r now (asking h found) page want other m there.0 there.1 against

  pub asked_answer : (page : ℕ) (want : Want) → IsMissing inputs state r (page, want) → page < length now → length (uses_at now page).read ≡ HART_ROW →
      length (uses_at now page).written ≡ HART_ROW → hart < HART_LIMIT → IsClear now page hart want before → (h : Hart) → slice_get b.harts hart ≡ Some h →
      IsAsking hart h inputs before b.pages.contents b.pages.uses (granted r page want) (noted_at now page hart want (h.count + 1))
  asked_answer page Read missing lt read written few clear h found =
      let m : IsMissing inputs h r (page, Read) = subst (λ (k : Hart). IsMissing inputs k r (page, Read)) (same_state h found) missing in
      asked_to_read hart h inputs before b.pages.contents b.pages.uses r now (asking h found) page lt
      (lacked_touches hart h inputs before b found (marks h found) r now (asking h found) page Read m) read few clear
  asked_answer page Write missing lt read written few clear h found =
      let m : IsMissing inputs h r (page, Write) = subst (λ (k : Hart). IsMissing inputs k r (page, Write)) (same_state h found) missing in
      let there = there_below r.contents page (missing_there h inputs r page Write m).0 in
      asked_to_write hart h inputs before b.pages.contents b.pages.uses r now (asking h found) page lt
      (lacked_touches hart h inputs before b found (marks h found) r now (asking h found) page Write m) written few clear
      (lacked_writes hart h inputs before b found (marks h found) r now (asking h found) page m there.0 there.1)

  pub fewer_lacking : (h : Hart) → slice_get b.harts hart ≡ Some h → (page : ℕ) (want : Want) → page < PAGE_LIMIT → IsMissing inputs state r (page, want) →
      lacking (granted r page want).readable + lacking (granted r page want).writable < lacking r.readable + lacking r.writable
  fewer_lacking h found page Read few missing =
      let m = missing_there state inputs r page Read missing in
      let a = asking h found in
      let less = one_fewer r.readable page (omega (arith, few, a.rights)) m.1 in
      omega (arith, less)
  fewer_lacking h found page Write few missing =
      let m = missing_there state inputs r page Write missing in
      let a = asking h found in
      let less = one_fewer r.writable page (omega (arith, few, a.rights_to_write)) m.1 in
      let le = no_more r.readable page in
      omega (arith, less, le)

length_written : (pages : List (List ℕ)) (write : Option (MachineWrite (List ℕ))) → length (written_in pages write) ≡ length pages
length_written pages None = refl
length_written pages (Some w) = length-set pages w.page w.contents

-- a step leaves as many pages
pub taken_pages : (inputs : List Input) (state : Hart) (r : Ram) (after : Hart) (left : Ram) → IsTaken inputs state r after left →
    length left.contents ≡ length r.contents
taken_pages inputs state r after left t = ap (λ (x : Ram). length x.contents) t.pages ∙ length_written r.contents (effect_on r state inputs).write

-- harts and pages stay in their places where a hart's state is put that is in that hart's place
pub harts_still : (b c : HartsView) (hart : ℕ) (after : Hart) → AreHarts b → hart < length b.harts →
    ((h : Hart) → slice_get b.harts hart ≡ Some h → (after.number ≡ h.number) × (after.harts ≡ h.harts)) → c.start ≡ b.start →
    c.harts ≡ slice_set b.harts hart after → length c.pages.contents ≡ length b.pages.contents → length c.pages.uses ≡ length b.pages.uses → AreHarts c
harts_still b c hart after are lt same start harts contents uses =
    let first : length c.start.harts ≡ length b.start.harts = ap (λ (m : MachineState). length m.harts) start in
    let pages : length c.start.pages ≡ length b.start.pages = ap (λ (m : MachineState). length m.pages) start in
    record {
      few = omega (arith, first, are.few);
      harts = ap length harts ∙ length-set b.harts hart after ∙ are.harts ∙ sym first;
      pages = contents ∙ are.pages ∙ sym pages;
      marks = uses ∙ are.marks ∙ sym contents;
      places = λ place h there.
          let found : slice_get (slice_set b.harts hart after) place ≡ Some h = ap (λ (hs : List Hart). slice_get hs place) (sym harts) ∙ there in
          elim (same_or_not hart place) [
            | inl own ↦
                let old = there_below b.harts hart lt in
                let place_old = are.places hart old.0 old.1 in
                let alike = same old.0 old.1 in
                let is : Some after ≡ Some h =
                sym (get_set_same b.harts hart after lt) ∙ ap (slice_get (slice_set b.harts hart after)) own ∙ found in
                let now : after ≡ h = cc in (
                  ap (λ (k : Hart). k.number) (sym now) ∙ alike.0 ∙ place_old.0 ∙ own,
                  ap (λ (k : Hart). k.harts) (sym now) ∙ alike.1 ∙ place_old.1 ∙ sym first,
                )
            | inr ne ↦
                let old = are.places place h (sym (get_set_other b.harts hart place after ne) ∙ found) in
                (old.0, old.1 ∙ sym first)
          ];
    }

-- what stands there already changes nothing
pub set_found : {A : Type 0} (xs : List A) (i : ℕ) (x : A) → slice_get xs i ≡ Some x → slice_set xs i x ≡ xs
set_found [] i x e = refl
set_found (y ∷ ys) zero x e = let same : y ≡ x = cc in ap (λ z. z ∷ ys) (sym same)
set_found (y ∷ ys) (suc i) x e = ap (λ l. y ∷ l) (set_found ys i x e)

-- the pages and marks, by their other names
pub asking_as : (hart : ℕ) (h : Hart) (inputs : List Input) (before : List ℕ) (contents others : List (List ℕ)) (uses first : List Uses) (r s : Ram)
    (now then : List Uses) → others ≡ contents → first ≡ uses → s ≡ r → then ≡ now → IsAsking hart h inputs before contents uses r now →
    IsAsking hart h inputs before others first s then
asking_as hart h inputs before contents others uses first r s now then a b c d asking = rw (a, b, c, d) asking
