-- What is shown of RAM and of registers.
use Rattle.std.proofs.Common.{◌≡◌, ◌⊎◌, inl, ◌<◌, ◌≤◌, ◌-◌, ◌^◌, ℕ, zero, suc, arith, refl, false, Option, None, Some, IfSome, IfNone, Result, IfOk, slice_index, slice_get, length, List, [], ◌∷◌, ◌++◌, ap, subst, sym, ◌∙◌}
use Rattle.std.specs.List.{flat_map}
use Rattle.std.proofs.lemmas.List.{append-nil}
use Rattle.std.proofs.lemmas.List.Concat.{flat_map-append}
use Rattle.std.proofs.lemmas.Result.{IfOk-weaker}
use Rattle.rv32_hart.specs.Access.{in_ram}
use Rattle.debugging.specs.Memories.{ShowsBytes, byte_in, memory_answer}
use Rattle.rv32_hart.specs.Hart.{Hart}
use Rattle.debugging.specs.Sessions.{SessionView, IsShown}
use Rattle.debugging.specs.Shown.{word_digits}

-- the text of these bytes is that of bytes of RAM
pub text_of_bytes : {T E : Type 0} (items : T → List ℕ) (r : Result T E) (pages : List (List ℕ)) (first many : ℕ) (bytes : List ℕ) →
    ShowsBytes pages first many bytes → IfOk r (λ t. items t ≡ memory_answer many bytes) →
    IfOk r (λ t. (bytes : List ℕ) × ShowsBytes pages first many bytes × (items t ≡ memory_answer many bytes))
text_of_bytes items r pages first many bytes shown is =
    IfOk-weaker r (λ t. items t ≡ memory_answer many bytes) (λ t. (bytes : List ℕ) × ShowsBytes pages first many bytes × (items t ≡ memory_answer many bytes))
    (λ t e. (bytes, shown, e)) is

-- the words of registers, with pc behind them
pub words_shown : (text before words : List ℕ) (pc : ℕ) → before ≡ flat_map word_digits (0 ∷ words) → text ≡ before ++ word_digits pc →
    text ≡ flat_map word_digits ((0 ∷ words) ++ pc ∷ [])
words_shown text before words pc p q =
    let apart = flat_map-append word_digits (0 ∷ words) (pc ∷ []) in
    let last = ap (λ (x : List ℕ). flat_map word_digits (0 ∷ words) ++ x) (append-nil (word_digits pc)) in
    q ∙ ap (λ (x : List ℕ). x ++ word_digits pc) p ∙ sym (apart ∙ last)

-- the byte at an address that is such a sum
pub byte_at : (pages : List (List ℕ)) (r : Option ℕ) (address sum : ℕ) → address ≡ sum → IfSome r (λ b. b ≡ byte_in pages address) →
    IfSome r (λ b. b ≡ byte_in pages sum)
byte_at pages r address sum e h = subst (λ (a : ℕ). IfSome r (λ b. b ≡ byte_in pages a)) e h

-- and where there is none
pub none_at : (pages : ℕ) (r : Option ℕ) (address sum : ℕ) → address ≡ sum → IfNone r (in_ram pages address ≡ false) →
    IfNone r ((in_ram pages sum ≡ false) ⊎ (2 ^ 32 ≤ sum))
none_at pages (Some b) address sum e h = tt
none_at pages None address sum e h = inl (subst (λ (a : ℕ). in_ram pages a ≡ false) e h)

-- x0 stands before the other registers
pub word_behind : (words : List ℕ) (n : ℕ) → 0 < n → slice_index (0 ∷ words) n ≡ slice_index words (n - 1)
word_behind words zero h = absurd (omega arith)
word_behind words (suc n) h = let e : suc n - 1 ≡ n = omega arith in rw e refl

-- there is none behind the end
pub not_there : (harts : List Hart) (i : ℕ) (h : Hart) → length harts ≤ i → slice_get harts i ≡ Some h → ⊥
not_there [] i h few there = absurd cc
not_there (x ∷ xs) zero h few there = omega (arith, few)
not_there (x ∷ xs) (suc i) h few there = not_there xs i h (omega (arith, few)) there

-- what is shown of the hart is that of each hart of which more is asked
pub shown_of : {T E : Type 0} (items : T → List ℕ) (r : Result T E) (s : SessionView) (hart : Hart) (text : Hart → List ℕ) →
    slice_get s.line.stands.machine.harts s.shown ≡ Some hart → IfOk r (λ t. items t ≡ text hart) →
    IfOk r (λ t. (h : Hart) → IsShown s h → items t ≡ text h)
shown_of items r s hart text there is =
    IfOk-weaker r (λ t. items t ≡ text hart) (λ t. (h : Hart) → IsShown s h → items t ≡ text h)
    (λ t e h shown. let same : hart ≡ h = cc in subst (λ (k : Hart). items t ≡ text k) same e) is
