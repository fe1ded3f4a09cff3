-- A list of events has one reading: what happens, or one fault.
use Rattle.std.proofs.Common.{◌≡◌, ◌⊎◌, ℕ, suc, List, [], ◌∷◌, ◌++◌, length, get_or, Result, refl, ap, sym, ◌∙◌, arith, inl, inr}
use Rattle.std.specs.Prelude.{decimal, codes, IfOk, IfErr, MatchResult}
use Rattle.std.proofs.lemmas.Grind.{common_steps}
use Rattle.std.proofs.lemmas.Fmt.{decimal_injective}
use Rattle.ft_types.specs.Text.{word}
use Rattle.ft_types.proofs.Texts.{word_same}
use Rattle.input_log.specs.declared.Input.TheVariants as input
use Rattle.scripts.specs.declared.event.Event.{Event}
use Rattle.scripts.specs.declared.event.Event.TheVariants.{Step, Offer, Seal, Deliver, Join, Acknowledge, Release, Stop, Lose, Grant}
use Rattle.scripts.specs.declared.fault.EventsFault.{EventsFault}
use Rattle.scripts.specs.declared.fault.EventsFault.TheVariants.{BadLine, Memory}
use Rattle.scripts.specs.Events.{name_of, numbers_of, words_of, spaced_numbers, spaced_words, event_text, events_text, MayHappen, MayAllHappen, IsFault}
use Rattle.scripts.specs.Events.{SameEvent, AreSame}
use Rattle.scripts.proofs.Plain.{number_has_none}
use Rattle.scripts.proofs.Cuts.{one_first, hart_small}
use Rattle.scripts.proofs.Lines as lines
use Rattle.scripts.proofs.Names.{name_plain, spaced_tail, text_cut, numbers_same, are_numbers, no_words, offer_only, offer_end, event_no_break}

-- ---- one line says one thing

is_word : (harts : ℕ) (e : Event) → MayHappen harts e → (codes "word" ≡ name_of e) ⊎ (codes "word" ≡ name_of e → ⊥)
is_word harts (Step h) m = inr (λ e. omega (arith, ap (λ (t : List ℕ). get_or t 0 0) e))
is_word harts (Offer h input.Timer) m = inr (λ e. omega (arith, ap (λ (t : List ℕ). get_or t 0 0) e))
is_word harts (Offer h (input.Word w)) m = inl refl
is_word harts Seal m = inr (λ e. omega (arith, ap (λ (t : List ℕ). get_or t 0 0) e))
is_word harts (Deliver k f) m = inr (λ e. omega (arith, ap (λ (t : List ℕ). get_or t 0 0) e))
is_word harts (Join k o) m = inr (λ e. omega (arith, ap (λ (t : List ℕ). get_or t 0 0) e))
is_word harts (Acknowledge k) m = inr (λ e. omega (arith, ap (λ (t : List ℕ). get_or t 0 0) e))
is_word harts Release m = inr (λ e. omega (arith, ap (λ (t : List ℕ). get_or t 0 0) e))
is_word harts Stop m = inr (λ e. omega (arith, ap (λ (t : List ℕ). get_or t 0 0) e))
is_word harts (Lose k) m = inr (λ e. omega (arith, ap (λ (t : List ℕ). get_or t 0 0) e))
is_word harts (Grant t ks) m = inr (λ e. omega (arith, ap (λ (t : List ℕ). get_or t 0 0) e))
is_word harts (Offer h (input.Bell s)) m = absurd m.1

-- two events with words
same_offers : (harts : ℕ) (e f : Event) → MayHappen harts e → MayHappen harts f → codes "word" ≡ name_of e → codes "word" ≡ name_of f →
    spaced_numbers (numbers_of e) ++ spaced_words (words_of e) ≡ spaced_numbers (numbers_of f) ++ spaced_words (words_of f) →
    (numbers_of e ≡ numbers_of f) × (words_of e ≡ words_of f)
same_offers harts e f p q u v same =
    let o = offer_only harts e p u in
    let r = offer_only harts f q v in
    let first : 32 ∷ (decimal r.0 ++ 32 ∷ word r.1) ≡ spaced_numbers (r.0 ∷ []) ++ spaced_words (r.1 ∷ []) = grind (arith, common_steps) in
    let spaced : 32 ∷ (decimal r.0 ++ 32 ∷ word r.1) ≡ spaced_numbers (o.0 ∷ []) ++ spaced_words (o.1 ∷ []) = first
    ∙ ap (λ (ns : List ℕ). spaced_numbers ns ++ spaced_words (r.1 ∷ [])) (sym r.4)
    ∙ ap (λ (ws : List ℕ). spaced_numbers (numbers_of f) ++ spaced_words ws) (sym r.5)
    ∙ sym same
    ∙ ap (λ (ns : List ℕ). spaced_numbers ns ++ spaced_words (words_of e)) o.4 ∙ ap (λ (ws : List ℕ). spaced_numbers (o.0 ∷ []) ++ spaced_words ws) o.5 in
    let parts : decimal r.0 ++ 32 ∷ word r.1 ≡ decimal o.0 ++ 32 ∷ word o.1 = offer_end o.0 o.1 (decimal r.0 ++ 32 ∷ word r.1) spaced in
    let cut = one_first 32 (decimal r.0) (decimal o.0) (word r.1) (word o.1) (number_has_none 32 r.0 (omega arith) (hart_small harts r.0 r.2))
    (number_has_none 32 o.0 (omega arith) (hart_small harts o.0 o.2)) parts in
    let hart : r.0 ≡ o.0 = decimal_injective r.0 o.0 (omega (arith, r.2.1)) (omega (arith, o.2.1)) cut.0 in
    let value : r.1 ≡ o.1 = word_same r.1 o.1 r.3 o.3 cut.1 in
    (o.4 ∙ ap (λ (h : ℕ). h ∷ []) (sym hart) ∙ sym r.4, o.5 ∙ ap (λ (w : ℕ). w ∷ []) (sym value) ∙ sym r.5)

-- two events without
same_others : (harts : ℕ) (e f : Event) → MayHappen harts e → MayHappen harts f → words_of e ≡ [] → words_of f ≡ [] →
    spaced_numbers (numbers_of e) ++ spaced_words (words_of e) ≡ spaced_numbers (numbers_of f) ++ spaced_words (words_of f) →
    (numbers_of e ≡ numbers_of f) × (words_of e ≡ words_of f)
same_others harts e f p q u v same =
    let first : spaced_numbers (numbers_of e) ≡ spaced_numbers (numbers_of e) ++ spaced_words [] = grind (arith, common_steps) in
    let last : spaced_numbers (numbers_of f) ++ spaced_words [] ≡ spaced_numbers (numbers_of f) = grind (arith, common_steps) in
    let spaced : spaced_numbers (numbers_of e) ≡ spaced_numbers (numbers_of f) = first
    ∙ ap (λ (ws : List ℕ). spaced_numbers (numbers_of e) ++ spaced_words ws) (sym u) ∙ same
    ∙ ap (λ (ws : List ℕ). spaced_numbers (numbers_of f) ++ spaced_words ws) v ∙ last in
    (numbers_same (numbers_of e) (numbers_of f) (are_numbers harts e p) (are_numbers harts f q) spaced, u ∙ sym v)

same_behind : (harts : ℕ) (e f : Event) → MayHappen harts e → MayHappen harts f → name_of e ≡ name_of f →
    spaced_numbers (numbers_of e) ++ spaced_words (words_of e) ≡ spaced_numbers (numbers_of f) ++ spaced_words (words_of f) →
    (codes "word" ≡ name_of e) ⊎ (codes "word" ≡ name_of e → ⊥) → (numbers_of e ≡ numbers_of f) × (words_of e ≡ words_of f)
same_behind harts e f p q name same (inl w) = same_offers harts e f p q w (w ∙ name) same
same_behind harts e f p q name same (inr other) = same_others harts e f p q (no_words harts e p other)
    (no_words harts f q (λ w. other (w ∙ sym name))) same

event_same : (harts : ℕ) (e f : Event) → MayHappen harts e → MayHappen harts f → event_text e ≡ event_text f → SameEvent e f
event_same harts e f p q same =
    let r = text_cut harts f (name_of e) (spaced_numbers (numbers_of e) ++ spaced_words (words_of e)) q (name_plain 32 (omega arith) harts e p)
    (spaced_tail (numbers_of e) (words_of e)) same in
    let s = same_behind harts e f p q r.0 r.1 (is_word harts e p) in
    (r.0, s.0, s.1)

-- ---- a list has one reading

more_same : (harts : ℕ) (e f : Event) (es fs : List Event) → MayHappen harts e → MayHappen harts f → event_text e ≡ event_text f → AreSame es fs →
    AreSame (e ∷ es) (f ∷ fs)
more_same harts e f es fs p q same rest = (event_same harts e f p q same, rest)

same_length : (es fs : List Event) → AreSame es fs → length es ≡ length fs
same_length [] [] p = refl
same_length [] (f ∷ fs) p = absurd p
same_length (e ∷ es) [] p = absurd p
same_length (e ∷ es) (f ∷ fs) p = ap (λ (n : ℕ). suc n) (same_length es fs p.1)

which : (f : EventsFault) → (f ≡ Memory) ⊎ ((k : ℕ) × (f ≡ BadLine k))
which Memory = inl refl
which (BadLine k) = inr (k, refl)

pub only_events : {A : Type 0} (items : A → List Event) (harts : ℕ) (bytes : List ℕ) (r : Result A EventsFault) →
    IfOk r (λ a. MayAllHappen harts (items a) × (bytes ≡ events_text (items a))) → IfErr r (λ e. IsFault harts bytes e) → (es : List Event) →
    MayAllHappen harts es → bytes ≡ events_text es → MatchResult r (λ a. AreSame (items a) es) (λ e. e ≡ Memory)
only_events items harts = lines.only_reading (MayHappen harts) event_text (event_no_break harts) AreSame tt (more_same harts) same_length Memory BadLine
    (IsFault harts) which (λ bytes k bad. bad) items

pub only_fault : {A : Type 0} (items : A → List Event) (harts : ℕ) (bytes : List ℕ) (r : Result A EventsFault) →
    IfOk r (λ a. MayAllHappen harts (items a) × (bytes ≡ events_text (items a))) → IfErr r (λ e. IsFault harts bytes e) → (k : ℕ) →
    IsFault harts bytes (BadLine k) → MatchResult r (λ _. ⊥) (λ e. (e ≡ Memory) ⊎ (e ≡ BadLine k))
only_fault items harts = lines.only_fault (MayHappen harts) event_text (event_no_break harts) AreSame tt (more_same harts) same_length Memory BadLine
    (IsFault harts) which (λ bytes k bad. bad) items
