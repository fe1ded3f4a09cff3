-- What becomes of inputs that were offered: they are logged, due or waiting.
use Rattle.std.proofs.Common.{◌≡◌, ◌≤◌, ℕ, zero, suc, List, [], ◌∷◌, ◌++◌, length, map, take, drop, not, nat_le, Bool, true, false, cond}
use Rattle.std.proofs.Common.{refl, sym, ap, subst, ◌∙◌, arith, append_assoc, true≢false}
use Rattle.std.specs.List.{take_while}
use Rattle.std.proofs.lemmas.List.{map-append}
use Rattle.std.proofs.lemmas.List.Elements.{filter-append}
use Rattle.std.proofs.lemmas.List.Sums.{take_while-cons}
use Rattle.std.proofs.lemmas.Bool.{leb-true}
use Rattle.input_log.specs.declared.Input.{Input}
use Rattle.input_log.specs.declared.Input.TheVariants.{Bell}
use Rattle.input_log.specs.declared.WaitingBell.{WaitingBell}
use Rattle.input_log.specs.declared.WaitingInput.{WaitingInput}
use Rattle.input_log.specs.declared.offered.Offer.{Offer}
use Rattle.input_log.specs.Inputs.{is_bell}
use Rattle.input_log.specs.Waiting.{bells_going, room_beside, others_going, others_staying, going}
use Rattle.input_log.specs.Offers.{come, waiting, all_offers, but_bells, IsKept, AreKept}

-- ---- one and all

one_itself : (o : Offer) → IsKept o o
one_itself o = record { same = refl; timely = omega arith; waits = λ w. refl }

one_on : (a b c : Offer) → IsKept a b → IsKept b c → IsKept a c
one_on a b c p q =
    record {
      same = q.same ∙ p.same;
      timely = omega (arith, p.timely, q.timely);
      waits = λ w. let still : c ≡ b = q.waits w in still ∙ p.waits (ap (λ (o : Offer). o.waits) (sym still) ∙ w);
    }

pub kept_itself : (xs : List Offer) → AreKept xs xs
kept_itself [] = tt
kept_itself (x ∷ xs) = (one_itself x, kept_itself xs)

pub kept_same : (xs ys : List Offer) → ys ≡ xs → AreKept xs ys
kept_same xs ys is = subst (AreKept xs) (sym is) (kept_itself xs)

pub kept_on : (xs ys zs : List Offer) → AreKept xs ys → AreKept ys zs → AreKept xs zs
kept_on [] [] [] p q = tt
kept_on [] [] (z ∷ zs) p q = absurd q
kept_on [] (y ∷ ys) zs p q = absurd p
kept_on (x ∷ xs) [] zs p q = absurd p
kept_on (x ∷ xs) (y ∷ ys) [] p q = absurd q
kept_on (x ∷ xs) (y ∷ ys) (z ∷ zs) p q = (one_on x y z p.0 q.0, kept_on xs ys zs p.1 q.1)

kept_append : (xs ys us vs : List Offer) → AreKept xs ys → AreKept us vs → AreKept (xs ++ us) (ys ++ vs)
kept_append [] [] us vs p q = q
kept_append [] (y ∷ ys) us vs p q = absurd p
kept_append (x ∷ xs) [] us vs p q = absurd p
kept_append (x ∷ xs) (y ∷ ys) us vs p q = (p.0, kept_append xs ys us vs p.1 q)

-- bells aside
kept_but_bells : (xs ys : List Offer) → AreKept xs ys → AreKept (but_bells xs) (but_bells ys)
kept_but_bells [] [] p = tt
kept_but_bells [] (y ∷ ys) p = absurd p
kept_but_bells (x ∷ xs) [] p = absurd p
kept_but_bells (x ∷ xs) (y ∷ ys) p =
    subst (λ (b : Bool). AreKept (but_bells (x ∷ xs)) (cond (not b) (y ∷ but_bells ys) (but_bells ys))) (sym (ap is_bell p.0.same))
    (of (kept_but_bells xs ys p.1) (is_bell x.input))
  where
    of : AreKept (but_bells xs) (but_bells ys) → (b : Bool) →
        AreKept (cond (not b) (x ∷ but_bells xs) (but_bells xs)) (cond (not b) (y ∷ but_bells ys) (but_bells ys))
    of rest true = rest
    of rest false = (p.0, rest)

-- ---- what is due is due later

due_later : (m n : ℕ) (due : List Input) → m ≤ n → AreKept (map (come m) due) (map (come n) due)
due_later m n [] le = tt
due_later m n (i ∷ due) le = (record { same = refl; timely = le; waits = λ w. absurd (true≢false (sym w)) }, due_later m n due le)

pub kept_later : (given : List (ℕ × Input)) (m n : ℕ) (due : List Input) (others : List WaitingInput) → m ≤ n →
    AreKept (but_bells (all_offers given m due others)) (but_bells (all_offers given n due others))
kept_later given m n due others le =
    let front : List Offer = map (λ (x : ℕ × Input). come x.0 x.1) given in
    let back : List Offer = map waiting others in
    kept_but_bells (all_offers given m due others) (all_offers given n due others)
    (kept_append front front (map (come m) due ++ back) (map (come n) due ++ back) (kept_itself front)
    (kept_append (map (come m) due) (map (come n) due) back back (due_later m n due le) (kept_itself back)))

-- ---- what goes at a count

-- what goes of the others does so no sooner than it may, and the rest stays
gone_kept : (n room : ℕ) (others : List WaitingInput) →
    AreKept (map waiting others)
    (map (come n) (map (λ (w : WaitingInput). w.input) (others_going n room others)) ++ map waiting (others_staying n room others))
gone_kept n zero others = kept_itself (map waiting others)
gone_kept n (suc room) [] = tt
gone_kept n (suc room) (w ∷ others) = of (gone_kept n room others) (nat_le w.not_before n) refl
  where
    Kept : List WaitingInput → Type 0
    Kept going =
        AreKept (waiting w ∷ map waiting others)
        (map (come n) (map (λ (v : WaitingInput). v.input) (take (suc room) going)) ++ map waiting (drop (length (take (suc room) going)) (w ∷ others)))

    front : (b : Bool) → nat_le w.not_before n ≡ b → take_while (λ (v : WaitingInput). nat_le v.not_before n) (w ∷ others)
        ≡ cond b (w ∷ take_while (λ (v : WaitingInput). nat_le v.not_before n) others) []
    front b is =
        take_while-cons (λ (v : WaitingInput). nat_le v.not_before n) w others
        ∙ ap (λ (b : Bool). cond b (w ∷ take_while (λ (v : WaitingInput). nat_le v.not_before n) others) []) is

    of : AreKept (map waiting others)
        (map (come n) (map (λ (v : WaitingInput). v.input) (others_going n room others)) ++ map waiting (others_staying n room others)) →
        (b : Bool) → nat_le w.not_before n ≡ b → Kept (take_while (λ (v : WaitingInput). nat_le v.not_before n) (w ∷ others))
    of rest true is =
        subst Kept (sym (front true is))
        (record { same = refl; timely = leb-true w.not_before n is; waits = λ v. absurd (true≢false (sym v)) }, rest)
    of rest false is = subst Kept (sym (front false is)) (kept_itself (waiting w ∷ map waiting others))

come_append : (n : ℕ) (xs ys : List Input) → map (come n) (xs ++ ys) ≡ map (come n) xs ++ map (come n) ys
come_append n xs ys = map-append (come n) xs ys

no_bells : (n : ℕ) (bells : List WaitingBell) → but_bells (map (come n) (map (λ (b : WaitingBell). Bell b.source) bells)) ≡ []
no_bells n [] = refl
no_bells n (b ∷ bells) = no_bells n bells

-- a desk that gives what goes to a hart to which nothing was due
pub kept_taken : (given : List (ℕ × Input)) (n : ℕ) (bells : List WaitingBell) (others : List WaitingInput) →
    AreKept (but_bells (all_offers given n [] others))
    (but_bells (all_offers given n (going n bells others) (others_staying n (room_beside bells) others)))
kept_taken given n bells others =
    let front : List Offer = map (λ (x : ℕ × Input). come x.0 x.1) given in
    let rung : List Input = map (λ (b : WaitingBell). Bell b.source) (bells_going bells) in
    let gone : List Input = map (λ (w : WaitingInput). w.input) (others_going n (room_beside bells) others) in
    let stay : List Offer = map waiting (others_staying n (room_beside bells) others) in
    let plain = λ (o : Offer). not (is_bell o.input) in
    subst (λ (new : List Offer). AreKept (but_bells (front ++ map waiting others)) new)
    (sym
    (filter-append plain front (map (come n) (rung ++ gone) ++ stay)
    ∙ ap (λ (xs : List Offer). but_bells front ++ but_bells (xs ++ stay)) (come_append n rung gone)
    ∙ ap (λ (xs : List Offer). but_bells front ++ but_bells xs) (append_assoc (map (come n) rung) (map (come n) gone) stay)
    ∙ ap (λ (xs : List Offer). but_bells front ++ xs) (filter-append plain (map (come n) rung) (map (come n) gone ++ stay))
    ∙ ap (λ (xs : List Offer). but_bells front ++ (xs ++ but_bells (map (come n) gone ++ stay))) (no_bells n (bells_going bells))
    ∙ sym (filter-append plain front (map (come n) gone ++ stay))))
    (kept_but_bells (front ++ map waiting others) (front ++ (map (come n) gone ++ stay))
    (kept_append front front (map waiting others) (map (come n) gone ++ stay) (kept_itself front) (gone_kept n (room_beside bells) others)))

-- ---- what was due is given

given_at : (m : ℕ) (due : List Input) →
    map (λ (x : ℕ × Input). come x.0 x.1) (map (λ (i : Input). let x : ℕ × Input = (m, i) in x) due) ≡ map (come m) due
given_at m [] = refl
given_at m (i ∷ due) = ap (λ (rest : List Offer). come m i ∷ rest) (given_at m due)

pub same_given : (given : List (ℕ × Input)) (m n : ℕ) (due : List Input) (others : List WaitingInput) →
    all_offers (given ++ map (λ i. (m, i)) due) n [] others ≡ all_offers given m due others
same_given given m n due others =
    ap (λ (xs : List Offer). xs ++ map waiting others)
    (map-append (λ (x : ℕ × Input). come x.0 x.1) given (map (λ i. (m, i)) due)
    ∙ ap (λ (xs : List Offer). map (λ (x : ℕ × Input). come x.0 x.1) given ++ xs) (given_at m due))
    ∙ append_assoc (map (λ (x : ℕ × Input). come x.0 x.1) given) (map (come m) due) (map waiting others)
