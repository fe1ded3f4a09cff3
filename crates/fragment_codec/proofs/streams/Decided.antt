-- Whether a frame keeps the rules is decided by tests of numbers.
use Rattle.std.proofs.Common.{◌≡◌, ◌<◌, ◌≤◌, ◌-◌, ◌^◌, Bool, true, false, ℕ, List, [], ◌∷◌, length, slice_index, refl, sym, ◌∙◌, arith, inl, inr, ◌⊎◌}
use Rattle.std.specs.List.{AllByRecursion}
use Rattle.std.proofs.lemmas.Bool.{cases_lt, cases_eq, cases_Bool}
use Rattle.std.proofs.lemmas.List.{get_or_past}
use Rattle.std.proofs.lemmas.List.Elements.{All-from_recursion, recursion_from_All, All-from_get_or}
use Rattle.ft_types.specs.Counts.{IsCount}
use Rattle.ft_types.specs.Guests.{GuestParts, IsDigest, IsGuest}
use Rattle.ft_types.specs.declared.names.TheConstants.{HART_LIMIT}
use Rattle.fragment_codec.specs.declared.types.TheConstants.{FIRST_HARTS, RECORD_LIMIT}
use Rattle.fragment_codec.specs.declared.frame.Frame.{Frame}
use Rattle.fragment_codec.specs.declared.frame.Frame.TheVariants.{Log, Opening}
use Rattle.fragment_codec.specs.declared.types.Key.{Key}
use Rattle.fragment_codec.specs.declared.types.Record.{Record}
use Rattle.fragment_codec.specs.Rules.{IsKey, AreRecords, FragmentParts, IsFragment, OpeningParts, IsOpening, has_note}
use Rattle.fragment_codec.specs.machinery.Slots.{are_right}
use Rattle.fragment_codec.specs.Streams.{Spelled, harts_of, is_noted, is_short, HasSpelling, IsSpelled, IsFrame}
use Rattle.fragment_codec.proofs.records.Slots.{right_records, records_right}

-- it holds, or it does not
abbrev pub Decided : Type 0 → Type 0
Decided P = P ⊎ (P → ⊥)

by_same : {P Q : Type 0} → (P → Q) → (Q → P) → Decided P → Decided Q
by_same there back (inl p) = inl (there p)
by_same there back (inr fails) = inr (λ q. fails (back q))

pub both : {P Q : Type 0} → Decided P → Decided Q → Decided (P × Q)
both (inl p) (inl q) = inl (p, q)
both (inl p) (inr fails) = inr (λ h. fails h.1)
both (inr fails) q = inr (λ h. fails h.0)

given : {P Q : Type 0} → Decided P → Decided Q → Decided (P → Q)
given (inl p) (inl q) = inl (λ h. q)
given (inl p) (inr fails) = inr (λ f. fails (f p))
given (inr fails) q = inl (λ p. absurd (fails p))

below : (m n : ℕ) → Decided (m < n)
below m n = elim (cases_lt m n) [ inl lt ↦ inl lt | inr le ↦ inr (λ lt. omega (arith, le, lt)) ]

at_most : (m n : ℕ) → Decided (m ≤ n)
at_most m n = elim (cases_lt n m) [ inl lt ↦ inr (λ le. omega (arith, le, lt)) | inr le ↦ inl le ]

all : {X : Type 0} (P : X → Type 0) → ((x : X) → Decided (P x)) → (xs : List X) → Decided (AllByRecursion P xs)
all P each [] = inl tt
all P each (x ∷ xs) = both (each x) (all P each xs)

pub same_list : (xs ys : List ℕ) → Decided (xs ≡ ys)
same_list [] [] = inl refl
same_list [] (y ∷ ys) = inr (λ e. cc)
same_list (x ∷ xs) [] = inr (λ e. cc)
same_list (x ∷ xs) (y ∷ ys) = by_same (λ h. rw (h.0, h.1) refl) (λ e. (cc, cc)) (both (cases_eq x y) (same_list xs ys))

-- ---- guests and keys

are_bytes : (xs : List ℕ) → Decided ((i : ℕ) → slice_index xs i < 256)
are_bytes xs = by_same (bytes_at xs) (λ h. recursion_from_All (λ b. b < 256) xs (All-from_get_or (λ b. b < 256) xs 0 (λ i lt. h i)))
    (all (λ b. b < 256) (λ b. below b 256) xs)
  where
    bytes_at : (ys : List ℕ) → AllByRecursion (λ b. b < 256) ys → (i : ℕ) → slice_index ys i < 256
    bytes_at ys h i =
        elim (cases_lt i (length ys)) [
          | inl lt ↦ All-from_recursion (λ b. b < 256) ys h i 0 lt
          | inr le ↦ rw (get_or_past ys i 0 le) (omega arith)
        ]

digest : (xs : List ℕ) → Decided (IsDigest xs)
digest xs = by_same (λ h. record { len = h.0; bytes = h.1 }) (λ h. (h.len, h.bytes)) (both (cases_eq (length xs) 32) (are_bytes xs))

guest : (g : GuestParts) → Decided (IsGuest g)
guest g = by_same (λ h. record { digest = h.0; some = h.1.0; limit = h.1.1 }) (λ h. (h.digest, (h.some, h.limit)))
    (both (digest g.digest) (both (at_most 1 g.harts) (at_most g.harts HART_LIMIT)))

key : (harts : ℕ) (k : Key) → Decided (IsKey harts k)
key harts k = by_same (λ h. record { hart = h.0; granted = h.1.0; term = h.1.1.0; place = h.1.1.1 }) (λ h. (h.hart, (h.granted, (h.term, h.place))))
    (both (below k.hart harts) (both (at_most 1 k.term) (both (below k.term (2 ^ 32)) (below k.place (2 ^ 32)))))

-- ---- fragments and openings

records : (harts hart from to : ℕ) (rs : List Record) → harts ≤ HART_LIMIT → Decided (AreRecords harts hart from to rs)
records harts hart from to rs le =
    elim (cases_lt RECORD_LIMIT (length rs)) [
      | inl long ↦ inr (λ h. let limit = h.limit in omega (arith, limit, long))
      | inr limit ↦
          elim (cases_Bool (are_right harts hart to from 0 0 rs)) [
            | inl e ↦ inl (right_records harts hart from to le rs limit e)
            | inr e ↦ inr (λ h. let yes = sym e ∙ records_right harts hart from to le rs h in cc)
          ]
    ]

is_true : (b : Bool) → Decided (b ≡ true)
is_true true = inl refl
is_true false = inr (λ e. cc)

is_false : (b : Bool) → Decided (b ≡ false)
is_false true = inr (λ e. cc)
is_false false = inl refl

fragment : (f : FragmentParts) → Decided (IsFragment f)
fragment f =
    elim (guest f.guest) [
      | inl g ↦
          by_same (λ h. record { guest = g; key = h.0; some = h.1.0; end = h.1.1.0; short = h.1.1.1.0; noted = h.1.1.1.1.0; records = h.1.1.1.1.1 })
          (λ h. (h.key, (h.some, (h.end, (h.short, (h.noted, h.records))))))
          (both (key f.guest.harts f.key) (both (below f.from f.to) (both (below f.to (2 ^ 48))
          (both (given (below FIRST_HARTS f.guest.harts) (below (f.to - f.from) (2 ^ 32)))
          (both (given (is_true (has_note f.records)) (below (f.to - f.from) (2 ^ 32)))
          (records f.guest.harts f.key.hart f.from f.to f.records g.limit))))))
      | inr fails ↦ inr (λ h. fails h.guest)
    ]

opening : (o : OpeningParts) → Decided (IsOpening o)
opening o =
    let zeros = by_same (All-from_recursion (λ n. n ≡ 0) o.base) (recursion_from_All (λ n. n ≡ 0) o.base) (all (λ n. n ≡ 0) (λ n. cases_eq n 0) o.base) in
    by_same
    (λ h. record { guest = h.0; granted = h.1.0; term = h.1.1.0; parent = h.1.1.1.0; base = h.1.1.1.1.0; counts = h.1.1.1.1.1.0; boot = h.1.1.1.1.1.1 })
    (λ h. (h.guest, (h.granted, (h.term, (h.parent, (h.base, (h.counts, h.boot)))))))
    (both (guest o.guest) (both (at_most 1 o.term) (both (below o.term (2 ^ 32)) (both (below o.parent o.term)
    (both (cases_eq (length o.base) o.guest.harts) (both (all IsCount (λ n. below n (2 ^ 48)) o.base) (given (cases_eq o.parent 0) zeros)))))))

frame : (f : Frame) → Decided (IsFrame f)
frame (Log f) = fragment f
frame (Opening o) = opening o

-- ---- versions

either : {P Q : Type 0} → Decided P → Decided Q → Decided (P ⊎ Q)
either (inl p) q = inl (inl p)
either (inr fails) (inl q) = inl (inr q)
either (inr fails) (inr ends) = inr (λ h. elim h [ inl p ↦ fails p | inr q ↦ ends q ])

told : (version : ℕ) (f : Frame) → Decided (HasSpelling version f)
told version f =
    either
    (by_same (λ h. (h.0, h.1.0, h.1.1)) (λ h. (h.0, (h.1, h.2)))
    (both (cases_eq version 1) (both (at_most (harts_of f) FIRST_HARTS) (is_false (is_noted f)))))
    (both (cases_eq version 2) (is_true (is_short f)))

pub spelled : (s : Spelled) → Decided (IsSpelled s)
spelled s = by_same (λ h. record { rules = h.0; told = h.1 }) (λ h. (h.rules, h.told)) (both (frame s.frame) (told s.version s.frame))
