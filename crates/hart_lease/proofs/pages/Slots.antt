-- The RAM that slots show.
use Rattle.std.proofs.Common.{◌≡◌, ℕ, zero, suc, ◌<◌, ◌≤◌, List, [], ◌∷◌, length, map, slice_set, slice_index_or, refl, ap, sym, ◌∙◌, arith, replicate, Option}
use Rattle.std.proofs.Common.{None}
use Rattle.std.proofs.lemmas.List.{get_or_default, length-replicate}
use Rattle.ft_types.specs.declared.names.TheConstants.{PAGE_LIMIT}
use Rattle.rv32_hart.specs.Ram.{Ram, IsRam, with_page, page_of}
use Rattle.hart_lease.specs.declared.lease_pages.Slot.{Slot}
use Rattle.hart_lease.specs.declared.lease_pages.Slot.TheVariants.{Missing, Readable, Writable}
use Rattle.hart_lease.specs.Slots.{zeros, AreSlots, slot_at, present_bytes, is_readable, is_writable, ram_of}

pub length-map : {A B : Type 0} (f : A → B) (xs : List A) → length (map f xs) ≡ length xs
length-map f [] = refl
length-map f (x ∷ xs) = ap suc (length-map f xs)

-- what f makes of the element at i
pub index-map : {A B : Type 0} (f : A → B) (d : A) (e : B) (xs : List A) (i : ℕ) → i < length xs →
    slice_index_or (map f xs) i e ≡ f (slice_index_or xs i d)
index-map f d e [] i lt = absurd (omega arith)
index-map f d e (x ∷ xs) zero lt = refl
index-map f d e (x ∷ xs) (suc i) lt = index-map f d e xs i (omega arith)

pub map-set : {A B : Type 0} (f : A → B) (xs : List A) (i : ℕ) (v : A) → map f (slice_set xs i v) ≡ slice_set (map f xs) i (f v)
map-set f [] i v = refl
map-set f (x ∷ xs) zero v = refl
map-set f (x ∷ xs) (suc i) v = ap (λ l. f x ∷ l) (map-set f xs i v)

-- what f makes stays where f makes of the new element what it made of the old one
pub map-set_same : {A B : Type 0} (f : A → B) (d : A) (xs : List A) (i : ℕ) (v : A) → f v ≡ f (slice_index_or xs i d) →
    map f (slice_set xs i v) ≡ map f xs
map-set_same f d [] i v e = refl
map-set_same f d (x ∷ xs) zero v e = ap (λ y. y ∷ map f xs) e
map-set_same f d (x ∷ xs) (suc i) v e = ap (λ l. f x ∷ l) (map-set_same f d xs i v e)

pub ram_sound : (slots : List Slot) → AreSlots slots → IsRam (ram_of slots)
ram_sound slots p =
    let same = length-map present_bytes slots in
    record {
      pages = omega (arith, same, p.pages);
      bytes = λ page lt.
          let within : page < length slots = omega (arith, same, lt) in
          ap length (index-map present_bytes Missing [] slots page within) ∙ p.bytes page within;
    }

-- the page that may be written shows its new bytes, and nothing else changes
pub ram_written : (slots : List Slot) (i : ℕ) (old new : List ℕ) → slot_at slots i ≡ Writable old →
    ram_of (slice_set slots i (Writable new)) ≡ with_page (ram_of slots) i new
ram_written slots i old new e =
    rw (
      map-set present_bytes slots i (Writable new),
      map-set_same is_readable Missing slots i (Writable new) (sym (ap is_readable e)),
      map-set_same is_writable Missing slots i (Writable new) (sym (ap is_writable e)),
    ) refl

pub page_shown : (slots : List Slot) (i : ℕ) → i < length slots → page_of (ram_of slots) i ≡ present_bytes (slot_at slots i)
page_shown slots i lt = index-map present_bytes Missing [] slots i lt

-- a write through a slot: `self` is the row, `found` what stands at `page`, and `f` what the write makes of the page's bytes
pub slot_written : (inside self : List Slot) (index page : ℕ) (found : Slot) (here new : List ℕ) (f : List ℕ → List ℕ) →
    inside ≡ self → index ≡ page → page < length (map present_bytes self) → found ≡ slice_index_or inside index found →
    found ≡ Writable here → new ≡ f here →
    ram_of (slice_set inside index (Writable new)) ≡ with_page (ram_of self) page (f (page_of (ram_of self) page))
slot_written inside self index page found here new f same at lt is writable made =
    let within : page < length self = omega (arith, length-map present_bytes self, lt) in
    let there : slot_at self page ≡ Writable here =
    sym (is ∙ rw (same, at) (get_or_default self page found Missing within)) ∙ writable in
    rw (same, at, made) (ram_written self page here (f here) there
    ∙ ap (λ (b : List ℕ). with_page (ram_of self) page (f b)) (sym (page_shown self page within ∙ ap present_bytes there)))

pub index-replicate : (n i : ℕ) → slot_at (replicate n Missing) i ≡ Missing
index-replicate zero i = refl
index-replicate (suc n) zero = refl
index-replicate (suc n) (suc i) = index-replicate n i

length_zeros : length zeros ≡ 4096
unfolding zeros
length_zeros = length-replicate {A = ℕ} 4096 0

pub missing_slots : (n : ℕ) → n ≤ PAGE_LIMIT → AreSlots (replicate n Missing)
missing_slots n le = record {
  pages = omega (arith, length-replicate {A = Slot} n Missing, le);
  bytes = λ page lt. ap (λ (s : Slot). length (present_bytes s)) (index-replicate n page) ∙ length_zeros;
}

-- what the hart is shown tells the slots
pub slots_told : (a b : List Slot) → map present_bytes a ≡ map present_bytes b → map is_readable a ≡ map is_readable b →
    map is_writable a ≡ map is_writable b → a ≡ b
slots_told [] [] c r w = refl
slots_told [] (y ∷ ys) c r w = cc
slots_told (x ∷ xs) [] c r w = cc
slots_told (Missing ∷ xs) (Missing ∷ ys) c r w = ap (λ l. Missing ∷ l) (slots_told xs ys (cc) (cc) (cc))
slots_told (Missing ∷ xs) (Readable y ∷ ys) c r w = cc
slots_told (Missing ∷ xs) (Writable y ∷ ys) c r w = cc
slots_told (Readable x ∷ xs) (Missing ∷ ys) c r w = cc
slots_told (Readable x ∷ xs) (Readable y ∷ ys) c r w =
    let e : x ≡ y = cc in let f : xs ≡ ys = slots_told xs ys (cc) (cc) (cc) in cc
slots_told (Readable x ∷ xs) (Writable y ∷ ys) c r w = cc
slots_told (Writable x ∷ xs) (Missing ∷ ys) c r w = cc
slots_told (Writable x ∷ xs) (Readable y ∷ ys) c r w = cc
slots_told (Writable x ∷ xs) (Writable y ∷ ys) c r w =
    let e : x ≡ y = cc in let f : xs ≡ ys = slots_told xs ys (cc) (cc) (cc) in cc

pub ram_tells : (a b : List Slot) → ram_of a ≡ ram_of b → a ≡ b
ram_tells a b e =
    slots_told a b (ap (λ (r : Ram). r.contents) e) (ap (λ (r : Ram). r.readable) e) (ap (λ (r : Ram). r.writable) e)

pub none-replicate : {A : Type 0} (n i : ℕ) → slice_index_or (replicate n (let none : Option A = None in none)) i None ≡ None
none-replicate zero i = refl
none-replicate (suc n) zero = refl
none-replicate (suc n) (suc i) = none-replicate n i
