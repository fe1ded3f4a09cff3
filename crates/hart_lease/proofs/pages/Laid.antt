-- Pages laid over those of a machine.
use Rattle.std.proofs.Common.{◌≡◌, ◌≤◌, ◌<◌, ℕ, zero, suc, List, [], ◌∷◌, ◌++◌, length, refl, ap, arith, slice_set, slice_get, take, ◌+◌, sym}
use Rattle.std.proofs.lemmas.List.{take_more, length-take-le}
use Rattle.guest_image.specs.Machine.{MachineState}
use Rattle.hart_lease.specs.declared.lease_pages.Slot.{Slot}
use Rattle.hart_lease.specs.declared.lease_pages.Slot.TheVariants.{Missing, Readable, Writable}
use Rattle.hart_lease.specs.Slots.{slot_at}
use Rattle.hart_lease.specs.Leases.{laid_pages, page_after, with_slot}

pub length-laid_pages : (ps : List (List ℕ)) (ss : List Slot) → length (laid_pages ps ss) ≡ length ps
length-laid_pages [] ss = refl
length-laid_pages (p ∷ ps) [] = refl
length-laid_pages (p ∷ ps) (s ∷ ss) = ap suc (length-laid_pages ps ss)

pub laid_pages-nil : (ps : List (List ℕ)) → laid_pages ps [] ≡ ps
laid_pages-nil [] = refl
laid_pages-nil (p ∷ ps) = refl

-- a slot that was not written
pub laid_pages-kept : (ps : List (List ℕ)) (ss : List Slot) (s : Slot) → ((p : List ℕ) → page_after p s ≡ p) →
    laid_pages ps (ss ++ s ∷ []) ≡ laid_pages ps ss
laid_pages-kept [] ss s same = refl
laid_pages-kept (p ∷ ps) [] s same = rw (same p, laid_pages-nil ps) refl
laid_pages-kept (p ∷ ps) (x ∷ ss) s same = ap (λ l. page_after p x ∷ l) (laid_pages-kept ps ss s same)

-- a slot that was written
pub laid_pages-written : (ps : List (List ℕ)) (ss : List Slot) (new : List ℕ) →
    laid_pages ps (ss ++ Writable new ∷ []) ≡ slice_set (laid_pages ps ss) (length ss) new
laid_pages-written [] ss new = refl
laid_pages-written (p ∷ ps) [] new = ap (λ l. new ∷ l) (laid_pages-nil ps)
laid_pages-written (p ∷ ps) (x ∷ ss) new = ap (λ l. page_after p x ∷ l) (laid_pages-written ps ss new)

-- one slot more
pub laid_pages-more : (ps : List (List ℕ)) (ss : List Slot) (s : Slot) →
    laid_pages ps (ss ++ s ∷ []) ≡ with_slot (laid_pages ps ss) (length ss) s
laid_pages-more ps ss Missing = laid_pages-kept ps ss Missing (λ p. refl)
laid_pages-more ps ss (Readable same) = laid_pages-kept ps ss (Readable same) (λ p. refl)
laid_pages-more ps ss (Writable new) = laid_pages-written ps ss new

pub lay_more : (m₀ m m' : MachineState) (ss : List Slot) (s : Slot) (i number : ℕ) →
    m ≡ record m₀ { pages = laid_pages m₀.pages ss } → number ≡ length ss → i ≡ number →
    m' ≡ record m { pages = with_slot m.pages i s } →
    m' ≡ record m₀ { pages = laid_pages m₀.pages (ss ++ s ∷ []) }
lay_more m₀ m m' ss s i number e at same e' = rw (laid_pages-more m₀.pages ss s) (rw (e, same, at) at e')

-- the slot that comes next
pub lay_next : (m₀ m m' : MachineState) (ss : List Slot) (s : Slot) (i number : ℕ) →
    m ≡ record m₀ { pages = laid_pages m₀.pages (take number ss) } → number < length ss → s ≡ slot_at ss number → i ≡ number →
    m' ≡ record m { pages = with_slot m.pages i s } →
    m' ≡ record m₀ { pages = laid_pages m₀.pages (take (number + 1) ss) }
lay_next m₀ m m' ss s i number e lt is same e' =
    rw (take_more ss number Missing lt, ← is)
    (lay_more m₀ m m' (take number ss) s i number e (sym (length-take-le number ss (omega arith))) same e')

-- pages behind the slots are as they were
pub laid_pages-behind : (ps : List (List ℕ)) (ss : List Slot) (n : ℕ) → length ss ≤ n → slice_get (laid_pages ps ss) n ≡ slice_get ps n
laid_pages-behind [] ss n le = refl
laid_pages-behind (p ∷ ps) [] n le = refl
laid_pages-behind (p ∷ ps) (s ∷ ss) zero le = absurd (omega arith)
laid_pages-behind (p ∷ ps) (s ∷ ss) (suc n) le = laid_pages-behind ps ss n (omega arith)

-- a slot with a page is one of those that there are
pub readable_there : (ss : List Slot) (n : ℕ) (bytes : List ℕ) → slot_at ss n ≡ Readable bytes → n < length ss
readable_there [] n bytes is = cc
readable_there (s ∷ ss) zero bytes is = omega arith
readable_there (s ∷ ss) (suc n) bytes is = let h = readable_there ss n bytes is in omega arith
