-- What a step sees of a lease's pages is what it would see of the machine.
use Rattle.std.proofs.Common.{◌≡◌, ℕ, zero, suc, ◌<◌, List, [], ◌∷◌, length, map, slice_get, slice_set, slice_index_or, Bool, true, false, Option, None, Some}
use Rattle.std.proofs.Common.{option_map, Contains, refl, ap, sym, ◌∙◌, arith, if◌then◌else◌}
use Rattle.interleaving.specs.Machine.{Write}
use Rattle.ft_types.specs.declared.names.Want.TheVariants.{Read, Write as WriteRight}
use Rattle.rv32_hart.specs.Ram.{Ram, may_read, may_write}
use Rattle.rv32_hart.specs.Access.{Access, Alone, Reading, Writing, Step, Taken, Fetching}
use Rattle.rv32_hart.specs.Step.{Contents, Wanted, bytes_of, access_write, access_wants, step_wants, step_effect, first_missing, has_right}
use Rattle.hart_lease.specs.declared.lease_pages.Slot.{Slot}
use Rattle.hart_lease.specs.declared.lease_pages.Slot.TheVariants.{Missing, Readable, Writable}
use Rattle.hart_lease.specs.Slots.{slot_at, want_of, base_of, present_bytes, is_readable, is_writable, ram_of}
use Rattle.hart_lease.specs.Leases.{laid_pages, page_after}
use Rattle.hart_lease.proofs.pages.Slots.{index-map, length-map}

-- what f makes of the element at i, or of the default
pub index-map_or : {A B : Type 0} (f : A → B) (d : A) (xs : List A) (i : ℕ) → slice_index_or (map f xs) i (f d) ≡ f (slice_index_or xs i d)
index-map_or f d [] i = refl
index-map_or f d (x ∷ xs) zero = refl
index-map_or f d (x ∷ xs) (suc i) = index-map_or f d xs i

granted_first : (b : Bool) (w : Wanted) (rest : Option Wanted) → (if b then rest else Some w) ≡ None → (b ≡ true) × (rest ≡ None)
granted_first true w rest e = (refl, e)
granted_first false w rest e = cc

-- where no right is missing, each is there
rights_there : (ram : Ram) (ws : List Wanted) (k : ℕ) (d : Wanted) → first_missing ram ws ≡ None → k < length ws →
    has_right ram (slice_index_or ws k d) ≡ true
rights_there ram [] k d e lt = absurd (omega arith)
rights_there ram (w ∷ ws) zero d e lt = (granted_first (has_right ram w) w (first_missing ram ws) e).0
rights_there ram (w ∷ ws) (suc k) d e lt =
    rights_there ram ws k d (granted_first (has_right ram w) w (first_missing ram ws) e).1 (omega arith)

writable_readable : (s : Slot) → is_writable s ≡ true → is_readable s ≡ true
writable_readable Missing e = cc
writable_readable (Readable x) e = refl
writable_readable (Writable x) e = refl

right_readable : (slots : List Slot) (w : Wanted) → has_right (ram_of slots) w ≡ true → is_readable (slot_at slots w.0) ≡ true
right_readable slots (page, Read) e = sym (index-map_or is_readable Missing slots page) ∙ e
right_readable slots (page, WriteRight) e =
    writable_readable (slot_at slots page) (sym (index-map_or is_writable Missing slots page) ∙ e)

touched_wants : (s : Step) (contents : Contents) → (step_effect s contents).touched ≡ map (λ w. w.0) (step_wants s contents)
touched_wants (Taken h) contents = refl
touched_wants (Fetching page access) contents = refl

-- a step that has its rights touches pages that the lease has
pub touched_readable : (slots : List Slot) (s : Step) (contents : Contents) (page : ℕ) → first_missing (ram_of slots) (step_wants s contents) ≡ None →
    Contains (step_effect s contents).touched page → is_readable (slot_at slots page) ≡ true
touched_readable slots s contents page granted at =
    let ws : List Wanted = step_wants s contents in
    let there = rw (touched_wants s contents) at at in
    let d : Wanted = (page, Read) in
    let within : there.0 < length ws = omega (arith, there.1, length-map (λ (w : Wanted). w.0) ws) in
    let which : (slice_index_or ws there.0 d).0 ≡ page = sym (index-map (λ (w : Wanted). w.0) d page ws there.0 within) ∙ there.2 in
    ap (λ (p : ℕ). is_readable (slot_at slots p)) (sym which) ∙ right_readable slots (slice_index_or ws there.0 d)
    (rights_there (ram_of slots) ws there.0 d granted within)

pub readable_within : (slots : List Slot) (page : ℕ) → is_readable (slot_at slots page) ≡ true → page < length slots
readable_within [] page e = cc
readable_within (s ∷ slots) zero e = omega arith
readable_within (s ∷ slots) (suc page) e = let h = readable_within slots page e in omega arith

-- a page that the lease has is shown as it stands once the lease's pages are laid over the machine's
pub shown_laid : (pages : List (List ℕ)) (slots : List Slot) (page : ℕ) → is_readable (slot_at slots page) ≡ true → page < length pages →
    ((bytes : List ℕ) → slot_at slots page ≡ Readable bytes → slice_get pages page ≡ Some bytes) →
    slice_get (map present_bytes slots) page ≡ slice_get (laid_pages pages slots) page
shown_laid pages [] page e lt same = cc
shown_laid [] (s ∷ slots) page e lt same = absurd (omega arith)
shown_laid (p ∷ pages) (Missing ∷ slots) zero e lt same = cc
shown_laid (p ∷ pages) (Readable x ∷ slots) zero e lt same = sym (same x refl)
shown_laid (p ∷ pages) (Writable x ∷ slots) zero e lt same = refl
shown_laid (p ∷ pages) (s ∷ slots) (suc page) e lt same = shown_laid pages slots page e (omega arith) same

-- a step writes a page on which it has the right to write
write_right_of : (ram : Ram) (fetch : ℕ) (a : Access) (contents : Contents) (w : Write (List ℕ)) →
    first_missing ram ((fetch, Read) ∷ access_wants a) ≡ None → access_write a contents ≡ Some w → may_write ram w.page ≡ true
write_right_of ram fetch (Alone h) contents w granted e = cc
write_right_of ram fetch (Reading page hart) contents w granted e = cc
write_right_of ram fetch (Writing page hart bytes) contents w granted e = of (contents page) e
  where
    right : may_write ram page ≡ true
    right =
        (granted_first (may_write ram page) (page, WriteRight) None
        (granted_first (may_read ram fetch) (fetch, Read) (if may_write ram page then None else Some (page, WriteRight)) granted).1).0

    of : (o : Option (List ℕ)) → option_map (λ (old : List ℕ). let x : Write (List ℕ) = record { page = page; contents = bytes old } in x) o ≡ Some w →
        may_write ram w.page ≡ true
    of None f = cc
    of (Some old) f =
        let same : page ≡ w.page = ap (λ (x : Option (Write (List ℕ))). elim x as (λ _. ℕ) [ None ↦ page | Some y ↦ y.page ]) f in
        ap (may_write ram) (sym same) ∙ right

pub write_right : (ram : Ram) (s : Step) (contents : Contents) (w : Write (List ℕ)) → first_missing ram (step_wants s contents) ≡ None →
    (step_effect s contents).write ≡ Some w → may_write ram w.page ≡ true
write_right ram (Taken h) contents w granted e = cc
write_right ram (Fetching page access) contents w granted e = write_right_of ram page (access (bytes_of contents page)) contents w granted e

pub record IsWritable (slots : List Slot) (page : ℕ) : Type 0 where
  pub old : List ℕ
  pub is : slot_at slots page ≡ Writable old

writable_of : (s : Slot) → is_writable s ≡ true → (old : List ℕ) × (s ≡ Writable old)
writable_of Missing e = cc
writable_of (Readable x) e = cc
writable_of (Writable x) e = (x, refl)

pub right_writable : (slots : List Slot) (page : ℕ) → may_write (ram_of slots) page ≡ true → IsWritable slots page
right_writable slots page e =
    let h = writable_of (slot_at slots page) (sym (index-map_or is_writable Missing slots page) ∙ e) in
    record { old = h.0; is = h.1 }

pub laid_pages-set : (pages : List (List ℕ)) (slots : List Slot) (page : ℕ) (new : List ℕ) → page < length slots →
    slice_set (laid_pages pages slots) page new ≡ laid_pages pages (slice_set slots page (Writable new))
laid_pages-set [] slots page new lt = refl
laid_pages-set (p ∷ pages) [] page new lt = absurd (omega arith)
laid_pages-set (p ∷ pages) (s ∷ slots) zero new lt = refl
laid_pages-set (p ∷ pages) (s ∷ slots) (suc page) new lt = ap (λ l. page_after p s ∷ l) (laid_pages-set pages slots page new (omega arith))

-- a write leaves what was kept of a page as it was lent
pub base-set : (slots : List Slot) (page : ℕ) (old new : List ℕ) → slot_at slots page ≡ Writable old → (other : ℕ) (kept : Option (List ℕ)) →
    base_of (slot_at (slice_set slots page (Writable new)) other) kept ≡ base_of (slot_at slots other) kept
base-set [] page old new e other kept = refl
base-set (s ∷ slots) zero old new e zero kept = sym (ap (λ (x : Slot). base_of x kept) e)
base-set (s ∷ slots) zero old new e (suc other) kept = refl
base-set (s ∷ slots) (suc page) old new e zero kept = refl
base-set (s ∷ slots) (suc page) old new e (suc other) kept = base-set slots page old new e other kept

-- and the rights
pub right-set : (slots : List Slot) (page : ℕ) (old new : List ℕ) → slot_at slots page ≡ Writable old → (other : ℕ) →
    want_of (slot_at (slice_set slots page (Writable new)) other) ≡ want_of (slot_at slots other)
right-set [] page old new e other = refl
right-set (s ∷ slots) zero old new e zero = sym (ap want_of e)
right-set (s ∷ slots) zero old new e (suc other) = refl
right-set (s ∷ slots) (suc page) old new e zero = refl
right-set (s ∷ slots) (suc page) old new e (suc other) = right-set slots page old new e other
