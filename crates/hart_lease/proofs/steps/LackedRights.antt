-- What a step counts and leaves of the rights of a lease, and the right that it lacks.
use Rattle.std.proofs.Common.{◌≡◌, ℕ, ◌+◌, ◌<◌, List, [], ◌∷◌, length, map, false, Option, None, ap, refl, sym, ◌∙◌, arith}
use Rattle.interleaving.specs.Machine.{Write}
use Rattle.ft_types.specs.declared.names.Want.{Want}
use Rattle.input_log.specs.declared.Input.{Input}
use Rattle.ft_types.specs.declared.names.Want.TheVariants.{Read, Write as WriteRight}
use Rattle.rv32_hart.specs.Ram.{Ram}
use Rattle.rv32_hart.specs.Step.{IsMissing, has_right, ram_after}
use Rattle.rv32_hart.specs.declared.outcome.Tick.TheVariants.{Done}
use Rattle.rv32_hart.proofs.Wanted.{missing_there}
use Rattle.hart_lease.specs.declared.lease_pages.Slot.{Slot}
use Rattle.hart_lease.specs.declared.lease_pages.Slot.TheVariants.{Missing, Readable, Writable}
use Rattle.hart_lease.specs.Slots.{slot_at, want_of, is_readable, is_writable, ram_of}
use Rattle.hart_lease.specs.Leases.{LeaseView, inputs_next, Ticks}
use Rattle.hart_lease.specs.Laws.{Covers}
use Rattle.hart_lease.proofs.steps.Seen.{index-map_or}
use Rattle.hart_lease.proofs.steps.After.{taken_counted, length_shown}

-- which pages may be read and written tells the rights
rights_told : (a b : List Slot) → map is_readable a ≡ map is_readable b → map is_writable a ≡ map is_writable b → map want_of a ≡ map want_of b
rights_told [] [] r w = refl
rights_told [] (y ∷ ys) r w = cc
rights_told (x ∷ xs) [] r w = cc
rights_told (Missing ∷ xs) (Missing ∷ ys) r w = ap (λ l. None ∷ l) (rights_told xs ys (cc) (cc))
rights_told (Missing ∷ xs) (Readable y ∷ ys) r w = cc
rights_told (Missing ∷ xs) (Writable y ∷ ys) r w = cc
rights_told (Readable x ∷ xs) (Missing ∷ ys) r w = cc
rights_told (Readable x ∷ xs) (Readable y ∷ ys) r w = ap (λ l. want_of (Readable x) ∷ l) (rights_told xs ys (cc) (cc))
rights_told (Readable x ∷ xs) (Writable y ∷ ys) r w = cc
rights_told (Writable x ∷ xs) (Missing ∷ ys) r w = cc
rights_told (Writable x ∷ xs) (Readable y ∷ ys) r w = cc
rights_told (Writable x ∷ xs) (Writable y ∷ ys) r w = ap (λ l. want_of (Writable x) ∷ l) (rights_told xs ys (cc) (cc))

rights_after : (slots after : List Slot) (write : Option (Write (List ℕ))) → ram_of after ≡ ram_after (ram_of slots) write →
    map want_of after ≡ map want_of slots
rights_after slots after write e = rights_told after slots (ap (λ (r : Ram). r.readable) e) (ap (λ (r : Ram). r.writable) e)

pub step_counts : (l new : LeaseView) → Ticks Done l new → new.present.count ≡ l.present.count + 1
step_counts l new t = (taken_counted (inputs_next l) l.present new.present (ram_of l.slots) (ram_of new.slots) t.1).count

pub step_keeps_rights : (l new : LeaseView) → Ticks Done l new → map want_of new.slots ≡ map want_of l.slots
step_keeps_rights l new t = rights_after l.slots new.slots _ t.1.pages

lacks_slot : (slots : List Slot) (page : ℕ) (want : Want) → has_right (ram_of slots) (page, want) ≡ false → Covers (want_of (slot_at slots page)) want → ⊥
lacks_slot slots page Read e covers = of (slot_at slots page) (sym (index-map_or is_readable Missing slots page) ∙ e) covers
  where
    of : (s : Slot) → is_readable s ≡ false → Covers (want_of s) Read → ⊥
    of Missing f c = c
    of (Readable x) f c = cc
    of (Writable x) f c = cc
lacks_slot slots page WriteRight e covers = of (slot_at slots page) (sym (index-map_or is_writable Missing slots page) ∙ e) covers
  where
    of : (s : Slot) → is_writable s ≡ false → Covers (want_of s) WriteRight → ⊥
    of Missing f c = c
    of (Readable x) f c = c
    of (Writable x) f c = cc

pub lacks_on_a_page : (l : LeaseView) (inputs : List Input) (page : ℕ) (want : Want) → IsMissing inputs l.present (ram_of l.slots) (page, want) →
    (page < length l.slots) × (Covers (want_of (slot_at l.slots page)) want → ⊥)
lacks_on_a_page l inputs page want m =
    let first = missing_there l.present inputs (ram_of l.slots) page want m in
    (omega (arith, first.0, length_shown l.slots), lacks_slot l.slots page want first.1)
