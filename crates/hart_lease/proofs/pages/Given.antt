-- Leases that begin, and that get a page.
use Rattle.std.proofs.Common.{◌≡◌, ℕ, zero, suc, ◌<◌, ◌≤◌, inl, inr, List, [], ◌∷◌, length, replicate, slice_get, slice_set, slice_index_or, true, false}
use Rattle.std.proofs.Common.{Option, None, Some, refl, ap, sym, ◌∙◌, arith, length-set, ◌^◌}
use Rattle.std.proofs.lemmas.List.{length-replicate, get_or-set_same, get_or-set_other}
use Rattle.ft_types.specs.declared.names.TheConstants.{INPUT_LIMIT}
use Rattle.rv32_hart.specs.Hart.{Hart, with_earlier}
use Rattle.guest_image.specs.Machine.{MachineState}
use Rattle.hart_lease.specs.declared.lease_pages.Slot.{Slot}
use Rattle.hart_lease.specs.declared.lease_pages.Slot.TheVariants.{Missing, Readable, Writable}
use Rattle.ft_types.specs.declared.names.Want.TheVariants.{Read, Write}
use Rattle.std.proofs.lemmas.Bool.{cases_eq}
use Rattle.hart_lease.specs.declared.taken.Taken.{Taken}
use Rattle.hart_lease.specs.Taken.{taken_at, right_of_taken, taking}
use Rattle.hart_lease.proofs.pages.Slots.{index-replicate, none-replicate}
use Rattle.hart_lease.specs.Slots.{slot_at, want_of, base_of, present_bytes, is_readable, is_writable}
use Rattle.hart_lease.specs.Leases.{LeaseView, base_at, fresh, whole, laid_pages, page_after, with_page_to_read, with_page_to_write}
use Rattle.hart_lease.specs.OpenLeases.{LentView}
use Rattle.hart_lease.specs.Runs.{StandsIn, IsRunOf, IsLease, IsBareLease}
use Rattle.hart_lease.proofs.pages.Counts.{taken_readable}
use Rattle.hart_lease.proofs.steps.Present.{IsGiven, fresh_played, given_played}

set-get_same : {A : Type 0} (xs : List A) (i : ℕ) (x : A) → slice_get xs i ≡ Some x → slice_set xs i x ≡ xs
set-get_same [] i x e = refl
set-get_same (y ∷ ys) zero x e = let same : y ≡ x = cc in ap (λ z. z ∷ ys) (sym same)
set-get_same (y ∷ ys) (suc i) x e = ap (λ l. y ∷ l) (set-get_same ys i x e)

laid_pages-missing : (pages : List (List ℕ)) (n : ℕ) → laid_pages pages (replicate n Missing) ≡ pages
laid_pages-missing [] n = refl
laid_pages-missing (p ∷ pages) zero = refl
laid_pages-missing (p ∷ pages) (suc n) = ap (λ l. p ∷ l) (laid_pages-missing pages n)

-- a lease without steps leads to the machine itself
pub fresh_runs : (hart : ℕ) (state : Hart) (pages : ℕ) (lent : LentView) → IsRunOf (fresh hart state pages lent)
fresh_runs hart state pages lent m on =
    let made : List Hart → List (List ℕ) → Option MachineState = λ hs ps. Some (record { harts = hs; pages = ps }) in
    sym (ap (λ hs. made hs (laid_pages m.pages (replicate pages Missing))) (set-get_same m.harts hart state on.state)
    ∙ ap (made m.harts) (laid_pages-missing m.pages pages))

-- a page that was missing
base-set_missing : (slots : List Slot) (page : ℕ) (new : Slot) (other : ℕ) (kept : Option (List ℕ)) (bytes : List ℕ) →
    slot_at slots page ≡ Missing → base_of (slot_at slots other) kept ≡ Some bytes →
    base_of (slot_at (slice_set slots page new) other) kept ≡ Some bytes
base-set_missing [] page new other kept bytes e f = f
base-set_missing (s ∷ slots) zero new zero kept bytes e f =
    let none : None ≡ Some bytes = sym (ap (λ (x : Slot). base_of x kept) e) ∙ f in cc
base-set_missing (s ∷ slots) zero new (suc other) kept bytes e f = f
base-set_missing (s ∷ slots) (suc page) new zero kept bytes e f = f
base-set_missing (s ∷ slots) (suc page) new (suc other) kept bytes e f = base-set_missing slots page new other kept bytes e f

laid_pages-set_read : (pages : List (List ℕ)) (slots : List Slot) (page : ℕ) (here : List ℕ) → slot_at slots page ≡ Missing →
    laid_pages pages (slice_set slots page (Readable here)) ≡ laid_pages pages slots
laid_pages-set_read [] slots page here e = refl
laid_pages-set_read (p ∷ pages) [] page here e = refl
laid_pages-set_read (p ∷ pages) (s ∷ slots) zero here e = ap (λ x. x ∷ laid_pages pages slots) (sym (ap (page_after p) e))
laid_pages-set_read (p ∷ pages) (s ∷ slots) (suc page) here e = ap (λ l. page_after p s ∷ l) (laid_pages-set_read pages slots page here e)

pub read_runs : (l : LeaseView) (page : ℕ) (here : List ℕ) → slot_at l.slots page ≡ Missing → IsRunOf l → IsRunOf (with_page_to_read l page here)
read_runs l page here e runs m on =
    let before : StandsIn m l = record {
      state = on.state;
      as_many = sym (length-set l.slots page (Readable here)) ∙ on.as_many;
      contents = λ other bytes f.
          on.contents other bytes (base-set_missing l.slots page (Readable here) other (slice_index_or l.bases other None) bytes e f);
    } in
    runs m before ∙ ap (λ ps. let w : MachineState = record { harts = slice_set m.harts l.hart l.present; pages = ps } in Some w)
    (sym (laid_pages-set_read m.pages l.slots page here e))

-- a page that was not written yet
unwritten_kept : (p : List ℕ) (s : Slot) → is_writable s ≡ false → page_after p s ≡ p
unwritten_kept p Missing e = refl
unwritten_kept p (Readable x) e = refl
unwritten_kept p (Writable x) e = cc

laid_pages-set_write : (pages : List (List ℕ)) (slots : List Slot) (page : ℕ) (x : List ℕ) → is_writable (slot_at slots page) ≡ false →
    slice_get pages page ≡ Some x → laid_pages pages (slice_set slots page (Writable x)) ≡ laid_pages pages slots
laid_pages-set_write [] slots page x e f = refl
laid_pages-set_write (p ∷ pages) [] page x e f = refl
laid_pages-set_write (p ∷ pages) (s ∷ slots) zero x e f =
    let same : p ≡ x = cc in ap (λ y. y ∷ laid_pages pages slots) (sym same ∙ sym (unwritten_kept p s e))
laid_pages-set_write (p ∷ pages) (s ∷ slots) (suc page) x e f = ap (λ l. page_after p s ∷ l) (laid_pages-set_write pages slots page x e f)

-- at another page nothing has changed; at this one, what was lent is the base
base-set_write : (slots : List Slot) (bases : List (Option (List ℕ))) (page : ℕ) (base present : List ℕ) (other : ℕ) (bytes : List ℕ) →
    page < length slots → page < length bases →
    (base_of (slot_at slots page) (slice_index_or bases page None) ≡ Some bytes → bytes ≡ base) →
    base_of (slot_at slots other) (slice_index_or bases other None) ≡ Some bytes →
    base_of (slot_at (slice_set slots page (Writable present)) other) (slice_index_or (slice_set bases page (Some base)) other None) ≡ Some bytes
base-set_write [] bases page base present other bytes lt le lent f = absurd (omega arith)
base-set_write (s ∷ slots) [] page base present other bytes lt le lent f = absurd (omega arith)
base-set_write (s ∷ slots) (b ∷ bases) zero base present zero bytes lt le lent f = ap (λ x. Some x) (sym (lent f))
base-set_write (s ∷ slots) (b ∷ bases) zero base present (suc other) bytes lt le lent f = f
base-set_write (s ∷ slots) (b ∷ bases) (suc page) base present zero bytes lt le lent f = f
base-set_write (s ∷ slots) (b ∷ bases) (suc page) base present (suc other) bytes lt le lent f =
    base-set_write slots bases page base present other bytes (omega arith) (omega arith) lent f

pub write_runs : (l : LeaseView) (page : ℕ) (base : List ℕ) → page < length l.slots → length l.bases ≡ length l.slots →
    is_writable (slot_at l.slots page) ≡ false → ((bytes : List ℕ) → base_at l page ≡ Some bytes → bytes ≡ base) →
    IsRunOf l → IsRunOf (with_page_to_write l page base base)
write_runs l page base lt many unwritten lent runs m on =
    let le : page < length l.bases = omega (arith, many) in
    let before : StandsIn m l = record {
      state = on.state;
      as_many = sym (length-set l.slots page (Writable base)) ∙ on.as_many;
      contents = λ other bytes f. on.contents other bytes (base-set_write l.slots l.bases page base base other bytes lt le (lent bytes) f);
    } in
    let here : slice_get m.pages page ≡ Some base =
    on.contents page base (rw (get_or-set_same l.slots page (Writable base) Missing lt) (get_or-set_same l.bases page (Some base) None le)) in
    runs m before ∙ ap (λ ps. let w : MachineState = record { harts = slice_set m.harts l.hart l.present; pages = ps } in Some w)
    (sym (laid_pages-set_write m.pages l.slots page base unwritten here))

pub fresh_kept : (hart : ℕ) (state : Hart) (pages : ℕ) (lent : LentView) → lent.stop < 2 ^ 48 → length lent.inputs ≤ INPUT_LIMIT →
    IsLease (fresh hart state pages lent)
fresh_kept hart state pages lent lt few = record {
  stop = lt;
  few = few;
  as_many = length-replicate {A = Option (List ℕ)} pages None ∙ sym (length-replicate {A = Slot} pages Missing);
  counted = length-replicate {A = Option Taken} pages None ∙ sym (length-replicate {A = Slot} pages Missing);
  rights = λ page. ap want_of (index-replicate pages page) ∙ sym (ap right_of_taken (none-replicate {A = Taken} pages page));
  number = refl;
  harts = refl;
  count = omega arith;
  rings = inl refl;
  runs = fresh_runs hart state pages lent;
  within = inl refl;
  played = fresh_played hart state pages lent;
}

pub bare_fresh_kept : (hart : ℕ) (state : Hart) (pages : ℕ) (lent : LentView) → lent.stop < 2 ^ 48 → length lent.inputs ≤ INPUT_LIMIT →
    IsBareLease (fresh hart state pages lent)
bare_fresh_kept hart state pages lent lt few = record {
  bare = fresh_kept hart state pages lent lt few;
  with_any = λ earlier. fresh_kept hart (with_earlier earlier state) pages lent lt few;
}

none_taken : (x : Option Taken) (n : ℕ) → right_of_taken x ≡ None → right_of_taken (Some (taking x Read n)) ≡ Some Read
none_taken None n e = refl
none_taken (Some x) n e = cc

-- the right to one page changed, in the slots and in the counts
rights_set : (slots : List Slot) (taken : List (Option Taken)) (page : ℕ) (new : Slot) (x : Option Taken) → page < length slots → page < length taken →
    want_of new ≡ right_of_taken x → ((q : ℕ) → want_of (slot_at slots q) ≡ right_of_taken (taken_at taken q)) →
    (q : ℕ) → want_of (slot_at (slice_set slots page new) q) ≡ right_of_taken (taken_at (slice_set taken page x) q)
rights_set slots taken page new x lt row same rights q =
    elim (cases_eq page q) [
      | inl e ↦
          rw (← e) (ap want_of (get_or-set_same slots page new Missing lt) ∙ (same ∙ sym (ap right_of_taken (get_or-set_same taken page x None row))))
      | inr ne ↦
          ap want_of (get_or-set_other slots page q new Missing (λ e. ne (sym e))) ∙
          (rights q ∙ sym (ap right_of_taken (get_or-set_other taken page q x None (λ e. ne (sym e)))))
    ]

-- a page that the lease lacks was not taken
pub read_given : (l : LeaseView) (page : ℕ) (here : List ℕ) → page < length l.slots → page < length l.taken → slot_at l.slots page ≡ Missing → IsLease l →
    IsGiven l page here (slice_set l.slots page (Readable here)) l.bases
read_given l page here lt row missing p = record {
  row = row;
  many = length-set l.slots page (Readable here);
  base = ap (λ (s : Slot). base_of s (slice_index_or l.bases page None)) (get_or-set_same l.slots page (Readable here) Missing lt);
  bytes = ap present_bytes (get_or-set_same l.slots page (Readable here) Missing lt);
  bases_kept = λ q ne. ap (λ (s : Slot). base_of s (slice_index_or l.bases q None)) (get_or-set_other l.slots page q (Readable here) Missing (λ e. ne (sym e)));
  slots_kept = λ q ne. get_or-set_other l.slots page q (Readable here) Missing (λ e. ne (sym e));
  kept = λ takes.
      let h : false ≡ true = sym (ap is_readable missing) ∙ taken_readable (slot_at l.slots page) (taken_at l.taken page) (p.rights page) takes in cc;
}

-- what a page to read was lent as is what it is
lent_as : (s : Slot) (kept : Option (List ℕ)) (base : List ℕ) → is_readable s ≡ true → is_writable s ≡ false →
    ((bytes : List ℕ) → base_of s kept ≡ Some bytes → bytes ≡ base) → (base_of s kept ≡ Some base) × (present_bytes s ≡ base)
lent_as Missing kept base r w lent = cc
lent_as (Readable x) kept base r w lent = (ap (λ bytes. Some bytes) (lent x refl), lent x refl)
lent_as (Writable x) kept base r w lent = cc

pub write_given : (l : LeaseView) (page : ℕ) (base : List ℕ) → page < length l.slots → page < length l.taken → is_writable (slot_at l.slots page) ≡ false →
    ((bytes : List ℕ) → base_at l page ≡ Some bytes → bytes ≡ base) → IsLease l →
    IsGiven l page base (slice_set l.slots page (Writable base)) (slice_set l.bases page (Some base))
write_given l page base lt row unwritten lent p = record {
  row = row;
  many = length-set l.slots page (Writable base);
  base =
      ap (λ (s : Slot). base_of s (slice_index_or (slice_set l.bases page (Some base)) page None)) (get_or-set_same l.slots page (Writable base) Missing lt) ∙
      get_or-set_same l.bases page (Some base) None (omega (arith, lt, p.as_many));
  bytes = ap present_bytes (get_or-set_same l.slots page (Writable base) Missing lt);
  bases_kept = λ q ne.
      ap (λ (s : Slot). base_of s (slice_index_or (slice_set l.bases page (Some base)) q None)) (get_or-set_other l.slots page q (Writable base) Missing
      (λ e. ne (sym e))) ∙
      ap (base_of (slot_at l.slots q)) (get_or-set_other l.bases page q (Some base) None (λ e. ne (sym e)));
  slots_kept = λ q ne. get_or-set_other l.slots page q (Writable base) Missing (λ e. ne (sym e));
  kept = λ takes.
      lent_as (slot_at l.slots page) (slice_index_or l.bases page None) base
      (taken_readable (slot_at l.slots page) (taken_at l.taken page) (p.rights page) takes) unwritten lent;
}

pub read_kept : (l : LeaseView) (page : ℕ) (here : List ℕ) → page < length l.slots → page < length l.taken → slot_at l.slots page ≡ Missing → IsLease l →
    IsLease (with_page_to_read l page here)
read_kept l page here lt row missing p = record {
  rights =
      rights_set l.slots l.taken page (Readable here) (Some (taking (taken_at l.taken page) Read l.present.count)) lt row
      (sym (none_taken (taken_at l.taken page) l.present.count (sym (p.rights page) ∙ ap want_of missing))) p.rights;
  stop = p.stop;
  few = p.few;
  as_many = p.as_many ∙ sym (length-set l.slots page (Readable here));
  counted =
      length-set l.taken page (Some (taking (taken_at l.taken page) Read l.present.count)) ∙ p.counted ∙ sym (length-set l.slots page (Readable here));
  number = p.number;
  harts = p.harts;
  count = p.count;
  rings = p.rings;
  runs = read_runs l page here missing p.runs;
  within = p.within;
  played = given_played l p.played page Read here (slice_set l.slots page (Readable here)) l.bases (read_given l page here lt row missing p);
}

pub write_kept : (l : LeaseView) (page : ℕ) (base : List ℕ) → page < length l.slots → page < length l.taken → is_writable (slot_at l.slots page) ≡ false →
    ((bytes : List ℕ) → base_at l page ≡ Some bytes → bytes ≡ base) → IsLease l → IsLease (with_page_to_write l page base base)
write_kept l page base lt row unwritten lent p = record {
  rights = rights_set l.slots l.taken page (Writable base) (Some (taking (taken_at l.taken page) Write l.present.count)) lt row refl p.rights;
  stop = p.stop;
  few = p.few;
  as_many = length-set l.bases page (Some base) ∙ p.as_many ∙ sym (length-set l.slots page (Writable base));
  counted =
      length-set l.taken page (Some (taking (taken_at l.taken page) Write l.present.count)) ∙ p.counted ∙ sym (length-set l.slots page (Writable base));
  number = p.number;
  harts = p.harts;
  count = p.count;
  rings = p.rings;
  runs = write_runs l page base lt p.as_many unwritten lent p.runs;
  within = p.within;
  played =
      given_played l p.played page Write base (slice_set l.slots page (Writable base)) (slice_set l.bases page (Some base))
      (write_given l page base lt row unwritten lent p);
}

-- so it is of a bare one
pub bare_read_kept : (l : LeaseView) (page : ℕ) (here : List ℕ) → page < length l.slots → page < length l.taken → slot_at l.slots page ≡ Missing →
    IsBareLease l → IsBareLease (with_page_to_read l page here)
bare_read_kept l page here lt row missing p = record {
  bare = read_kept l page here lt row missing p.bare;
  with_any = λ earlier. read_kept (whole earlier l) page here lt row missing (p.with_any earlier);
}

pub bare_write_kept : (l : LeaseView) (page : ℕ) (base : List ℕ) → page < length l.slots → page < length l.taken → is_writable (slot_at l.slots page) ≡ false →
    ((bytes : List ℕ) → base_at l page ≡ Some bytes → bytes ≡ base) → IsBareLease l → IsBareLease (with_page_to_write l page base base)
bare_write_kept l page base lt row unwritten lent p = record {
  bare = write_kept l page base lt row unwritten lent p.bare;
  with_any = λ earlier. write_kept (whole earlier l) page base lt row unwritten lent (p.with_any earlier);
}
