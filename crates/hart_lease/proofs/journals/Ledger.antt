-- A lease that a machine lent, as a recording ledger of that machine compares it, gives it pages and settles it.
use Rattle.std.proofs.Common.{◌≡◌, ◌≢◌, ◌⊎◌, inl, inr, ℕ, zero, suc, ◌<◌, List, [], ◌∷◌, ◌++◌, length, map, slice_get, slice_set, slice_index_or, is_some}
use Rattle.std.proofs.Common.{true, false, Bool, Option, None, Some, refl, ap, sym, ◌∙◌, arith, if◌then◌else◌}
use Rattle.std.proofs.lemmas.List.{set-get_or}
use Rattle.std.proofs.lemmas.Option.{slice_get-get_or}
use Rattle.ft_types.specs.declared.names.Want.{Want}
use Rattle.ft_types.specs.declared.names.Want.TheVariants.{Read, Write}
use Rattle.interleaving.specs.Lists.{put}
use Rattle.interleaving.specs.Machine.{Machine}
use Rattle.interleaving.specs.Log.{Edge}
use Rattle.interleaving.specs.Stored.{view}
use Rattle.interleaving.proofs.Put.{same_or_not, put_same, put_other}
use Rattle.interleaving.proofs.Lists.{get_set}
use Rattle.input_log.specs.declared.Input.{Input}
use Rattle.guest_image.specs.Machine.{MachineState}
use Rattle.rv32_hart.specs.Hart.{Hart}
use Rattle.rv32_hart.specs.Hardware.{hardware}
use Rattle.lease_ledger.specs.Ledger as ledger
use Rattle.lease_ledger.specs.Ledger.{stepped}
use Rattle.lease_ledger.specs.Calls.{Given, Keep, settled}
use Rattle.lease_ledger.specs.Laws.{lease_needed}
use Rattle.hart_lease.specs.declared.lease_pages.Slot.{Slot}
use Rattle.hart_lease.specs.declared.lease_pages.Slot.TheVariants.{Missing, Readable, Writable}
use Rattle.hart_lease.specs.declared.taken.Taken.{Taken}
use Rattle.hart_lease.specs.Slots.{slot_at, want_of, base_of, present_bytes, is_readable, is_writable}
use Rattle.hart_lease.specs.Taken.{taken_at, right_of_taken, taking}
use Rattle.hart_lease.specs.Leases.{LeaseView, IsLent, base_at, laid, laid_pages, with_page, with_page_beside}
use Rattle.hart_lease.specs.Recorded.{read_counts, stub_of, as_lease, system}
use Rattle.hart_lease.specs.Turns.{turns_from}
use Rattle.hart_lease.specs.Runs.{IsLease}
use Rattle.hart_lease.proofs.pages.Slots.{length-map, index-map}
use Rattle.hart_lease.proofs.pages.Counts.{read_of, taken_readable, readable_taken, stub_taking, kept_to_read, kept_to_write}
use Rattle.hart_lease.proofs.steps.Present.{LeadsTo, played_with, present_played, given_needed}
use Rattle.hart_lease.proofs.pages.Given.{read_given, write_given}
use Rattle.hart_lease.proofs.pages.Places.{get_within}
use Rattle.hart_lease.proofs.steps.Seen.{shown_laid, readable_within}

-- a page of which the lease has nothing stays as it is in the machine
laid_untaken : (pages : List (List ℕ)) (slots : List Slot) (page : ℕ) → is_readable (slot_at slots page) ≡ false →
    slice_get pages page ≡ slice_get (laid_pages pages slots) page
laid_untaken [] slots page e = refl
laid_untaken (p ∷ pages) [] page e = refl
laid_untaken (p ∷ pages) (Missing ∷ slots) zero e = refl
laid_untaken (p ∷ pages) (Readable x ∷ slots) zero e = cc
laid_untaken (p ∷ pages) (Writable x ∷ slots) zero e = cc
laid_untaken (p ∷ pages) (s ∷ slots) (suc page) e = laid_untaken pages slots page e

not_readable : (s : Slot) (o : Option Taken) → want_of s ≡ right_of_taken o → is_some (read_of o) ≡ false → is_readable s ≡ false
not_readable Missing o e not = refl
not_readable (Readable x) None e not = cc
not_readable (Readable x) (Some t) e not = cc
not_readable (Writable x) None e not = cc
not_readable (Writable x) (Some t) e not = cc

module _ (m : MachineState) (taken : List (Option Taken)) (l : LeaseView) (lease : IsLease l) (lent : IsLent m taken l) where
  -- a page that the lease has taken
  has : (page : ℕ) → is_some (read_counts l.taken page) ≡ true → is_readable (slot_at l.slots page) ≡ true
  has page takes = taken_readable (slot_at l.slots page) (taken_at l.taken page) (lease.rights page) takes

  within : (page : ℕ) → is_some (read_counts l.taken page) ≡ true → page < length l.slots
  within page takes = readable_within l.slots page (has page takes)

  -- is the machine's
  pub lent_pages : (page : ℕ) → is_some (read_counts l.taken page) ≡ true → base_at l page ≡ slice_get m.pages page
  lent_pages page takes =
      let (bytes, is) = lease.played.based page takes in
      is ∙ sym (lent.pages page (within page takes) bytes is)

  -- such a lease passes the ledger's comparison, where the stubs are the same
  pub lent_ours : (b : ledger.Ledger (Option Hart) (Option (List ℕ)) (List Input)) (pages : ℕ) (edges : List Edge) →
      b.machine ≡ view (hardware pages) m → b.stubs l.hart ≡ Some (stub_of l.taken edges) → ledger.IsOurs b (as_lease l edges)
  lent_ours b pages edges machine stub =
      record {
        stub = stub;
        state = sym lent.state ∙ ap (λ (k : Machine (Option Hart) (Option (List ℕ))). k.harts l.hart) (sym machine);
        pages = λ page takes. lent_pages page takes ∙ ap (λ (k : Machine (Option Hart) (Option (List ℕ))). k.pages page) (sym machine);
      }

  -- The machine with the lease's hart and pages.

  abbrev pub played_to : List Edge → Machine (Option Hart) (Option (List ℕ))
  played_to edges = stepped (system (length m.pages)) (as_lease l edges)

  leads : (edges : List Edge) → LeadsTo (length m.pages) (as_lease l edges) l.present (λ page. present_bytes (slot_at l.slots page))
  leads edges = played_with l lease.played (length m.pages) lent.as_many edges

  harts_laid : (edges : List Edge) (g : ℕ) → put (slice_get m.harts) l.hart ((played_to edges).harts l.hart) g ≡ slice_get (slice_set m.harts l.hart l.present)
      g
  harts_laid edges g =
      ap (λ (o : Option Hart). put (slice_get m.harts) l.hart o g) (leads edges).hart ∙
      ap (λ (f : ℕ → Option Hart). f g) (sym (get_set m.harts l.hart l.present (get_within m.harts l.hart l.base lent.state)))

  shown : (page : ℕ) → page < length l.slots → slice_get (map present_bytes l.slots) page ≡ Some (present_bytes (slot_at l.slots page))
  shown page lt =
      slice_get-get_or (map present_bytes l.slots) page [] (omega (arith, length-map present_bytes l.slots, lt)) ∙
      ap (λ bytes. Some bytes) (index-map present_bytes Missing [] l.slots page lt)

  page_laid : (edges : List Edge) (page : ℕ) (b : Bool) → is_some (read_counts l.taken page) ≡ b →
      (if b then (played_to edges).pages page else slice_get m.pages page) ≡ slice_get (laid m l).pages page
  page_laid edges page true takes =
      (leads edges).pages_are page takes ∙
      (sym (shown page (within page takes)) ∙
      shown_laid m.pages l.slots page (has page takes) (omega (arith, within page takes, lent.as_many))
      (λ bytes e. lent.pages page (within page takes) bytes (ap (λ (s : Slot). base_of s (slice_index_or l.bases page None)) e)))
  page_laid edges page false not =
      laid_untaken m.pages l.slots page (not_readable (slot_at l.slots page) (taken_at l.taken page) (lease.rights page) not)

  pub laid_is : (edges : List Edge) → record {
    harts = put (slice_get m.harts) l.hart ((played_to edges).harts l.hart);
    pages = λ page. if is_some (read_counts l.taken page) then (played_to edges).pages page else slice_get m.pages page;
  } ≡ view (hardware (length m.pages)) (laid m l)
  laid_is edges = λ i. record { harts = λ g. harts_laid edges g i; pages = λ page. page_laid edges page (is_some (read_counts l.taken page)) refl i }

  -- is what a ledger of the machine has once it has settled the lease
  pub settled_is : (b : ledger.Ledger (Option Hart) (Option (List ℕ)) (List Input)) → b.machine ≡ view (hardware (length m.pages)) m → (edges : List Edge)
      (keep : ℕ → Keep) → (settled (system (length m.pages)) b (as_lease l edges) keep).machine ≡ view (hardware (length m.pages)) (laid m l)
  settled_is b machine edges keep =
      ap
      (λ (k : Machine (Option Hart) (Option (List ℕ))).
      let laid_in : Machine (Option Hart) (Option (List ℕ)) =
      record {
        harts = put k.harts l.hart ((played_to edges).harts l.hart);
        pages = λ page. if is_some (read_counts l.taken page) then (played_to edges).pages page else k.pages page;
      } in
      laid_in) machine ∙
      laid_is edges

  -- The lease, once it was given a page as it stands in the machine.

  module _ (b : ledger.Ledger (Option Hart) (Option (List ℕ)) (List Input)) (machine : b.machine ≡ view (hardware (length m.pages)) m) (page : ℕ)
      (here : List ℕ) (row : page < length l.taken) (lt : page < length l.slots) (is : slice_get m.pages page ≡ Some here) (edges more : List Edge) where
    abbrev next : Want → ledger.Lease (Option Hart) (Option (List ℕ)) (List Input)
    next want = lease_needed (system (length m.pages)) b (as_lease l edges) page want (Given more)

    comes : b.machine.pages page ≡ Some here
    comes = ap (λ (k : Machine (Option Hart) (Option (List ℕ))). k.pages page) machine ∙ is

    -- the right was there
    kept : (want : Want) → is_some (read_counts l.taken page) ≡ true →
        Some (taking (taken_at l.taken page) want l.present.count) ≡ taken_at l.taken page → next want ≡ as_lease l (edges ++ more)
    kept want takes same =
        λ i. record {
          hart = l.hart;
          state = Some l.base;
          pages = λ q. page_is q (same_or_not page q) i;
          stub = stub_is i;
          turns = turns_from l.inputs l.hart l.steps;
        }
      where
        page_is : (q : ℕ) → (page ≡ q) ⊎ (page ≢ q) → put (base_at l) page (b.machine.pages page) q ≡ base_at l q
        page_is q (inl at) =
            put_same (base_at l) page q (b.machine.pages page) at ∙
            (comes ∙ (sym is ∙ (sym (lent_pages page takes) ∙ ap (base_at l) at)))
        page_is q (inr ne) = put_other (base_at l) page q (b.machine.pages page) ne

        row_is : slice_set l.taken page (Some (taking (taken_at l.taken page) want l.present.count)) ≡ l.taken
        row_is = ap (slice_set l.taken page) same ∙ set-get_or l.taken page None

        stub_is : (next want).stub ≡ stub_of l.taken (edges ++ more)
        stub_is =
            ap (λ k. ledger.taking (stub_of l.taken edges) page want k more) (present_played l lease.played (length m.pages) lent.as_many edges) ∙
            (sym (stub_taking l.taken page row l.present.count want edges more) ∙ ap (λ ts. stub_of ts (edges ++ more)) row_is)

    -- a page to read, that the lease lacked, and a page to write
    to_read : slot_at l.slots page ≡ Missing → next Read ≡ as_lease (with_page_beside None Read l page here) (edges ++ more)
    to_read missing =
        given_needed l lease.played page Read here (slice_set l.slots page (Readable here)) l.bases (read_given l page here lt row missing lease)
        (length m.pages) lent.as_many b comes edges more

    to_write : is_writable (slot_at l.slots page) ≡ false → next Write ≡ as_lease (with_page_beside None Write l page here) (edges ++ more)
    to_write unwritten =
        given_needed l lease.played page Write here (slice_set l.slots page (Writable here)) (slice_set l.bases page (Some here))
        (write_given l page here lt row unwritten
        (λ bytes e. let h : Some bytes ≡ Some here = sym (lent.pages page lt bytes e) ∙ is in cc) lease)
        (length m.pages) lent.as_many b comes edges more

    needed_at : (s : Slot) → slot_at l.slots page ≡ s → (want : Want) → next want ≡ as_lease (with_page_beside (want_of s) want l page here) (edges ++ more)
    needed_at Missing e Read = to_read e
    needed_at Missing e Write = to_write (ap is_writable e)
    needed_at (Readable x) e Read =
        kept Read (readable_taken (slot_at l.slots page) (taken_at l.taken page) (lease.rights page) (ap is_readable e))
        (kept_to_read (taken_at l.taken page) Read l.present.count (sym (lease.rights page) ∙ ap want_of e))
    needed_at (Readable x) e Write = to_write (ap is_writable e)
    needed_at (Writable x) e Read =
        kept Read (readable_taken (slot_at l.slots page) (taken_at l.taken page) (lease.rights page) (ap is_readable e))
        (kept_to_read (taken_at l.taken page) Write l.present.count (sym (lease.rights page) ∙ ap want_of e))
    needed_at (Writable x) e Write =
        kept Write (readable_taken (slot_at l.slots page) (taken_at l.taken page) (lease.rights page) (ap is_readable e))
        (kept_to_write (taken_at l.taken page) l.present.count (sym (lease.rights page) ∙ ap want_of e))

    pub needed_is : (want : Want) → next want ≡ as_lease (with_page l page want here) (edges ++ more)
    needed_is = needed_at (slot_at l.slots page) refl
