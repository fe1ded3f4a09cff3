-- What a lease has at present is what its steps made of what it was lent.
use Rattle.std.proofs.Common.{◌≡◌, ◌≢◌, ◌⊎◌, inl, inr, ℕ, ◌<◌, List, [], ◌++◌, length, map, replicate, slice_get, slice_set, slice_index_or, is_some, true}
use Rattle.std.proofs.Common.{false, Bool, Option, None, Some, option_map, MatchOption, Contains, refl, ap, sym, subst, ◌∙◌, arith}
use Rattle.std.proofs.lemmas.List.{get_or-set_same, get_or-set_other}
use Rattle.std.proofs.lemmas.Option.{slice_get-get_or}
use Rattle.ft_types.specs.declared.names.Want.{Want}
use Rattle.interleaving.specs.Lists.{put}
use Rattle.interleaving.specs.Machine.{Machine, Effect, Write, Writes, written, after, step_of}
use Rattle.interleaving.specs.Log.{Edge}
use Rattle.interleaving.specs.Stored.{effect_of, halted_of, lift}
use Rattle.interleaving.proofs.Put.{same_or_not, put_same, put_other}
use Rattle.interleaving.proofs.Each.{each_more}
use Rattle.input_log.specs.declared.Input.{Input}
use Rattle.rv32_hart.specs.Hart.{Hart}
use Rattle.rv32_hart.specs.Csrs.{received_all}
use Rattle.rv32_hart.specs.Access.{next_step}
use Rattle.rv32_hart.specs.Step.{Contents, IsTaken, effect}
use Rattle.rv32_hart.specs.machinery.Local.{step_local}
use Rattle.rv32_hart.specs.Hardware.{hardware}
use Rattle.lease_ledger.specs.Ledger as ledger
use Rattle.lease_ledger.specs.Ledger.{Uses, IsOurs, begin, lent, stepped, present}
use Rattle.lease_ledger.specs.Calls.{Given}
use Rattle.lease_ledger.specs.Laws.{MayTick, IsLentMore, lease_needed, lease_ticked}
use Rattle.lease_ledger.proofs.GoesOn.{ticks, tick_goes_on, needs, lent_more}
use Rattle.hart_lease.specs.declared.lease_pages.Slot.{Slot}
use Rattle.hart_lease.specs.declared.lease_pages.Slot.TheVariants.{Missing, Writable}
use Rattle.hart_lease.specs.declared.taken.Taken.{Taken}
use Rattle.hart_lease.specs.Slots.{slot_at, want_of, base_of, present_bytes, is_readable, is_writable, ram_of}
use Rattle.hart_lease.specs.Taken.{taken_at, right_of_taken, written_first}
use Rattle.hart_lease.specs.Leases as leases
use Rattle.hart_lease.specs.Leases.{LeaseView, base_at, inputs_next, fresh}
use Rattle.hart_lease.specs.OpenLeases.{LentView}
use Rattle.hart_lease.specs.Turns.{turn_on, turns_from}
use Rattle.hart_lease.specs.Recorded.{read_counts, write_counts, stub_of, as_lease, system, IsPlayed}
use Rattle.hart_lease.proofs.pages.Counts.{read_of, stub_taking, readable_taken, writable_taken}
use Rattle.hart_lease.proofs.pages.Slots.{none-replicate, length-map, index-map}
use Rattle.hart_lease.proofs.steps.Seen.{touched_readable, readable_within, write_right, right_writable}
use Rattle.hart_lease.proofs.journals.Runs.{turns_from-last}
use Rattle.hart_lease.proofs.steps.OnMachines.{Leaves, left, slots_written}

abbrev Lease : Type 0
Lease = ledger.Lease (Option Hart) (Option (List ℕ)) (List Input)

-- On RAM of so many pages the steps of a lease of the theory lead to this hart and these pages.
pub record LeadsTo (pages : ℕ) (x : Lease) (now : Hart) (shown : ℕ → List ℕ) : Type 0 where
  pub lease : ledger.IsLease (system pages) x
  pub hart : (stepped (system pages) x).harts x.hart ≡ Some now
  pub pages_are : (page : ℕ) → is_some (x.stub.read_at page) ≡ true → (stepped (system pages) x).pages page ≡ Some (shown page)
  pub based : (page : ℕ) → is_some (x.stub.read_at page) ≡ true → (bytes : List ℕ) × (x.pages page ≡ Some bytes)

abbrev pub shown_at : List Slot → ℕ → List ℕ
shown_at slots page = present_bytes (slot_at slots page)

leads : (l : LeaseView) → IsPlayed l → LeadsTo (length l.slots) (as_lease l []) l.present (shown_at l.slots)
leads l p = record { lease = p.lease; hart = p.hart; pages_are = p.pages; based = p.based }

played : (l : LeaseView) → LeadsTo (length l.slots) (as_lease l []) l.present (shown_at l.slots) → IsPlayed l
played l p = record { lease = p.lease; hart = p.hart; pages = p.pages_are; based = p.based }

-- the edges that wait in the lease do not matter
with_edges : (n : ℕ) (l : LeaseView) (edges : List Edge) (now : Hart) (shown : ℕ → List ℕ) → LeadsTo n (as_lease l []) now shown →
    LeadsTo n (as_lease l edges) now shown
with_edges n l edges now shown p =
    record {
      lease =
          record {
            mine = p.lease.mine;
            runs = p.lease.runs;
            uses =
                each_more (Uses (system n) (stub_of l.taken [])) (Uses (system n) (stub_of l.taken edges))
                (λ s u. record { touches = u.touches; writes = u.writes }) _ p.lease.uses;
            reads = p.lease.reads;
            writes = p.lease.writes;
          };
      hart = p.hart;
      pages_are = p.pages_are;
      based = p.based;
    }

-- a lease on RAM of this size, with whatever edges
pub played_with : (l : LeaseView) → IsPlayed l → (pages : ℕ) → length l.slots ≡ pages → (edges : List Edge) →
    LeadsTo pages (as_lease l edges) l.present (shown_at l.slots)
played_with l p pages many edges =
    subst (λ n. LeadsTo n (as_lease l edges) l.present (shown_at l.slots)) many (with_edges (length l.slots) l edges l.present (shown_at l.slots) (leads l p))

pub present_played : (l : LeaseView) → IsPlayed l → (pages : ℕ) → length l.slots ≡ pages → (edges : List Edge) →
    present (system pages) (as_lease l edges) ≡ l.present.count
present_played l p pages many edges = ap (system pages).count (played_with l p pages many edges).hart

-- a lease without steps and pages
pub fresh_played : (hart : ℕ) (state : Hart) (pages : ℕ) (lent : LentView) → IsPlayed (fresh hart state pages lent)
fresh_played hart state pages lent =
    record {
      lease =
          record {
            mine = tt;
            runs = tt;
            uses = tt;
            reads = λ page k e. let h : None ≡ Some k = sym (ap read_of (none page)) ∙ e in cc;
            writes = λ page k e. let h : None ≡ Some k = sym (ap written_first (none page)) ∙ e in cc;
          };
      hart = refl;
      pages = λ page e. let h : false ≡ true = sym (ap (λ (o : Option Taken). is_some (read_of o)) (none page)) ∙ e in cc;
      based = λ page e. let h : false ≡ true = sym (ap (λ (o : Option Taken). is_some (read_of o)) (none page)) ∙ e in cc;
    }
  where
    none : (page : ℕ) → taken_at (replicate pages None) page ≡ None
    none page = none-replicate {A = Taken} pages page

-- A page comes.

-- a ledger whose machine has this page, and otherwise what was lent
abbrev lender : Lease → ℕ → List ℕ → ledger.Ledger (Option Hart) (Option (List ℕ)) (List Input)
lender x page here = record (begin (record { harts = λ hart. x.state; pages = put x.pages page (Some here) })) { stubs = λ hart. Some x.stub }

lender_has : (x : Lease) (page : ℕ) (here : List ℕ) → (lender x page here).machine.pages page ≡ Some here
lender_has x page here = put_same x.pages page page (Some here) refl

-- the lease of the theory, with one more page
module _ (n : ℕ) (x : Lease) (now : Hart) (shown : ℕ → List ℕ) (old : LeadsTo n x now shown) (page : ℕ) (want : Want) (here : List ℕ)
    (kept : is_some (x.stub.read_at page) ≡ true → (x.pages page ≡ Some here) × (shown page ≡ here)) where
  abbrev pub given : Lease
  given = lease_needed (system n) (lender x page here) x page want (Given [])

  ours : IsOurs (lender x page here) x
  ours =
      record {
        stub = refl;
        state = refl;
        pages =
            λ q takes.
            elim (same_or_not page q) [
              | inl same ↦
                  sym (ap x.pages same) ∙
                  ((kept (ap (λ p. is_some (x.stub.read_at p)) same ∙ takes)).0 ∙ sym (put_same x.pages page q (Some here) same))
              | inr ne ↦ sym (put_other x.pages page q (Some here) ne)
            ];
      }

  more : IsLentMore (system n) (lender x page here) x given page
  more = lent_more (system n) (lender x page here) page want x old.lease ours []

  here_now : (b : Bool) → is_some (x.stub.read_at page) ≡ b → (stepped (system n) given).pages page ≡ Some here
  here_now true takes = more.pages page takes ∙ (old.pages_are page takes ∙ ap (λ bytes. Some bytes) (kept takes).1)
  here_now false not = more.new not ∙ lender_has x page here

  -- a page other than the one that came
  taken_before : (q : ℕ) → page ≢ q → is_some (given.stub.read_at q) ≡ true → is_some (x.stub.read_at q) ≡ true
  taken_before q ne takes = sym (ap (λ (o : Option ℕ). is_some o) (put_other x.stub.read_at page q _ ne)) ∙ takes

  pub given_leads : (after : ℕ → List ℕ) → after page ≡ here → ((q : ℕ) → page ≢ q → after q ≡ shown q) → LeadsTo n given now after
  given_leads after at_page elsewhere =
      record {
        lease = (needs (system n) (lender x page here) x page want ((lender x page here).rights page) (Given []) old.lease ours).0;
        hart = more.hart ∙ old.hart;
        pages_are =
            λ q takes.
            elim (same_or_not page q) [
              | inl same ↦ rw (← same) (here_now (is_some (x.stub.read_at page)) refl ∙ ap (λ bytes. Some bytes) (sym at_page))
              | inr ne ↦
                  more.pages q (taken_before q ne takes) ∙
                  (old.pages_are q (taken_before q ne takes) ∙ ap (λ bytes. Some bytes) (sym (elsewhere q ne)))
            ];
        based =
            λ q takes.
            elim (same_or_not page q) [
              | inl same ↦ (here, put_same x.pages page q ((lender x page here).machine.pages page) same ∙ lender_has x page here)
              | inr ne ↦
                  let (bytes, is) = old.based q (taken_before q ne takes) in
                  (bytes, put_other x.pages page q ((lender x page here).machine.pages page) ne ∙ is)
            ];
      }

-- the lease with these pages, of which it took one at its present count
abbrev with_pages : LeaseView → ℕ → Want → List Slot → List (Option (List ℕ)) → LeaseView
with_pages l page want slots bases = record (leases.with_taken l page want) { bases = bases; slots = slots }

-- one page of a lease is new, or taken once more
pub record IsGiven (l : LeaseView) (page : ℕ) (here : List ℕ) (slots : List Slot) (bases : List (Option (List ℕ))) : Type 0 where
  pub row : page < length l.taken
  pub many : length slots ≡ length l.slots
  pub base : base_of (slot_at slots page) (slice_index_or bases page None) ≡ Some here
  pub bytes : present_bytes (slot_at slots page) ≡ here
  pub bases_kept : (q : ℕ) → page ≢ q → base_of (slot_at slots q) (slice_index_or bases q None) ≡ base_at l q
  pub slots_kept : (q : ℕ) → page ≢ q → slot_at slots q ≡ slot_at l.slots q
  pub kept : is_some (read_counts l.taken page) ≡ true → (base_at l page ≡ Some here) × (present_bytes (slot_at l.slots page) ≡ here)

module _ (l : LeaseView) (p : IsPlayed l) (page : ℕ) (want : Want) (here : List ℕ) (slots : List Slot) (bases : List (Option (List ℕ)))
    (g : IsGiven l page here slots bases) where
  -- so does the theory, with the page of any ledger that has it
  module _ (n : ℕ) (many : length l.slots ≡ n) (b : ledger.Ledger (Option Hart) (Option (List ℕ)) (List Input))
      (comes : b.machine.pages page ≡ Some here) (edges more : List Edge) where
    abbrev next : Lease
    next = lease_needed (system n) b (as_lease l edges) page want (Given more)

    bases_are : (q : ℕ) → (page ≡ q) ⊎ (page ≢ q) → next.pages q ≡ base_at (with_pages l page want slots bases) q
    bases_are q (inl same) =
        put_same (base_at l) page q (b.machine.pages page) same ∙
        (comes ∙ (sym g.base ∙ ap (base_at (with_pages l page want slots bases)) same))
    bases_are q (inr ne) = put_other (base_at l) page q (b.machine.pages page) ne ∙ sym (g.bases_kept q ne)

    stub_is : next.stub ≡ stub_of (with_pages l page want slots bases).taken (edges ++ more)
    stub_is =
        ap (λ k. ledger.taking (stub_of l.taken edges) page want k more) (present_played l p n many edges) ∙
        sym (stub_taking l.taken page g.row l.present.count want edges more)

    pub given_needed : next ≡ as_lease (with_pages l page want slots bases) (edges ++ more)
    given_needed =
        λ i.
        record {
          hart = l.hart;
          state = Some l.base;
          pages = λ q. bases_are q (same_or_not page q) i;
          stub = stub_is i;
          turns = turns_from l.inputs l.hart l.steps;
        }

  pub given_played : IsPlayed (with_pages l page want slots bases)
  given_played =
      let old = played_with l p (length slots) (sym g.many) [] in
      played (with_pages l page want slots bases)
      (subst (λ x. LeadsTo (length slots) x l.present (shown_at slots))
      (given_needed (length slots) (sym g.many) (lender (as_lease l []) page here) (lender_has (as_lease l []) page here) [] [])
      (given_leads (length slots) (as_lease l []) l.present (shown_at l.slots) old page want here g.kept (shown_at slots) g.bytes
      (λ q ne. ap present_bytes (g.slots_kept q ne))))

-- A step.

-- what a hart on these pages writes, it writes in the machine
lifted : (e : Effect Hart (List ℕ)) (pages page : ℕ) → Writes (lift (hardware pages) e) page → (w : Write (List ℕ)) × (e.write ≡ Some w) × (w.page ≡ page)
lifted e pages page = of e.write
  where
    of : (o : Option (Write (List ℕ))) →
        MatchOption
        (option_map (λ (w : Write (List ℕ)). let v : Write (Option (List ℕ)) = record { page = w.page; contents = Some w.contents } in v) o)
        ⊥ (λ w. w.page ≡ page) →
        (w : Write (List ℕ)) × (o ≡ Some w) × (w.page ≡ page)
    of None writes = absurd writes
    of (Some w) writes = (w, refl, writes)

module _ (l : LeaseView) (p : IsPlayed l) (rights : (page : ℕ) → want_of (slot_at l.slots page) ≡ right_of_taken (taken_at l.taken page))
    (now : Hart) (slots : List Slot) (t : IsTaken (inputs_next l) l.present (ram_of l.slots) now (ram_of slots)) where
  abbrev n : ℕ
  n = length l.slots

  abbrev m : Machine (Option Hart) (Option (List ℕ))
  m = stepped (system n) (as_lease l [])

  abbrev seen : Contents
  seen = slice_get (ram_of l.slots).contents

  abbrev what : Effect Hart (List ℕ)
  what = effect (length (ram_of l.slots).contents) l.present (inputs_next l) seen

  slots_left : Leaves l.slots slots [] what.write
  slots_left = left l now slots t []

  -- what the step touches, the lease has taken
  has : (page : ℕ) → Contains what.touched page → is_readable (slot_at l.slots page) ≡ true
  has page touched =
      touched_readable l.slots (next_step (length (ram_of l.slots).contents) (received_all (inputs_next l) l.present)) seen page t.granted touched

  takes : (page : ℕ) → Contains what.touched page → is_some (read_counts l.taken page) ≡ true
  takes page touched = readable_taken (slot_at l.slots page) (taken_at l.taken page) (rights page) (has page touched)

  agree : (page : ℕ) → Contains what.touched page → seen page ≡ m.pages page
  agree page touched =
      let within : page < length l.slots = readable_within l.slots page (has page touched) in
      slice_get-get_or (map present_bytes l.slots) page [] (omega (arith, length-map present_bytes l.slots, within)) ∙
      (ap (λ bytes. Some bytes) (index-map present_bytes Missing [] l.slots page within) ∙ sym (p.pages page (takes page touched)))

  does : (step_of (system n) m (turn_on l.hart (inputs_next l))).effect ≡ lift (hardware n) what
  does =
      ap (λ (o : Option Hart). effect_of (hardware n) o (inputs_next l) m.pages) p.hart ∙
      ap (lift (hardware n))
      (sym
      (step_local (length (ram_of l.slots).contents) l.present (inputs_next l) seen m.pages agree ∙
      ap (λ (k : ℕ). effect k l.present (inputs_next l) m.pages) (length-map present_bytes l.slots)))

  may : MayTick (system n) (as_lease l []) (turn_on l.hart (inputs_next l))
  may =
      record {
        own = refl;
        goes = ap (halted_of (hardware n)) p.hart ∙ t.running;
        touches = λ page touched. takes page (subst (λ (e : Effect (Option Hart) (Option (List ℕ))). Contains e.touched page) does touched);
        writes =
            λ page writes.
            let (w, is, at) = lifted what n page (subst (λ (e : Effect (Option Hart) (Option (List ℕ))). Writes e page) does writes) in
            subst (λ q. is_some (write_counts l.taken q) ≡ true) at
            (writable_taken (slot_at l.slots w.page) (taken_at l.taken w.page) (rights w.page)
            (ap is_writable
            (right_writable l.slots w.page
            (write_right (ram_of l.slots) (next_step (length (ram_of l.slots).contents) (received_all (inputs_next l) l.present)) seen w t.granted is)).is));
      }

  abbrev ticked_lease : Lease
  ticked_lease = lease_ticked (system n) (as_lease l []) (turn_on l.hart (inputs_next l))

  -- the bytes that the step wrote are in the lease's slot
  written_shown : (o : Option (Write (List ℕ))) → slots ≡ slots_written l.slots o → (page : ℕ) → is_some (read_counts l.taken page) ≡ true →
      ((w : Write (List ℕ)) → o ≡ Some w → w.page < length l.slots) →
      written m.pages (option_map (λ (w : Write (List ℕ)). let v : Write (Option (List ℕ)) = record { page = w.page; contents = Some w.contents } in v) o) page
      ≡ Some (shown_at slots page)
  written_shown None same page takes within = p.pages page takes ∙ ap (λ (s : List Slot). Some (shown_at s page)) (sym same)
  written_shown (Some w) same page takes within =
      elim (same_or_not w.page page) [
        | inl at ↦
            put_same m.pages w.page page (Some w.contents) at ∙
            ap (λ (s : Slot). Some (present_bytes s))
            (sym (get_or-set_same l.slots w.page (Writable w.contents) Missing (within w refl)) ∙
            (ap (slot_at (slice_set l.slots w.page (Writable w.contents))) at ∙ ap (λ (s : List Slot). slot_at s page) (sym same)))
        | inr ne ↦
            put_other m.pages w.page page (Some w.contents) ne ∙
            (p.pages page takes ∙
            ap (λ (s : Slot). Some (present_bytes s))
            (sym (get_or-set_other l.slots w.page page (Writable w.contents) Missing (λ e. ne (sym e))) ∙ ap (λ (s : List Slot). slot_at s page) (sym same)))
      ]

  write_within : (w : Write (List ℕ)) → what.write ≡ Some w → w.page < length l.slots
  write_within w is =
      readable_within l.slots w.page
      (ap is_readable
      (right_writable l.slots w.page
      (write_right (ram_of l.slots) (next_step (length (ram_of l.slots).contents) (received_all (inputs_next l) l.present)) seen w t.granted is)).is)

  ticked_leads : LeadsTo n ticked_lease now (shown_at slots)
  ticked_leads =
      record {
        lease = ticks (system n) (as_lease l []) (turn_on l.hart (inputs_next l)) p.lease may;
        hart =
            ap (λ (k : Machine (Option Hart) (Option (List ℕ))). k.harts l.hart) (tick_goes_on (system n) (as_lease l []) (turn_on l.hart (inputs_next l))) ∙
            (put_same m.harts l.hart l.hart (step_of (system n) m (turn_on l.hart (inputs_next l))).effect.hart refl ∙
            (ap (λ (e : Effect (Option Hart) (Option (List ℕ))). e.hart) does ∙ ap (λ h. Some h) (sym t.hart)));
        pages_are =
            λ page takes.
            ap (λ (k : Machine (Option Hart) (Option (List ℕ))). k.pages page) (tick_goes_on (system n) (as_lease l []) (turn_on l.hart (inputs_next l))) ∙
            (ap (λ (e : Effect (Option Hart) (Option (List ℕ))). written m.pages e.write page) does ∙
            written_shown what.write slots_left.slots_after page takes write_within);
        based = p.based;
      }

  ticked_is : ticked_lease ≡ as_lease (leases.stepped l now slots) []
  ticked_is =
      λ i.
      record {
        hart = l.hart;
        state = Some l.base;
        pages = λ page. sym (slots_left.bases_after page (slice_index_or l.bases page None)) i;
        stub = stub_of l.taken [];
        turns = sym (turns_from-last l.inputs l.hart l.steps) i;
      }

  pub ticked_played : IsPlayed (leases.stepped l now slots)
  ticked_played =
      played (leases.stepped l now slots)
      (subst (λ n. LeadsTo n (as_lease (leases.stepped l now slots) []) now (shown_at slots)) (sym slots_left.length_after)
      (subst (λ x. LeadsTo n x now (shown_at slots)) ticked_is ticked_leads))
