-- The counts of a lease's pages, as stubs of the theory have them.
use Rattle.std.proofs.Common.{◌≡◌, ◌≢◌, ◌⊎◌, inl, inr, ℕ, ◌<◌, List, ◌++◌, length, replicate, slice_set, is_some, unwrap_or, true, Option, None, Some}
use Rattle.std.proofs.Common.{option_map, refl, ap, sym, ◌∙◌}
use Rattle.std.proofs.lemmas.List.{get_or-set_same, get_or-set_other}
use Rattle.ft_types.specs.declared.names.Want.{Want}
use Rattle.ft_types.specs.declared.names.Want.TheVariants.{Read, Write}
use Rattle.interleaving.specs.Log.{Edge}
use Rattle.interleaving.proofs.Put.{same_or_not, put_same, put_other}
use Rattle.lease_ledger.specs.Ledger as ledger
use Rattle.lease_ledger.specs.Ledger.{fresh_stub, noted, noted_to_write}
use Rattle.hart_lease.specs.declared.lease_pages.Slot.{Slot}
use Rattle.hart_lease.specs.declared.lease_pages.Slot.TheVariants.{Missing, Readable, Writable}
use Rattle.hart_lease.specs.declared.taken.Taken.{Taken}
use Rattle.hart_lease.specs.Slots.{want_of, is_readable, is_writable}
use Rattle.hart_lease.specs.Taken.{taken_at, right_written, right_of_taken, read_first, written_first, taking}
use Rattle.hart_lease.specs.Recorded.{read_counts, write_counts, stub_of}
use Rattle.hart_lease.proofs.pages.Slots.{none-replicate}

abbrev pub read_of : Option Taken → Option ℕ
read_of o = option_map (λ t. t.read_at) o

-- a lease that has taken nothing
pub stub_fresh : (pages : ℕ) (edges : List Edge) → stub_of (replicate pages None) edges ≡ fresh_stub edges
stub_fresh pages edges =
    λ i.
    record {
      read_at = λ page. ap read_of (none-replicate {A = Taken} pages page) i;
      write_at = λ page. ap written_first (none-replicate {A = Taken} pages page) i;
      edges = edges;
    }

-- one page's count noted, in the row and in the stub
module _ (taken : List (Option Taken)) (page : ℕ) (row : page < length taken) (n : ℕ) where
  abbrev with_count : Want → List (Option Taken)
  with_count want = slice_set taken page (Some (taking (taken_at taken page) want n))

  noted_at : (f : Option Taken → Option ℕ) (want : Want) →
      f (Some (taking (taken_at taken page) want n)) ≡ Some (unwrap_or (f (taken_at taken page)) n) → (q : ℕ) → (page ≡ q) ⊎ (page ≢ q) →
      f (taken_at (with_count want) q) ≡ noted (λ p. f (taken_at taken p)) page n q
  noted_at f want is q (inl same) =
      rw (← same)
      (ap f (get_or-set_same taken page (Some (taking (taken_at taken page) want n)) None row) ∙
      (is ∙ sym (put_same (λ p. f (taken_at taken p)) page page (Some (unwrap_or (f (taken_at taken page)) n)) refl)))
  noted_at f want is q (inr ne) =
      ap f (get_or-set_other taken page q (Some (taking (taken_at taken page) want n)) None (λ e. ne (sym e))) ∙
      sym (put_other (λ p. f (taken_at taken p)) page q (Some (unwrap_or (f (taken_at taken page)) n)) ne)

  as_it_was : (f : Option Taken → Option ℕ) (want : Want) → f (Some (taking (taken_at taken page) want n)) ≡ f (taken_at taken page) → (q : ℕ) →
      (page ≡ q) ⊎ (page ≢ q) → f (taken_at (with_count want) q) ≡ f (taken_at taken q)
  as_it_was f want is q (inl same) = rw (← same) (ap f (get_or-set_same taken page (Some (taking (taken_at taken page) want n)) None row) ∙ is)
  as_it_was f want is q (inr ne) = ap f (get_or-set_other taken page q (Some (taking (taken_at taken page) want n)) None (λ e. ne (sym e)))

  reads : (want : Want) → read_counts (with_count want) ≡ noted (read_counts taken) page n
  reads want = λ i q. noted_at read_of want (of (taken_at taken page)) q (same_or_not page q) i
    where
      of : (o : Option Taken) → Some (read_first o n) ≡ Some (unwrap_or (read_of o) n)
      of None = refl
      of (Some t) = refl

  writes : (want : Want) → write_counts (with_count want) ≡ noted_to_write want (write_counts taken) page n
  writes Read = λ i q. as_it_was written_first Read refl q (same_or_not page q) i
  writes Write = λ i q. noted_at written_first Write refl q (same_or_not page q) i

  pub stub_taking : (want : Want) (edges more : List Edge) →
      stub_of (slice_set taken page (Some (taking (taken_at taken page) want n))) (edges ++ more) ≡ ledger.taking (stub_of taken edges) page want n more
  stub_taking want edges more = λ i. record { read_at = reads want i; write_at = writes want i; edges = edges ++ more }

-- The pages that a lease has are those that it has taken.

pub readable_taken : (s : Slot) (o : Option Taken) → want_of s ≡ right_of_taken o → is_readable s ≡ true → is_some (read_of o) ≡ true
readable_taken Missing o e r = cc
readable_taken (Readable x) None e r = cc
readable_taken (Readable x) (Some t) e r = refl
readable_taken (Writable x) None e r = cc
readable_taken (Writable x) (Some t) e r = refl

pub taken_readable : (s : Slot) (o : Option Taken) → want_of s ≡ right_of_taken o → is_some (read_of o) ≡ true → is_readable s ≡ true
taken_readable s None e r = cc
taken_readable Missing (Some t) e r = cc
taken_readable (Readable x) (Some t) e r = refl
taken_readable (Writable x) (Some t) e r = refl

written_some : (w : Option ℕ) → Some Write ≡ Some (right_written w) → is_some w ≡ true
written_some None e = cc
written_some (Some k) e = refl

-- and to write, those that it has taken to write
pub writable_taken : (s : Slot) (o : Option Taken) → want_of s ≡ right_of_taken o → is_writable s ≡ true → is_some (written_first o) ≡ true
writable_taken Missing o e w = cc
writable_taken (Readable x) o e w = cc
writable_taken (Writable x) None e w = cc
writable_taken (Writable x) (Some t) e w = written_some t.write_at e

-- a right that is held is taken no second time
pub kept_to_read : (x : Option Taken) (held : Want) (n : ℕ) → right_of_taken x ≡ Some held → Some (taking x Read n) ≡ x
kept_to_read None held n e = cc
kept_to_read (Some x) held n e = refl

pub kept_to_write : (x : Option Taken) (n : ℕ) → right_of_taken x ≡ Some Write → Some (taking x Write n) ≡ x
kept_to_write None n e = cc
kept_to_write (Some x) n e = ap (λ (w : Option ℕ). let t : Taken = record { read_at = x.read_at; write_at = w } in Some t) (of x.write_at e)
  where
    of : (w : Option ℕ) → Some (right_written w) ≡ Some Write → Some (unwrap_or w n) ≡ w
    of None e = cc
    of (Some k) e = refl
