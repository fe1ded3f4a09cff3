-- Two leases side by side, and a lease whose type forgot at which count it took a page and which settles a log that is not
-- honest.
use Rattle.std.proofs.Common.{◌≡◌, ◌≢◌, ◌⊎◌, inl, inr, ℕ, ◌==◌, ◌&&◌, not, is_some, ◌<◌, Bool, true, false, cond, if◌then◌else◌, [], ◌∷◌, Some, None, Contains}
use Rattle.std.proofs.Common.{refl, sym, subst, ◌∙◌, arith, eqb-true, true≢false}
use Rattle.std.proofs.lemmas.Bool.{and_parts, ne_eqb}
use Rattle.ft_types.specs.declared.names.Want.TheVariants.{Read, Write}
use Rattle.interleaving.specs.Log.{Edge, Log, Before, IsHonest}
use Rattle.interleaving.specs.Examples.{counting, loads, stores}
use Rattle.interleaving.specs.declared.counters.Act.{Act}
use Rattle.interleaving.proofs.Put.{same_or_not}
use Rattle.interleaving.proofs.Cuts.{here, here_or_later}
use Rattle.interleaving.proofs.Order.{before_inside}
use Rattle.interleaving.proofs.Decided.{closed_by}
use Rattle.crew_pages.specs.Rights.{Right, Shared, nobody, stands, count_of, IsOwed}
use Rattle.lease_ledger.specs.Ledger.{begin, IsLease, IsOurs}
use Rattle.lease_ledger.specs.Calls.{has_taken, HeldBy, Given, All, Nothing, NotYet, Then, AreOwed, Reached, Begun, Opened, Needed, Settled}
use Rattle.lease_ledger.specs.Laws.{lease_needed}
use Rattle.lease_ledger.specs.Examples.{start, writing, writer, lent_to_write, wrote, beside, asker, refused, kept_on, first_edge, lent_on, loaded, SideBySide}
use Rattle.lease_ledger.specs.Examples.{stored, reading, reader, lent_to_read, went_on, loads_from_1, edge, lent_both, honest_reader, forged, last}
use Rattle.lease_ledger.specs.Examples.{ForgetsCounts}
use Rattle.lease_ledger.proofs.Invariant.{none_in}
use Rattle.lease_ledger.proofs.GoesOn.{opens, ticks, needs}

nobody_stands : (b : Bool) → (b && false) ≡ false
nobody_stands true = refl
nobody_stands false = refl

not_against : (b : Bool) → (b && false) ≡ true → ⊥
not_against b h = true≢false (sym h ∙ nobody_stands b)

-- the one page of a list of one
only_one : (page q : ℕ) → Contains (page ∷ []) q → page ≡ q
only_one page q i = elim (here_or_later page [] q i) [ inl is ↦ is | inr later ↦ absurd (none_in q later) ]

-- hart 0's lease

writer_is : IsLease counting writer × IsOurs writing writer
writer_is = opens counting (begin start) 0 []

writer_owes : AreOwed (writing.rights 0) 0 Write 0 []
writer_owes = record { all = λ e owed. let h = owed.after in absurd (cc); only = λ e i. absurd (none_in e i) }

reached_to_write : Reached counting 2 start lent_to_write
reached_to_write =
    Needed writer 0 Write (writing.rights 0) (Given []) (Opened 0 [] Begun (omega arith) refl (λ e i. absurd (none_in e i))) writer_is.0 writer_is.1
    (record { given_up = NotYet; taken = λ other against. absurd (not_against (not (0 == other)) against) })
    ((λ other. nobody_stands (not (0 == other))), writer_owes)

wrote_is : IsLease counting wrote × IsOurs lent_to_write wrote
wrote_is =
    let (lease, ours) = needs counting writing writer 0 Write (writing.rights 0) (Given []) writer_is.0 writer_is.1 in (
      ticks counting (lease_needed counting writing writer 0 Write (Given [])) (stores 0 0) lease
          (
          record {
            own = refl;
            goes = refl;
            touches = λ page i. subst (λ q. is_some (wrote.stub.read_at q) ≡ true) (only_one 0 page i) refl;
            writes = λ page is. subst (λ q. is_some (wrote.stub.write_at q) ≡ true) is refl;
          }
          ),
      record { stub = ours.stub; state = ours.state; pages = ours.pages },
    )

-- hart 0 wrote the page, and left at count 1
abbrev left_by_0 : Right
left_by_0 = Shared (Some (record { hart = 0; count = 1 })) (λ other. false) nobody

abbrev edge_at : ℕ → Edge
edge_at n = record { hart = 1; step = n; other = 0; count = 1 }

is_edge : (n : ℕ) (e : Edge) → IsOwed left_by_0 1 Read n e → edge_at n ≡ e
is_edge n e owed = go (same_or_not 0 e.other)
  where
    go : (0 ≡ e.other) ⊎ (0 ≢ e.other) → edge_at n ≡ e
    go (inl same) =
        let after : count_of (Some (record { hart = 0; count = 1 })) e.other ≡ Some e.count = owed.after in
        let h : Some 1 ≡ Some e.count = subst (λ g. count_of (Some (record { hart = 0; count = 1 })) g ≡ Some e.count) (sym same) after in
        let is : 1 ≡ e.count = cc in
        λ i. record { hart = sym owed.own i; step = sym owed.at i; other = same i; count = is i }
    go (inr ne) =
        let after : count_of (Some (record { hart = 0; count = 1 })) e.other ≡ Some e.count = owed.after in
        let h : None ≡ Some e.count =
        subst (λ c. (if c then Some 1 else None) ≡ Some e.count) (ne_eqb 0 e.other ne) after in
        absurd (cc)

owes_one : (n : ℕ) → AreOwed left_by_0 1 Read n (edge_at n ∷ [])
owes_one n =
    record {
      all = λ e owed. subst (Contains (edge_at n ∷ [])) (is_edge n e owed) (here (edge_at n) []);
      only =
          λ e i.
          elim (here_or_later (edge_at n) [] e i) [
            | inl is ↦
                subst (IsOwed left_by_0 1 Read n) is
                (record { lacks = refl; own = refl; at = refl; other = λ e. omega arith; is_hart = omega arith; after = refl })
            | inr later ↦ absurd (none_in e later)
          ];
    }

-- hart 1 asks while hart 0's lease is open

asker_is : IsLease counting asker × IsOurs beside asker
asker_is = opens counting lent_to_write 1 []

only_hart_0 : (other : ℕ) → stands (beside.rights 0) 1 Read other ≡ true → 0 ≡ other
only_hart_0 other against = eqb-true 0 other (and_parts (not (1 == other)) (0 == other) against).1

reached_refused : Reached counting 2 start refused
reached_refused =
    Needed asker 0 Read (beside.rights 0) (HeldBy (λ other. 0 == other))
    (Opened 1 [] reached_to_write (omega arith) refl (λ e i. absurd (none_in e i))) asker_is.0 asker_is.1
    (
    record {
      given_up = NotYet;
      taken = λ other against. subst (λ other. has_taken (beside.stubs other) 0 ≡ true) (only_hart_0 other against) refl;
    }
    )
    ((0, refl), stands_so)
  where
    stands_so : (other : ℕ) → (0 == other) ≡ stands (beside.rights 0) 1 Read other
    stands_so other =
        elim (same_or_not 0 other) [
          | inl same ↦ subst (λ other. (0 == other) ≡ (not (1 == other) && (0 == other))) same refl
          | inr ne ↦ subst (λ b. b ≡ (not (1 == other) && b)) (sym (ne_eqb 0 other ne)) (sym (nobody_stands (not (1 == other))))
        ]

reached_kept_on : Reached counting 2 start kept_on
reached_kept_on =
    Settled wrote (λ page. All) reached_refused wrote_is.0 (record { stub = refl; state = refl; pages = wrote_is.1.pages })

asks_again : IsOurs kept_on asker
asks_again = record { stub = refl; state = refl; pages = λ page e. absurd (true≢false (sym e)) }

reached_lent_on : Reached counting 2 start lent_on
reached_lent_on =
    Needed asker 0 Read left_by_0 (Given (first_edge ∷ [])) reached_kept_on asker_is.0 asks_again
    (record { given_up = Then 0 NotYet refl refl; taken = λ other against. absurd (not_against (not (1 == other)) against) })
    ((λ other. nobody_stands (not (1 == other))), owes_one 0)

loaded_is : IsLease counting loaded × IsOurs lent_on loaded
loaded_is =
    let (lease, ours) = needs counting kept_on asker 0 Read left_by_0 (Given (first_edge ∷ [])) asker_is.0 asks_again in (
      ticks counting (lease_needed counting kept_on asker 0 Read (Given (first_edge ∷ []))) (loads 1) lease
          (
          record {
            own = refl;
            goes = refl;
            touches = λ page i. subst (λ q. is_some (loaded.stub.read_at q) ≡ true) (only_one 0 page i) refl;
            writes = λ page is. absurd is;
          }
          ),
      record { stub = ours.stub; state = ours.state; pages = ours.pages },
    )

pub side_by_side : SideBySide
side_by_side =
    record {
      reached = Settled loaded (λ page. Nothing) reached_lent_on loaded_is.0 loaded_is.1;
      journal = refl;
      edges = refl;
      loads_it = refl;
    }

reached_stored : Reached counting 2 start stored
reached_stored = Settled wrote (λ page. Nothing) reached_to_write wrote_is.0 wrote_is.1

-- hart 1's lease

reader_is : IsLease counting reader × IsOurs reading reader
reader_is = opens counting stored 1 []

reader_owes : AreOwed (reading.rights 1) 1 Read 0 []
reader_owes = record { all = λ e owed. let h = owed.after in absurd (cc); only = λ e i. absurd (none_in e i) }

reached_to_read : Reached counting 2 start lent_to_read
reached_to_read =
    Needed reader 1 Read (reading.rights 1) (Given []) (Opened 1 [] reached_stored (omega arith) refl (λ e i. absurd (none_in e i))) reader_is.0 reader_is.1
    (record { given_up = NotYet; taken = λ other against. absurd (not_against (not (1 == other)) against) })
    ((λ other. nobody_stands (not (1 == other))), reader_owes)

went_on_is : IsLease counting went_on × IsOurs lent_to_read went_on
went_on_is =
    let (lease, ours) = needs counting reading reader 1 Read (reading.rights 1) (Given []) reader_is.0 reader_is.1 in (
      ticks counting (lease_needed counting reading reader 1 Read (Given [])) loads_from_1 lease
          (
          record {
            own = refl;
            goes = refl;
            touches = λ page i. subst (λ q. is_some (went_on.stub.read_at q) ≡ true) (only_one 1 page i) refl;
            writes = λ page is. absurd is;
          }
          ),
      record { stub = ours.stub; state = ours.state; pages = ours.pages },
    )

reached_both : Reached counting 2 start lent_both
reached_both =
    Needed went_on 0 Read (lent_to_read.rights 0) (Given (edge ∷ [])) reached_to_read went_on_is.0 went_on_is.1
    (record { given_up = NotYet; taken = λ other against. absurd (not_against (not (1 == other)) against) })
    ((λ other. nobody_stands (not (1 == other))), owes_one 1)

honest_reader_is : IsLease counting honest_reader × IsOurs lent_both honest_reader
honest_reader_is = needs counting lent_to_read went_on 0 Read (lent_to_read.rights 0) (Given (edge ∷ [])) went_on_is.0 went_on_is.1

-- the edge is of hart 1's step 1, so it does not order step 0
none_before : Before (edge ∷ []) (record { hart = 0; step = 0 }) (record { hart = 1; step = 0 }) → ⊥
none_before before = let h : 0 < 0 = before_inside (edge ∷ []) alone (closed_by (edge ∷ []) alone refl) before (omega arith) in omega arith
  where
    alone : ℕ → ℕ
    alone hart = cond (hart == 1) 1 0

not_honest : (log : Log Act) → log.edges ≡ last.edges → IsHonest counting log start last.journal → ⊥
not_honest log is honest =
    none_before
    (subst (λ es. Before es (record { hart = 0; step = 0 }) (record { hart = 1; step = 0 })) is
    (honest.ordered.0.0 ((λ e. omega arith), (0, (0, (omega arith), refl), (0, (omega arith), refl), inl refl))))

pub forgets_counts : ForgetsCounts
forgets_counts =
    record {
      reached = reached_both;
      keeps_the_rest =
          record {
            mine = (refl, tt);
            runs = (refl, tt);
            touches = ((λ page i. subst (λ q. is_some (forged.stub.read_at q) ≡ true) (only_one 0 page i) refl), tt);
            writes = ((λ page is. absurd is), tt);
            read_by = honest_reader_is.0.reads;
            write_by = honest_reader_is.0.writes;
          };
      ours = record { stub = honest_reader_is.1.stub; state = honest_reader_is.1.state; pages = honest_reader_is.1.pages };
      not_honest = λ log is edges_are honest. not_honest log edges_are honest;
    }
