-- A hart that is lent, or refused.
use Rattle.std.proofs.Common.{◌≡◌, ◌≢◌, ℕ, zero, suc, ◌<◌, ◌≤◌, ◌⊎◌, List, [], ◌∷◌, length, length-set, replicate, slice_get, slice_set, Option, None, Some}
use Rattle.std.proofs.Common.{Bool, true, false, nat_le, if◌then◌else◌, refl, sym, ap, subst, ◌∙◌, inl, inr, arith}
use Rattle.std.proofs.lemmas.Bool.Decides.{nat_tests}
use Rattle.rv32_hart.specs.Hart.{Hart, without_outputs}
use Rattle.ft_types.specs.Counts.{count_at}
use Rattle.interleaving.specs.Log.{IsMet, HasUnmet}
use Rattle.page_book.specs.declared.answers.BookFault.{BookFault}
use Rattle.page_book.specs.declared.answers.BookFault.TheVariants.{Leased, Halted, EdgeOpen, AtLimit, Foreign, Memory}
use Rattle.book_modes.specs.declared.mode.Mode.{Ghosts}
use Rattle.hart_lease.specs.Runs.{counts_of}
use Rattle.hart_lease.specs.Leases.{LeaseView, fresh}
use Rattle.page_book.specs.Books.{BookView, IsOurs, refusal}
use Rattle.hart_lease.specs.OpenLeases.{OpenView, open_at, nothing_taken}
use Rattle.lease_rounds.specs.Leading.{IsIdle, IsAlone, IsHeld, Lends, lent_as}
use Rattle.ft_types.specs.declared.names.TheConstants.{HART_ROW, LEASE_STEPS}
use Rattle.lease_rounds.proofs.Filling.{row_kept}

none_open : (n hart : ℕ) → open_at (replicate n None) hart ≡ None
none_open zero hart = refl
none_open (suc n) zero = refl
none_open (suc n) (suc hart) = none_open n hart

pub idle_at : {M : Type 0} (b : BookView M) → IsIdle b → (hart : ℕ) → open_at b.leases hart ≡ None
idle_at b idle hart = ap (λ (x : List (Option OpenView)). open_at x hart) idle ∙ none_open HART_ROW hart

-- a hart that is not refused runs, and is below its limit
pub lent_runs : (h : Hart) (limit : ℕ) → refusal None h limit ≡ None → (h.halted ≡ false) × (h.count < limit)
lent_runs h limit e = of h.halted refl e
  where
    later : (b : Bool) → nat_le limit h.count ≡ b → (if b then Some AtLimit else None) ≡ None → h.count < limit
    later true f g = cc
    later false f g = grind (arith, nat_tests)

    of : (b : Bool) → h.halted ≡ b → (if b then Some Halted else (if nat_le limit h.count then Some AtLimit else None)) ≡ None →
        (h.halted ≡ false) × (h.count < limit)
    of true f g = cc
    of false f g = (f, later (nat_le limit h.count) refl g)

pub hart_at : (harts : List Hart) (hart : ℕ) → hart < length harts → (h : Hart) × (slice_get harts hart ≡ Some h)
hart_at [] hart lt = absurd (omega arith)
hart_at (h ∷ harts) zero lt = (h, refl)
hart_at (h ∷ harts) (suc hart) lt = hart_at harts hart (omega arith)

-- what `lease` answers of a hart that it lends
pub lent_out : {M : Type 0} (g : Ghosts M) (hart : ℕ) (b : BookView M) (l : LeaseView) (c : BookView M) → hart < length b.machine.harts →
    ((h : Hart) → slice_get b.machine.harts hart ≡ Some h → refusal (open_at b.leases hart) h (count_at (g.stops b.mode) hart) ≡ None) →
    IsMet (g.obeyed b.mode) (counts_of b.machine) hart →
    ((h : Hart) → slice_get b.machine.harts hart ≡ Some h → l ≡ fresh hart (without_outputs h) (length b.machine.pages) (lent_as l)) →
    g.lends b.mode hart (counts_of b.machine hart) (lent_as l) c.mode →
    c ≡ record b { leases = slice_set b.leases hart (Some (nothing_taken (length b.machine.pages) (lent_as l))); mode = c.mode } → Lends g LEASE_STEPS hart b l c
lent_out g hart b l c within unrefused met lent mode book =
    let (h, there) = hart_at b.machine.harts hart within in
    record { state = h; there = there; unrefused = unrefused h there; met = met; lent = lent h there; mode = mode; book = book }

-- whoever has the lease may let it take other than LEASE_STEPS
pub lent_for : {M : Type 0} (g : Ghosts M) (most hart : ℕ) (b : BookView M) (l : LeaseView) (c : BookView M) → Lends g LEASE_STEPS hart b l c →
    Lends g most hart b (record l { most = most }) c
lent_for g most hart b l c lends =
    record {
      state = lends.state;
      there = lends.there;
      unrefused = lends.unrefused;
      met = lends.met;
      lent = ap (λ (x : LeaseView). let y : LeaseView = record x { most = most } in y) lends.lent;
      mode = lends.mode;
      book = lends.book;
    }

-- a lease of the hart is the one lease of its book
pub lease_alone : {M : Type 0} (g : Ghosts M) (hart : ℕ) (b : BookView M) (l : LeaseView) (c : BookView M) → IsIdle b → Lends g LEASE_STEPS hart b l c →
    IsOurs c l → IsAlone c l
lease_alone {M} g hart b l c idle lends ours =
    let own : l.hart ≡ hart = ap (λ (x : LeaseView). x.hart) lends.lent in
    record {
      ours = ours;
      alone = λ other ne.
          ap (λ (x : BookView M). open_at x.leases other) lends.book
          ∙ row_kept b.leases hart other (Some (nothing_taken (length b.machine.pages) (lent_as l))) (λ e. ne (e ∙ sym own))
          ∙ idle_at b idle other;
      rows = ap (λ (x : BookView M). length x.leases) lends.book
          ∙ length-set b.leases hart (Some (nothing_taken (length b.machine.pages) (lent_as l)))
          ∙ ap length idle;
    }

-- one that is refused without a lease is halted, or at its limit
refused_stopped : (h : Hart) (limit : ℕ) (f : BookFault) → refusal None h limit ≡ Some f → (h.halted ≡ true) ⊎ (limit ≤ h.count)
refused_stopped h limit f e = of h.halted refl e
  where
    later : (b : Bool) → nat_le limit h.count ≡ b → (if b then Some AtLimit else None) ≡ Some f → limit ≤ h.count
    later true k g = grind (arith, nat_tests)
    later false k g = cc

    of : (b : Bool) → h.halted ≡ b → (if b then Some Halted else (if nat_le limit h.count then Some AtLimit else None)) ≡ Some f → (h.halted ≡ true) ⊎
        (limit ≤ h.count)
    of true k g = inl k
    of false k g = inr (later (nat_le limit h.count) refl g)

-- what `lease` answers of a hart that it refuses
pub record IsRefusing {M : Type 0} (g : Ghosts M) (b : BookView M) (hart : ℕ) (f : BookFault) : Type 0 where
  pub refused : f ≢ EdgeOpen → f ≢ Memory → (h : Hart) → slice_get b.machine.harts hart ≡ Some h →
      refusal (open_at b.leases hart) h (count_at (g.stops b.mode) hart) ≡ Some f
  pub unmet : f ≡ EdgeOpen → HasUnmet (g.obeyed b.mode) (counts_of b.machine) hart

module _ {M : Type 0} (g : Ghosts M) (b : BookView M) (hart : ℕ) (idle : IsIdle b) where
  stopped : (f : BookFault) → IsRefusing g b hart f → f ≢ EdgeOpen → f ≢ Memory → IsHeld g b hart
  stopped f r one two = λ h there.
      elim (refused_stopped h (count_at (g.stops b.mode) hart) f
      (subst (λ (o : Option OpenView). refusal o h (count_at (g.stops b.mode) hart) ≡ Some f) (idle_at b idle hart) (r.refused one two h there))) [
        | inl halted ↦ inl halted
        | inr past ↦ inr (inl past)
      ]

  pub held : (f : BookFault) → IsRefusing g b hart f → f ≢ Memory → IsHeld g b hart
  held EdgeOpen r other = λ h there. inr (inr (r.unmet refl))
  held Leased r other = stopped Leased r (λ e. cc) other
  held Halted r other = stopped Halted r (λ e. cc) other
  held AtLimit r other = stopped AtLimit r (λ e. cc) other
  held Foreign r other = stopped Foreign r (λ e. cc) other
  held Memory r other = absurd (other refl)
