-- A book can begin at each cut of a book: it is the machine there, and has not run.
use Rattle.std.proofs.Common.{◌≡◌, ℕ, ◌≤◌, [], refl, sym, ap, subst, ◌∙◌, arith}
use Rattle.interleaving.specs.Machine.{Machine, System, counts, at}
use Rattle.fenced_theory.specs.Recorders.{CanLive}
use Rattle.fenced_theory.specs.Machines.{Outs, AreTidy, Book, BookFact, AtCut, IsRecorder}
use Rattle.fenced_theory.proofs.Recording.{IsAsItWas, at_cut, from_low, from_high}

module _ {Hart Page Input : Type 0} (system : System Hart Page Input) (outs : Outs system) where
  module _ (b : Book system outs) (cut : ℕ → ℕ) (low : (h : ℕ) → b.log.start h ≤ cut h) (high : (h : ℕ) → cut h ≤ b.log.end h) where
    as_it_was : (hart : ℕ) → IsAsItWas system outs b cut hart
    as_it_was hart = at_cut system outs b cut hart (from_low system outs b cut low) (from_high system outs b cut high)

    abbrev there : Machine Hart Page
    there = at system b.from b.turns cut

    -- its counts are the cut
    counted : (hart : ℕ) → counts system there hart ≡ cut hart
    counted hart = ap system.count (as_it_was hart).is ∙ (as_it_was hart).count

    abbrev living : Book system outs
    living =
        record {
          from = there;
          turns = [];
          log = record { edges = []; inputs = b.log.inputs; start = cut; end = cut };
          honest =
              record {
                runs = tt;
                inputs = tt;
                start = λ hart. sym (counted hart);
                end = λ hart. sym (counted hart);
                closed = λ e (k, below, same). absurd (omega (arith, below));
                met = tt;
                ordered = tt;
              };
          begins = λ e (k, below, same). absurd (omega (arith, below));
          tidy =
              λ hart.
              let a = as_it_was hart in
              subst (λ n. AreTidy n (outs.outputs (there.harts hart))) (sym (counted hart))
              (subst (λ h. AreTidy (cut hart) (outs.outputs h)) (sym a.is) a.tidy);
        }

  pub can_live : (boot : Machine Hart Page) (is : IsRecorder system outs boot) → CanLive is.recorder
  can_live boot is b cut c =
      let low : (h : ℕ) → b.log.start h ≤ cut h = λ h. subst (λ (start : ℕ → ℕ). start h ≤ cut h) (is.start b) (c.from_start h) in
      let high : (h : ℕ) → cut h ≤ b.log.end h = λ h. subst (λ (now : ℕ → ℕ). cut h ≤ now h) (is.counts_are b) (c.to_counts h) in
      let begun : BookFact system outs boot = AtCut b cut (living b cut low high) refl refl in
      (living b cut low high, (begun, is.tells begun))
