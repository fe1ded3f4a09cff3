use Rattle.std.proofs.Common.{◌≡◌, ℕ, ◌≤◌, List, [], slice_index_or, IfOk, sym, ap, subst, ◌∙◌, arith}
use Rattle.ft_types.specs.Counts.{count_at}
use Rattle.output_gate.specs.Gates.{GateView, noted_at}
use Rattle.output_gate.specs.Orders.{AreAbove}
use Rattle.term_gate.specs.TermGates.{TermGateView, AreAcked}
use Rattle.term_gate.proofs.Tables.{no_row, no_count}
use Rattle.term_gate.proofs.gate.TermGate.release.Goals as goal

pub note_all-requires-clause-below : goal.note_all-requires-clause-below
note_all-requires-clause-below c keeper hart =
    subst (λ (rows : List (List ℕ)). noted_at c.self.inside.gate keeper hart ≤ count_at (slice_index_or rows keeper []) hart) (sym c.deref.ensures.value)
    (c.self.invariant.below keeper hart)

-- what is noted then is what was acknowledged last
module _ (c : goal.After-release) where
  noted_then : (keeper hart : ℕ) → noted_at c.release.new.self keeper hart ≡ count_at (slice_index_or c.self.inside.acked.items keeper []) hart
  noted_then keeper hart =
      ap (λ (v : GateView). noted_at v keeper hart) c.release.ensures.rest
      ∙ c.note_all.ensures.noted keeper hart
      ∙ ap (λ (rows : List (List ℕ)). count_at (slice_index_or rows keeper []) hart) c.deref.ensures.value

pub invariant_of-self : goal.invariant_of-self
invariant_of-self c =
    let inv = c.self.invariant in
    record {
      term = inv.term ∙ sym (ap (λ (v : GateView). v.term) c.release.ensures.rest ∙ ap (λ (v : GateView). v.term) c.note_all.ensures.rest);
      keepers = inv.keepers ∙ sym (ap (λ (v : GateView). v.keepers) c.release.ensures.rest ∙ ap (λ (v : GateView). v.keepers) c.note_all.ensures.rest);
      few = inv.few;
      wide = inv.wide;
      below = λ keeper hart. omega (arith, noted_then c keeper hart);
    }

pub returns-clause-acked : goal.returns-clause-acked
returns-clause-acked c =
    let rows = c.self.inside.acked.items in
    subst (λ (v : TermGateView). AreAcked v c.release.new.self.noted) c.self.view_is
    (record {
      acked = λ keeper hart few wide. noted_then c keeper hart;
      no_keeper = λ keeper hart past. noted_then c keeper hart ∙ no_row rows keeper hart (omega (arith, past, c.self.invariant.keepers));
      no_hart = λ keeper hart past. noted_then c keeper hart ∙ no_count rows c.self.inside.harts keeper hart c.self.invariant.wide past;
    })

pub returns-clause-above : goal.returns-clause-above
returns-clause-above c =
    subst (λ (v : TermGateView). IfOk c.release.result (λ given. AreAbove v.gate given.items)) c.self.view_is
    (subst (λ (v : GateView). IfOk c.release.result (λ given. AreAbove v given.items)) c.note_all.ensures.rest c.release.ensures.above)
