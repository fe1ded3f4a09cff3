-- A gate of a term to which no output was offered yet, and then all of them.
use Rattle.std.proofs.Common.{◌<◌, ◌≡◌, ℕ, List, [], length, replicate, take, sym, ap, subst, ◌∙◌}
use Rattle.std.specs.List.{AllByRecursion}
use Rattle.ft_types.specs.Counts.{count_at}
use Rattle.ft_types.specs.declared.output.Output.{Output}
use Rattle.guest_image.specs.Machine.{MachineState}
use Rattle.output_gate.specs.Gates.{LineView, GateView, fresh_line, offered_in, noted_at, line_of, mark_at, offered_of}
use Rattle.output_gate.specs.Orders.{ArePassedBelow}
use Rattle.term_gate.specs.TermGates.{TermGateView, IsNewGate}
use Rattle.primary.specs.Outputs.{numbered, said_at}
use Rattle.primary.specs.Gating.{AreOffered, OffersMore}

pub none_offered : (g : GateView) (m : MachineState) (marks : ℕ → ℕ) → ((hart : ℕ) → line_of g hart ≡ fresh_line (marks hart)) → AreOffered g m
none_offered g m marks none hart =
    let empty : offered_of g hart ≡ [] = ap offered_in (none hart) in
    empty ∙ sym (ap (λ os. take (length os) (numbered hart (said_at m hart))) empty)

-- such a gate passes nothing over
pub none_passed : (g : GateView) (marks : ℕ → ℕ) → ((hart : ℕ) → line_of g hart ≡ fresh_line (marks hart)) → ArePassedBelow g
none_passed g marks none hart less =
    subst (AllByRecursion (λ (o : Output). o.number < mark_at g hart)) (sym (ap (λ (l : LineView). l.passed) (none hart))) tt

-- one to which all was offered, and nothing else done
pub new_gate : (old new : TermGateView) (term keepers need harts : ℕ) (marks : List ℕ) → old.harts ≡ harts → old.gate.term ≡ term →
    old.gate.keepers ≡ keepers → old.gate.need ≡ need → old.acked ≡ replicate keepers (replicate harts 0) →
    ((keeper hart : ℕ) → noted_at old.gate keeper hart ≡ 0) → ((hart : ℕ) → line_of old.gate hart ≡ fresh_line (count_at marks hart)) →
    OffersMore old new → ArePassedBelow new.gate → IsNewGate new term keepers need harts marks
new_gate old new term keepers need harts marks of_harts of_term of_keepers of_need acked noted none more passed =
    record {
      of_harts = ap (λ (g : TermGateView). g.harts) more.rest ∙ of_harts;
      of_term = ap (λ (g : TermGateView). g.gate.term) more.rest ∙ of_term;
      of_keepers = ap (λ (g : TermGateView). g.gate.keepers) more.rest ∙ of_keepers;
      of_need = ap (λ (g : TermGateView). g.gate.need) more.rest ∙ of_need;
      acked = ap (λ (g : TermGateView). g.acked) more.rest ∙ acked;
      noted = λ keeper hart. ap (λ (g : TermGateView). noted_at g.gate keeper hart) more.rest ∙ noted keeper hart;
      gone = λ hart. (more.lines hart).gone ∙ ap (λ (l : LineView). l.gone) (none hart);
      marked = λ hart. (more.lines hart).mark ∙ ap (λ (l : LineView). l.mark) (none hart);
      passed = passed;
    }
