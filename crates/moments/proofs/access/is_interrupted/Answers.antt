use Rattle.std.proofs.Common.{◌↔◌, ◌∙◌, ℕ, List, ap, subst, bit_and, slice_index_or, IsTrue, IsSome}
use Rattle.rv32_hart.specs.Csrs.{first_interrupt}
use Rattle.plan_lines.specs.machinery.Pending.{mip_after}
use Rattle.plan_lines.proofs.Interrupts.{taken_on, not_taken}
use Rattle.moments.proofs.access.is_interrupted.Goals as goal

pub returns-then-mstatus-eq1 : goal.returns-then-mstatus-eq1
returns-then-mstatus-eq1 c =
    taken_on c.args.inputs.now c.args.state.now c.has_one.result (rw c.csr_words.ensures at c.if-mstatus-eq1.true)
    (subst (λ (set : ℕ). IsTrue c.has_one.result ↔ IsSome (first_interrupt set))
    (ap (bit_and (slice_index_or c.csr_words.result 1 0)) c.pending.ensures
    ∙ ap (λ (words : List ℕ). bit_and (slice_index_or words 1 0) (mip_after c.args.inputs.now (slice_index_or words 2 0))) c.csr_words.ensures)
    c.has_one.ensures)

pub returns-else-mstatus-eq1 : goal.returns-else-mstatus-eq1
returns-else-mstatus-eq1 c =
    not_taken c.args.inputs.now c.args.state.now (slice_index_or c.csr_words.result 0 0)
    (ap (λ (words : List ℕ). slice_index_or words 0 0) c.csr_words.ensures) c.if-mstatus-eq1.false
