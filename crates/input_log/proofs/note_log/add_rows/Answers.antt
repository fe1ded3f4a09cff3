use Rattle.std.proofs.Common.{arith, ◌≡◌, ◌-◌, ◌++◌, ℕ, replicate, vec_len, ap, ◌∙◌}
use Rattle.input_log.specs.Notes.{nothing_noted}
use Rattle.input_log.proofs.note_log.add_rows.Goals as goal

pub returns-clause-more : goal.returns-clause-more
returns-clause-more c =
    let i = c.loop-more.invariant in
    let many : c.loop-more._more - vec_len c.args.rows.now ≡ c.args.many - vec_len c.args.rows.now =
    omega (arith, i.from, i.to, c.loop-more-test.false) in
    i.rows ∙ ap (λ (n : ℕ). c.args.rows.now.items ++ replicate n nothing_noted) many
