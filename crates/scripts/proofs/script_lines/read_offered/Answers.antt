use Rattle.scripts.proofs.Found.{if_none}
use Rattle.scripts.proofs.Offers.{no_hart_field, no_count_field, no_hart, no_count, no_input}
use Rattle.scripts.proofs.script_lines.read_offered.Goals as goal

pub returns-in_err-hart-clause-none : goal.returns-in_err-hart-clause-none
returns-in_err-hart-clause-none c = if_none c.from_residual.result _ (no_hart_field c.args.harts c.args.text.now c.in_err-hart.ensures.none)

pub returns-in_err-count-clause-none : goal.returns-in_err-count-clause-none
returns-in_err-count-clause-none c = if_none c.from_residual-in_err-count.result _ (no_count_field c.args.harts c.args.text.now c.in_ok-hart.hart.now
    c.in_ok-hart.behind.now c.in_ok-hart.ensures.one c.in_ok-hart.ensures.found c.in_err-count.ensures.none)

pub returns-in_err-read_hart-clause-none : goal.returns-in_err-read_hart-clause-none
returns-in_err-read_hart-clause-none c = if_none c.from_residual-in_err-read_hart.result _ (no_hart c.args.harts c.args.text.now c.in_ok-hart.hart.now
    c.in_ok-hart.behind.now c.in_ok-hart.ensures.one c.in_ok-hart.ensures.found c.in_err-read_hart.ensures.none)

pub returns-in_err-read_small-clause-none : goal.returns-in_err-read_small-clause-none
returns-in_err-read_small-clause-none c = if_none c.from_residual-in_err-read_small.result _ (no_count c.args.harts c.args.text.now c.in_ok-hart.hart.now
    c.in_ok-hart.behind.now c.in_ok-count.count.now c.in_ok-count.input.now c.in_ok-hart.ensures.one c.in_ok-hart.ensures.found c.in_ok-count.ensures.one
    c.in_ok-count.ensures.found c.in_err-read_small.ensures.none)

pub returns-in_err-read_input-clause-none : goal.returns-in_err-read_input-clause-none
returns-in_err-read_input-clause-none c = if_none c.from_residual-in_err-read_input.result _ (no_input c.args.harts c.args.text.now c.in_ok-hart.hart.now
    c.in_ok-hart.behind.now c.in_ok-count.count.now c.in_ok-count.input.now c.in_ok-hart.ensures.one c.in_ok-hart.ensures.found c.in_ok-count.ensures.one
    c.in_ok-count.ensures.found c.in_err-read_input.ensures.none)
