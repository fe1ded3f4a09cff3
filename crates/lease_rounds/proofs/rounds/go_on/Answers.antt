use Rattle.lease_rounds.specs.Leading.{ComesBack, EndsWithout}
use Rattle.lease_rounds.proofs.Filling.{where_ok, on_ok, on_err, ends_without, idle_ended, idle_at_last}
use Rattle.lease_rounds.proofs.rounds.go_on.Goals as goal

pub returns-then-is_err-clause-leaves : goal.returns-then-is_err-clause-leaves
returns-then-is_err-clause-leaves g c =
    record {
      filled = c.fill.new.book;
      lease = c.fill.new.lease;
      fills = c.fill.ensures.fills;
      ends =
          ends_without g.M.Mode c.fill.new.book c.discard-ended.new.self c.fill.new.lease c.discard-ended.result c.fill.ensures.alone c.discard-ended.ensures.ok
          c.discard-ended.ensures.mode c.discard-ended.ensures.foreign;
    }

pub returns-then-is_err-clause-idle : goal.returns-then-is_err-clause-idle
returns-then-is_err-clause-idle g c =
    idle_ended g.M.Mode c.fill.new.book c.discard-ended.new.self c.fill.new.lease c.fill.ensures.alone
    (ends_without g.M.Mode c.fill.new.book c.discard-ended.new.self c.fill.new.lease c.discard-ended.result c.fill.ensures.alone c.discard-ended.ensures.ok
    c.discard-ended.ensures.mode c.discard-ended.ensures.foreign)

pub returns-clause-leads : goal.returns-clause-leads
returns-clause-leads g c =
    on_ok c.bring_back.result
    (λ (back : ComesBack g.M.Mode c.args.keep c.fill.new.book c.fill.new.lease c.bring_back.new.book).
    record {
      filled = c.fill.new.book;
      lease = c.fill.new.lease;
      fills = c.fill.ensures.fills;
      full = where_ok c.fill.result c.if-is_err.ensures.value c.fill.ensures.full;
      back = back;
    }) c.bring_back.ensures.back

pub returns-clause-leaves : goal.returns-clause-leaves
returns-clause-leaves g c =
    on_err c.bring_back.result
    (λ (ends : EndsWithout g.M.Mode c.fill.new.book c.fill.new.lease c.bring_back.new.book).
    record { filled = c.fill.new.book; lease = c.fill.new.lease; fills = c.fill.ensures.fills; ends = ends }) c.bring_back.ensures.ends

pub returns-clause-idle : goal.returns-clause-idle
returns-clause-idle g c =
    idle_at_last g.M.Mode c.fill.new.book c.bring_back.new.book c.fill.new.lease c.args.keep c.bring_back.result c.fill.ensures.alone
    c.bring_back.ensures.back c.bring_back.ensures.ends
