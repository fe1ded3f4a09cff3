use Rattle.warm_backup.proofs.Later.{answer_later, answer_nearer}
use Rattle.warm_backup.proofs.leading.lead_hart.Goals as goal

pub returns-clause-later : goal.returns-clause-later
returns-clause-later c =
    answer_later c.args.hart c.args.book.now c.go_for.new.book c.requires.idle c.go_for.ensures.idle c.go_for.result c.go_for.ensures.goes
    c.go_for.ensures.not_gone

pub returns-clause-nearer : goal.returns-clause-nearer
returns-clause-nearer c =
    answer_nearer c.args.hart c.args.book.now c.go_for.new.book c.requires.idle c.go_for.ensures.idle c.go_for.result c.go_for.ensures.goes
