use Rattle.fenced_theory.proofs.Living.{can_live}
use Rattle.fenced_theory.proofs.Recording.{of_logs}
use Rattle.fenced_theory.proofs.of_honest_logs.Goals as goal

pub returns-clause-books : goal.returns-clause-books
returns-clause-books g c = λ system outs boot zeros. of_logs system outs boot zeros

pub returns-clause-lives : goal.returns-clause-lives
returns-clause-lives g c = λ system outs boot is. can_live system outs boot is
