use Rattle.std.proofs.Common.{ℕ, List, ◌++◌, refl, subst, inr}
use Rattle.std.proofs.lemmas.Result.{err_from_is_err_and}
use Rattle.stations.specs.Handing.{IsHandedTo}
use Rattle.stations.proofs.handing.read_behind_line.Goals as goal

pub returns-clause-handed : goal.returns-clause-handed
returns-clause-handed g c = (
  c.in_ok-frames.frames.items,
  c.in_ok-frames.ensures.handed,
  subst (λ (frames : List ℕ). IsHandedTo c.args.guest.now c.args.keeper c.args.term frames c.in_ok-behind_line.field-0.items) c.deref.ensures.value
      c.in_ok-behind_line.ensures,
)

pub returns-in_err-behind_line-clause-fault : goal.returns-in_err-behind_line-clause-fault
returns-in_err-behind_line-clause-fault g c =
    let p = err_from_is_err_and c.from_residual-in_err-behind_line.result c.from_residual-in_err-behind_line.ensures.1 in
    rw (p.1, p.2) (inr (c.in_ok-frames.frames.items ++ c.in_ok-frames.ensures.handed.rest, refl, c.in_ok-frames.ensures.handed.acts))
