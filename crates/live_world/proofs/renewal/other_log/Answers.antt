use Rattle.std.proofs.Common.{ℕ, List, refl, sym, subst, ◌∙◌}
use Rattle.std.proofs.lemmas.Result.{err_from_is_err_and}
use Rattle.leading.specs.Handed.{IsNotWhole, IsWhole}
use Rattle.live_world.specs.Renewals.{IsNotHandedBy}
use Rattle.live_world.specs.declared.fault.EventFault.{EventFault}
use Rattle.live_world.proofs.Renewed.{no_others}
use Rattle.live_world.proofs.renewal.other_log.Goals as goal

pub returns-in-Err-clause-refused : goal.returns-in-Err-clause-refused
returns-in-Err-clause-refused c =
    subst (λ (bytes : List ℕ). IsNotWhole c.args.guest bytes c.in-Err.fault) c.as_slice-bytes.ensures.value c.in-Err.ensures.fault

pub returns-in_err-look-clause-refused : goal.returns-in_err-look-clause-refused
returns-in_err-look-clause-refused c =
    let e = err_from_is_err_and c.from_residual.result c.from_residual.ensures.1 in
    rw (e.1)
    (subst (λ (f : EventFault). IsNotHandedBy c.args.guest c.args.keeper c.args.term c.args.handed.now f) (sym e.2)
    (no_others c.args.guest c.args.keeper c.args.term c.args.handed.now c.in-Ok.log c.in_err-look.field-0.0
    (subst (λ (bytes : List ℕ). IsWhole c.args.guest bytes c.in-Ok.log) c.as_slice-bytes.ensures.value c.in-Ok.ensures.whole)
    c.in_err-look.ensures.refused))

pub returns-clause-log : goal.returns-clause-log
returns-clause-log c =
    let whole = subst (λ (bytes : List ℕ). IsWhole c.args.guest bytes c.in-Ok.log) c.as_slice-bytes.ensures.value c.in-Ok.ensures.whole in
    record {
      handed = c.in-Ok.log;
      whole = whole;
      by = refl;
      other = c.in_ok-look.ensures.other;
      to = c.in_ok-look.ensures.term;
      frames = sym (c.in_ok-frames.ensures whole.has.text whole.rest whole.has.one (c.as_slice-bytes.ensures.value ∙ whole.has.parts));
    }
