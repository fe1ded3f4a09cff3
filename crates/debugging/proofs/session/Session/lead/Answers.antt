use Rattle.std.proofs.Common.{inl, inr, refl}
use Rattle.debugging.proofs.session.Session.lead.Goals as goal

pub returns-in-Ok-clause-went : goal.returns-in-Ok-clause-went
returns-in-Ok-clause-went c = λ hart led. inr (c.in-Ok.text.items, c.in-Ok.ensures.went hart led, refl)

pub returns-in_ok-nowhere-in-Err-clause-went : goal.returns-in_ok-nowhere-in-Err-clause-went
returns-in_ok-nowhere-in-Err-clause-went c = λ hart led. inl (c.in-Err.fault, c.in_ok-nowhere-in-Err.ensures.stuck, c.in-Err.ensures.stuck c.in_ok-nowhere-in-Err.ensures.stuck, c.in_ok-nowhere-in-Err.ensures.said)
