use Rattle.std.proofs.Common.{List, refl, sym, subst, ◌∙◌, arith}
use Rattle.input_log.specs.declared.Input.{Input}
use Rattle.input_log.specs.declared.Input.TheVariants.{Timer}
use Rattle.requests.specs.Queues.{QueueView, IsQueueOf}
use Rattle.requests.proofs.Following.{timer_length, timer_followed, no_bell_more, one_within}
use Rattle.requests.proofs.queue.Queue.put_timer.Goals as goal

pub invariant_of-self : goal.invariant_of-self
invariant_of-self c = rw c.in_ok-push_back.ensures.items (
  omega (arith, timer_length c.self.inside.waiting.items, c.self.invariant.0),
  no_bell_more c.self.inside.waiting.items Timer refl c.self.invariant.1,
  one_within c.self.inside.waiting.items Timer c.len.result (c.len.ensures ∙ c.self.inside.waiting.ok.0) (c.in-Taken.ensures.room refl),
)

pub returns-in_ok-push_back-clause-follows : goal.returns-in_ok-push_back-clause-follows
returns-in_ok-push_back-clause-follows c = λ words of.
    let made : List Input → QueueView = λ inputs. record { handed = c.self.inside.handed; waiting = inputs } in
    subst (λ (inputs : List Input). IsQueueOf words (made inputs)) (sym c.in_ok-push_back.ensures.items)
    (timer_followed words (made c.self.inside.waiting.items) (subst (IsQueueOf words) (sym c.self.view_is) of))
