use Rattle.std.proofs.Common.{◌≡◌, ℕ, List, length, refl, sym, ap, subst, ◌∙◌, arith}
use Rattle.input_log.specs.declared.Input.{Input}
use Rattle.input_log.specs.declared.Input.TheVariants.{Word}
use Rattle.requests.specs.Numbered.{came_of}
use Rattle.requests.specs.Queues.{QueueView, IsQueueOf, after_asked, at_room, came, comes_of}
use Rattle.requests.specs.declared.queue.Came.{Came}
use Rattle.requests.specs.declared.queue.Came.TheVariants.{Taken}
use Rattle.requests.proofs.Following.{word_length, asked_followed, no_bell_more, one_within}
use Rattle.requests.proofs.queue.Queue.put_word.Goals as goal

pub invariant_of-self-in-Taken : goal.invariant_of-self-in-Taken
invariant_of-self-in-Taken c = rw c.in_ok-push_back.ensures.items (
  omega (arith, word_length c.self.inside.waiting.items c.args.word, c.self.invariant.0),
  no_bell_more c.self.inside.waiting.items (Word c.args.word) refl c.self.invariant.1,
  one_within c.self.inside.waiting.items (Word c.args.word) c.len.result (c.len.ensures ∙ c.self.inside.waiting.ok.0) (c.in-Taken.ensures.room refl),
)

pub returns-in_ok-push_back-clause-follows : goal.returns-in_ok-push_back-clause-follows
returns-in_ok-push_back-clause-follows c = λ words of.
    let made : List Input → QueueView = λ inputs. record { handed = c.self.inside.handed; waiting = inputs } in
    let is : Taken ≡ comes_of (made c.self.inside.waiting.items) c.args.number =
    c.in-Taken.ensures.answer ∙ ap (λ (n : ℕ). at_room c.len.result (came_of n c.args.number)) c.self.invariant.0
    ∙ ap (λ (n : ℕ). at_room n (came_of (came (made c.self.inside.waiting.items)) c.args.number)) (c.len.ensures ∙ c.self.inside.waiting.ok.0) in
    subst (λ (r : Came). IsQueueOf (after_asked words (record { word = c.args.word; number = c.args.number }) r) (made c.push_back.new.self.items)) (sym c.in-Taken.is)
    (asked_followed words (made c.self.inside.waiting.items) (made c.push_back.new.self.items) (record { word = c.args.word; number = c.args.number }) Taken is
    (λ taken. ap made c.in_ok-push_back.ensures.items) (λ other. absurd (other refl)) (subst (IsQueueOf words) (sym c.self.view_is) of))

pub returns-in_default : goal.returns-in_default
returns-in_default c =
    let is : c.answer-answer.result ≡ comes_of c.args.self.now c.args.number =
    c.answer-answer.ensures.answer ∙ ap (λ (n : ℕ). at_room c.len.result (came_of n c.args.number)) (c.self.invariant.0 ∙ ap came c.self.view_is)
    ∙ ap (λ (n : ℕ). at_room n (came_of (came c.args.self.now) c.args.number)) (c.len.ensures ∙ c.self.inside.waiting.ok.0 ∙ ap (λ (q : QueueView). length q.waiting) c.self.view_is) in
    record {
      answer = is;
      taken = λ e. let taken : c.answer-answer.result ≡ Taken = cc in absurd (c.in_default.not-Taken taken);
      stays = λ other. refl;
      memory = tt;
      follows = λ words of. asked_followed words c.args.self.now c.args.self.now (record { word = c.args.word; number = c.args.number }) c.answer-answer.result
          is (λ taken. absurd (c.in_default.not-Taken taken)) (λ other. refl) of;
    }
