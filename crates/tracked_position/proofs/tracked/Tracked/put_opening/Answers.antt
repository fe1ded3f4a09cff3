use Rattle.std.proofs.Common.{◌≡◌, ◌<◌, ◌∙◌, sym, subst, arith}
use Rattle.fragment_codec.specs.declared.frame.Frame.TheVariants.{Opening}
use Rattle.log_join.specs.declared.answers.Put.TheVariants.{New, OtherGuest}
use Rattle.log_join.specs.Answers.{answer_to}
use Rattle.log_join.specs.Stores.{StoreView, IsJoin, IsLastTerm, alone}
use Rattle.tracked_position.proofs.Later.{nothing_later}
use Rattle.tracked_position.proofs.tracked.Tracked.put_opening.Goals as goal

pub invariant_of-self : goal.invariant_of-self
invariant_of-self c =
    let old = c.args.self.now in
    let o = c.args.opening in
    let new_is : c.self-2.inside.store ≡ c.put_anew.new.self = c.self-2.view_is in
    let old_is : c.self.inside.store ≡ old = c.self.view_is in
    let takes = c.in_ok-put.ensures in
    let answer : c.in_ok-put.put ≡ answer_to old (Opening o) = takes.answer in
    let later : c.last_term-last.result < c.term-term.result = c.if-last-term.true in
    let term_is : c.term-term.result ≡ o.term = c.term-term.ensures in (
      c.self-2.invariant.0,
      c.nothing_in-self-inside.ensures c.self-2.inside.store
          (λ key at.
          nothing_later old c.self-2.inside.store o c.last_term-last.result
          (subst (λ (s : StoreView). IsLastTerm s c.last_term-last.result) old_is c.last_term-last.ensures) (omega arith)
          (subst (λ (s : StoreView). IsJoin old (alone (Opening o)) s) (sym new_is)
          (takes.joined (λ other. let e : New ≡ OtherGuest = sym c.requires ∙ (sym answer ∙ other) in cc)))
          key (at ∙ term_is)),
    )
