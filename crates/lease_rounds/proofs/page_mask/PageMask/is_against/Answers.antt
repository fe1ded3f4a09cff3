use Rattle.std.proofs.Common.{true≢false, sym, ◌∙◌, refl}
use Rattle.lease_rounds.proofs.Masks.{first_against, second_against, against_second}
use Rattle.lease_rounds.proofs.page_mask.PageMask.is_against.Goals as goal

pub returns-then-do_meet : goal.returns-then-do_meet
returns-then-do_meet c =
    rw (← c.self.view_is, ← c.other.view_is) (
      λ _.
          first_against c.self.inside.reads c.self.inside.writes c.other.inside.reads c.other.inside.writes c.either-all.result c.either-all.ensures.pages
          (c.do_meet.ensures.0 c.if-do_meet.true),
      λ _. refl,
    )

pub returns : goal.returns
returns c =
    rw (← c.self.view_is, ← c.other.view_is) (
      λ is.
          second_against c.self.inside.reads c.self.inside.writes c.other.inside.reads c.other.inside.writes c.either-all.result
          c.either-all.ensures.pages (c.do_meet-2.ensures.0 is),
      λ against.
          c.do_meet-2.ensures.1
          (against_second c.self.inside.reads c.self.inside.writes c.other.inside.reads c.other.inside.writes c.either-all.result
          c.either-all.ensures.pages (λ p. true≢false (sym (c.do_meet.ensures.1 p) ∙ c.if-do_meet.false)) against),
    )
