use Rattle.moments.proofs.Lines.{quiet_there, next_there, below_there, place_there, none_there, in_no_leg}
use Rattle.moments.proofs.timeline.Timeline.next.Goals as goal

pub next_hart-requires : goal.next_hart-requires
next_hart-requires c = record { quiet = quiet_there _ _ _ _ _ _ c.self.invariant.0 _ c.self.view_is _ c.in-Some.ensures.some }

pub returns-in-Some : goal.returns-in-Some
returns-in-Some c =
    record {
      next = next_there _ _ _ _ _ _ c.self.invariant.0 _ c.self.view_is _ c.in-Some.ensures.some _ c.next_hart.ensures.next;
      there = below_there _ _ _ _ _ _ c.self.invariant.0 _ c.self.view_is _ c.in-Some.ensures.some _ c.next_hart.ensures.there;
      place = place_there _ _ _ _ _ _ c.self.invariant.0 _ c.self.view_is _ c.in-Some.ensures.some _;
      none = none_there _ _ _ _ _ _ c.self.invariant.0 _ c.self.view_is _ c.in-Some.ensures.some _ c.next_hart.ensures.none;
    }

pub returns-in-None-clause-none : goal.returns-in-None-clause-none
returns-in-None-clause-none c = in_no_leg c.args.self.now _ c.in-None.ensures.none
