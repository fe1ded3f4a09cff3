use Rattle.lease_rounds.proofs.page_mask.PageMask.is_near.Goals as goal

pub returns : goal.returns
returns c =
    rw (← c.self.view_is, ← c.other.view_is) (
      λ is.
          let h = c.do_meet.ensures.0 is in
          (h.0, ((c.either-these.ensures.pages h.0).0 h.1.0, (c.either-those.ensures.pages h.0).0 h.1.1)),
      λ has. c.do_meet.ensures.1 (has.0, ((c.either-these.ensures.pages has.0).1 has.1.0, (c.either-those.ensures.pages has.0).1 has.1.1)),
    )
