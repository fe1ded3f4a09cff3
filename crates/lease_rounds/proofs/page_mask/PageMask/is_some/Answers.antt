use Rattle.lease_rounds.proofs.page_mask.PageMask.is_some.Goals as goal

pub returns : goal.returns
returns c =
    rw (← c.self.view_is) (
      λ is. let h = c.has_any.ensures.0 is in (h.0, (c.either-all.ensures.pages h.0).0 h.1),
      λ has. c.has_any.ensures.1 (has.0, (c.either-all.ensures.pages has.0).1 has.1),
    )
