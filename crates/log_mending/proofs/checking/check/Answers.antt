use Rattle.std.proofs.Common.{length, sym, ap, ◌∙◌}
use Rattle.log_mending.proofs.checking.check.Goals as goal

pub returns : goal.returns
returns c = record {
  frames = c.in_ok-frames.field-0.frames.items;
  front = c.in_ok-frames.ensures.front;
  many = sym (c.number_of-many.ensures ∙ ap length c.deref.ensures.value);
  store = c.in_ok-store.field-0.store;
  gathered = c.in_ok-store.ensures;
  last = c.last_term.ensures;
  position = c.in_ok-position.ensures.position;
}
