use Rattle.std.proofs.Common.{Result, Ok, Err, IfErr, OnOk, ap, refl, ◌∙◌}
use Rattle.book_modes.specs.declared.mode.Leg.{Leg}
use Rattle.warm_backup.specs.declared.work.Work.{Work}
use Rattle.warm_backup.proofs.Gone.{has_gone, is_refused}
use Rattle.warm_backup.proofs.work.Work.take_steps.Goals as goal

when_ok : {X E P Q R : Type 0} (r : Result X E) → (P → Q → R) → OnOk r P → OnOk r Q → OnOk r R
when_ok (Ok x) f p q = f p q
when_ok (Err e) f p q = tt

when_err : {X E : Type 0} {P Q R : E → Type 0} (r : Result X E) → ((e : E) → P e → Q e → R e) → IfErr r P → IfErr r Q → IfErr r R
when_err (Ok x) f p q = tt
when_err (Err e) f p q = f e p q

pub returns-clause-gone : goal.returns-clause-gone
returns-clause-gone c =
    let w = c.forget_pages.new.self in
    let same = c.forget_pages.ensures in
    let grown = c.in_ok-grow.ensures in
    let obeys = ap (λ (x : Work). x.book) same ∙ c.swap_leg.ensures.obeys in
    when_ok c.lead_to.result
    (has_gone c.args.store.now c.requires.rules c.args.self.now c.args.ends.now c.requires.ready c.requires.facts c.requires.to c.grow.new.leg c.grow.new.rest
    grown.facts grown.log grown.ends grown.rest (c.grow.ensures.rest_ends ∙ (ap (λ (l : Leg). l.ends) c.deref_mut-2.ensures.value ∙ c.make_ready.ensures.ends)) c.grow.ensures.grows w.book obeys c.lead_to.new.book
    c.lead_to.ensures.later c.lead_to.ensures.led
    (record {
      leg = w.leg;
      book = c.lead_to.new.book;
      rest = w.rest;
      cursors = w.cursors;
      marks = w.marks;
      usual = c.lead_to.new.usual;
      advances = w.advances;
      astray = w.astray;
      lasts = w.lasts;
    }) (ap (λ (x : Work). x.leg) same) refl (ap (λ (x : Work). x.rest.value) same ∙ c.swap_leg.ensures.obeyed)
    grown.behind grown.rows (rw (ap (λ (x : Work). x.cursors) same) grown.walks)) c.lead_to.ensures.ends c.lead_to.ensures.held_at_ends

pub returns-clause-fault : goal.returns-clause-fault
returns-clause-fault c =
    let w = c.forget_pages.new.self in
    let grown = c.in_ok-grow.ensures in
    let obeys = ap (λ (x : Work). x.book) c.forget_pages.ensures ∙ c.swap_leg.ensures.obeys in
    when_err c.lead_to.result
    (is_refused c.args.store.now c.requires.rules c.args.self.now c.args.ends.now c.requires.ready c.requires.facts c.requires.to c.grow.new.leg c.grow.new.rest
    grown.facts grown.log grown.ends grown.rest (c.grow.ensures.rest_ends ∙ (ap (λ (l : Leg). l.ends) c.deref_mut-2.ensures.value ∙ c.make_ready.ensures.ends)) c.grow.ensures.grows w.book obeys c.lead_to.new.book
    c.lead_to.ensures.later c.lead_to.ensures.led) c.lead_to.ensures.fault c.lead_to.ensures.held
