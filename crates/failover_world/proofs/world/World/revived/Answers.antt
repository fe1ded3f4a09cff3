use Rattle.std.proofs.Common.{◌≡◌, ℕ, map, replicate, List, Err, inl, inr, sym, ap, subst, ◌∙◌, arith}
use Rattle.std.proofs.lemmas.Result.{err_from_is_err_and}
use Rattle.log_join.specs.Stores.{StoreView}
use Rattle.go_live.specs.Lives.{IsAtPosition}
use Rattle.go_live.specs.Quorums.{AreEnough, IsNew}
use Rattle.go_live.specs.Beginnings.{BeginsTerm}
use Rattle.go_live.proofs.Beginnings.{at_harts, at_counts, at_too, unused_so, uncut_so, begins_term}
use Rattle.primary.proofs.NewGates.{new_gate}
use Rattle.primary.specs.declared.granted.Primary.{Primary}
use Rattle.failover_world.specs.Worlds.{WorldView, term_of}
use Rattle.primary.specs.Gating.{AreAllOffered}
use Rattle.failover_world.specs.Happenings.{stores_of, GoesLiveFrom}
use Rattle.failover_world.specs.Refusals.{CannotGoLive}
use Rattle.failover_world.proofs.Reviving.{IsAsked, IsGiven, given, cannot}
use Rattle.failover_world.proofs.world.World.revived.Goals.{then-term, else-term}
use Rattle.failover_world.proofs.world.World.revived.Goals as goal

pub returns-in_err-gate-clause-refused : goal.returns-in_err-gate-clause-refused
returns-in_err-gate-clause-refused c =
    let p = err_from_is_err_and c.from_residual-in_err-gate.result c.from_residual-in_err-gate.ensures.1 in
    rw (p.1) (λ known. absurd (known p.2))

pub returns-in_err-offer_all-clause-refused : goal.returns-in_err-offer_all-clause-refused
returns-in_err-offer_all-clause-refused c =
    let p = err_from_is_err_and c.from_residual-in_err-offer_all.result c.from_residual-in_err-offer_all.ensures.1 in
    rw (p.1) (λ known. absurd (known p.2))

pub returns-in_err-live-clause-refused : goal.returns-in_err-live-clause-refused
returns-in_err-live-clause-refused c =
    let v : WorldView = record {
      image = c.self.inside.image;
      keepers = c.self.inside.keepers;
      need = c.self.inside.need;
      primary = c.self.inside.primary;
      runs = c.self.inside.runs;
      stopped = c.self.inside.stopped.items;
      sent = c.self.inside.sent.items;
      stores = c.self.inside.stores.items;
      gate = c.self.inside.gate;
      released = c.self.inside.released.items;
    } in
    let stores : List StoreView = map (λ s. s.1.now) c.as_slice.result.now in
    let are : stores ≡ map (λ s. s.1) (stores_of v.stores c.args.keepers.now) =
    ap (λ named. map (λ s. s.1.now) named) c.as_slice.ensures.value ∙ c.in_ok-stores.ensures.stores
    ∙ ap (λ xs. map (λ s. s.1) (stores_of xs c.args.keepers.now)) c.deref.ensures.value in
    let keepers : List ℕ = map (λ s. s.0) c.as_slice.result.now in
    let are_keepers : keepers ≡ map (λ s. s.0) (stores_of v.stores c.args.keepers.now) =
    ap (λ named. map (λ s. s.0) named) c.as_slice.ensures.value ∙ c.in_ok-stores.ensures.keepers
    ∙ ap (λ xs. map (λ s. s.0) (stores_of xs c.args.keepers.now)) c.deref.ensures.value in
    let last : c.term.result ≡ term_of v = c.term.ensures ∙ ap (λ (w : WorldView). w.primary.opening.term) (sym c.self.view_is) in
    let asks : IsAsked v c.args.term c.if-term.asked =
    elim c.if-term.branch [
      | then-term w ↦ let under = w.if-term in inr (w.asked-is, omega (arith, last, under))
      | else-term w ↦ let over = w.if-term in inl (w.asked-is, omega (arith, last, over))
    ] in
    let e = err_from_is_err_and c.from_residual-in_err-live.result c.from_residual-in_err-live.ensures.1 in
    rw (e.1)
    (λ known.
    subst (λ (w : WorldView). CannotGoLive w c.args.term c.args.keepers.now e.0) c.self.view_is
    (subst (λ f. CannotGoLive v c.args.term c.args.keepers.now f) (sym e.2)
    (cannot v c.self.invariant.tied c.self.invariant.parts.guest c.args.term c.if-term.asked c.args.keepers.now keepers stores c.in_err-live.field-0.0
    are_keepers are asks (λ few. c.in_err-live.ensures.too_few.0 (ap Err few)) (λ old. c.in_err-live.ensures.not_new.0 (ap Err old))
    (λ other. (c.in_err-live.ensures.other_guest.0 (ap Err other)).2) c.in_err-live.ensures.history_ends (λ same. known (e.2 ∙ same)))))

pub going_on-primary-requires-clause-harts : goal.going_on-primary-requires-clause-harts
going_on-primary-requires-clause-harts c =
    at_harts c.self.inside.image (map (λ s. s.1.now) c.as_slice.result.now) c.if-term.asked c.in_ok-live.live.book.start c.in_ok-live.live.opening
    c.in_ok-live.live.marks c.in_ok-live.ensures.position

pub going_on-primary-requires-clause-counts : goal.going_on-primary-requires-clause-counts
going_on-primary-requires-clause-counts c =
    at_counts c.self.inside.image (map (λ s. s.1.now) c.as_slice.result.now) c.if-term.asked c.in_ok-live.live.book.start c.in_ok-live.live.opening
    c.in_ok-live.live.marks c.in_ok-live.ensures.position

pub returns-clause-goes : goal.returns-clause-goes
returns-clause-goes c =
    let v : WorldView = record {
      image = c.self.inside.image;
      keepers = c.self.inside.keepers;
      need = c.self.inside.need;
      primary = c.self.inside.primary;
      runs = c.self.inside.runs;
      stopped = c.self.inside.stopped.items;
      sent = c.self.inside.sent.items;
      stores = c.self.inside.stores.items;
      gate = c.self.inside.gate;
      released = c.self.inside.released.items;
    } in
    let stores : List StoreView = map (λ s. s.1.now) c.as_slice.result.now in
    let are : stores ≡ map (λ s. s.1) (stores_of v.stores c.args.keepers.now) =
    ap (λ named. map (λ s. s.1.now) named) c.as_slice.ensures.value ∙ c.in_ok-stores.ensures.stores
    ∙ ap (λ xs. map (λ s. s.1) (stores_of xs c.args.keepers.now)) c.deref.ensures.value in
    let keepers : List ℕ = map (λ s. s.0) c.as_slice.result.now in
    let are_keepers : keepers ≡ map (λ s. s.0) (stores_of v.stores c.args.keepers.now) =
    ap (λ named. map (λ s. s.0) named) c.as_slice.ensures.value ∙ c.in_ok-stores.ensures.keepers
    ∙ ap (λ xs. map (λ s. s.0) (stores_of xs c.args.keepers.now)) c.deref.ensures.value in
    let last : c.term.result ≡ term_of v = c.term.ensures ∙ ap (λ (w : WorldView). w.primary.opening.term) (sym c.self.view_is) in
    let asks : IsAsked v c.args.term c.if-term.asked =
    elim c.if-term.branch [
      | then-term w ↦ let under = w.if-term in inr (w.asked-is, omega (arith, last, under))
      | else-term w ↦ let over = w.if-term in inl (w.asked-is, omega (arith, last, over))
    ] in
    let is : IsGiven v c.args.term c.if-term.asked stores = given v c.args.term c.if-term.asked stores asks c.in_ok-live.ensures.new in
    let live = c.in_ok-live.live in
    let p : Primary = c.going_on-primary.result in
    let named = map (λ s. s.1) (stores_of v.stores c.args.keepers.now) in
    let at : IsAtPosition v.image named c.args.term live.book.start live.opening live.marks =
    subst (λ n. IsAtPosition v.image named n live.book.start live.opening live.marks) is.same
    (subst (λ xs. IsAtPosition v.image xs c.if-term.asked live.book.start live.opening live.marks) are c.in_ok-live.ensures.position) in
    let opens = c.going_on-primary.ensures.opening in
    let start = c.going_on-primary.ensures.start in
    let begins : BeginsTerm v.image c.if-term.asked stores p =
    begins_term v.image c.if-term.asked stores p live.book.start live.opening start opens c.going_on-primary.ensures.primary
    c.going_on-primary.ensures.rules c.in_ok-live.ensures.history c.in_ok-live.ensures.longer in
    subst (λ (w : WorldView). GoesLiveFrom w c.args.term c.args.keepers.now p c.offer_all.new.gate) c.self.view_is
    (record {
      later = is.later;
      live =
          record {
            enough = subst (AreEnough v.keepers v.need) are_keepers c.in_ok-live.ensures.enough;
            new = subst (λ xs. IsNew xs c.args.term) are is.new;
            marks = live.marks;
            at = at_too v.image named c.args.term live.book.start live.opening live.marks at p opens start;
            begins = c.going_on-primary.ensures.begins;
            unused = unused_so v.image named c.args.term live.book.start live.opening live.marks at p opens start c.going_on-primary.ensures.unused;
            uncut = uncut_so v.image named c.args.term live.book.start live.opening live.marks at p opens start c.going_on-primary.ensures.uncut;
            gate =
                new_gate c.in_ok-gate.gate c.offer_all.new.gate c.args.term v.keepers v.need v.image.harts live.marks
                (c.in_ok-gate.ensures.harts ∙ c.harts-harts.ensures.value) c.in_ok-gate.ensures.parts.0 c.in_ok-gate.ensures.parts.1 c.in_ok-gate.ensures.parts.2
                (c.in_ok-gate.ensures.acked ∙ ap (λ n. replicate v.keepers (replicate n 0)) c.harts-harts.ensures.value) c.in_ok-gate.ensures.noted
                c.in_ok-gate.ensures.lines c.offer_all.ensures.more c.offered.ensures.passed;
            offered = subst (AreAllOffered c.offer_all.new.gate.gate) c.machine.ensures.value c.in_ok-offer_all.ensures.all;
          };
      begins =
          subst (λ n. BeginsTerm v.image n named p) is.same (subst (λ xs. BeginsTerm v.image c.if-term.asked xs p) are begins);
    })
