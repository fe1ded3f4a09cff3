use Rattle.std.proofs.Common.{◌≡◌, ◌≤◌, ◌-◌, refl, sym, subst, arith, AllPairs, List}
use Rattle.log_audit.specs.declared.befores.Before.{Before}
use Rattle.log_audit.specs.machinery.Befores.{row_of, IsLatest, More}
use Rattle.log_audit.proofs.Shown.{row_read}
use Rattle.log_audit.proofs.befores.Befores.bring_one.Goals as goal

pub latest-below-requires : goal.latest-below-requires
latest-below-requires c =
    let shown : c.deref.result.now ≡ row_of c.args.self.now c.args.edge.now.other =
    row_read c.self.inside.rows c.args.self.now c.index-other.result c.args.edge.now.other c.index-self-other.result c.deref.result.now c.deref.ensures.value
    c.self.view_is c.index-self-other.is (omega (arith, c.self.told, c.index-other.ensures.below)) c.index-other.ensures.value in
    subst (AllPairs (λ (a : Before) (b : Before). a.since ≤ b.since)) (sym shown) (c.requires c.args.edge.now.other)

pub returns : goal.returns
returns c =
    let shown : c.deref.result.now ≡ row_of c.args.self.now c.args.edge.now.other =
    row_read c.self.inside.rows c.args.self.now c.index-other.result c.args.edge.now.other c.index-self-other.result c.deref.result.now c.deref.ensures.value
    c.self.view_is c.index-self-other.is (omega (arith, c.self.told, c.index-other.ensures.below)) c.index-other.ensures.value in
    let some = c.if-edge-eq0.false in
    More c.latest-below.result (omega (arith, some))
    (subst (λ (r : List Before). IsLatest r (c.args.edge.now.after - 1) c.latest-below.result) shown c.latest-below.ensures)
    (rw (c.max.ensures, c.raise.ensures, c.index-other.ensures.value) refl)
