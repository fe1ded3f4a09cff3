use Rattle.std.proofs.Common.{◌≡◌, ◌≤◌, length, arith}
use Rattle.std.specs.Option.{option_map}
use Rattle.ft_types.specs.Counts.{count_at}
use Rattle.ft_types.specs.declared.names.TheConstants.{HART_LIMIT}
use Rattle.closed_cut.specs.Position.{base_of}
use Rattle.closed_cut.proofs.Reach.{base_many}
use Rattle.tracked_position.specs.machinery.Walks.{cursor_at}
use Rattle.tracked_position.proofs.Bounds.{lowest, few_harts}
use Rattle.tracked_position.proofs.lowering.lower.Goals as goal

pub returns-clause-greatest : goal.returns-clause-greatest
returns-clause-greatest c =
    let s = c.args.store.now in
    let many : length c.args.opening.now.base ≡ s.guest.harts = base_many s c.args.opening.now c.requires.rules c.requires.opening in
    let few : s.guest.harts ≤ HART_LIMIT = few_harts s c.requires.rules c.args.opening.now c.requires.opening in
    let same : length c.lower_each.new.high ≡ length c.loop.high = c.lower_each.ensures.harts in
    let high : length c.loop.high ≡ length c.args.cut.now = c.loop.invariant.harts in
    lowest s c.requires.rules c.args.opening.now.term (base_of c.args.opening.now) (option_map count_at c.args.limit.now) (count_at c.args.cut.now)
    (count_at c.lower_each.new.high)
    (λ h. (cursor_at c.args.cursors.now h).place) (length c.lower_each.new.high) (omega arith) c.requires.cut
    (c.lower_each.ensures.high (option_map count_at c.args.limit.now) c.loop.invariant.high) (λ h place x e less passed one has. (c.requires.over h
    (omega arith)).met place x e passed one has)
    (c.lower_each.ensures.met c.loop-test.false)
