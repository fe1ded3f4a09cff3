use Rattle.std.proofs.Common.{◌≡◌, ◌-◌, length, slice_get, unwrap_or}
use Rattle.closed_cut.proofs.Chains.{ok_then, top_of, chain_is}
use Rattle.closed_cut.proofs.ancestry.chain.Goals as goal

pub returns : goal.returns
returns c =
    let store = c.args.store.now in
    let sound = c.in_ok-sound.sound.items in
    let top = c.last_of.result in
    let is : top ≡ unwrap_or (slice_get sound (length sound - 1)) 0 = rw c.deref.ensures.value at c.last_of.ensures in
    ok_then c.line_of.result c.line_of.ensures (λ terms leads. chain_is store terms.items top (top_of store sound top c.in_ok-sound.ensures is) leads)
