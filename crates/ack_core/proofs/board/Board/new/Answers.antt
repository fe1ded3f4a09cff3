use Rattle.std.proofs.Common.{◌≡◌, ℕ, ◌+◌, ◌*◌, ◌<◌, ◌≤◌, ◌∙◌, ap, refl, List, [], get_or, slice_index_or, length, replicate, length-append, mul-le-mul_right}
use Rattle.std.proofs.Common.{arith, take}
use Rattle.std.proofs.lemmas.List.{take-replicate, length-replicate}
use Rattle.ft_types.specs.declared.names.TheConstants.{HART_LIMIT, KEEPER_LIMIT}
use Rattle.ack_core.specs.declared.seats.KeeperSeat.{KeeperSeat}
use Rattle.ack_core.specs.declared.view.View.{View}
use Rattle.ack_core.proofs.Counts.{place_fits, room_next, next_from}
use Rattle.ack_core.proofs.Keeps.{opens, deals, get_or-same, each_more}
use Rattle.ack_core.proofs.board.Board.new.Goals as goal

-- so many of a new board's words
words_are : (zeros : List ℕ) (many n : ℕ) → zeros ≡ replicate many 0 → n ≤ many → take n zeros ≡ replicate n 0
words_are zeros many n are within = ap (take n) are ∙ take-replicate n many 0 within

pub of_words-requires : goal.of_words-requires
of_words-requires c = let r = c.requires in let most : c.args.keepers * c.args.harts ≤ 5 * c.args.harts = mul-le-mul_right c.args.harts r.keepers.1 in
    opens _ _ (words_are c.no_counts-zeros.result (KEEPER_LIMIT * HART_LIMIT) (c.args.keepers * c.args.harts) c.no_counts-zeros.ensures (omega arith))

pub split_seat-seat-requires : goal.split_seat-seat-requires
split_seat-seat-requires c = let r = c.requires in let i = c.loop-keeper.invariant in let k : ℕ = c.loop-keeper.keeper in let n : ℕ = c.args.keepers in
    let w : ℕ = c.args.harts in
    let under : k < n = c.loop-keeper-test.true in let some_width : 0 < w = r.harts.0 in
    let most : n * w ≤ 5 * w = mul-le-mul_right w r.keepers.1 in let first : k * w + 0 < n * w = place_fits k n w 0 under some_width in
    let words : c.in_ok-table.table.shared.table_id.words ≡ n * w = c.in_ok-table.ensures.0 ∙ ap (λ (l : List ℕ). length l) (words_are c.no_counts-zeros.result (KEEPER_LIMIT * HART_LIMIT) (n * w)
    c.no_counts-zeros.ensures (omega arith)) ∙ length-replicate (n * w) 0 in
    let v = c.loop-keeper.rest.me.0 in let from : v.from ≡ k * w = i.from in let upto : v.upto ≡ n * w = i.upto in let width : v.width ≡ w = i.width in
    let room : k * w + w ≤ n * w = room_next k n w under in
    (i.table, omega arith, deals _ _ (omega arith))

pub loop-keeper-preserved : goal.loop-keeper-preserved
loop-keeper-preserved c = let i = c.loop-keeper.invariant in let k : ℕ = c.loop-keeper.keeper in let w : ℕ = c.args.harts in
    let e = c.split_seat-seat.ensures in
    let left = ap (λ m. m.0) e.2 in record {
      table = e.0 ∙ i.table;
      from = ap (λ (v : View). v.from) left ∙ ap (λ (z : ℕ). z + c.loop-keeper.rest.me.0.width) i.from ∙ ap (λ (z : ℕ). k * w + z) i.width ∙ next_from k w;
      upto = ap (λ (v : View). v.upto) left ∙ i.upto;
      width = ap (λ (v : View). v.width) left ∙ i.width;
      known = ap (λ (v : View). v.known) left ∙ i.known;
      count = ap (λ (l : List KeeperSeat). length l) c.in_ok-push.ensures.items ∙ length-append c.loop-keeper.seats.items _ ∙ ap (λ (z : ℕ). z + 1) i.count;
      dealt = each_more
          (λ (j : ℕ) (s : KeeperSeat). (s.seat.table_id ≡ c.in_ok-table.table.shared.table_id) × (s.harts ≡ c.args.harts) × (s.keepers ≡ c.args.keepers) ×
          (s.keeper ≡ j) × (s.seat.me.0.known ≡ replicate (c.args.keepers * c.args.harts) []) × (s.last ≡ replicate c.args.harts 0))
          c.loop-keeper.keeper _ _ _ c.in_ok-push.ensures.items i.count i.dealt (
            e.3 ∙ i.table,
            refl,
            refl,
            c.new.ensures,
            ap (λ (v : View). v.known)
                (ap (λ m. m.0) e.4) ∙ i.known,
            c.zero.ensures,
          );
    }

pub returns-clause-seats : goal.returns-clause-seats
returns-clause-seats c = let i = c.loop-keeper.invariant in let done = c.loop-keeper-test.false in let most = c.loop-keeper.auto.keeper-end in
    let count = i.count in omega arith

pub returns-clause-keepers : goal.returns-clause-keepers
returns-clause-keepers c = let i = c.loop-keeper.invariant in let done = c.loop-keeper-test.false in let most = c.loop-keeper.auto.keeper-end in
    λ k d in_k. let x = i.dealt k d (omega arith) in let s : KeeperSeat = slice_index_or c.loop-keeper.seats.items k d in (
      (x.0, x.1, x.2),
      x.3,
      λ h. ap (λ (l : List (List ℕ)). get_or l (s.keeper * s.harts + h) []) x.4 ∙ get_or-same (c.args.keepers * c.args.harts)
          (s.keeper * s.harts + h) [],
      x.5,
    )
