use Rattle.std.proofs.Common.{◌≡◌, ℕ, ◌+◌, ◌*◌, ◌<◌, ◌∙◌, ap, sym, subst, List, [], ◌∷◌, ◌++◌, slice_index, arith}
use Rattle.ack_core.specs.Lists.{last_count, Rises}
use Rattle.ack_core.specs.Rule.{known_at}
use Rattle.ack_core.proofs.Counts.{last_from-more, RisesFrom-more}
use Rattle.ack_core.proofs.board.Board.publish.Goals as goal

pub invariant_of-seat : goal.invariant_of-seat
invariant_of-seat c = let s = c.args.seat.now in let same = c.raise.ensures.same in let width : s.harts ≡ c.args.self.now.harts = c.requires.fits.1 in
    let b = c.args.self.now in let counts : List ℕ = c.args.position.now.counts in
    let added : (h : ℕ) → h < b.harts → known_at c.raise.new.seat.me.0 (s.keeper * b.harts + h) ≡ known_at s.seat.me.0 (s.keeper * b.harts + h) ++
    slice_index counts h ∷ []
    = λ h in_h. subst (λ (z : ℕ). known_at c.raise.new.seat.me.0 (z * b.harts + h) ≡ known_at s.seat.me.0 (z * b.harts + h) ++ slice_index counts h ∷ [])
    c.index.ensures.value
    (subst (λ (l : List ℕ). known_at c.raise.new.seat.me.0 (c.index.result * b.harts + h) ≡ known_at s.seat.me.0 (c.index.result * b.harts + h) ++
    slice_index l h ∷ []) c.as_slice.ensures.value (c.raise.ensures.added h in_h)) in record {
      sized = s.sized;
      row = c.requires.harts ∙ sym width;
      wide = same.1 ∙ s.wide;
      own = (same.2 ∙ s.own.0, same.3 ∙ s.own.1);
      lasts = λ h in_h. sym (subst (λ (z : ℕ). last_count (known_at c.raise.new.seat.me.0 (s.keeper * z + h)) ≡ slice_index c.args.position.now.counts h)
          (sym width)
          (ap last_count (added h (omega arith)) ∙ last_from-more 0 (known_at s.seat.me.0 (s.keeper * c.args.self.now.harts + h))
          (slice_index c.args.position.now.counts h)));
      rises = λ h in_h. let in_b : h < c.args.self.now.harts = omega arith in let old : List ℕ = known_at s.seat.me.0 (s.keeper * c.args.self.now.harts + h) in
          subst (λ (z : ℕ). Rises (known_at c.raise.new.seat.me.0 (s.keeper * z + h))) (sym width)
          (subst Rises (sym (added h in_b))
          (RisesFrom-more 0 old (slice_index c.args.position.now.counts h) (subst (λ (z : ℕ). Rises (known_at s.seat.me.0 (s.keeper * z + h))) width
          (s.rises h in_h))
          (let high = c.loop-number.invariant h (omega arith) in let last : slice_index s.last h ≡ last_count old = subst
          (λ (z : ℕ). slice_index s.last h ≡ last_count (known_at s.seat.me.0 (s.keeper * z + h))) width (s.lasts h in_h) in omega arith)));
    }
