use Rattle.std.proofs.Common.{◌≡◌, ℕ, ◌+◌, [], ◌∷◌, ◌++◌, List, length, length-append, ap, sym, subst, append_assoc, ◌∙◌}
use Rattle.std.specs.Vec.Iter.{into_iter_items}
use Rattle.ft_types.specs.Guests.{GuestParts}
use Rattle.guest_image.specs.Image.{guest_of}
use Rattle.log_join.specs.Stores.{StoreView, nothing}
use Rattle.ack_core.specs.declared.seats.KeeperSeat.{KeeperSeat}
use Rattle.ack_core.specs.Seats.{IsDealt, keeper_of}
use Rattle.pair.specs.declared.posts.Post.{Post}
use Rattle.pair.specs.Posts.{AreKeepersOf, IsPostOf}
use Rattle.pair.proofs.Places.{EachAt, at_place, more_at}
use Rattle.pair.proofs.posts.man_posts.Goals as goal

pub loop-seat-preserved : goal.loop-seat-preserved
loop-seat-preserved c =
    let board = c.args.board.now in
    let at = c.loop-seat in
    let seat = c.in-Some.seat in
    let post = c.in_ok-post.post in
    let steps : into_iter_items at.seat-iterator ≡ seat ∷ into_iter_items c.next.new.self = c.in-Some.ensures.steps.0 in
    let parts : c.args.seats.items ≡ at.yielded ++ seat ∷ into_iter_items c.next.new.self =
    sym (ap (λ (xs : List KeeperSeat). at.yielded ++ xs) (sym steps) ∙ at.invariant.rest ∙ c.into_iter-seat-iterator.ensures.into_iter_gives.0) in
    let n = length at.yielded in
    let own : IsDealt board seat n = at_place (λ k s. IsDealt board s k) at.yielded seat (into_iter_items c.next.new.self)
    (subst (λ (xs : List KeeperSeat). AreKeepersOf board xs) parts c.requires.seats).1 in
    let dealt : IsDealt board post.seat n = subst (λ (s : KeeperSeat). IsDealt board s n) (sym c.in_ok-post.ensures.0) own in
    let guest = guest_of c.args.image.now in
    let empty : post.store ≡ nothing guest = c.in_ok-post.ensures.1 in
    let of : post.store.guest ≡ guest = ap (λ (s : StoreView). s.guest) empty in
    let posted : IsPostOf board post =
    (dealt.0, dealt.2, ap (λ (g : GuestParts). g.harts) of ∙ c.requires.harts, empty ∙ ap nothing (sym of)) in
    let items : c.push.new.self.items ≡ at.posts.items ++ post ∷ [] = c.in_ok-push.ensures.items in
    record {
      count = ap length items ∙ length-append at.posts.items (post ∷ []) ∙ ap (λ (k : ℕ). k + 1) at.invariant.count ∙ sym (length-append at.yielded (seat ∷ []));
      posts = subst (λ (xs : List Post). EachAt (λ k p. IsPostOf board p × (keeper_of p.seat ≡ k)) xs) (sym items)
          (more_at (λ k p. IsPostOf board p × (keeper_of p.seat ≡ k)) at.posts.items post at.invariant.posts (posted, dealt.1 ∙ sym at.invariant.count));
      rest = append_assoc at.yielded (seat ∷ []) _ ∙ rw (← steps) at.invariant.rest;
    }
