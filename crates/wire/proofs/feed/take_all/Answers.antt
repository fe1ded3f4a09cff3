use Rattle.std.proofs.Common.{◌≡◌, ℕ, List, Option, ◌++◌, ap, sym, subst, ◌∙◌}
use Rattle.std.specs.Option.{option_to_list}
use Rattle.std.proofs.lemmas.List.{take_all, append-nil}
use Rattle.wire.specs.Feeds.{Follows}
use Rattle.wire.proofs.Feeds.{follows_more}
use Rattle.wire.proofs.feed.take_all.Goals as goal
use Rattle.wire.proofs.feed.take_all.Goals.{in-Some+in_ok-push, in_default}

pub loop-byte-preserved : goal.loop-byte-preserved
loop-byte-preserved c = λ stream given f.
    let r = c.in_ok-text.text in
    let more : c.match-text.lines.items ≡ c.loop-byte.lines.items ++ option_to_list r =
    elim c.match-text.branch [
      | in-Some+in_ok-push w ↦ ap (λ v. v.items) w.lines-is ∙ w.in_ok-push.ensures.items
          ∙ ap (λ (r : Option (List ℕ)). c.loop-byte.lines.items ++ option_to_list r) (sym w.in-Some.is)
      | in_default w ↦ ap (λ v. v.items) w.lines-is ∙ sym (append-nil c.loop-byte.lines.items)
          ∙ ap (λ (r : Option (List ℕ)). c.loop-byte.lines.items ++ option_to_list r) (sym w.in_default.is)
    ]
    in
    follows_more stream c.args.piece.now given c.loop-byte.lines.items c.match-text.lines.items c.loop-byte.held c.take.new.held c.loop-byte.byte-index
    r c.loop-byte-test.true (c.in_ok-text.ensures.ends) (c.in_ok-text.ensures.goes_on) more (c.loop-byte.invariant stream given f)

pub returns : goal.returns
returns c = λ stream given f. subst (λ (t : List ℕ). Follows (stream ++ t) (given ++ c.loop-byte.lines.items) c.loop-byte.held)
    (take_all c.loop-byte.byte-index c.args.piece.now c.loop-byte-test.false) (c.loop-byte.invariant stream given f)
