use Rattle.std.proofs.Common.{◌≡◌, [], ◌++◌, ℕ, List, IfOk, arith, sym, subst, rules}
use Rattle.std.proofs.lemmas.List.{nil_from_length}
use Rattle.std.proofs.lemmas.Bool.Decides.{nat_tests}
use Rattle.fragment_codec.specs.Streams.{Splits}
use Rattle.stations.proofs.written_feed.split_both.Goals as goal

pub returns-then-is_empty-clause-rest : goal.returns-then-is_empty-clause-rest
returns-then-is_empty-clause-rest c =
    let nothing : c.args.held.items ≡ [] = nil_from_length _ (let e = c.is_empty.ensures in let t = c.if-is_empty.true in grind (arith, nat_tests)) in
    subst (λ (held : List ℕ). IfOk c.split.result (λ r. (rest : List ℕ) → Splits (held ++ c.args.piece.now) c.args.frames.items rest → r.1.items ≡ rest)) (sym nothing)
    c.split.ensures.rest

pub returns-clause-rest : goal.returns-clause-rest
returns-clause-rest c =
    let both : c.deref.result.now ≡ c.args.held.items ++ c.args.piece.now = search rules in
    subst (λ (bytes : List ℕ). IfOk c.split-2.result (λ r. (rest : List ℕ) → Splits bytes c.args.frames.items rest → r.1.items ≡ rest)) both c.split-2.ensures.rest
