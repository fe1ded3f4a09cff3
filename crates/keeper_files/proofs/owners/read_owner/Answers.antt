use Rattle.std.proofs.Common.{List, ℕ, subst}
use Rattle.std.proofs.lemmas.Result.{IfOk-weaker}
use Rattle.ft_types.specs.Text.{BeginsWithLine}
use Rattle.wire.specs.Pairs.{IsKeeps, keeps_text}
use Rattle.wire.specs.declared.keeps.Keeps.{Keeps}
use Rattle.keeper_files.proofs.owners.read_owner.Goals as goal

pub returns-in-Some : goal.returns-in-Some
returns-in-Some g c = IfOk-weaker c.pair_of.result _ _ (λ pair kept.
    let guest = c.args.guest.now in
    let has = c.in-Some.ensures in
    let bytes = c.in_ok-fences.bytes.items in
    let first = subst (λ (b : List ℕ). BeginsWithLine b (keeps_text guest c.in-Some.keeps) has.1) c.deref.ensures.value has.2 in (
      c.in_ok-fences.fences,
      bytes,
      record {
        keeps = subst (λ (k : Keeps). IsKeeps k) kept has.0;
        rest = has.1;
        first = subst (λ (k : Keeps). BeginsWithLine bytes (keeps_text guest k) has.1) kept first;
      },
      c.in_ok-fences.ensures,
    )) c.pair_of.ensures.kept
