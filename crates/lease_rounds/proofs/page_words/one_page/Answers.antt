use Rattle.std.proofs.Common.{◌≡◌, ◌<◌, ◌↔◌, ◌/◌, ℕ, List, replicate, slice_set, sym, subst, arith}
use Rattle.lease_rounds.proofs.Masks.{Member, one_has, one_words}
use Rattle.lease_rounds.specs.machinery.Flags.{AreWords}
use Rattle.lease_rounds.proofs.page_words.one_page.Goals as goal

pub returns-clause-one : goal.returns-clause-one
returns-clause-one c =
    subst (λ (at : ℕ). (i : ℕ) → Member (slice_set (replicate 4 0) (at / 64) c.bit_of.result) i ↔ (i ≡ c.args.page)) (sym c.index.ensures.value)
    (one_has c.args.page c.bit_of.result (omega (arith, c.index.ensures.value, c.index.ensures.below)) c.bit_of.ensures)

pub returns-clause-words : goal.returns-clause-words
returns-clause-words c =
    subst (λ (at : ℕ). AreWords (slice_set (replicate 4 0) (at / 64) c.bit_of.result)) (sym c.index.ensures.value)
    (one_words c.args.page c.bit_of.result (omega (arith, c.index.ensures.value, c.index.ensures.below)) c.bit_of.ensures)
