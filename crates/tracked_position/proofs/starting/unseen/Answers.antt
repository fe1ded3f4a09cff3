use Rattle.std.proofs.Common.{◌≡◌, ℕ, zero, suc, replicate, refl}
use Rattle.ft_types.specs.declared.names.TheConstants.{HART_ROW}
use Rattle.tracked_position.specs.declared.walk.Ahead.TheVariants.{Unseen}
use Rattle.tracked_position.specs.machinery.Walks.{cursor_at}
use Rattle.tracked_position.proofs.starting.unseen.Goals as goal

unseen_at : (n hart : ℕ) → cursor_at (replicate n (record { place = 0; end = 0; ahead = Unseen })) hart ≡ record { place = 0; end = 0; ahead = Unseen }
unseen_at zero hart = refl
unseen_at (suc n) zero = refl
unseen_at (suc n) (suc hart) = unseen_at n hart

pub returns-clause-each : goal.returns-clause-each
returns-clause-each c = unseen_at HART_ROW
