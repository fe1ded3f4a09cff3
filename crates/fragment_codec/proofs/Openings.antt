-- An opening from boot keeps the rules.
use Rattle.std.proofs.Common.{◌≡◌, ℕ, zero, suc, replicate, refl, arith}
use Rattle.std.specs.List.{AllByRecursion}
use Rattle.std.proofs.lemmas.List.Elements.{All-replicate}
use Rattle.std.proofs.lemmas.Grind.{common_steps}
use Rattle.ft_types.specs.Counts.{IsCount}
use Rattle.ft_types.specs.Guests.{GuestParts, IsGuest}
use Rattle.fragment_codec.specs.Rules.{IsOpening}

zeros_are_counts : (n : ℕ) → AllByRecursion IsCount (replicate n 0)
zeros_are_counts zero = tt
zeros_are_counts (suc n) = (omega arith, zeros_are_counts n)

pub opens_from_boot : (guest : GuestParts) → IsGuest guest →
    IsOpening (record { guest = guest; term = 1; parent = 0; base = replicate guest.harts 0 })
opens_from_boot guest rules = record {
  guest = rules;
  granted = omega arith;
  term = omega arith;
  parent = omega arith;
  base = grind (arith, common_steps);
  counts = zeros_are_counts guest.harts;
  boot = λ _. All-replicate (λ (m : ℕ). m ≡ 0) guest.harts 0 refl;
}
