-- What `==` says of inputs.
use Rattle.std.proofs.Common.{◌≡◌, ◌==◌, refl, ap}
use Rattle.std.specs.Bool.{Decides}
use Rattle.std.proofs.lemmas.Bool.Decides.{Decides-eqb, Decides-like}
use Rattle.input_log.specs.declared.Input.{Input}
use Rattle.input_log.specs.declared.Input.TheVariants.{Timer, Word, Bell}
use Rattle.input_log.specs.Alike.{same_input}

pub inputs_told : (a b : Input) → Decides (same_input a b) (a ≡ b)
inputs_told Timer Timer = (λ _. refl, λ _. refl)
inputs_told Timer (Word n) = (λ e. absurd (cc e), λ e. absurd (cc e))
inputs_told Timer (Bell n) = (λ e. absurd (cc e), λ e. absurd (cc e))
inputs_told (Word m) Timer = (λ e. absurd (cc e), λ e. absurd (cc e))
inputs_told (Word m) (Word n) = Decides-like (m == n) (λ e. ap Word e) (λ e. cc e) (Decides-eqb m n)
inputs_told (Word m) (Bell n) = (λ e. absurd (cc e), λ e. absurd (cc e))
inputs_told (Bell m) Timer = (λ e. absurd (cc e), λ e. absurd (cc e))
inputs_told (Bell m) (Word n) = (λ e. absurd (cc e), λ e. absurd (cc e))
inputs_told (Bell m) (Bell n) = Decides-like (m == n) (λ e. ap Bell e) (λ e. cc e) (Decides-eqb m n)
