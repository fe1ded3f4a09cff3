-- How a command ends.
use Rattle.std.proofs.Common.{◌≡◌, ◌≢◌, ℕ, List, Option, refl, inr, []}
use Rattle.std.specs.Prelude.{codes}
use Rattle.ft_types.specs.Text.{line}
use Rattle.log_streams.specs.declared.faults.StreamsFault.TheVariants.{Write}
use Rattle.word_forms.specs.declared.fault.WordsFault.{WordsFault}
use Rattle.word_forms.specs.declared.fault.WordsFault.TheVariants.{Usage as NoWords, Memory as NoWordsMemory}
use Rattle.command_line.specs.declared.faults.CommandFault.TheVariants.{Streams, Usage, Memory}
use Rattle.command_line.specs.Faults.{words_line}
use Rattle.command_line.specs.Writing.{Ends, WritesSome}

-- words that are no request are told as the fault of a command
pub words_end : (fault : WordsFault) (status : ℕ) (old new : Option (List ℕ)) (f g : ℕ) → (fault ≡ NoWords → status ≡ 2) →
    (fault ≡ NoWordsMemory → status ≡ 1) → WritesSome old new f g (words_line fault) → Ends status old new f g
words_end NoWords status old new f g usage memory told = inr (Usage, [], (λ _. usage refl, λ other. absurd (other refl)), told)
words_end NoWordsMemory status old new f g usage memory told = inr (Memory, [], (λ e. cc e, λ _. memory refl), told)

-- an output that could not be written is told as the fault of a command
pub lost_ends : (status : ℕ) (old new : Option (List ℕ)) (f g : ℕ) → status ≡ 1 → WritesSome old new f g (line (codes "fault write")) → Ends status old new f g
lost_ends status old new f g is told = inr (Streams Write, [], (λ e. cc e, λ _. is), told)
