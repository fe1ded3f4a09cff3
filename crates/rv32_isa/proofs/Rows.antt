-- A row of the table, from the fields of a word.
use Rattle.std.proofs.Common.{◌≡◌, ℕ, ◌<◌, refl, ap, arith, Option, Some, eqb, Bool, true, false}
use Rattle.std.specs.Int.{from_bool}
use Rattle.rv32_isa.specs.Decode.{with_kind}
use Rattle.rv32_isa.specs.declared.instruction.Instr.{Instr}

pub with_kind-some : {A : Type 0} → (o : Option A) (x : A) (f : A → Instr) (i : Instr) → o ≡ Some x → f x ≡ i → with_kind o f ≡ Some i
with_kind-some o x f i h e = rw h (ap Some e)

-- the bit of a flag
pub eqb-from_bool : (n : ℕ) (b : Bool) → n ≡ from_bool b → eqb n 1 ≡ b
eqb-from_bool n true h = rw h refl
eqb-from_bool n false h = rw h refl

pub from_bool-below : (b : Bool) → from_bool b < 2
from_bool-below true = omega arith
from_bool-below false = omega arith
