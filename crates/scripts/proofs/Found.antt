-- What a call found, or did not.
use Rattle.std.proofs.Common.{◌≡◌, Option, None, Some, sym}
use Rattle.std.specs.Prelude.{IfNone, IfSome, true, false}

pub if_none : {A : Type 0} (r : Option A) (P : Type 0) → P → IfNone r P
if_none None P p = p
if_none (Some a) P p = tt

pub if_none_map : {A : Type 0} {P Q : Type 0} (r : Option A) → (P → Q) → IfNone r P → IfNone r Q
if_none_map None f p = f p
if_none_map (Some a) f p = tt

pub from_none : {A : Type 0} (r : Option A) (P : Type 0) → r ≡ None → IfNone r P → P
from_none None P e p = p
from_none (Some a) P e p = absurd cc

pub from_some : {A : Type 0} (r : Option A) (a : A) (P : A → Type 0) → r ≡ Some a → IfSome r P → P a
from_some None a P e p = absurd cc
from_some (Some b) a P e p = let same : b ≡ a = cc in rw (sym same) p

pub never : false ≡ true → ⊥
never e = absurd cc
