-- What came of calls.
use Rattle.std.proofs.Common.{◌≡◌, Option, None, Some, refl}
use Rattle.std.specs.Prelude.{Result, Ok, Err, IfSome, IfErr}

pub some_of : {A : Type 0} (r : Option A) (P : A → Type 0) → ((a : A) → r ≡ Some a → P a) → IfSome r P
some_of None P f = tt
some_of (Some a) P f = f a refl

pub err_all : {T E : Type 0} (r : Result T E) (P : E → Type 0) → ((e : E) → P e) → IfErr r P
err_all (Ok a) P f = tt
err_all (Err e) P f = f e
