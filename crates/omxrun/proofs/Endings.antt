-- What follows of a result that is there.
use Rattle.std.proofs.Common.{Result, Ok, Err}
use Rattle.std.specs.Prelude.{IfOk, IfErr}

module _ {T E : Type 0} where
  pub if-ok : (r : Result T E) (P Q : T → Type 0) → IfOk r P → ((x : T) → P x → Q x) → IfOk r Q
  if-ok (Ok x) P Q p f = f x p
  if-ok (Err e) P Q p f = tt

  pub if-err : (r : Result T E) (P Q : E → Type 0) → IfErr r P → ((e : E) → P e → Q e) → IfErr r Q
  if-err (Ok x) P Q p f = tt
  if-err (Err e) P Q p f = f e p
