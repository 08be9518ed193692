-- What holds of a result by its case.
use Rattle.std.proofs.Common.{Result, Ok, Err, OnOk, IfErr}

pub ok_three : {T E : Type 0} (r : Result T E) (P Q S R : Type 0) → OnOk r P → OnOk r Q → OnOk r S → (P → Q → S → R) → OnOk r R
ok_three (Ok x) P Q S R p q s f = f p q s
ok_three (Err e) P Q S R p q s f = tt

pub err_then : {T E : Type 0} (r : Result T E) (P Q : E → Type 0) → IfErr r P → ((e : E) → P e → Q e) → IfErr r Q
err_then (Ok x) P Q p f = tt
err_then (Err e) P Q p f = f e p
