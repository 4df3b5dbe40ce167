-- Facts of a result.
use Rattle.std.specs.Prelude.{Result, Ok, Err, OnOk, IfOk}

pub both_ok : {T E : Type 0} (r : Result T E) (P Q R : Type 0) → (P → Q → R) → OnOk r P → OnOk r Q → OnOk r R
both_ok (Ok x) P Q R f p q = f p q
both_ok (Err x) P Q R f p q = tt

pub both_if : {T E : Type 0} (r : Result T E) (P Q R : T → Type 0) → ((x : T) → P x → Q x → R x) → IfOk r P → IfOk r Q → IfOk r R
both_if (Ok x) P Q R f p q = f x p q
both_if (Err x) P Q R f p q = tt

pub on_if : {T E : Type 0} (r : Result T E) (P Q : T → Type 0) → ((x : T) → P x → Q x) → IfOk r P → IfOk r Q
on_if (Ok x) P Q f p = f x p
on_if (Err x) P Q f p = tt

pub ok_by : {T E : Type 0} (r : Result T E) (P R : Type 0) → (P → R) → OnOk r P → OnOk r R
ok_by r P R implies is = both_ok r P P R (λ p again. implies p) is is
