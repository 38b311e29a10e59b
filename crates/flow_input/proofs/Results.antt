-- Clauses on a result that is answered as it came.
use Rattle.std.proofs.Common.{◌≡◌, ap, Result, Ok, Err, OnOk, OnErr, IsErrOf}

pub on_ok_three : {T E : Type 0} {P Q S W : Type 0} (r : Result T E) → (P → Q → S → W) → OnOk r P → OnOk r Q → OnOk r S → OnOk r W
on_ok_three (Ok x) f p q s = f p q s
on_ok_three (Err e) f p q s = p

pub on_ok_two : {T E : Type 0} {P Q W : Type 0} (r : Result T E) → (P → Q → W) → OnOk r P → OnOk r Q → OnOk r W
on_ok_two (Ok x) f p q = f p q
on_ok_two (Err e) f p q = p

pub on_err : {T E : Type 0} {P : Type 0} (r : Result T E) → P → OnErr r P
on_err (Ok x) p = tt
on_err (Err e) p = p

-- an error passed on in another result
pub err_again : {T U E : Type 0} {x y : E} → IsErrOf {T = T} (Err x) y → IsErrOf {T = U} (Err x) y
err_again {T} {U} {E} {x} {y} e =
    let same : x ≡ y = cc in
    let again : E → Result U E = λ z. Err z in
    ap again same
