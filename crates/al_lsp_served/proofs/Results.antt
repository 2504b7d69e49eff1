-- Facts of results and options.
use Rattle.std.proofs.Common.{◌≡◌, Bool, true, false, Option, Some, None, is_some, Result, Ok, Err, OnOk, refl}

-- what follows from a fact of a result that is given
pub on_ok : {T E : Type 0} {P Q : Type 0} (r : Result T E) → OnOk r P → (P → Q) → OnOk r Q
on_ok (Ok x) p f = f p
on_ok (Err e) p f = tt

-- .. of every result
pub ok_of : {T E : Type 0} {P : Type 0} (r : Result T E) → P → OnOk r P
ok_of (Ok x) p = p
ok_of (Err e) p = tt

pub none_of : {A : Type 0} (o : Option A) → is_some o ≡ false → o ≡ None
none_of None is = refl
none_of (Some x) is = cc
