-- Tests.
use Rattle.std.proofs.Common.{◌≡◌, Bool, true, false, not, ◌&&◌, refl}

pub not_both : (b : Bool) → b ≡ true → b ≡ false → ⊥
not_both b holds fails = cc

pub not_true : (b : Bool) → not b ≡ true → b ≡ false
not_true true is = absurd (cc)
not_true false is = refl

pub true_not : (b : Bool) → b ≡ false → not b ≡ true
true_not true is = absurd (cc)
true_not false is = refl

pub not_so : (b : Bool) → (b ≡ true → ⊥) → not b ≡ true
not_so true fails = absurd (fails refl)
not_so false fails = refl

pub both : (x y : Bool) → (x && y) ≡ true → (x ≡ true) × (y ≡ true)
both true y is = (refl, is)
both false y is = absurd (cc)

pub and : (x y : Bool) → x ≡ true → y ≡ true → (x && y) ≡ true
and true y is is_too = is_too
and false y is is_too = absurd (cc)
