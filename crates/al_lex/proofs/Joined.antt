-- What tests joined by `&&` and `||` say.
use Rattle.std.proofs.Common.{◌≡◌, Bool, true, false, ◌&&◌, ◌||◌, refl}

pub both_left : (a b : Bool) → (a && b) ≡ true → a ≡ true
both_left true b h = refl
both_left false b h = absurd (cc)

pub both_right : (a b : Bool) → (a && b) ≡ true → b ≡ true
both_right true b h = h
both_right false b h = absurd (cc)

pub none_left : (a b : Bool) → (a || b) ≡ false → a ≡ false
none_left true b h = absurd (cc)
none_left false b h = refl

pub none_right : (a b : Bool) → (a || b) ≡ false → b ≡ false
none_right true b h = absurd (cc)
none_right false b h = h
