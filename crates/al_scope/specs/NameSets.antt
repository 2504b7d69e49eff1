-- Sets of names.
use Rattle.std.specs.Prelude.{ℕ, List, Vec, map}

-- the keys of a set, seen as names
abbrev pub names_of : {Y : Type 0} → List (Vec ℕ Y) → List (List ℕ)
names_of keys = map (λ k. k.items) keys
