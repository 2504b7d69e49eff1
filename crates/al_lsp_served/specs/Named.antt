-- What files have, by the bytes of their names.
use Rattle.std.specs.Prelude.{ℕ, List, Option, Vec}
use Rattle.std.specs.BTreeMap.{BTreeMap, get_by}
use Rattle.std.specs.Map.{update}
use Rattle.std.specs.Str.{bytes_eq}
use Rattle.std.specs.Ordering.{nat_cmp}
use Rattle.std.specs.Cmp.Lexicographic.{slice_cmp}

-- what the file of a name has
abbrev pub held : {Y X : Type 0} → BTreeMap (Vec ℕ Y) X → List ℕ → Option X
held named name = get_by (λ key. slice_cmp nat_cmp name key.items) named

-- .. where the file of one name has this, or nothing, and each other one what it had
abbrev pub with_held : {X : Type 0} → (List ℕ → Option X) → List ℕ → Option X → List ℕ → Option X
with_held before name value other = update bytes_eq before name value other
