-- How many declarations of each name a unit has so far.
use Rattle.std.specs.Prelude.{ℕ, ◌+◌, List, [], ◌∷◌, map, Vec, if◌then◌else◌, unwrap_or}
use Rattle.std.specs.Map.{lookup}
use Rattle.std.specs.Str.{bytes_eq}

-- each name that is declared, with how many declarations of it there are
abbrev pub Counts : Type 0
Counts = List (List ℕ × ℕ)

-- the entries of a map by name, seen so
abbrev pub counts_of : {Y : Type 0} → List (Vec ℕ Y × ℕ) → Counts
counts_of entries = map (λ e. (e.0.items, e.1)) entries

-- how many declarations of the name there are: the number of the next one
abbrev pub count_of : Counts → List ℕ → ℕ
count_of counts name = unwrap_or (lookup (bytes_eq name) counts) 0

-- one more declaration of the name
abbrev pub with_name : Counts → List ℕ → Counts
with_name [] name = (name, 1) ∷ []
with_name (e ∷ es) name = if bytes_eq name e.0 then (e.0, e.1 + 1) ∷ es else e ∷ with_name es name
