-- The identifiers of a name.
use Rattle.std.specs.Prelude.{ℕ, ◌==◌, List, [], ◌∷◌, ◌++◌, if◌then◌else◌}

-- the identifiers after the beginning of one, between dots
abbrev pub segments_from : List ℕ → List ℕ → List (List ℕ)
segments_from segment [] = segment ∷ []
segments_from segment (b ∷ bs) = if b == 46 then segment ∷ segments_from [] bs else segments_from (segment ++ b ∷ []) bs
