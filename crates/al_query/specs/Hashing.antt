-- What a question is hashed by.
use Rattle.std.specs.Prelude.{ℕ, List, [], ◌∷◌}
use Rattle.al_query.specs.declared.query.Query.{Query}
use Rattle.al_query.specs.declared.query.Query.TheVariants.{Named, Of}

-- the unit's name, and the name that is asked for
abbrev pub hashed : Query → List (List ℕ)
hashed (Named unit part name) = unit.name ∷ name ∷ []
hashed (Of unit property) = unit.name ∷ []
