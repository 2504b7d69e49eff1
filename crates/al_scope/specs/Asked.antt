-- Questions for one name in some parts of units.
use Rattle.std.specs.Prelude.{◌≡◌, ℕ, List, Bool, true}
use Rattle.std.specs.List.{list_any}
use Rattle.al_query.specs.Asked.{Asks}
use Rattle.al_query.specs.Queries.{same_query}
use Rattle.al_query.specs.Reads.{Log}
use Rattle.al_query.specs.declared.query.Query.{Query}
use Rattle.al_query.specs.declared.query.Query.TheVariants.{Named}
use Rattle.al_scope.specs.declared.region.UnitPart.{UnitPart}

-- what a part of a unit declares under a name
abbrev pub query_of : List ℕ → UnitPart → Query
query_of name p = Named p.unit p.part name

-- whether a question is for that name in one of these parts
abbrev pub is_for : List UnitPart → List ℕ → Query → Bool
is_for parts name q = list_any (λ p. same_query q (query_of name p)) parts

abbrev pub IsFor : List UnitPart → List ℕ → Log → Query → Type 0
IsFor parts name log q = is_for parts name q ≡ true

-- only such questions are asked
abbrev pub AsksParts : List UnitPart → List ℕ → Log → Log → Type 0
AsksParts parts name before now = Asks (IsFor parts name) before now
