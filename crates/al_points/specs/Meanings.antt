-- What is noted of a name in a state of a check.
use Rattle.std.specs.Prelude.{List, [], ◌∷◌, ⊤}
use Rattle.al_check_here.specs.declared.state.CheckState.{CheckState}
use Rattle.al_meant.specs.Meanings.{AreMeant}
use Rattle.al_points.specs.declared.looking.Meaning.{Meaning}
use Rattle.al_points.specs.declared.named.Named.{Named}
use Rattle.al_query.specs.Reads.{Table}
use Rattle.al_tree.specs.ExpressionViews.{expression_model}

-- all that the name may mean at the place to which the check has come, and nothing else
abbrev pub IsMeaning : Table → CheckState → Named → Meaning → Type 0
IsMeaning t s name meaning = AreMeant t s.env.scope s.unit.packages (expression_model name.name) meaning.found.views

-- each of several names has its own
abbrev pub AreMeanings : Table → CheckState → List Named → List Meaning → Type 0
AreMeanings t s [] [] = ⊤
AreMeanings t s (n ∷ ns) (m ∷ ms) = IsMeaning t s n m × AreMeanings t s ns ms
AreMeanings t s [] (m ∷ ms) = ⊥
AreMeanings t s (n ∷ ns) [] = ⊥
