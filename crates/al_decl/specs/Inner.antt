-- Components of records and formals of subprograms, in a region of their own inside their declaration (ARM 3.8, 6.1, 8.1).
use Rattle.std.specs.Prelude.{List, [], ◌∷◌, ◌++◌, fold}
use Rattle.al_decl_judged.specs.declared.names.DefiningName.{DefiningName}
use Rattle.al_decl.specs.Declaring.{in_innermost}
use Rattle.al_scope.specs.Places.{Place, entered, with_declared}
use Rattle.al_view.specs.declared.view.ViewKind.TheVariants.{OfComponent}

-- a region that continues nothing
abbrev pub in_region : Place → Place
in_region place = record { mentioned = place.mentioned; regions = place.regions ++ entered [] place.regions ∷ [] }

-- names are visible from there on, without a value
abbrev pub one_visible : Place → DefiningName → Place
one_visible place n = in_innermost (with_declared n.name OfComponent) place

abbrev pub made_visible : Place → List DefiningName → Place
made_visible place names = fold one_visible place names
