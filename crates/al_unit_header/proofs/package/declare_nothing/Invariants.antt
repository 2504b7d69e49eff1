use Rattle.std.proofs.Common.{◌≡◌, map, drop}
use Rattle.std.specs.List.{list_all}
use Rattle.al_tree.specs.DeclarationViews.{declaration_model}
use Rattle.al_unit_header.specs.Units.{declares_nothing}
use Rattle.al_unit_header.proofs.package.declare_nothing.Given as goal

-- those that were passed declare nothing
abbrev pub invariant-loop-declaration : goal.invariant-loop-declaration
invariant-loop-declaration l = list_all declares_nothing (map declaration_model l.declarations) ≡ list_all declares_nothing (map declaration_model (drop l.declaration-index l.declarations))
