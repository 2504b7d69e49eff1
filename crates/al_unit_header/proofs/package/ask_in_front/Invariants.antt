use Rattle.std.proofs.Common.{◌≡◌, map, drop}
use Rattle.std.specs.List.{list_any, take_while}
use Rattle.al_tree.specs.DeclarationViews.{compound_model, declaration_model}
use Rattle.al_unit_header.specs.Units.{asks_for_body, declares_nothing}
use Rattle.al_unit_header.proofs.package.ask_in_front.Given as goal

-- those that were passed declare nothing, and none asks for a body
abbrev pub invariant-loop-declaration : goal.invariant-loop-declaration
invariant-loop-declaration l = list_any (asks_for_body (compound_model l.name)) (take_while declares_nothing (map declaration_model l.declarations)) ≡ list_any (asks_for_body (compound_model l.name)) (take_while declares_nothing (map declaration_model (drop l.declaration-index l.declarations)))
