use Rattle.std.proofs.Common.{◌≡◌, map, drop}
use Rattle.std.specs.List.{list_any}
use Rattle.al_tree.specs.DeclarationViews.{declaration_model}
use Rattle.al_unit_header.specs.Units.{is_completed_by_body}
use Rattle.al_unit_header.proofs.package.are_completed.Given as goal

-- none that was passed is completed by a body
abbrev pub invariant-loop-declaration : goal.invariant-loop-declaration
invariant-loop-declaration l = list_any is_completed_by_body (map declaration_model l.declarations) ≡ list_any is_completed_by_body (map declaration_model (drop l.declaration-index l.declarations))
