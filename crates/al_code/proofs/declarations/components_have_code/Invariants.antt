use Rattle.std.proofs.Common.{◌≡◌, drop, map}
use Rattle.std.specs.List.{list_any}
use Rattle.al_view_typed.specs.DeclarationTrees.{component_value_model}
use Rattle.al_code.specs.Marks.{component_has_code}
use Rattle.al_code.proofs.declarations.components_have_code.Given as goal

abbrev pub invariant-loop-value : goal.invariant-loop-value
invariant-loop-value l = list_any component_has_code (map component_value_model (drop l.value-index l.values)) ≡ list_any component_has_code (map component_value_model l.values)
