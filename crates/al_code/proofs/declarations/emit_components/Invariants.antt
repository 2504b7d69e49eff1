use Rattle.std.proofs.Common.{◌≡◌, take}
use Rattle.std.specs.List.{flat_map}
use Rattle.al_view_typed.specs.DeclarationTrees.{component_value_model}
use Rattle.al_code.specs.Written.{written}
use Rattle.al_code.specs.Declarations.{component_code}
use Rattle.al_code.proofs.declarations.emit_components.Given as goal

abbrev pub invariant-loop-value : goal.invariant-loop-value
invariant-loop-value l = l.out ≡ written l.initial.out (flat_map (λ x. component_code l.depth l.symbol (component_value_model x)) (take l.value-index l.values))
