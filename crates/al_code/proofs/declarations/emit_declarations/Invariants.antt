use Rattle.std.proofs.Common.{◌≡◌, take}
use Rattle.std.specs.List.{flat_map}
use Rattle.al_view_typed.specs.DeclarationTrees.{declaration_model}
use Rattle.al_code.specs.Written.{written}
use Rattle.al_code.specs.Declarations.{declaration_code}
use Rattle.al_code.proofs.declarations.emit_declarations.Given as goal

abbrev pub invariant-loop-declaration : goal.invariant-loop-declaration
invariant-loop-declaration l = l.out ≡ written l.initial.out (flat_map (λ d. declaration_code l.depth (declaration_model d)) (take l.declaration-index l.declarations))
