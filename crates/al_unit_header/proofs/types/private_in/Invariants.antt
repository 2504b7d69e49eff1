use Rattle.std.proofs.Common.{◌≡◌, map, take}
use Rattle.std.specs.List.{flat_map}
use Rattle.al_tree.specs.DeclarationViews.{declaration_model}
use Rattle.al_unit_header.specs.PrivateTypes.{private_names}
use Rattle.al_unit_header.proofs.types.private_in.Given as goal

abbrev pub invariant-loop-declaration : goal.invariant-loop-declaration
invariant-loop-declaration l = l.names.items ≡ flat_map private_names (map declaration_model (take l.declaration-index l.declarations))
