use Rattle.std.proofs.Common.{◌≡◌, ◌≤◌, map, take}
use Rattle.al_view_typed.specs.DeclarationTrees.{declaration_model}
use Rattle.al_code.specs.ObjectOf.{tasks_in}
use Rattle.al_code.proofs.object.tasks_in.Given as goal

abbrev pub invariant-loop-declaration : goal.invariant-loop-declaration
invariant-loop-declaration l = record { value : l.count ≡ tasks_in (map declaration_model (take l.declaration-index l.declarations)); few : l.count ≤ l.declaration-index }
