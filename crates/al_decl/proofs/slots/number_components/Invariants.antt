use Rattle.std.proofs.Common.{◌≡◌, ◌≤◌, ℕ, [], map, take, length, get_or}
use Rattle.std.specs.Prelude.{fold}
use Rattle.al_view_typed.specs.DeclarationTrees.{component_value_model}
use Rattle.al_view_typed.specs.declared.declaration.ComponentValue.{ComponentValue}
use Rattle.al_decl.proofs.Gathered.{with_component}
use Rattle.al_decl.proofs.slots.number_components.Given as goal

abbrev pub invariant-loop-value : goal.invariant-loop-value
invariant-loop-value l =
    (length l.value-items ≡ length l.initial.value-items)
    × ((k : ℕ) (d : ComponentValue) → l.value-index ≤ k → get_or l.value-items k d ≡ get_or l.initial.value-items k d)
    × ((l.after, map component_value_model (take l.value-index l.value-items)) ≡ fold with_component (l.word, []) (take l.value-index l.initial.value-items))
