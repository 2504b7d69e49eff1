use Rattle.std.proofs.Common.{◌≡◌, ◌∷◌, ◌++◌, map, take}
use Rattle.std.specs.List.{flat_map}
use Rattle.al_tree.specs.Lexemes.{identifier_label}
use Rattle.al_scope_context.proofs.pragma.full_name.Given as goal

abbrev pub invariant-loop-selector : goal.invariant-loop-selector
invariant-loop-selector l = l.full.items ≡ (identifier_label l.name.first).text ++ flat_map (λ i. 46 ∷ i.text) (map identifier_label (take l.selector-index l.selector-items))
