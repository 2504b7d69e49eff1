use Rattle.std.proofs.Common.{◌≡◌, Some, map, length}
use Rattle.al_overload_lookup.specs.Endings.{all_selected}
use Rattle.al_tree.specs.Lexemes.{identifier_label}
use Rattle.al_overload_lookup.proofs.keys.selected_in.Given as goal

abbrev pub invariant-loop-selector : goal.invariant-loop-selector
invariant-loop-selector l = all_selected (map (λ s. s.now) l.selectors.items) (Some l.key.items) ≡ all_selected (map (λ s. s.now) l.fn.selectors.items) (Some (identifier_label l.fn.identifier).text)

abbrev pub decreases-loop-selector : goal.decreases-loop-selector
decreases-loop-selector l = length l.selectors.items
