use Rattle.std.proofs.Common.{◌≡◌, ◌++◌, ◌∷◌, map, take}
use Rattle.std.specs.List.{flat_map}
use Rattle.al_tree.specs.Lexemes.{identifier_label}
use Rattle.al_unit_header.proofs.names.add_selectors.Given as goal

abbrev pub invariant-loop-selector : goal.invariant-loop-selector
invariant-loop-selector l = l.bytes.items ≡ l.initial.bytes.items ++ flat_map (λ l. 46 ∷ l.text) (map identifier_label (take l.selector-index l.selectors))
