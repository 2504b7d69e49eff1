use Rattle.std.proofs.Common.{◌≡◌, map, drop}
use Rattle.al_overload_lookup.specs.Keys.{denoted}
use Rattle.al_tree.specs.Lexemes.{identifier_label}
use Rattle.al_scope_context.specs.UsesAt.{visible_key}
use Rattle.al_scope_context.proofs.opened_package.visible_key.Given as goal

abbrev pub invariant-loop-selector : goal.invariant-loop-selector
invariant-loop-selector l =
    visible_key (denoted l.names) l.place l.key.items (map identifier_label (drop l.selector-index l.selectors))
    ≡ visible_key (denoted l.names) l.place l.fn.first (map identifier_label l.selectors)
