-- Names by their last parts.
use Rattle.std.specs.Prelude.{ℕ, ◌<◌, List, [], ◌∷◌, Option, Some, None, option_map, ⊤}
use Rattle.al_overload_lookup.specs.Keys.{dotted, key_of}
use Rattle.al_overload_lookup.specs.declared.keys.Ending.{Ending}
use Rattle.al_overload_lookup.specs.declared.keys.Ending.TheVariants as endings
use Rattle.al_tree.specs.ExpressionViews.{expression_model}
use Rattle.al_tree.specs.Lexemes.{identifier_label}
use Rattle.al_tree.specs.declared.expression.Expression.{Expression, size-Expression}
use Rattle.al_tree.specs.declared.expression.Longer.{Longer, size-Longer}
use Rattle.al_tree.specs.declared.names.Identifier.{Identifier}

-- the name that an expression is, by how it ends
abbrev pub ended_key : Ending → Option (List ℕ)
ended_key (endings.Selector prefix selector) = option_map (λ k. dotted k (identifier_label selector.now).text) (key_of (expression_model prefix.now))
ended_key (endings.Identifier identifier) = Some (identifier_label identifier.now).text
ended_key endings.Other = None

-- with these selectors, of which the first one of the text comes last
abbrev pub all_selected : List Identifier → Option (List ℕ) → Option (List ℕ)
all_selected [] key = key
all_selected (selector ∷ selectors) key = option_map (λ k. dotted k (identifier_label selector).text) (all_selected selectors key)

-- what comes before the selector is less deep
abbrev pub IsBelow : Expression → Ending → Type 0
IsBelow expression (endings.Selector prefix selector) = size-Expression prefix.now < size-Expression expression
IsBelow expression (endings.Identifier identifier) = ⊤
IsBelow expression endings.Other = ⊤

abbrev pub IsBelowName : Longer → Ending → Type 0
IsBelowName longer (endings.Selector prefix selector) = size-Expression prefix.now < size-Longer longer
IsBelowName longer (endings.Identifier identifier) = ⊤
IsBelowName longer endings.Other = ⊤
