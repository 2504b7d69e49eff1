-- What types are like, and which types a view holds.
use Rattle.std.specs.Prelude.{ℕ, List, Option, Some, None, pos, ◌-ℤ◌}
use Rattle.std.specs.List.{find}
use Rattle.al_view.specs.declared.symbol.Symbol.{Symbol}
use Rattle.al_view.specs.declared.types.Bounds.{Bounds}
use Rattle.al_view.specs.declared.types.Layout.{Layout}
use Rattle.al_view.specs.declared.types.Layout.TheVariants.{Scalar, Array, Record, Words}
use Rattle.al_view.specs.declared.types.TypeDefinition.{TypeDefinition}
use Rattle.al_view.specs.declared.types.TypeDefinition.TheVariants.{Integer, Enumeration}
use Rattle.al_view.specs.declared.types.TypeView.{TypeView}
use Rattle.al_view.specs.Symbols.{same_symbol}

-- the bounds of a scalar type; of an enumeration those of its positions
abbrev pub definition_bounds : TypeDefinition → Option Bounds
definition_bounds (Integer bounds) = Some bounds
definition_bounds (Enumeration literals) = Some (record { low = pos 0; high = pos literals -ℤ pos 1 })
definition_bounds _ = None

-- the words of a value
abbrev pub layout_words : Layout → ℕ
layout_words Scalar = 1
layout_words (Array component words) = words
layout_words (Record offsets words) = words
layout_words (Words words) = words

-- the type with this symbol, if it is one of these
abbrev pub type_in : List TypeView → Symbol → Option TypeView
type_in types symbol = find (λ t. same_symbol t.symbol symbol) types
