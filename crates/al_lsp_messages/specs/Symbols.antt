-- Values that tell of declarations.
use Rattle.std.specs.Prelude.{List, ℕ, codes}
use Rattle.std.specs.Str.Lossy.{utf8_lossy}
use Rattle.serde_json.specs.Data.{Data, number, string, array, object, unsigned, Members, no_members, put}
use Rattle.serde_json.specs.View.{items_of}
use Rattle.al_lsp.specs.declared.edit.Range.{Range}
use Rattle.al_lsp_messages.specs.Values.{range_data}
use Rattle.al_lsp_messages.specs.declared.symbols.ListedSymbol.{ListedSymbol}

abbrev pub with_symbol : ListedSymbol → Members → Members
with_symbol s ms = put (codes "selectionRange") (range_data s.selection) (put (codes "range") (range_data s.whole) (put (codes "kind") (number (unsigned s.kind)) (put (codes "name") (string (utf8_lossy s.name.now)) ms)))

-- a declaration of a document, with those that are declared inside
abbrev pub symbol_data : ListedSymbol → List Data → Data
symbol_data s inside = object (with_symbol s (put (codes "children") (array (items_of inside)) no_members))

abbrev pub with_location : List ℕ → Range → Members → Members
with_location uri range ms = put (codes "range") (range_data range) (put (codes "uri") (string uri) ms)

-- a range of a file
abbrev pub location_data : List ℕ → Range → Data
location_data uri range = object (with_location uri range no_members)

abbrev pub with_unit : ListedSymbol → List ℕ → Members → Members
with_unit s uri ms = put (codes "location") (location_data uri s.selection) (put (codes "kind") (number (unsigned s.kind)) (put (codes "name") (string (utf8_lossy s.name.now)) ms))

-- a declaration of a file, at the identifier that it declares
abbrev pub unit_data : ListedSymbol → List ℕ → Data
unit_data s uri = object (with_unit s uri no_members)
