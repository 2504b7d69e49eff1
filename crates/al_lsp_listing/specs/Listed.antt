-- How declarations are listed.
use Rattle.std.specs.Prelude.{◌≡◌, ℕ, List, [], ◌∷◌, Bool, false, nat_lt, if◌then◌else◌, map, codes, Option, Some, None}
use Rattle.std.specs.Str.Lossy.{utf8_lossy}
use Rattle.serde_json.specs.Data.{Data, number, string, array, object, unsigned, no_members, put}
use Rattle.serde_json.specs.View.{items_of}
use Rattle.al_lsp.specs.declared.position.Counting.{Counting}
use Rattle.al_lsp_messages.specs.Values.{range_data}
use Rattle.al_lsp_outline.specs.declared.declared.DeclaredKind.{DeclaredKind}
use Rattle.al_lsp_outline.specs.declared.declared.DeclaredKind.TheVariants as kinds
use Rattle.al_lsp_outline.specs.declared.range.Symbol.{Symbol}
use Rattle.al_lsp_listing.specs.Extents.{bytes_of, range_of}

-- the protocol's number of what is declared (`SymbolKind`)
abbrev pub number_of : DeclaredKind → ℕ
number_of kinds.Package = 4
number_of kinds.Task = 5
number_of kinds.Protected = 5
number_of kinds.Component = 8
number_of kinds.Enumeration = 10
number_of kinds.Subprogram = 12
number_of kinds.Variable = 13
number_of kinds.Constant = 14
number_of kinds.Literal = 22
number_of kinds.Type = 23
number_of kinds.Subtype = 23
number_of kinds.Entry = 24

-- a declaration with those that are declared inside (`DocumentSymbol`)
abbrev pub shown : Counting → List ℕ → Symbol → List Data → Data
shown counting text s inner = object (put (codes "selectionRange") (range_data (range_of counting text s.name)) (put (codes "range") (range_data (range_of counting text s.whole)) (put (codes "kind") (number (unsigned (number_of s.declared.kind))) (put (codes "name") (string (utf8_lossy (bytes_of text s.shown))) (put (codes "children") (array (items_of inner)) no_members)))))

-- what is listed of a declaration that is in so many others
pub record Deep : Type 0 where
  pub depth : ℕ
  pub listed : Data

-- whether the first of a list is deeper
abbrev pub is_inside : ℕ → List Deep → Bool
is_inside depth [] = false
is_inside depth (d ∷ ds) = nat_lt depth d.depth

-- those at the head of a list that are deeper
abbrev pub inside : ℕ → List Deep → List Data
inside depth [] = []
inside depth (d ∷ ds) = if nat_lt depth d.depth then d.listed ∷ inside depth ds else []

-- those behind them
abbrev pub behind : ℕ → List Deep → List Deep
behind depth [] = []
behind depth (d ∷ ds) = if nat_lt depth d.depth then behind depth ds else d ∷ ds

-- with one more in front, in which those are that are deeper
abbrev pub with_symbol : Counting → List ℕ → Symbol → List Deep → List Deep
with_symbol counting text s ds = record { depth = s.declared.depth; listed = shown counting text s (inside s.declared.depth ds) } ∷ behind s.declared.depth ds

-- a list of declarations, each with those that are declared inside
abbrev pub nested : Counting → List ℕ → List Symbol → List Deep
nested counting text [] = []
nested counting text (s ∷ ss) = with_symbol counting text s (nested counting text ss)

abbrev pub listed : Counting → List ℕ → List Symbol → Data
listed counting text ss = array (items_of (map (λ (d : Deep). d.listed) (nested counting text ss)))

-- the first of a list is taken if it is deeper
abbrev pub Pops : ℕ → List Deep → List Deep → Option Data → Type 0
Pops depth old new None = (inside depth old ≡ []) × (behind depth old ≡ new)
Pops depth old new (Some d) = (inside depth old ≡ d ∷ inside depth new) × (behind depth old ≡ behind depth new)
