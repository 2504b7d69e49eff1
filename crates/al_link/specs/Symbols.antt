-- When two symbols are one for the linker, and the places of symbols.
use Rattle.std.specs.Prelude.{ℕ, Bool, true, false, ◌&&◌, List, [], ◌∷◌, if◌then◌else◌, unwrap_or}
use Rattle.std.specs.Map.{lookup}
use Rattle.al_view.specs.Symbols.{same_symbol}
use Rattle.al_view.specs.declared.link.LinkKind.{LinkKind}
use Rattle.al_view.specs.declared.link.LinkKind.TheVariants as kind
use Rattle.al_view.specs.declared.link.LinkSymbol.{LinkSymbol}

abbrev pub same_link_kind : LinkKind → LinkKind → Bool
same_link_kind kind.Code kind.Code = true
same_link_kind kind.Gate kind.Gate = true
same_link_kind kind.EntryBody kind.EntryBody = true
same_link_kind kind.Flag kind.Flag = true
same_link_kind kind.Data kind.Data = true
same_link_kind kind.Protected kind.Protected = true
same_link_kind _ _ = false

abbrev pub same_link_symbol : LinkSymbol → LinkSymbol → Bool
same_link_symbol a b = same_symbol a.symbol b.symbol && same_link_kind a.kind b.kind

-- symbols, each with its place
abbrev pub Places : Type 0
Places = List (LinkSymbol × ℕ)

-- with the place of one more symbol; a symbol that is there has the later place
abbrev pub with_place : Places → LinkSymbol → ℕ → Places
with_place [] symbol place = (symbol, place) ∷ []
with_place (e ∷ es) symbol place = if same_link_symbol symbol e.0 then (e.0, place) ∷ es else e ∷ with_place es symbol place

-- the place of a symbol
abbrev pub place_in : Places → LinkSymbol → ℕ
place_in places symbol = unwrap_or (lookup (same_link_symbol symbol) places) 0
