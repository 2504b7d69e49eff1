-- Sets of links.
use Rattle.std.specs.Prelude.{◌≡◌, Bool, true, false, ◌&&◌, ◌||◌, List}
use Rattle.std.specs.List.{list_any}
use Rattle.al_view.specs.Symbols.{same_symbol}
use Rattle.al_view.specs.declared.link.LinkKind.{LinkKind}
use Rattle.al_view.specs.declared.link.LinkKind.TheVariants as kind
use Rattle.al_view.specs.declared.link.LinkSymbol.{LinkSymbol}
use Rattle.al_view.specs.declared.symbol.Symbol.{Symbol}
use Rattle.al_check_promises.specs.declared.link_set.LinkSet.{LinkSet}

abbrev pub same_link_kind : LinkKind → LinkKind → Bool
same_link_kind kind.Code kind.Code = true
same_link_kind kind.Gate kind.Gate = true
same_link_kind kind.EntryBody kind.EntryBody = true
same_link_kind kind.Flag kind.Flag = true
same_link_kind kind.Data kind.Data = true
same_link_kind kind.Protected kind.Protected = true
same_link_kind _ _ = false

-- whether the linker places them as one
abbrev pub same_link : LinkSymbol → LinkSymbol → Bool
same_link a b = same_link_kind a.kind b.kind && same_symbol a.symbol b.symbol

-- the symbols of this kind in a set
abbrev pub of_kind : LinkSet → LinkKind → List Symbol
of_kind set kind.Code = set.code
of_kind set kind.Gate = set.gates
of_kind set kind.EntryBody = set.entry_bodies
of_kind set kind.Flag = set.flags
of_kind set kind.Data = set.words
of_kind set kind.Protected = set.protected_objects

-- whether the link is in the set
unfoldable pub has_link : LinkSet → LinkSymbol → Bool
has_link set x = list_any (same_symbol x.symbol) (of_kind set x.kind)

-- whether the link is one of these
abbrev pub is_among : List LinkSymbol → LinkSymbol → Bool
is_among links x = list_any (same_link x) links

-- the set has gained these links, and nothing else
abbrev pub Gains : LinkSet → LinkSet → List LinkSymbol → Type 0
Gains old new links = (x : LinkSymbol) → has_link new x ≡ (is_among links x || has_link old x)
