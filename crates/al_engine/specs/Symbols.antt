-- The symbols that an object uses and defines.
use Rattle.std.specs.Prelude.{◌≡◌, List, map}
use Rattle.std.specs.List.{Contains}
use Rattle.al_view.specs.declared.link.LinkSymbol.{LinkSymbol}
use Rattle.al_view_typed.specs.UnitTrees.{UnitTree}
use Rattle.al_view_typed.specs.Uses.{unit_defines, unit_uses}
use Rattle.al_code_object.specs.declared.object.Object.TheVariants.{Compiled}
use Rattle.al_code_object.specs.Objects.{CompiledCode}
use Rattle.al_code.specs.ObjectOf.{object_of}

abbrev pub used_symbols : CompiledCode → List LinkSymbol
used_symbols o = map (λ r. r.symbol) o.uses

abbrev pub defined_symbols : CompiledCode → List LinkSymbol
defined_symbols o = map (λ a. a.symbol) o.defines

-- it uses only what its tree uses: less, if a static expression names something that its code doesn't need; it defines all that
-- the tree defines
pub record HasItsTreesSymbols (u : UnitTree) (o : CompiledCode) : Type 0 where
  pub uses : (x : LinkSymbol) → Contains (used_symbols o) x → Contains (unit_uses u) x
  pub defines : (x : LinkSymbol) → Contains (unit_defines u) x → Contains (defined_symbols o) x

-- each object of a unit has the symbols of its tree
abbrev pub EachHasItsTreesSymbols : Type 0
EachHasItsTreesSymbols = (u : UnitTree) (o : CompiledCode) → object_of u ≡ Compiled o → HasItsTreesSymbols u o
