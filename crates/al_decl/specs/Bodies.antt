-- What is known of a body or stub that is right.
use Rattle.std.specs.Prelude.{Option, option_map}
use Rattle.al_decl.specs.declared.body.PlacedBody.{PlacedBody}
use Rattle.al_view_typed.specs.DeclarationTrees.{DeclarationTree, declaration_model}
use Rattle.al_view.specs.declared.symbol.Symbol.{Symbol}

-- what it does at its place, and its symbol
abbrev pub placed_model : PlacedBody → Option DeclarationTree × Symbol
placed_model b = (option_map declaration_model b.effect, b.symbol)
