use Rattle.std.proofs.Common.{take}
use Rattle.al_decl_judged.specs.TypeLists.{AreSymbolsOf}
use Rattle.al_decl_judged.proofs.type_list.symbols_of.Given as goal

abbrev pub invariant-loop-of : goal.invariant-loop-of
invariant-loop-of l = AreSymbolsOf (take l.of-index l.types) l.symbols
