use Rattle.std.proofs.Common.{◌≡◌, take}
use Rattle.al_decl_judged.specs.TypeLists.{AreSymbolsOf, joined}
use Rattle.al_decl_judged.proofs.type_list.add_types.Given as goal

abbrev pub invariant-loop-of : goal.invariant-loop-of
invariant-loop-of l = record {
  types : l.types ≡ joined l.fn.types (take l.of-index l.others);
  symbols : AreSymbolsOf l.types l.symbols;
}
