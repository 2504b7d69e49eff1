use Rattle.al_link.proofs.SymbolLemmas.{lookup_derived}
use Rattle.al_link.proofs.places.Places.place_of.Goals as goal

pub returns : goal.returns
returns c = let k = lookup_derived c.args.symbol.now c.self.inside.by_symbol.entries in let h = c.get.ensures.value in let l = c.copied.ensures in let m = c.unwrap_or.ensures in let n = c.self.view_is in cc
