use Rattle.std.proofs.Common.{◌∙◌, sym}
use Rattle.al_engine.proofs.KeptLemmas.{cancelled-is}
use Rattle.al_engine.proofs.kept_units.UnitCache.cancel.Goals as goal

pub invariant_of-self : goal.invariant_of-self
invariant_of-self g c u e is =
    let old = c.self.inside.entries in
    let new = c.cancel.new.self in
    c.self.invariant u e (sym (cancelled-is old new c.cancel.ensures u) ∙ is)
