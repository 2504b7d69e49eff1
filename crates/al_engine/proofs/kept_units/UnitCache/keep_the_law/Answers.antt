use Rattle.al_engine.proofs.kept_units.UnitCache.keep_the_law.Goals as goal

pub returns : goal.returns
returns g c = rw (← c.self.view_is) c.self.invariant
