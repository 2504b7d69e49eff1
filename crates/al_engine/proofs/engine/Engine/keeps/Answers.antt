use Rattle.al_engine.proofs.engine.Engine.keeps.Goals as goal

pub returns-clause-law : goal.returns-clause-law
returns-clause-law g c = rw (← c.self.view_is) c.keep_the_law.ensures

pub returns-clause-built : goal.returns-clause-built
returns-clause-built g c = rw (← c.self.view_is) c.self.invariant.0.built_right
