use Rattle.al_query_store.specs.Units.{at_unit}
use Rattle.al_engine.proofs.Bases.{is-added, stays}
use Rattle.al_engine.proofs.graph.add_base.Goals as goal

pub returns-clause-kept : goal.returns-clause-kept
returns-clause-kept c = stays (at_unit c.args.bases.now) (at_unit c.insert.new.self) _ _ c.in_ok-insert.ensures.ok

pub returns-clause-added : goal.returns-clause-added
returns-clause-added c = is-added (at_unit c.args.bases.now) (at_unit c.insert.new.self) _ c.args.base.now _ c.in_ok-insert.ensures.ok c.in_ok-copied_unit.ensures
