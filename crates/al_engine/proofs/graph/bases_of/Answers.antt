use Rattle.std.proofs.Common.{◌≡◌, ℕ, ◌+◌, true, List, map, subst, arith}
use Rattle.std.proofs.lemmas.List.{length-map}
use Rattle.std.specs.List.{Contains}
use Rattle.std.specs.Option.{is_some}
use Rattle.al_base.specs.Batch.{Key, key_of}
use Rattle.al_base.specs.declared.unit_key.UnitKey.{UnitKey}
use Rattle.al_unit_graph.specs.Dependence.{direct}
use Rattle.al_query_store.specs.Units.{at_unit}
use Rattle.al_engine.specs.Kept.{unit_of}
use Rattle.al_engine.proofs.Files.{stepped}
use Rattle.al_engine.proofs.graph.bases_of.Goals as goal

pub loop-unit-preserved : goal.loop-unit-preserved
loop-unit-preserved c =
    stepped key_of (λ (w : Key). (d : Key) → Contains (direct c.args.sources.now w) d → is_some (at_unit c.add_bases.new.bases (unit_of d)) ≡ true) c.args.units.now c.loop-unit.unit-index c.unit-item.result c.loop-unit-test.true
    (λ k below w is d at. c.in_ok-add_bases.ensures.kept (unit_of d) (c.loop-unit.invariant k below w is d at))
    (subst (λ (x : UnitKey). (d : Key) → Contains (direct c.args.sources.now (key_of x)) d → is_some (at_unit c.add_bases.new.bases (unit_of d)) ≡ true) c.unit-item.is c.in_ok-add_bases.ensures.added)

pub returns : goal.returns
returns c = λ w d listed at.
    c.loop-unit.invariant listed.0 (omega (arith, listed.1, c.loop-unit-test.false, length-map c.args.units.now key_of)) w listed.2 d at
