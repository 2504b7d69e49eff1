use Rattle.std.proofs.Common.{◌≡◌, ℕ, ◌+◌, true, List, map, sym, ap, subst, ◌∙◌, arith}
use Rattle.std.proofs.lemmas.List.{length-map}
use Rattle.std.specs.List.{Contains}
use Rattle.std.specs.Option.{is_some}
use Rattle.al_base.specs.Batch.{Key, key_of}
use Rattle.al_base.specs.declared.unit_key.UnitKey.{UnitKey}
use Rattle.al_unit_graph.specs.Dependence.{direct}
use Rattle.al_query_store.specs.Units.{at_unit}
use Rattle.al_engine.specs.Kept.{unit_of}
use Rattle.al_engine.proofs.Files.{stepped}
use Rattle.al_engine.proofs.graph.add_bases.Goals as goal

pub loop-base-preserved : goal.loop-base-preserved
loop-base-preserved c = (
  λ u is. c.in_ok-add_base.ensures.kept u (c.loop-base.invariant.0 u is),
  stepped key_of (λ (d : Key). is_some (at_unit c.add_base.new.bases (unit_of d)) ≡ true) c.as_slice-base-items.result.now c.loop-base.base-index c.base-item.result c.loop-base-test.true
      (λ k below d is. c.in_ok-add_base.ensures.kept (unit_of d) (c.loop-base.invariant.1 k below d is))
      (subst (λ (x : UnitKey). is_some (at_unit c.add_base.new.bases (unit_of (key_of x))) ≡ true) c.base-item.is c.in_ok-add_base.ensures.added),
)

pub returns-clause-kept : goal.returns-clause-kept
returns-clause-kept c = c.loop-base.invariant.0

pub returns-clause-added : goal.returns-clause-added
returns-clause-added c = λ d at.
    let items = c.as_slice-base-items.result.now in
    let keys : map key_of items ≡ direct c.args.sources.now (key_of c.args.unit.now) = ap (map key_of) c.as_slice-base-items.ensures.value ∙ c.in_ok-units.ensures in
    let listed : Contains (map key_of items) d = subst (λ (ks : List Key). Contains ks d) (sym keys) at in
    c.loop-base.invariant.1 listed.0 (omega (arith, listed.1, c.loop-base-test.false, length-map items key_of)) d listed.2
