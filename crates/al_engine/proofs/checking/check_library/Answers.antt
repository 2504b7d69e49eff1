use Rattle.std.proofs.Common.{List, map, sym, subst}
use Rattle.al_base.specs.Batch.{key_of}
use Rattle.al_base.specs.declared.unit_key.UnitKey.{UnitKey}
use Rattle.al_unit_faults.specs.Reached.{IsDependenceOrder}
use Rattle.al_engine.proofs.checking.check_library.Goals as goal

pub recheck-requires-clause-order : goal.recheck-requires-clause-order
recheck-requires-clause-order g c =
    let lib = c.args.sources.now in
    let order = c.as_slice.result.now in
    c.order_is_for_builds.ensures g.C.Text.ReadText.header lib (g.P.Answers.table c.args.predefined.now) order c.requires.headed c.requires.bodies c.requires.predefined
    (subst (λ (us : List UnitKey). IsDependenceOrder lib (map key_of us)) (sym c.as_slice.ensures.value) c.requires.graph.order)
