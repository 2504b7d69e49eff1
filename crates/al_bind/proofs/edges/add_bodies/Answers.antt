use Rattle.std.proofs.Common.{map}
use Rattle.al_base.specs.Batch.{key_of}
use Rattle.al_base.specs.declared.unit_key.UnitKind.TheVariants.{Body}
use Rattle.al_base_graph.specs.declared.edge.Reason.TheVariants.{Elaborate}
use Rattle.al_bind.specs.Numbers.{IsFor, TiesBy}
use Rattle.al_bind.proofs.TieLemmas.{adds_step, adds_end}
use Rattle.al_bind.proofs.edges.add_bodies.Goals as goal

pub loop-name-preserved : goal.loop-name-preserved
loop-name-preserved c =
    let keys = map key_of c.args.places.now.keys.items in
    adds_step c.args.edges.now.items c.loop-name.edges.items c.add_body.new.edges.items c.args.names.now c.loop-name.name-index c.name-item.result (λ q. TiesBy c.args.sources.now keys c.args.x (IsFor Elaborate (q, Body))) c.loop-name.invariant c.loop-name-test.true c.name-item.is c.in_ok-add_body.ensures

pub returns : goal.returns
returns c =
    let keys = map key_of c.args.places.now.keys.items in
    adds_end c.args.edges.now.items c.loop-name.edges.items c.args.names.now c.loop-name.name-index (λ q. TiesBy c.args.sources.now keys c.args.x (IsFor Elaborate (q, Body))) c.loop-name.invariant c.loop-name-test.false
