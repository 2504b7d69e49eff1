use Rattle.std.proofs.Common.{map}
use Rattle.al_base.specs.Batch.{key_of}
use Rattle.al_bind.specs.Numbers.{IsFor, TiesBy}
use Rattle.al_bind.proofs.TieLemmas.{adds_step, adds_end}
use Rattle.al_bind.proofs.edges.add_ties.Goals as goal

pub loop-y-preserved : goal.loop-y-preserved
loop-y-preserved c =
    let keys = map key_of c.args.places.now.keys.items in
    adds_step c.args.edges.now.items c.loop-y.edges.items c.add_tie.new.edges.items c.args.ys.now c.loop-y.y-index c.y-item.result (λ y. TiesBy c.args.sources.now keys c.args.x (IsFor c.args.reason (key_of y))) c.loop-y.invariant c.loop-y-test.true c.y-item.is c.in_ok-add_tie.ensures

pub returns : goal.returns
returns c =
    let keys = map key_of c.args.places.now.keys.items in
    adds_end c.args.edges.now.items c.loop-y.edges.items c.args.ys.now c.loop-y.y-index (λ y. TiesBy c.args.sources.now keys c.args.x (IsFor c.args.reason (key_of y))) c.loop-y.invariant c.loop-y-test.false
