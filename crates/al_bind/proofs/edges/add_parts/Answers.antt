use Rattle.std.proofs.Common.{map}
use Rattle.al_base.specs.Batch.{key_of}
use Rattle.al_bind.specs.Numbers.{TiesBy}
use Rattle.al_bind.specs.Steps.{WantsTold}
use Rattle.al_bind.proofs.TieLemmas.{adds_step, adds_end}
use Rattle.al_bind.proofs.edges.add_parts.Goals as goal

pub loop-part-preserved : goal.loop-part-preserved
loop-part-preserved c =
    let keys = map key_of c.args.places.now.keys.items in
    adds_step c.args.edges.now.items c.loop-part.edges.items c.add_part.new.edges.items c.args.parts.now c.loop-part.part-index c.part-item.result (λ p. TiesBy c.args.sources.now keys c.args.x (WantsTold c.args.extent c.args.sources.now keys (key_of p))) c.loop-part.invariant c.loop-part-test.true c.part-item.is c.in_ok-add_part.ensures

pub returns : goal.returns
returns c =
    let keys = map key_of c.args.places.now.keys.items in
    adds_end c.args.edges.now.items c.loop-part.edges.items c.args.parts.now c.loop-part.part-index (λ p. TiesBy c.args.sources.now keys c.args.x (WantsTold c.args.extent c.args.sources.now keys (key_of p))) c.loop-part.invariant c.loop-part-test.false
