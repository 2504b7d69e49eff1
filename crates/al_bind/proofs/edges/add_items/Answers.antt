use Rattle.std.proofs.Common.{map}
use Rattle.al_base.specs.Batch.{key_of}
use Rattle.al_bind.specs.Numbers.{TiesFrom}
use Rattle.al_bind.specs.Steps.{WantsTold}
use Rattle.al_bind.proofs.TieLemmas.{adds_step, adds_end}
use Rattle.al_bind.proofs.edges.add_items.Goals as goal

pub loop-key-preserved : goal.loop-key-preserved
loop-key-preserved c =
    let keys = map key_of c.args.places.now.keys.items in
    adds_step c.args.edges.now.items c.loop-key.edges.items c.add_item.new.edges.items c.args.keys.now c.loop-key.key-index c.key-item.result (λ k. TiesFrom c.args.sources.now keys (WantsTold c.args.extent c.args.sources.now keys) (key_of k)) c.loop-key.invariant c.loop-key-test.true c.key-item.is c.in_ok-add_item.ensures

pub returns : goal.returns
returns c =
    let keys = map key_of c.args.places.now.keys.items in
    adds_end c.args.edges.now.items c.loop-key.edges.items c.args.keys.now c.loop-key.key-index (λ k. TiesFrom c.args.sources.now keys (WantsTold c.args.extent c.args.sources.now keys) (key_of k)) c.loop-key.invariant c.loop-key-test.false
