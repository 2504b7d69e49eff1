use Rattle.std.proofs.Common.{List, map, subst}
use Rattle.al_base.specs.Batch.{key_of}
use Rattle.al_base.specs.declared.unit_key.UnitKey.{UnitKey}
use Rattle.al_base_graph.specs.declared.edge.Edge.{Edge}
use Rattle.al_bind.specs.Numbers.{Adds, OneOf, TiesFrom}
use Rattle.al_bind.specs.Steps.{WantsTold}
use Rattle.al_bind.proofs.EdgeLemmas.{all_edges}
use Rattle.al_bind.proofs.edges.ties_of.Goals as goal

pub returns : goal.returns
returns c =
    let lib = c.args.sources.now in
    let items = c.args.places.now.keys.items in
    let keys = map key_of items in
    let new = c.add_items.new.edges.items in
    let adds = subst (λ (ks : List UnitKey). Adds c.new-edges.result.items new (OneOf ks (λ k. TiesFrom lib keys (WantsTold c.args.extent lib keys) (key_of k)))) c.as_slice.ensures.value c.in_ok-add_items.ensures in
    all_edges lib c.args.main.now items (WantsTold c.args.extent lib keys) new c.requires.places.ascend c.requires.lists
    (subst (λ (ts : List Edge). Adds ts new (OneOf items (λ k. TiesFrom lib keys (WantsTold c.args.extent lib keys) (key_of k)))) c.new-edges.ensures.items adds)
