use Rattle.std.proofs.Common.{List, map, sym, subst}
use Rattle.std.proofs.lemmas.List.{take_all}
use Rattle.al_base.specs.Batch.{key_of}
use Rattle.al_base.specs.declared.unit_key.UnitKey.{UnitKey}
use Rattle.al_unit_graph.proofs.Lists.{into_map}
use Rattle.al_bind.specs.Steps.{ArePlaced}
use Rattle.al_bind.proofs.edges.are_placed.Goals as goal

pub returns-in_default : goal.returns-in_default
returns-in_default c = λ all.
    let key = c.key-item.result in
    let h = all (key_of key) (into_map key_of c.args.keys.now key (c.loop-key.key-index, c.loop-key-test.true, sym c.key-item.is)) in
    c.in_default.ensures h.0 h.1

pub returns : goal.returns
returns c =
    let lib = c.args.sources.now in
    let keys = map key_of c.args.places.now.keys.items in
    subst (λ (ks : List UnitKey). ArePlaced lib keys (map key_of ks)) (take_all c.loop-key.key-index c.args.keys.now c.loop-key-test.false) c.loop-key.invariant
