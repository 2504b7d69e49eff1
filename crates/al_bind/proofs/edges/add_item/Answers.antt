use Rattle.std.proofs.Common.{List, map, subst}
use Rattle.al_base.specs.Batch.{key_of}
use Rattle.al_base.specs.declared.unit_key.UnitKey.{UnitKey}
use Rattle.al_bind.specs.Numbers.{Adds, OneOf, TiesBy}
use Rattle.al_bind.specs.Steps.{WantsTold}
use Rattle.al_bind.proofs.EdgeLemmas.{item_none, item_some}
use Rattle.al_bind.proofs.edges.add_item.Goals as goal

pub returns-in_default : goal.returns-in_default
returns-in_default c = item_none c.args.sources.now (map key_of c.args.places.now.keys.items) (WantsTold c.args.extent c.args.sources.now (map key_of c.args.places.now.keys.items)) (key_of c.args.key.now) c.args.edges.now.items c.in_default.ensures

pub returns : goal.returns
returns c =
    let lib = c.args.sources.now in
    let keys = map key_of c.args.places.now.keys.items in
    let x = c.in-Some.x in
    let old = c.args.edges.now.items in
    let new = c.add_parts.new.edges.items in
    item_some lib keys (WantsTold c.args.extent lib keys) (key_of c.args.key.now) c.requires.ascend x c.in-Some.ensures c.in_ok-parts.parts.items old new c.in_ok-parts.ensures
    (subst (λ (ps : List UnitKey). Adds old new (OneOf ps (λ p. TiesBy lib keys x (WantsTold c.args.extent lib keys (key_of p))))) c.deref.ensures.value c.in_ok-add_parts.ensures)
