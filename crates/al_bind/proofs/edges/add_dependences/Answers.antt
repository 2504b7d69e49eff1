use Rattle.std.proofs.Common.{List, map, subst}
use Rattle.al_base.specs.Batch.{key_of}
use Rattle.al_base.specs.declared.unit_key.UnitKey.{UnitKey}
use Rattle.al_base_graph.specs.declared.edge.Reason.TheVariants.{Depends}
use Rattle.al_bind.specs.Numbers.{Adds, IsFor, OneOf, TiesBy}
use Rattle.al_bind.specs.Steps.{IsTold}
use Rattle.al_bind.proofs.TieLemmas.{told_ties}
use Rattle.al_bind.proofs.edges.add_dependences.Goals as goal

pub returns : goal.returns
returns c =
    let lib = c.args.sources.now in
    let keys = map key_of c.args.places.now.keys.items in
    let old = c.args.edges.now.items in
    let new = c.add_ties.new.edges.items in
    let Q : UnitKey → _ = λ y. TiesBy lib keys c.args.x (IsFor Depends (key_of y)) in
    told_ties lib keys c.args.x Depends c.in_ok-keys.keys.items (IsTold c.args.extent lib keys (key_of c.args.part.now)) old new c.in_ok-keys.ensures
    (subst (λ (ys : List UnitKey). Adds old new (OneOf ys Q)) c.deref.ensures.value c.in_ok-add_ties.ensures)
