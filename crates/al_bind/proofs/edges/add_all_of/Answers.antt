use Rattle.std.proofs.Common.{◌≡◌, map}
use Rattle.al_base.specs.Batch.{key_of}
use Rattle.al_base.specs.declared.unit_key.UnitKind.TheVariants.{Body}
use Rattle.al_base_graph.specs.declared.edge.Reason.TheVariants.{ElaborateAll}
use Rattle.al_unit_graph.specs.Needed.{Needed}
use Rattle.al_bind.specs.Numbers.{IsFor, IsForAll}
use Rattle.al_bind.proofs.TieLemmas.{adds_either}
use Rattle.al_bind.proofs.edges.add_all_of.Goals as goal

pub returns : goal.returns
returns c =
    let lib = c.args.sources.now in
    let q = c.args.name.now in
    adds_either lib (map key_of c.args.places.now.keys.items) c.args.x (IsFor ElaborateAll (q, Body)) (λ r k. (r ≡ ElaborateAll) × Needed lib q k) (IsForAll lib q) c.args.edges.now.items c.add_body.new.edges.items c.add_needed.new.edges.items c.in_ok-add_body.ensures c.in_ok-add_needed.ensures (λ r k. ((λ o. o), (λ o. o)))
