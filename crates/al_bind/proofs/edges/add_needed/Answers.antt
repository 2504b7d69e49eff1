use Rattle.std.proofs.Common.{ℕ, List, map, subst}
use Rattle.al_base.specs.Batch.{key_of}
use Rattle.al_base.specs.declared.unit_key.UnitKey.{UnitKey}
use Rattle.al_base_graph.specs.declared.edge.Reason.TheVariants.{ElaborateAll}
use Rattle.al_unit_graph.specs.Needed.{ListsUnits, Needed}
use Rattle.al_bind.specs.Numbers.{Adds, IsFor, OneOf, TiesBy}
use Rattle.al_bind.proofs.TieLemmas.{listed_ties}
use Rattle.al_bind.proofs.edges.add_needed.Goals as goal

pub returns : goal.returns
returns c =
    let lib = c.args.sources.now in
    let keys = map key_of c.args.places.now.keys.items in
    let old = c.args.edges.now.items in
    let new = c.add_ties.new.edges.items in
    let Q : UnitKey → _ = λ y. TiesBy lib keys c.args.x (IsFor ElaborateAll (key_of y)) in
    listed_ties lib keys c.args.x ElaborateAll c.in_ok-keys.keys.items (Needed lib c.args.name.now) old new
    (subst (λ (n : List ℕ). ListsUnits lib (map key_of c.in_ok-keys.keys.items) (Needed lib n)) c.as_slice.ensures c.in_ok-keys.ensures) c.requires.units
    (subst (λ (ys : List UnitKey). Adds old new (OneOf ys Q)) c.deref.ensures.value c.in_ok-add_ties.ensures)
