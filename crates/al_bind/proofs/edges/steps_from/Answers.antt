use Rattle.std.proofs.Common.{◌≡◌, ◌↔◌, inl, inr, List, Result, Ok, Err, Vec, Global, true, map, ap, subst, ◌∙◌}
use Rattle.std.specs.List.{Contains}
use Rattle.std.specs.Result.{IfOk}
use Rattle.al_base.specs.Batch.{Key, key_of}
use Rattle.al_base.specs.declared.unit_key.UnitKey.{UnitKey}
use Rattle.al_unit_graph.specs.Headers.{Library}
use Rattle.al_unit_graph.specs.Library.{is_unit}
use Rattle.al_unit_graph.specs.Dependence.{DependsOn, direct}
use Rattle.al_unit_graph.specs.Needed.{ListsUnits}
use Rattle.al_bind.specs.Steps.{ArePlaced, IsTold}
use Rattle.al_bind.specs.declared.edges.Extent.TheVariants.{Steps}
use Rattle.al_bind.proofs.TieLemmas.{listed_among}
use Rattle.al_bind.proofs.edges.steps_from.Goals as goal

-- if not all are placed, all dependences are listed
told_all : {E : Type 0} (lib : Library) (keys : List Key) (p : Key) → ((k : Key) → Contains keys k → is_unit lib k ≡ true) → (ArePlaced lib keys (direct lib p) → ⊥) → (r : Result (Vec UnitKey Global) E) → IfOk r (λ those. ListsUnits lib (map key_of those.items) (DependsOn lib p)) → IfOk r (λ those. (y : Key) → Contains keys y → Contains (map key_of those.items) y ↔ IsTold Steps lib keys p y)
told_all lib keys p units none (Ok those) lists = λ y c.
    let same = listed_among lib keys (map key_of those.items) (DependsOn lib p) lists units y c in
    ((λ h. inr (none, same.0 h)), (λ told. elim told [ inl placed ↦ absurd (none placed.0) | inr all ↦ same.1 all.1 ]))
told_all lib keys p units none (Err e) lists = lists

pub returns : goal.returns
returns c =
    let lib = c.args.sources.now in
    let keys = map key_of c.args.places.now.keys.items in
    let p = key_of c.args.part.now in
    let is = ap (λ (ks : List UnitKey). map key_of ks) c.deref.ensures.value ∙ c.in_ok-direct.ensures in
    told_all lib keys p c.requires.units (subst (λ (ks : List Key). ArePlaced lib keys ks → ⊥) is c.if-are_placed.ensures) c.depends.result c.depends.ensures
