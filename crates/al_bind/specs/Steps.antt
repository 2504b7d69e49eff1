-- The dependences that are listed as ties: all of a unit's, or some from which all others follow.
use Rattle.std.specs.Prelude.{◌≡◌, ◌≢◌, ◌⊎◌, List}
use Rattle.std.specs.List.{Contains}
use Rattle.al_base.specs.Batch.{Key}
use Rattle.al_base_graph.specs.declared.edge.Reason.{Reason}
use Rattle.al_base_graph.specs.declared.edge.Reason.TheVariants.{Depends}
use Rattle.al_unit_graph.specs.Headers.{Library}
use Rattle.al_unit_graph.specs.Dependence.{DependsOn, direct}
use Rattle.al_bind.specs.Elaboration.{Wants}
use Rattle.al_bind.specs.Numbers.{IsEnd}
use Rattle.al_bind.specs.declared.places.End.{End}
use Rattle.al_bind.specs.declared.edges.Extent.{Extent}
use Rattle.al_bind.specs.declared.edges.Extent.TheVariants.{Whole, Steps}

-- each of these is an item that has its place, and its node has one
abbrev pub ArePlaced : Library → List Key → List Key → Type 0
ArePlaced lib keys those = (y : Key) → Contains those y → (end : End) × IsEnd lib keys y end

-- all that a unit depends on; or, if what it depends on directly are placed items, only these, from which the others follow
abbrev pub IsTold : Extent → Library → List Key → Key → Key → Type 0
IsTold Whole lib keys p y = DependsOn lib p y
IsTold Steps lib keys p y = (ArePlaced lib keys (direct lib p) × Contains (direct lib p) y) ⊎ ((ArePlaced lib keys (direct lib p) → ⊥) × DependsOn lib p y)

-- what a unit requires before it, with these dependences in place of all
abbrev pub WantsBy : (Key → Type 0) → Library → Key → Reason → Key → Type 0
WantsBy IsSo lib p r y = ((r ≡ Depends) × IsSo y) ⊎ ((r ≢ Depends) × Wants lib p r y)

abbrev pub WantsTold : Extent → Library → List Key → Key → Reason → Key → Type 0
WantsTold extent lib keys p r y = WantsBy (IsTold extent lib keys p) lib p r y
