use Rattle.std.proofs.Common.{map, take}
use Rattle.al_base.specs.Batch.{key_of}
use Rattle.al_base.specs.declared.unit_key.UnitKind.TheVariants.{Body}
use Rattle.al_base_graph.specs.declared.edge.Reason.TheVariants.{Elaborate}
use Rattle.al_bind.specs.Numbers.{Adds, IsFor, OneOf, TiesBy}
use Rattle.al_bind.proofs.edges.add_bodies.Given as goal

abbrev pub invariant-loop-name : goal.invariant-loop-name
invariant-loop-name l = Adds l.initial.edges.items l.edges.items (OneOf (take l.name-index l.names) (λ q. TiesBy l.sources (map key_of l.places.keys.items) l.x (IsFor Elaborate (q, Body))))
