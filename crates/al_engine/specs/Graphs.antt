-- What a build can take over of the last build's graph.
use Rattle.std.specs.Prelude.{ℕ, ⊤, List, Option, IfSome, map}
use Rattle.std.specs.List.{Contains}
use Rattle.al_base.specs.Batch.{key_of}
use Rattle.al_base.specs.Files.{Texts}
use Rattle.al_unit_graph.specs.Headers.{Library}
use Rattle.al_bind.specs.Binding.{IsElaboration}
use Rattle.al_engine.specs.Kept.{IsGraphOf}
use Rattle.al_engine.specs.declared.graph.UnitGraph.{UnitGraph}
use Rattle.al_engine.specs.declared.orders.KnownOrder.{KnownOrder}
use Rattle.al_engine.specs.declared.planned.Planned.{Planned}
use Rattle.al_engine.specs.declared.planned.Planned.TheVariants.{Faulty, Unbound, Linkable, Renewed}

-- each of these is an order of elaboration for its main unit
abbrev pub AreElaborations : Library → List KnownOrder → Type 0
AreElaborations lib orders = (o : KnownOrder) → Contains orders o → IsElaboration lib o.main (map key_of o.order.items)

-- the order of a partition that is to be linked is one of elaboration
abbrev pub IsOrderOf : Library → List ℕ → Planned → Type 0
IsOrderOf lib main (Faulty diagnostics) = ⊤
IsOrderOf lib main (Unbound fault) = ⊤
IsOrderOf lib main (Linkable p) = IsElaboration lib main (map key_of p.order.items)
IsOrderOf lib main (Renewed r) = ⊤

-- what is kept of the last build's files: their names and sources, their graph, and orders of elaboration
abbrev pub Remembered : Type 0
Remembered = Texts × UnitGraph × List KnownOrder

-- the graph that is kept is that of the files of the last build, and the orders are orders of their elaboration
abbrev pub KeepsGraph : (Texts → Library) → Option Remembered → Type 0
KeepsGraph library remembered = IfSome remembered (λ k. IsGraphOf (library k.0) k.1 × AreElaborations (library k.0) k.2)
