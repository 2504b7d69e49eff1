-- The result of compiling before anything is linked.
use Rattle.std.specs.Prelude.{ℕ, ◌≡◌, ◌<◌, false, ⊤, List, [], length, map, Option}
use Rattle.std.specs.List.{list_any}
use Rattle.al_base.specs.Batch.{finding_of, key_of}
use Rattle.al_base.specs.declared.unit_key.UnitKey.{UnitKey}
use Rattle.al_unit_graph.specs.Headers.{Library}
use Rattle.al_bind.specs.Binding.{IsBindFault}
use Rattle.al_view.specs.declared.link.LinkSymbol.{LinkSymbol}
use Rattle.al_link.specs.Closed.{AreClosed}
use Rattle.al_link.specs.Partitions.{is_large}
use Rattle.al_query_outcome.specs.Results.{Outcome}
use Rattle.al_engine_refresh.specs.Found.{findings_of}
use Rattle.al_engine.specs.Links.{IsHeld, units_renewed}
use Rattle.al_engine.specs.Objects.{WithObject, linked_units}
use Rattle.al_engine.specs.ObjectsSeen.{object_model}
use Rattle.al_engine.specs.Partitions.{IsPartition}
use Rattle.al_engine.specs.declared.compiled.Compiled.{Compiled}
use Rattle.al_engine.specs.declared.compiled.Compiled.TheVariants as compiled
use Rattle.al_engine.specs.declared.planned.Planned.{Planned}
use Rattle.al_engine.specs.declared.planned.Planned.TheVariants.{Faulty, Unbound, Linkable, Renewed}
use Rattle.al_engine.specs.declared.planned.Renewal.{Renewal}

-- a plan to link with the order of the program before and its objects except for one, if the image of that program is that of its
-- objects
abbrev pub IsRenewal : Library → (UnitKey → Option Outcome) → List ℕ → Compiled → Renewal → Type 0
IsRenewal lib f main (compiled.Faulty diagnostics) r = ⊥
IsRenewal lib f main (compiled.Unbound fault) r = ⊥
IsRenewal lib f main (compiled.TooLarge order) r = ⊥
IsRenewal lib f main (compiled.Made program) r = IsPartition lib f main (map key_of program.order.items) r.main (units_renewed program r) × IsHeld program

-- the errors in the files; without errors, why there is no order of elaboration; or else what is to be linked, with its own order
-- or that of the program before
abbrev pub IsPlanned : Library → (UnitKey → Option Outcome) → List ℕ → Compiled → Planned → Type 0
IsPlanned lib f main before (Faulty diagnostics) = (map finding_of diagnostics.items ≡ findings_of lib f) × (0 < length diagnostics.items)
IsPlanned lib f main before (Unbound fault) = (findings_of lib f ≡ []) × IsBindFault lib main fault
IsPlanned lib f main before (Linkable p) = (findings_of lib f ≡ []) × IsPartition lib f main (map key_of p.order.items) p.main (map object_model p.objects.items)
IsPlanned lib f main before (Renewed r) = (findings_of lib f ≡ []) × IsRenewal lib f main before r

-- these units define the main subprogram's code and all that their code uses, if each of them has an object
abbrev pub AreClosedObjects : LinkSymbol → List WithObject → Type 0
AreClosedObjects symbol us = list_any (λ u. is_large u.1) us ≡ false → AreClosed symbol (linked_units us)

-- so do the units of the program before, of which one is replaced
abbrev pub IsClosedRenewal : Compiled → Renewal → Type 0
IsClosedRenewal (compiled.Faulty diagnostics) r = ⊤
IsClosedRenewal (compiled.Unbound fault) r = ⊤
IsClosedRenewal (compiled.TooLarge order) r = ⊤
IsClosedRenewal (compiled.Made program) r = AreClosedObjects r.main (units_renewed program r)

-- so do the units of a plan, whatever compiling gave before
abbrev pub IsClosedPlan : Compiled → Planned → Type 0
IsClosedPlan before (Faulty diagnostics) = ⊤
IsClosedPlan before (Unbound fault) = ⊤
IsClosedPlan before (Linkable p) = AreClosedObjects p.main (map object_model p.objects.items)
IsClosedPlan before (Renewed r) = IsClosedRenewal before r
