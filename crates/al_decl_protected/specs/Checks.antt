-- What is left after operations or components that are right; after a fault nothing follows. What is round a region is unchanged meanwhile.
use Rattle.std.specs.Prelude.{◌≡◌, List, [], ◌∷◌, ◌++◌, Result, Ok, Err}
use Rattle.al_base_fault.specs.declared.fault.Fault.{Fault}
use Rattle.al_decl.specs.declared.env.Environment.{Environment}
use Rattle.al_decl_judged.specs.declared.progress.Progress.{Progress}
use Rattle.al_scope.specs.Places.{Place}
use Rattle.al_scope.specs.declared.region.Region.{Region}
use Rattle.al_view.specs.declared.view.Operation.{Operation}
use Rattle.al_decl_protected.specs.Components.{PrivateTree, private_model}
use Rattle.al_decl_protected.specs.Objects.{Inside, InsideTree}
use Rattle.al_decl_protected.specs.Operations.{Declared}
use Rattle.al_decl_protected.specs.declared.object.ObjectParts.{ObjectParts}

abbrev pub listed : Environment → List Operation → Result (Unit {0}) Fault → Result Declared Fault
listed h operations (Ok u) = Ok (h, operations)
listed h operations (Err f) = Err f

abbrev pub so_far : PrivateTree → Result (Unit {0}) Fault → Result PrivateTree Fault
so_far c (Ok u) = Ok c
so_far c (Err f) = Err f

abbrev pub parts_model : ObjectParts → InsideTree
parts_model p = record { operations = p.operations; private_part = private_model p.components }

abbrev pub left_inside : Progress → InsideTree → Result (Unit {0}) Fault → Result Inside Fault
left_inside p i (Ok u) = Ok (p, i)
left_inside p i (Err f) = Err f

-- a place in a region of these outer ones
abbrev pub IsInner : List Region → Place → Place → Type 0
IsInner outer start place = (place.mentioned ≡ start.mentioned) × ((r : Region) × (place.regions ≡ outer ++ r ∷ []))

-- the regions round the innermost one stay
abbrev pub StaysInner : Place → Place → Type 0
StaysInner before after = (outer : List Region) (start : Place) → IsInner outer start before → IsInner outer start after
