use Rattle.std.proofs.Common.{◌≡◌, take}
use Rattle.al_decl_judged.specs.Objects.{objects_of, places_of, with_objects}
use Rattle.al_decl_judged.proofs.object.place_objects.Given as goal

-- the objects so far have their words and places
abbrev pub invariant-loop-object : goal.invariant-loop-object
invariant-loop-object l =
    (l.progress ≡ with_objects l.fn.progress (take l.object-index l.objects))
    × (l.placed.declarations ≡ objects_of l.fn.progress l.is_constant l.value (take l.object-index l.objects))
    × (l.placed.places ≡ places_of l.fn.progress (take l.object-index l.objects))
