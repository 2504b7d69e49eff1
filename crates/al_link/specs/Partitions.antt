-- The results of compilations, and whether they can be linked.
use Rattle.std.specs.Prelude.{◌≡◌, Bool, true, false, List, [], ◌∷◌}
use Rattle.std.specs.List.{flat_map, list_any}
use Rattle.al_base.specs.declared.unit_key.UnitKey.{UnitKey}
use Rattle.al_code_object.specs.declared.object.Object.{Object}
use Rattle.al_code_object.specs.declared.object.Object.TheVariants as left
use Rattle.al_link_image.specs.declared.fault.LinkFault.{LinkFault}
use Rattle.al_link_image.specs.declared.fault.LinkFault.TheVariants as faults
use Rattle.al_link.specs.Units.{AreWithin, UnitObject}
use Rattle.al_link.specs.declared.linking.CompiledUnit.{CompiledUnit}

-- the unit's code is longer than that of any image
abbrev pub is_large : Object → Bool
is_large left.Large = true
is_large (left.Compiled o) = false

abbrev pub some_large : List CompiledUnit → Bool
some_large us = list_any (λ u. is_large u.object.now) us

-- a unit with its object, if it has one
abbrev pub with_object : UnitKey → Object → List UnitObject
with_object key left.Large = []
with_object key (left.Compiled o) = record { key = key; object = o } ∷ []

abbrev pub compiled_units : List CompiledUnit → List UnitObject
compiled_units us = flat_map (λ u. with_object u.key.now u.object.now) us

-- each unit has an object, and no limit of images is passed
pub record AreLinkable (us : List CompiledUnit) : Type 0 where
  pub none_large : some_large us ≡ false
  pub within : AreWithin (compiled_units us)

-- why there is no image
abbrev pub IsFaultOf : List CompiledUnit → LinkFault → Type 0
IsFaultOf us faults.TooLarge = AreLinkable us → ⊥
IsFaultOf us faults.Damaged = ⊥
IsFaultOf us faults.NoMemory = Unit {0}

-- why the objects aren't all there
abbrev pub IsLargeOf : List CompiledUnit → LinkFault → Type 0
IsLargeOf us faults.TooLarge = some_large us ≡ true
IsLargeOf us faults.Damaged = ⊥
IsLargeOf us faults.NoMemory = Unit {0}
