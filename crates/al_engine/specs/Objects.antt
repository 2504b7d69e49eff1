-- The objects of a library's units, as they are linked.
use Rattle.std.specs.Prelude.{ℕ, ◌≡◌, Bool, true, false, ◌&&◌, nat_lt, nat_le, List, [], ◌∷◌, length, Option, Some, None}
use Rattle.std.specs.List.{flat_map, list_all, list_any}
use Rattle.al_base.specs.declared.unit_key.UnitKey.{UnitKey}
use Rattle.al_code_object.specs.declared.object.Object.{Object}
use Rattle.al_code.specs.ObjectOf.{object_of}
use Rattle.al_link.specs.Partitions.{is_large, with_object}
use Rattle.al_link.specs.Units.{AreWithin, UnitObject}
use Rattle.al_link_image.specs.Images.{is_name_byte}
use Rattle.al_query_outcome.specs.ReadsLaw.{HasCode}
use Rattle.al_query_outcome.specs.Results.{Outcome, Faulty, Sound}
use Rattle.al_engine_refresh.specs.Stored.{Stored, outcome_of}

-- a unit with the object that its labelled tree is compiled to
abbrev pub WithObject : Type 0
WithObject = UnitKey × Object

-- a unit in which no error was found has an object
abbrev pub objects_of : UnitKey → Option Outcome → List WithObject
objects_of u None = []
objects_of u (Some (Faulty faults)) = []
objects_of u (Some (Sound interface tree)) = (u, object_of tree) ∷ []

-- the objects of these units, if they have these outcomes
abbrev pub objects_at : (UnitKey → Option Outcome) → List UnitKey → List WithObject
objects_at f units = flat_map (λ u. objects_of u (f u)) units

abbrev pub linked_units : List WithObject → List UnitObject
linked_units us = flat_map (λ u. with_object u.0 u.1) us

-- whether an image can have this name: 1 to 255 bytes, which are letters in lower case, digits, underlines and dots
abbrev pub is_unit_name : List ℕ → Bool
is_unit_name name = nat_lt 0 (length name) && (nat_le (length name) 255 && list_all is_name_byte name)

-- an image can have the names of the units, each of them has an object, and no limit of images is passed
pub record IsLinkable (us : List WithObject) : Type 0 where
  pub named : list_all (λ u. is_unit_name u.0.name) us ≡ true
  pub none_large : list_any (λ u. is_large u.1) us ≡ false
  pub within : AreWithin (linked_units us)

-- code can be made from the labelled tree of each entry
abbrev pub AreCoded : (UnitKey → Option Stored) → Type 0
AreCoded at = (u : UnitKey) (e : Stored) → at u ≡ Some e → HasCode u (outcome_of e)
