-- The result of linking a partition.
use Rattle.std.specs.Prelude.{◌≡◌, ℕ, ⊤, Bool, true, false, List, map, slice_set, Option, Some, None}
use Rattle.al_base.specs.declared.unit_key.UnitKey.{UnitKey}
use Rattle.al_view.specs.declared.link.LinkSymbol.{LinkSymbol}
use Rattle.al_code_object.specs.Objects.{CompiledCode}
use Rattle.al_code_object.specs.declared.object.Object.TheVariants as left
use Rattle.al_link.specs.Relinking.{IsInPlace, LinkedImage, exchanged}
use Rattle.al_link.specs.Units.{AreWithin}
use Rattle.al_engine.specs.Objects.{IsLinkable, WithObject, linked_units}
use Rattle.al_engine.specs.ObjectsSeen.{object_model}
use Rattle.al_engine.specs.Patches.{ArePatched}
use Rattle.al_engine.specs.declared.compiled.Compiled.{Compiled}
use Rattle.al_engine.specs.declared.compiled.Compiled.TheVariants.{Faulty, Unbound, TooLarge, Made}
use Rattle.al_engine.specs.declared.compiled.Program.{Program}
use Rattle.al_engine.specs.declared.planned.Renewal.{Renewal}

-- the units can be linked, and this is their image
abbrev pub AreLinked : LinkSymbol → List WithObject → LinkedImage → Type 0
AreLinked symbol us linked = IsLinkable us × (linked.main ≡ symbol) × (linked.units ≡ linked_units us)

-- there is an image exactly if the units can be linked
abbrev pub IsLinkedAnew : LinkSymbol → List WithObject → Option LinkedImage → Type 0
IsLinkedAnew symbol us None = IsLinkable us → ⊥
IsLinkedAnew symbol us (Some linked) = AreLinked symbol us linked

-- there is an image exactly if the units can be linked, and it was written in the place of this one
abbrev pub IsLinkedAgain : LinkSymbol → List WithObject → LinkedImage → LinkedImage → Bool → Type 0
IsLinkedAgain symbol us old new false = IsLinkable us → ⊥
IsLinkedAgain symbol us old new true = AreLinked symbol us new × ArePatched old new new.patched

-- the program of these units with this order and their objects, or only the order
abbrev pub IsLinkedAs : LinkSymbol → List WithObject → List UnitKey → Compiled → Type 0
IsLinkedAs symbol us order (TooLarge kept) = (kept.items ≡ order) × (IsLinkable us → ⊥)
IsLinkedAs symbol us order (Made program) = (program.order.items ≡ order) × AreLinked symbol us program.linked × (map object_model program.objects.items ≡ us)
IsLinkedAs symbol us order other = ⊥

-- one unit's object was put in the place of the one before, which differs only in its code
pub record IsExchanged (symbol : LinkSymbol) (at : ℕ) (x : WithObject) (old new : LinkedImage) : Type 0 where
  pub code : CompiledCode
  pub has_code : x.1 ≡ left.Compiled code
  pub main_is : symbol ≡ old.main
  pub in_place : IsInPlace old.units at (record { key = x.0; object = code })
  pub is : new ≡ exchanged old at (record { key = x.0; object = code })
  pub within : AreWithin new.units

-- the image of a program is that of its objects
abbrev pub IsHeld : Program → Type 0
IsHeld program = IsLinkable (map object_model program.objects.items) × (program.linked.units ≡ linked_units (map object_model program.objects.items))

-- the program's units with their objects, one of which is replaced
abbrev pub units_renewed : Program → Renewal → List WithObject
units_renewed program r = slice_set (map object_model program.objects.items) r.at (object_model r.object)

-- the program of these units with the order of the program before, if there was one
abbrev pub IsLinkedOver : Renewal → Compiled → Compiled → Type 0
IsLinkedOver r (Faulty diagnostics) new = ⊤
IsLinkedOver r (Unbound fault) new = ⊤
IsLinkedOver r (TooLarge order) new = ⊤
IsLinkedOver r (Made program) new = IsHeld program → IsLinkedAs r.main (units_renewed program r) program.order.items new
