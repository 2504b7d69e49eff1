-- A unit of the program with its object, as the definitions see it.
use Rattle.std.specs.declared.rc.Rc.{Rc}
use Rattle.al_link.specs.declared.linking.CompiledUnit.{CompiledUnit}
use Rattle.al_engine.specs.Objects.{WithObject}
use Rattle.al_engine.specs.declared.objects.UnitObject.{UnitObject}

abbrev pub object_model : {W : Type 0} → Rc UnitObject W → WithObject
object_model u = (u.value.key, u.value.object)

-- a unit with its object, in the form that the linker takes
abbrev pub left_model : CompiledUnit → WithObject
left_model u = (u.key.now, u.object.now)
