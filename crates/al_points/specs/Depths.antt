-- What is inside an expression is less deep.
use Rattle.std.specs.Prelude.{◌<◌}
use Rattle.al_view_typed.specs.declared.expression.Typed.{Typed, size-Typed}

abbrev pub IsBelow : Typed → Typed → Type 0
IsBelow whole part = size-Typed part < size-Typed whole
