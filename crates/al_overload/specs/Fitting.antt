-- When what a declaration gives is what is expected (ARM 8.6).
use Rattle.std.specs.Prelude.{Bool, true, false}
use Rattle.al_view.specs.Symbols.{same_symbol}
use Rattle.al_overload.specs.declared.types.Class.{Class}
use Rattle.al_overload.specs.declared.types.Class.TheVariants as class
use Rattle.al_overload.specs.declared.types.Given.{Given}
use Rattle.al_overload.specs.declared.types.Given.TheVariants as g
use Rattle.al_overload.specs.declared.types.Expected.{Expected}
use Rattle.al_overload.specs.declared.types.Expected.TheVariants as w

abbrev pub is_integer : Class → Bool
is_integer class.Integer = true
is_integer class.Enumeration = false
is_integer class.Other = false

abbrev pub is_discrete : Class → Bool
is_discrete class.Integer = true
is_discrete class.Enumeration = true
is_discrete class.Other = false

-- A type is its symbol. Numbers alone are of each integer type.
abbrev pub fits : Given → Expected → Bool
fits g.Nothing w.Nothing = true
fits (g.Value s) (w.Value t) = same_symbol s.symbol t.symbol
fits (g.Value s) w.AnyInteger = is_integer s.class
fits (g.Value s) w.AnyDiscrete = is_discrete s.class
fits (g.Value s) w.AnyValue = true
fits g.Universal (w.Value t) = is_integer t.class
fits g.Universal w.AnyInteger = true
fits g.Universal w.AnyDiscrete = true
fits g.Universal w.AnyValue = true
fits g.Text w.Text = true
fits given expected = false
