-- Rules that are broken, and the first of them: by line, column and number.
use Rattle.std.specs.Prelude.{Bool, ◌&&◌, ◌||◌, ◌==◌, nat_lt, Option, Some, None, if◌then◌else◌}
use Rattle.al_base.specs.declared.place.Place.{Place}
use Rattle.al_base_fault.specs.CheckRules.{ranks_before}
use Rattle.al_base_fault.specs.declared.check_rule.CheckRule.{CheckRule}
use Rattle.al_base_fault.specs.declared.fault.Fault.{Fault}

abbrev pub fault_at : Place → CheckRule → Fault
fault_at place rule = record { place = place; rule = rule }

abbrev pub is_before : Fault → Fault → Bool
is_before f g =
    nat_lt f.place.line g.place.line
    || ((f.place.line == g.place.line) && (nat_lt f.place.col g.place.col
    || ((f.place.col == g.place.col) && ranks_before f.rule g.rule)))

-- the first of two
abbrev pub first : Fault → Fault → Fault
first f g = if is_before g f then g else f

-- the first of two that may be there
abbrev pub earlier : Option Fault → Option Fault → Option Fault
earlier None g = g
earlier (Some f) None = Some f
earlier (Some f) (Some g) = Some (first f g)
