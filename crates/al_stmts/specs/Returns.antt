-- Return statements (ARM 6.5).
use Rattle.std.specs.Prelude.{Bool, false, not, Option, Some, None, if◌then◌else◌}
use Rattle.al_base.specs.declared.place.Place.{Place}
use Rattle.al_base_fault.specs.declared.check_rule.CheckRule.TheVariants.{BadReturn, NoReturn}
use Rattle.al_base_fault.specs.Faults.{fault_at}
use Rattle.al_base_fault.specs.declared.fault.Fault.{Fault}
use Rattle.al_stmts.specs.declared.returns.EnclosingBody.{EnclosingBody}
use Rattle.al_stmts.specs.declared.returns.EnclosingBody.TheVariants.{Function, Procedure, Entry, Package, Task}

-- whether a return statement, with a value or without one, is allowed in the body: that of a function has a value, that of
-- a procedure or an entry has none, and in other bodies there is none (ARM 6.5(4, 5))
abbrev pub may_return : EnclosingBody → Bool → Bool
may_return Function has_value = has_value
may_return Procedure has_value = not has_value
may_return Entry has_value = not has_value
may_return Package has_value = false
may_return Task has_value = false

-- the fault at the word `return`
abbrev pub return_fault : Place → EnclosingBody → Bool → Option Fault
return_fault place body has_value = if may_return body has_value then None else Some (fault_at place BadReturn)

-- whether a body lacks a return statement: a function has one (ARM 6.5(4))
abbrev pub lacks_return : EnclosingBody → Bool → Bool
lacks_return Function has_return = not has_return
lacks_return _ has_return = false

-- the fault at the word `end` of the body
abbrev pub no_return_fault : Place → EnclosingBody → Bool → Option Fault
no_return_fault place body has_return = if lacks_return body has_return then Some (fault_at place NoReturn) else None
