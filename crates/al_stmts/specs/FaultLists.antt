-- What is wrong with a piece of a text: what its statements break, and the declaration that ends the list.
use Rattle.std.specs.Prelude.{Bool, false, ◌&&◌, ◌||◌, ◌==◌, nat_lt, List, [], ◌∷◌, ◌++◌, Option, Some, None, if◌then◌else◌}
use Rattle.std.specs.Option.{option_to_list}
use Rattle.al_base.specs.declared.place.Place.{Place}
use Rattle.al_base_fault.specs.declared.fault.Fault.{Fault}
use Rattle.al_stmts.specs.declared.fault_list.FaultList.{FaultList}

abbrev pub no_fault : FaultList
no_fault = record { faults = []; end = None }

-- a statement's fault, or the lack of one; it ends no list
abbrev pub of_statement : Option Fault → FaultList
of_statement fault = record { faults = option_to_list fault; end = None }

-- a declaration's fault, or the lack of one; it ends the list
abbrev pub of_declaration : Option Fault → FaultList
of_declaration fault = record { faults = []; end = fault }

-- what is wrong with a text and then with what comes after it: nothing after a faulty declaration is looked at
abbrev pub followed : FaultList → FaultList → FaultList
followed a b = after a.end
  where
    after : Option Fault → FaultList
    after (Some f) = a
    after None = record { faults = a.faults ++ b.faults; end = b.end }

-- whether one place comes after another one
abbrev pub is_after : Place → Place → Bool
is_after p q = nat_lt q.line p.line || ((p.line == q.line) && nat_lt q.col p.col)

-- whether a fault comes after the end of a list
abbrev pub is_cut : Fault → Option Fault → Bool
is_cut f None = false
is_cut f (Some last) = is_after f.place last.place

-- a statement's own fault, and what is wrong with what is inside it. The own one may be at a word after all that, and is
-- then cut off if a faulty declaration ends the list before.
abbrev pub round : Option Fault → FaultList → FaultList
round None inner = inner
round (Some f) inner = if is_cut f inner.end then inner else record { faults = f ∷ inner.faults; end = inner.end }

-- all faults of the list
abbrev pub all_faults : FaultList → List Fault
all_faults list = list.faults ++ option_to_list list.end
