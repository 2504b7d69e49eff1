-- How protected bodies are entered and left (ARM 9.4). The region of their operations has the form that the body of each of them sees.
use Rattle.std.specs.Prelude.{Bool, true, false, Option, Some, None, if◌then◌else◌}
use Rattle.al_base_fault.specs.declared.fault.Fault.{Fault}
use Rattle.al_check_here.specs.RegionsHere.{left_to, region_left}
use Rattle.al_check_here.specs.Standings.{with_here}
use Rattle.al_check_here.specs.declared.state.AnalyzedHeading.{AnalyzedHeading}
use Rattle.al_check_here.specs.declared.state.BodyRole.{BodyRole}
use Rattle.al_check_here.specs.declared.state.BodyRole.TheVariants as roles
use Rattle.al_check_here.specs.declared.state.CheckState.{CheckState}
use Rattle.al_check_here.specs.declared.state.OpenObject.{OpenObject}
use Rattle.al_decl.specs.Regions.{outside_of, set_aside}
use Rattle.al_decl.specs.declared.env.Environment.{Environment}
use Rattle.al_decl_judged.specs.Headings.{is_function}
use Rattle.al_decl_protected.specs.Bodies.{operations_waiting}
use Rattle.al_tree_syntax.specs.ExpressionTrees.{ExpressionTree}
use Rattle.al_tree_syntax.specs.StatementTrees.{OperationBodiesTree}
use Rattle.al_view.specs.declared.symbol.Symbol.{Symbol}
use Rattle.al_view.specs.declared.view.ProtectedView.{ProtectedView}
use Rattle.al_view.specs.declared.view.ViewKind.{ViewKind}
use Rattle.al_overload_readings.specs.Operations.{protected_of}
use Rattle.al_check_declared.specs.Barriers.{barrier_fault, entry_of}
use Rattle.al_check_declared.specs.ObjectRegions.{has_form, region_entered}

-- ---- a protected body

-- in an object, or in none; its operations may not be called there (ARM 9.5.1(7): none is called from its own bodies)
abbrev pub in_object : CheckState → Option OpenObject → Option Symbol → CheckState
in_object h object own = record h { unit = record h.unit { labeller = record h.unit.labeller { own = own } }; object = object }

abbrev pub object_at : CheckState → ViewKind → ProtectedView → OperationBodiesTree → OpenObject
object_at h view v os = record { symbol = v.symbol; view = view; entry = entry_of v os; outside = outside_of h.env }

-- its operations wait for their bodies
abbrev pub inside : Environment → ViewKind → ProtectedView → Environment
inside env view v = record (region_entered (set_aside env) v false) { uncompleted = operations_waiting view }

abbrev pub opened_object : CheckState → ViewKind → ProtectedView → OperationBodiesTree → CheckState
opened_object h view v os = in_object (with_here h (inside h.env view v)) (Some (object_at h view v os)) (Some v.symbol)

abbrev pub opened_by : CheckState → ViewKind → OperationBodiesTree → Option ProtectedView → CheckState
opened_by h view os None = h
opened_by h view os (Some v) = opened_object h view v os

-- by what its body completes: a body of something else than a protected object isn't entered
abbrev pub object_opened : CheckState → ViewKind → OperationBodiesTree → CheckState
object_opened h view os = opened_by h view os (protected_of view)

abbrev pub out_of_object : CheckState → Option OpenObject → CheckState
out_of_object h None = h
out_of_object h (Some o) = in_object (with_here h (left_to h.env o.outside)) None None

-- if no object is open, nothing is left
abbrev pub object_left : CheckState → CheckState
object_left h = out_of_object h h.object

-- ---- bodies of operations

abbrev pub is_of_object : BodyRole → Bool
is_of_object roles.Subprogram = false
is_of_object roles.Task = false
is_of_object roles.Operation = true
is_of_object roles.Entry = true

abbrev pub entered_anew : Environment → ProtectedView → Bool → Environment
entered_anew env v is_constant = region_entered (record env { scope = region_left env.scope }) v is_constant

-- a region that has the form already is as if it were entered anew
abbrev pub renewed_by : Environment → Bool → Option ProtectedView → Environment
renewed_by env is_constant None = env
renewed_by env is_constant (Some v) = if has_form is_constant v.components env.scope.regions then env else entered_anew env v is_constant

abbrev pub renewed_in : CheckState → Bool → Option OpenObject → CheckState
renewed_in h is_constant None = h
renewed_in h is_constant (Some o) = with_here h (renewed_by h.env is_constant (protected_of o.view))

-- the region before the body of an operation: in that of a function the components are constants
abbrev pub renewed : CheckState → AnalyzedHeading → CheckState
renewed h read = renewed_in h (is_function read.heading.returned) h.object

-- ---- the barrier of an entry's body

abbrev pub fault_by : Option ProtectedView → ExpressionTree → Option Fault
fault_by None e = None
fault_by (Some v) e = barrier_fault v e

abbrev pub fault_in : Option OpenObject → ExpressionTree → Option Fault
fault_in None e = None
fault_in (Some o) e = fault_by (protected_of o.view) e

abbrev pub barrier_fault_here : CheckState → ExpressionTree → Option Fault
barrier_fault_here h e = fault_in h.object e
