-- Contexts whose expression must be static (ARM 4.9).
use Rattle.std.specs.Prelude.{Bool, false, ◌==◌, ◌&&◌, if◌then◌else◌, List, Option, Some, None, Result, Ok, Err}
use Rattle.al_base.specs.declared.place.Place.{Place}
use Rattle.al_base_fault.specs.declared.check_rule.CheckRule.TheVariants.{NotStatic}
use Rattle.al_base_fault.specs.Faults.{fault_at}
use Rattle.al_base_fault.specs.Judging.{unless}
use Rattle.al_base_fault.specs.declared.fault.Fault.{Fault}
use Rattle.al_overload.specs.declared.context.Context.{Context}
use Rattle.al_overload.specs.Labelling.{Label}
use Rattle.al_overload.specs.Interpreting.{interpreted}
use Rattle.al_overload.specs.declared.everywhere.Predefined.{Predefined}
use Rattle.al_overload_nodes.specs.Contexts.{term_read}
use Rattle.al_overload_nodes.specs.declared.staticness.Staticness.{Staticness}
use Rattle.al_overload_nodes.specs.declared.staticness.Staticness.TheVariants.{Any, Static}
use Rattle.al_overload_nodes.specs.Nodes.{ReadingTree, checked}
use Rattle.al_overload.specs.Places.{first_place}
use Rattle.al_overload.specs.Terms.{TermTree}
use Rattle.al_static.specs.declared.knowledge.Known.{Known}
use Rattle.al_static.specs.declared.knowledge.Known.TheVariants.{Value, Fails, Open}
use Rattle.al_view.specs.declared.symbol.Symbol.{Symbol}
use Rattle.al_view.specs.declared.types.TypeView.{TypeView}
use Rattle.al_view_typed.specs.ExpressionTrees.{TypedTree}

-- E304 at the first token of what isn't static; what is static and has no value is E405
abbrev pub unless_static : Place → Known → Option Fault
unless_static place (Value v) = None
unless_static place (Fails at) = None
unless_static place (Open fault) = Some (fault_at place NotStatic)

-- what has an interpretation and begins there, with the first of the rules that it breaks, those of contexts inside it among them
abbrev pub checked_as : Staticness → Place → ReadingTree → Result TypedTree Fault
checked_as Any place r = checked r
checked_as Static place r = unless (unless_static place r.known) (checked r)

-- What was found in the prefixes of its attributes belongs to the context: a fault at its first token says that it has no interpretation, and then
-- E304 isn't looked for.
abbrev pub stands_there : Place → Option Fault → Bool
stands_there place None = false
stands_there place (Some f) = (f.place.line == place.line) && (f.place.col == place.col)

abbrev pub expected_after : Place → Option Fault → Staticness
expected_after place found = if stands_there place found then Any else Static

abbrev pub static_checked : TermTree → Option Fault → ReadingTree → Result Label Fault → Result TypedTree Fault
static_checked term found r (Ok label) = checked_as (expected_after (first_place term) found) (first_place term) r
static_checked term found r (Err fault) = Err fault

-- a context's term that must be static, given what was found in the prefixes of its attributes: E402 or E403 if it has no interpretation, or several;
-- else the first of E304 of the whole and the faults in it
abbrev pub static_term_checked : Predefined → Option Symbol → Context → List TypeView → Option Fault → TermTree → Result TypedTree Fault
static_term_checked p own context types found term = static_checked term found (term_read p own context None types term) (interpreted p context None term)
