-- Statements without statements inside them, by their judged parts.
use Rattle.std.specs.Prelude.{ℕ, Bool, true, false, not, List, Option, Some, None, Result, Ok, Err, if◌then◌else◌}
use Rattle.al_base.specs.declared.place.Place.{Place}
use Rattle.al_base_fault.specs.declared.check_rule.CheckRule.TheVariants.{NotAVariable}
use Rattle.al_view.specs.declared.types.Bounds.{Bounds}
use Rattle.al_base_fault.specs.Faults.{fault_at}
use Rattle.al_base_fault.specs.Judging.{both, next, unless}
use Rattle.al_base_fault.specs.declared.fault.Fault.{Fault}
use Rattle.al_stmts.specs.Exits.{EnclosingLoops, exit_checked}
use Rattle.al_stmts.specs.Returns.{return_fault}
use Rattle.al_view_typed.specs.ExpressionTrees.{CallTree, NameTree, TypedTree}
use Rattle.al_view_typed.specs.ExpressionTrees.{NameTree as names, TypedTree as typed, ValueTree as values}
use Rattle.al_view_typed.specs.ExpressionViews.{name_model}
use Rattle.al_view_typed.specs.FormNames.{name_in}
use Rattle.al_view_typed.specs.StatementTrees.{PieceTree, StatementTree}
use Rattle.al_view_typed.specs.StatementTrees.{StatementFormTree as statements, StatementTree as numbered}
use Rattle.al_view_typed.specs.declared.label.Labels.{Labels}
use Rattle.al_stmts.specs.declared.simple.ReturnContext.{ReturnContext}
use Rattle.al_stmts.specs.declared.target.Target.{Target}

-- a variable that is assigned to: its words, and the range of its nominal subtype if that is scalar
pub record TargetTree : Type 0 where
  pub name : NameTree
  pub words : ℕ
  pub bounds : Option Bounds

abbrev pub target_model : Target → TargetTree
target_model t = record { name = name_model t.name; words = t.words; bounds = t.bounds }

-- whether a name denotes a variable: an object that is no constant, or a part of one (ARM 3.3(13))
abbrev pub is_variable : NameTree → Bool
is_variable (names.ObjectName place is_constant) = not is_constant
is_variable (names.ComponentName whole offset) = is_variable whole
is_variable (names.IndexedName array index bounds words) = is_variable array

-- a name as the target of an assignment, or the fault at its first token that it is no variable (ARM 5.2(5))
abbrev pub target_named : Labels → Option NameTree → Result TargetTree Fault
target_named labels None = Err (fault_at labels.place NotAVariable)
target_named labels (Some name) =
    if is_variable name then Ok (record { name = name; words = labels.words; bounds = labels.bounds }) else Err (fault_at labels.place NotAVariable)

abbrev pub target_of : TypedTree → Result TargetTree Fault
target_of (typed.Labelled labels form) = target_named labels (name_in form)

-- target := value; the value is checked against the range of the target (ARM 5.2(11))
abbrev pub assigned : ℕ → TargetTree → Result TypedTree Fault → Result StatementTree Fault
assigned line target value =
    next value (λ v. Ok (numbered.Numbered line (statements.AssignmentStatement target.name target.words (values.Checked v target.bounds))))

-- a call of a procedure or an entry (ARM 6.4, 9.5.3)
abbrev pub called : ℕ → Result CallTree Fault → Result StatementTree Fault
called line call = next call (λ c. Ok (numbered.Numbered line (statements.CallStatement c)))

-- Put and Put_Line (ARM A.10.7); New_Line puts nothing and ends the line (ARM A.10.5)
abbrev pub put : ℕ → Result (List PieceTree) Fault → Bool → Result StatementTree Fault
put line pieces ends_line = next pieces (λ ps. Ok (numbered.Numbered line (statements.PutStatement ps ends_line)))

-- delay until moment; (ARM 9.6)
abbrev pub delayed : ℕ → Result TypedTree Fault → Result StatementTree Fault
delayed line moment = next moment (λ m. Ok (numbered.Numbered line (statements.DelayStatement m)))

-- return value; the value is checked against the range of the function's result (ARM 6.5(6))
abbrev pub value_returned : ℕ → ReturnContext → Result TypedTree Fault → Result StatementTree Fault
value_returned line context value =
    next value (λ v. Ok (numbered.Numbered line (statements.ReturnStatement (Some (values.Checked v context.bounds)) context.words)))

-- a return statement, by the innermost body round it: one that isn't allowed there is reported at its first word, before its value
abbrev pub returned : Place → ReturnContext → Option (Result TypedTree Fault) → Result StatementTree Fault
returned place context None =
    unless (return_fault place context.body false) (Ok (numbered.Numbered place.line (statements.ReturnStatement None 0)))
returned place context (Some value) = unless (return_fault place context.body true) (value_returned place.line context value)

-- what may be left out
abbrev pub maybe_checked : {A : Type 0} → Option (Result A Fault) → Result (Option A) Fault
maybe_checked None = Ok None
maybe_checked (Some (Ok a)) = Ok (Some a)
maybe_checked (Some (Err f)) = Err f

-- exit [name] [when condition]; (ARM 5.7)
abbrev pub exited : Place → EnclosingLoops → Option (List ℕ) → Option (Result TypedTree Fault) → Result StatementTree Fault
exited place loops name condition =
    next (both (exit_checked place loops name) (maybe_checked condition)) (λ p. Ok (numbered.Numbered place.line (statements.ExitStatement p.0 p.1)))
