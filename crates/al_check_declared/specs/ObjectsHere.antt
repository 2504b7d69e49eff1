-- Tasks and protected objects at the place that the check of a unit has reached (ARM 9.1, 9.4, 9.5.2), by a table of answers.
use Rattle.std.specs.Prelude.{ℕ, not, List, [], Option, None, Result, Ok, Err, is_some, if◌then◌else◌}
use Rattle.al_base_fault.specs.Judging.{unless}
use Rattle.al_base_fault.specs.declared.fault.Fault.{Fault}
use Rattle.al_check_here.specs.Faulty.{effect_list, effect_settled}
use Rattle.al_check_here.specs.Standings.{is_operation, with_here}
use Rattle.al_check_here.specs.declared.state.BodyRole.{BodyRole}
use Rattle.al_check_here.specs.declared.state.BodyRole.TheVariants as roles
use Rattle.al_check_here.specs.declared.state.CheckState.{CheckState}
use Rattle.al_check_declared.specs.OpenObjects.{barrier_fault_here, object_opened}
use Rattle.al_decl_completes.specs.CompletingFound.{completing_found}
use Rattle.al_decl_judged.specs.declared.specification.BodyHead.{BodyHead}
use Rattle.al_decl_judged.specs.declared.specification.BodyHead.TheVariants as heads
use Rattle.al_decl.specs.declared.env.Environment.{Environment}
use Rattle.al_decl_judged.specs.declared.names.DefiningName.{DefiningName}
use Rattle.al_decl.specs.Defining.{defined}
use Rattle.al_decl_judged.specs.Profiles.{specification_of}
use Rattle.al_decl_judged.specs.declared.heading.Heading.{Heading}
use Rattle.al_decl_protected.specs.Bodies.{Named, named_body}
use Rattle.al_decl_protected.specs.Objects.{protected_checked}
use Rattle.al_decl_protected.specs.Operations.{bare_head}
use Rattle.al_decl_protected.specs.Tasks.{task_checked}
use Rattle.al_decl.specs.Placing.{body_placed, has_right_marks, head_duplicate}
use Rattle.al_query.specs.Reads.{Table}
use Rattle.al_stmts.specs.Readings.{Read}
use Rattle.al_stmts.specs.Walking.{first_line}
use Rattle.al_tree_grammar.specs.Grammar.{Label}
use Rattle.al_tree_syntax.specs.DeclarationTrees.{ProtectedTree, SpecificationTree, TaskTree}
use Rattle.al_tree_syntax.specs.ExpressionTrees.{ExpressionTree}
use Rattle.al_tree_syntax.specs.StatementTrees.{OperationBodiesTree}
use Rattle.al_view.specs.declared.symbol.Symbol.{Symbol}
use Rattle.al_view.specs.declared.view.ViewKind.{ViewKind}
use Rattle.al_view.specs.declared.view.ViewKind.TheVariants.{OfProtected, OfSubprogram, OfTask}
use Rattle.al_view_typed.specs.DeclarationTrees.{DeclarationTree}
use Rattle.al_check_declared.specs.DeclarationsHere.{faulty_here, parts_here}
use Rattle.al_check_declared.specs.HeadsHere.{heading_here, nested_head, with_head}

-- ---- declarations

abbrev pub task_here : Table → CheckState → TaskTree → Read CheckState (List DeclarationTree)
task_here t h k = effect_settled h (task_checked (parts_here t h) t h.env k)

abbrev pub object_here : Table → CheckState → ℕ → ProtectedTree → Read CheckState (List DeclarationTree)
object_here t h line p = effect_settled h (protected_checked (parts_here t h) t h.env line p)

-- ---- heads of bodies that have only a name

-- the symbol of a body's code
abbrev pub view_symbol : CheckState → ViewKind → Symbol
view_symbol h (OfSubprogram s) = s.symbol
view_symbol h (OfTask k) = k.symbol
view_symbol h (OfProtected p) = p.symbol
view_symbol h _ = h.unit.own.symbol

abbrev pub named_settled : CheckState → BodyRole → DefiningName → Result Named Fault → Read CheckState (List DeclarationTree)
named_settled h role n (Ok x) = (with_head h x.0 role (bare_head n) (view_symbol h x.1.1), Ok [])
named_settled h role n (Err f) = faulty_here h f

abbrev pub named_at : Table → CheckState → DefiningName → BodyHead → Result Named Fault
named_at t h n head = named_body t h.env n.place.line n head

abbrev pub task_head : Table → CheckState → Label → Read CheckState (List DeclarationTree)
task_head t h l = named_settled h roles.Task (defined l) (named_at t h (defined l) heads.Task)

-- the head of an entry's body has its barrier after its name
abbrev pub entry_head : Table → CheckState → Label → ExpressionTree → Read CheckState (List DeclarationTree)
entry_head t h l barrier = named_settled h roles.Entry (defined l) (unless (barrier_fault_here h barrier) (named_at t h (defined l) heads.Entry))

-- ---- heads of the subprograms of a protected object: each completes a declaration of the object (ARM 9.4(10))

-- if a mark has an error, it isn't known which declaration the head completes, so it isn't reported that there is none
abbrev pub operation_at : Table → Environment → ℕ → Heading → Result (Environment × (Option DeclarationTree × Symbol)) Fault
operation_at t env line head =
    body_placed env line None head (completing_found env.uncompleted head.name (specification_of head) (not (has_right_marks head)) (is_some (head_duplicate t env head)))

-- only the object as a whole is elaborated
abbrev pub operation_settled : CheckState → Heading → Result (Environment × (Option DeclarationTree × Symbol)) Fault → Read CheckState (List DeclarationTree)
operation_settled h head (Ok x) = (with_head h x.0 roles.Operation head x.1.1, Ok [])
operation_settled h head (Err f) = faulty_here h f

abbrev pub operation_of : Table → CheckState → ℕ → Heading → Read CheckState (List DeclarationTree)
operation_of t h line head = operation_settled h head (operation_at t h.env line head)

abbrev pub operation_head : Table → CheckState → SpecificationTree → Read CheckState (List DeclarationTree)
operation_head t h s = operation_of t h (first_line s) (heading_here t h s)

-- the head of a subprogram's body that isn't the unit
abbrev pub inner_head : Table → CheckState → SpecificationTree → Read CheckState (List DeclarationTree)
inner_head t h s = if is_operation h then operation_head t h s else nested_head t h s

-- ---- protected bodies

abbrev pub object_settled : CheckState → OperationBodiesTree → Result Named Fault → Read CheckState (List DeclarationTree)
object_settled h os (Ok x) = (object_opened (with_here h x.0) x.1.1 os, Ok (effect_list x.1.0))
object_settled h os (Err f) = faulty_here h f

abbrev pub object_entered : Table → CheckState → ℕ → Label → OperationBodiesTree → Read CheckState (List DeclarationTree)
object_entered t h line l os = object_settled h os (named_body t h.env line (defined l) heads.Protected)
