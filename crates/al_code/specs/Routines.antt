-- The code of bodies, and of units (ARM 6.3, 9.1, 9.5, 10.2).
use Rattle.std.specs.Prelude.{ℕ, Bool, true, false, List, [], ◌∷◌, ◌++◌, Option, Some, None}
use Rattle.std.specs.List.{flat_map}
use Rattle.std.specs.Option.{option_map_or}
use Rattle.al_view.specs.ViewUses.{link}
use Rattle.al_view.specs.declared.link.LinkKind.TheVariants.{Code, Gate, EntryBody, Data}
use Rattle.al_view.specs.declared.link.LinkKind.TheVariants as links
use Rattle.al_view.specs.declared.symbol.Symbol.{Symbol}
use Rattle.al_view.specs.declared.view.Mode.{Mode}
use Rattle.al_view.specs.declared.view.Mode.TheVariants as mode
use Rattle.al_view.specs.declared.view.ObjectPlace.{ObjectPlace}
use Rattle.al_instr.specs.declared.instruction.Instr.TheVariants as instr
use Rattle.al_instr.specs.declared.numbers.Plain.TheVariants as plain
use Rattle.al_instr.specs.declared.numbers.Protected.{Protected as ProtectedOne}
use Rattle.al_instr.specs.declared.numbers.Protected.TheVariants as action
use Rattle.al_instr.specs.declared.numbers.Sized.TheVariants as sized
use Rattle.al_view_typed.specs.UnitTrees.{BodyTree, ElaborationTree, UnitTree}
use Rattle.al_view_typed.specs.StatementViews.{statements_of}
use Rattle.al_view_typed.specs.declared.unit.BodyKind.{BodyKind}
use Rattle.al_view_typed.specs.declared.unit.BodyKind.TheVariants as kinds
use Rattle.al_view_typed.specs.declared.unit.EntryOf.{EntryOf}
use Rattle.al_view_typed.specs.declared.unit.FormalWords.{FormalWords}
use Rattle.al_code.specs.declared.piece.Construct.TheVariants as construct
use Rattle.al_code.specs.Pieces.{Piece, closed}
use Rattle.al_code.specs.Pieces.Piece.{Using, Begins}
use Rattle.al_code.specs.ExprPieces.{guarded, of_size, one, place_code, slot}
use Rattle.al_code.specs.declared.routine.Routine.{Routine}
use Rattle.al_code.specs.Declarations.{declarations_code}
use Rattle.al_code.specs.Marks.{mark_of}
use Rattle.al_code.specs.Statements.{statements_code}

-- an action on a protected object
abbrev pub act_code : ProtectedOne → Symbol → List Piece
act_code what object = Using (instr.Protected what 0) (link links.Protected object) ∷ []

-- a formal parameter that is copied back (ARM 6.4.1(17))
abbrev pub mode_code : Mode → ℕ → ℕ → List Piece
mode_code mode.In word words = []
mode_code mode.Out word words = slot word ++ of_size sized.Load words
mode_code mode.InOut word words = slot word ++ of_size sized.Load words

unfoldable pub formal_code : FormalWords → List Piece
formal_code f = mode_code f.mode f.word f.words

-- a task says that its activation ends (ARM 9.2)
abbrev pub begun_code : Bool → List Piece
begun_code true = one plain.Begun
begun_code false = []

-- the statements, to whose end returns lead
unfoldable pub ending_code : Routine → ElaborationTree → List Piece
ending_code r e = closed construct.Routine (statements_code r (statements_of e.statements))

-- the frame, the declarations, the statements
unfoldable pub inside_code : Routine → Bool → ElaborationTree → List Piece
inside_code r is_task e = of_size sized.Enter e.frame ++ declarations_code r.depth e.declarations ++ begun_code is_task ++ ending_code r e

-- the body of an entry is called by a task that is inside of its object
unfoldable pub entry_call_code : Symbol → List Piece
entry_call_code entry = one plain.Root ++ Using (instr.Call 0 0) (link EntryBody entry) ∷ []

-- the value of a barrier
unfoldable pub barrier_code : ℕ → ObjectPlace → List Piece
barrier_code depth barrier = place_code Data depth barrier ++ of_size sized.Load 1

-- callers that wait at the entry are served if its barrier is open (ARM 9.5.3)
unfoldable pub served_code : ℕ → Symbol → Option EntryOf → List Piece
served_code depth object None = []
served_code depth object (Some e) =
    act_code action.Waiting object
    ++ guarded (barrier_code depth e.barrier ++ guarded (entry_call_code e.entry ++ act_code action.Wake object))

-- the gate of an entry: its body is called if the barrier is open, and else the caller waits
unfoldable pub gate_code : ℕ → Symbol → Symbol → ObjectPlace → List Piece
gate_code depth entry object barrier =
    act_code action.EnterEntry object ++ barrier_code depth barrier
    ++ guarded (entry_call_code entry ++ one plain.Leave ++ of_size sized.Return 0)
    ++ act_code action.Block object ++ of_size sized.Return 0

-- the code in a body whose returns leave no protected object, and in a protected function
abbrev pub within : ℕ → Routine
within depth = record { depth = depth; unlocks = false }

abbrev pub unlocking : ℕ → Routine
unlocking depth = record { depth = depth; unlocks = true }

unfoldable pub copied_code : List FormalWords → ℕ → List Piece
copied_code formals copied = flat_map formal_code formals ++ of_size sized.Return copied

-- ---- bodies by their kinds

unfoldable pub procedure_code : BodyTree → ℕ → List Piece
procedure_code b copied = Begins (link Code b.symbol) ∷ [] ++ mark_of true b.inside.line ++ inside_code (within b.depth) false b.inside ++ copied_code b.formals copied

-- a function that runs past its end raises Program_Error (ARM 6.5(20))
unfoldable pub function_code : BodyTree → ℕ → List Piece
function_code b end = Begins (link Code b.symbol) ∷ [] ++ mark_of true b.inside.line ++ inside_code (within b.depth) false b.inside ++ mark_of true end ++ of_size sized.Raise 2

unfoldable pub task_code : BodyTree → List Piece
task_code b = Begins (link Code b.symbol) ∷ [] ++ mark_of true b.inside.line ++ inside_code (within b.depth) true b.inside ++ one plain.Done

unfoldable pub protected_procedure_code : BodyTree → Symbol → Option EntryOf → ℕ → List Piece
protected_procedure_code b object entry copied =
    Begins (link Code b.symbol) ∷ [] ++ mark_of true b.inside.line ++ act_code action.Enter object ++ inside_code (within b.depth) false b.inside
    ++ served_code b.depth object entry ++ one plain.Leave ++ copied_code b.formals copied

unfoldable pub protected_function_code : BodyTree → Symbol → ℕ → List Piece
protected_function_code b object end =
    Begins (link Code b.symbol) ∷ [] ++ mark_of true b.inside.line ++ act_code action.Enter object ++ inside_code (unlocking b.depth) false b.inside ++ mark_of true end ++ of_size sized.Raise 2

unfoldable pub entry_code : BodyTree → Symbol → ObjectPlace → List Piece
entry_code b object barrier =
    Begins (link Gate b.symbol) ∷ [] ++ mark_of true b.inside.line ++ gate_code b.depth b.symbol object barrier
    ++ Begins (link EntryBody b.symbol) ∷ [] ++ mark_of true b.inside.line ++ inside_code (within b.depth) false b.inside ++ of_size sized.Return 0

abbrev pub kind_code : BodyTree → BodyKind → List Piece
kind_code b (kinds.Procedure copied) = procedure_code b copied
kind_code b (kinds.Function words end) = function_code b end
kind_code b kinds.Task = task_code b
kind_code b (kinds.ProtectedProcedure object entry copied) = protected_procedure_code b object entry copied
kind_code b (kinds.ProtectedFunction object words end) = protected_function_code b object end
kind_code b (kinds.Entry object barrier) = entry_code b object barrier

abbrev pub body_code : BodyTree → List Piece
body_code b = kind_code b b.kind

-- what is done when a unit is elaborated
unfoldable pub elaboration_code : ElaborationTree → List Piece
elaboration_code e = mark_of true e.line ++ inside_code (within 1) false e ++ of_size sized.Return 0

-- a unit: its elaboration, if it has one, and its bodies in the order of the source
unfoldable pub unit_code : UnitTree → List Piece
unit_code u = option_map_or elaboration_code u.elaboration [] ++ flat_map body_code u.bodies
