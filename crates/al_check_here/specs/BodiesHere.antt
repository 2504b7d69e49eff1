-- Bodies at the place that the check of a unit has reached (ARM 6.3, 6.5, 8.1, 9.1, 9.5.1, 9.5.2).
use Rattle.std.specs.Prelude.{ℕ, ◌-◌, List, [], ◌∷◌, ◌++◌, fold, Option, Some, None, Result, Ok, Err, if◌then◌else◌}
use Rattle.std.specs.List.{filter_map}
use Rattle.al_decl.specs.Regions.{outside_of, set_aside, subprogram_entered, taken_back, with_formals_declared}
use Rattle.al_decl.specs.declared.block.Outside.{Outside}
use Rattle.al_decl.specs.declared.subprogram_body.OuterFrame.{OuterFrame}
use Rattle.al_decl_judged.specs.TypeObjects.{is_input}
use Rattle.al_decl_judged.specs.Types.{words_of}
use Rattle.al_decl_judged.specs.WordCounts.{place_after}
use Rattle.al_decl.specs.declared.env.Environment.{Environment}
use Rattle.al_base_fault.specs.declared.fault.Fault.{Fault}
use Rattle.al_stmts.specs.declared.returns.EnclosingBody.{EnclosingBody}
use Rattle.al_stmts.specs.declared.returns.EnclosingBody.TheVariants as bodies
use Rattle.al_stmts.specs.declared.simple.ReturnContext.{ReturnContext}
use Rattle.al_decl_judged.specs.Frames.{entered, formal_words, left_body, new_formal}
use Rattle.al_decl_judged.specs.declared.frame.NewFormal.{NewFormal}
use Rattle.al_decl_judged.specs.declared.heading.Heading.{Heading}
use Rattle.al_decl_judged.specs.declared.heading.ReturnedPart.{ReturnedPart}
use Rattle.al_decl_judged.specs.declared.heading.ReturnedPart.TheVariants.{NoValue, Value}
use Rattle.al_stmts.specs.declared.extent.BodyExtent.{BodyExtent}
use Rattle.al_view_typed.specs.DeclarationTrees.{DeclarationTree}
use Rattle.al_view_typed.specs.StatementTrees.{StatementTree}
use Rattle.al_view_typed.specs.UnitTrees.{BodyTree, ElaborationTree}
use Rattle.al_view_typed.specs.declared.unit.BodyKind.{BodyKind}
use Rattle.al_view_typed.specs.declared.unit.BodyKind.TheVariants as kinds
use Rattle.al_view_typed.specs.declared.unit.EntryOf.{EntryOf}
use Rattle.al_view_typed.specs.declared.unit.FormalWords.{FormalWords}
use Rattle.al_view.specs.declared.symbol.Symbol.{Symbol}
use Rattle.al_view.specs.declared.view.SubtypeView.{SubtypeView}
use Rattle.al_check_here.specs.RegionsHere.{region_left}
use Rattle.al_check_here.specs.Stacks.{innermost, without_innermost}
use Rattle.al_check_here.specs.Standings.{is_whole, with_here, word_of}
use Rattle.al_check_here.specs.declared.state.AnalyzedHeading.{AnalyzedHeading}
use Rattle.al_check_here.specs.declared.state.BodyRole.{BodyRole}
use Rattle.al_check_here.specs.declared.state.BodyRole.TheVariants as roles
use Rattle.al_check_here.specs.declared.state.OpenBody.{OpenBody}
use Rattle.al_check_here.specs.declared.state.OpenObject.{OpenObject}
use Rattle.al_check_here.specs.declared.state.CheckState.{CheckState}

-- ---- the context of return statements in a body (ARM 6.5)

abbrev pub value_context : Result SubtypeView Fault → ReturnContext
value_context (Ok of) = record { body = bodies.Function; words = words_of of; bounds = of.subtype.bounds }
value_context (Err f) = record { body = bodies.Function; words = 0; bounds = None }

abbrev pub return_context : ReturnedPart → ReturnContext
return_context NoValue = record { body = bodies.Procedure; words = 0; bounds = None }
return_context (Value of) = value_context of

-- the context by the role of the body
abbrev pub role_context : BodyRole → ReturnedPart → ReturnContext
role_context roles.Subprogram returned = return_context returned
role_context roles.Task returned = record { body = bodies.Task; words = 0; bounds = None }
role_context roles.Operation returned = return_context returned
role_context roles.Entry returned = record { body = bodies.Entry; words = 0; bounds = None }

abbrev pub right_subtype : Result SubtypeView Fault → Option SubtypeView
right_subtype (Ok of) = Some of
right_subtype (Err f) = None

abbrev pub result_subtype : ReturnedPart → Option SubtypeView
result_subtype NoValue = None
result_subtype (Value of) = right_subtype of

-- in no body: the statements of a package
abbrev pub in_package : ReturnContext
in_package = record { body = bodies.Package; words = 0; bounds = None }

abbrev pub returns_of : Option OpenBody → ReturnContext
returns_of None = in_package
returns_of (Some b) = b.returns

abbrev pub returns_in : CheckState → ReturnContext
returns_in h = returns_of (innermost h.bodies)

-- ---- how a body is entered

abbrev pub right_formals : Heading → List NewFormal
right_formals head = filter_map new_formal head.formals

abbrev pub outer_frame : Environment → OuterFrame
outer_frame env = record { depth = env.progress.depth; word = env.progress.words.frame }

-- a body with this head and with formals in these words, with what is outside of it; its frame goes on at the place
abbrev pub open_of : CheckState → AnalyzedHeading → OuterFrame → Outside → List FormalWords → OpenBody
open_of h read outer outside formals = record {
  role = read.role;
  symbol = read.symbol;
  formals = formals;
  returns = role_context read.role read.heading.returned;
  result = result_subtype read.heading.returned;
  after = word_of h;
  outer = outer;
  outside = outside;
}

-- one more body encloses the place
abbrev pub with_body : CheckState → AnalyzedHeading → OuterFrame → Outside → List FormalWords → CheckState
with_body h read outer outside formals = record h {
  bodies = h.bodies ++ open_of h read outer outside formals ∷ [];
  pending = None;
}

-- the formals are declared at a place in a body's region and frame, which have just begun
abbrev pub body_opened : CheckState → AnalyzedHeading → OuterFrame → Outside → CheckState
body_opened h read outer outside =
    with_body (with_here h (with_formals_declared h.env (right_formals read.heading))) read outer outside
    (formal_words h.env.progress (right_formals read.heading))

-- a body in a region of its own
abbrev pub nested_entered : CheckState → AnalyzedHeading → CheckState
nested_entered h read = body_opened (with_here h (subprogram_entered h.env read.symbol)) read (outer_frame h.env) (outside_of h.env)

-- the body of a unit that is one subprogram, in the unit's own region
abbrev pub whole_entered : CheckState → AnalyzedHeading → CheckState
whole_entered h read =
    body_opened (with_here h (set_aside (record h.env { progress = entered h.env.progress }))) read (outer_frame h.env) (outside_of h.env)

-- ---- how a body is left

-- the region of a unit that is one subprogram stays
abbrev pub own_region_left : CheckState → CheckState
own_region_left h = with_here h (record h.env { scope = if is_whole h then h.env.scope else region_left h.env.scope })

abbrev pub left_to : Environment → OpenBody → Environment
left_to env b = taken_back (record env { progress = left_body b.outer.depth b.outer.word env.progress }) b.outside

-- the place after a body that has been taken from the state is left
abbrev pub left_open : CheckState → OpenBody → CheckState
left_open h b = with_here (own_region_left h) (left_to (own_region_left h).env b)

abbrev pub out_of_one : CheckState → Option OpenBody → CheckState
out_of_one h None = h
out_of_one h (Some b) = left_open (record h { bodies = without_innermost h.bodies }) b

-- if no body is open, nothing is left
abbrev pub out_of_body : CheckState → CheckState
out_of_body h = out_of_one h (innermost h.bodies)

-- ---- labelled bodies

-- the words that a procedure copies back: those of its formals of mode `out` and `in out` (ARM 6.4.1(17))
abbrev pub with_copied : ℕ → FormalWords → ℕ
with_copied words f = if is_input f.mode then words else place_after words f.words

abbrev pub copied_words : List FormalWords → ℕ
copied_words formals = fold with_copied 0 formals

-- the kind of a subprogram's body, by what it returns
abbrev pub subprogram_kind : EnclosingBody → ReturnContext → ℕ → ℕ → BodyKind
subprogram_kind bodies.Function returns copied end = kinds.Function returns.words end
subprogram_kind _ returns copied end = kinds.Procedure copied

-- the kind of the body of a protected subprogram, which may open the object's entry
abbrev pub operation_kind : OpenObject → EnclosingBody → ReturnContext → ℕ → ℕ → BodyKind
operation_kind object bodies.Function returns copied end = kinds.ProtectedFunction object.symbol returns.words end
operation_kind object _ returns copied end = kinds.ProtectedProcedure object.symbol object.entry copied

-- the kind of an entry's body, with its barrier
abbrev pub entry_kind : OpenObject → Option EntryOf → BodyKind
entry_kind object None = kinds.Procedure 0
entry_kind object (Some e) = kinds.Entry object.symbol e.barrier

-- if no object is open, an operation is a subprogram
abbrev pub operation_in : Option OpenObject → ReturnContext → ℕ → ℕ → BodyKind
operation_in None returns copied end = subprogram_kind returns.body returns copied end
operation_in (Some o) returns copied end = operation_kind o returns.body returns copied end

abbrev pub entry_in : Option OpenObject → BodyKind
entry_in None = kinds.Procedure 0
entry_in (Some o) = entry_kind o o.entry

abbrev pub kind_of : Option OpenObject → BodyRole → ReturnContext → ℕ → ℕ → BodyKind
kind_of object roles.Subprogram returns copied end = subprogram_kind returns.body returns copied end
kind_of object roles.Task returns copied end = kinds.Task
kind_of object roles.Operation returns copied end = operation_in object returns copied end
kind_of object roles.Entry returns copied end = entry_in object

-- how many words of the frame are taken after the formals
abbrev pub frame_words : CheckState → Option OpenBody → ℕ
frame_words h None = 0
frame_words h (Some b) = word_of h - b.after

-- if no body is open, a procedure with the unit's name without formals
abbrev pub symbol_in : CheckState → Option OpenBody → Symbol
symbol_in h None = h.unit.own.symbol
symbol_in h (Some b) = b.symbol

abbrev pub formals_in : Option OpenBody → List FormalWords
formals_in None = []
formals_in (Some b) = b.formals

abbrev pub kind_in : CheckState → ℕ → Option OpenBody → BodyKind
kind_in h end None = kinds.Procedure 0
kind_in h end (Some b) = kind_of h.object b.role b.returns (copied_words b.formals) end

-- a body with these contents, whose `end` is on that line
abbrev pub labelled_body : CheckState → ℕ → ElaborationTree → Option OpenBody → BodyTree
labelled_body h end inside body = record {
  symbol = symbol_in h body;
  kind = kind_in h end body;
  depth = h.env.progress.depth;
  formals = formals_in body;
  inside = inside;
}

-- the innermost body
abbrev pub labelled : CheckState → BodyExtent → List DeclarationTree → List StatementTree → BodyTree
labelled h extent declarations statements =
    labelled_body h extent.end.line (record { line = extent.line; frame = frame_words h (innermost h.bodies); declarations = declarations; statements = statements })
    (innermost h.bodies)
