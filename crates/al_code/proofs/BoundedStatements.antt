-- The jumps of declarations, statements and bodies.
use Rattle.std.proofs.Common.{ℕ, zero, suc, pos, Bool, true, false, List, [], ◌∷◌, Option, Some, None, refl}
use Rattle.std.specs.List.{flat_map}
use Rattle.al_view.specs.declared.link.LinkKind.TheVariants.{Flag, Data}
use Rattle.al_view.specs.declared.symbol.Symbol.{Symbol}
use Rattle.al_view.specs.declared.types.Bounds.{Bounds}
use Rattle.al_view.specs.declared.view.Mode.{Mode}
use Rattle.al_view.specs.declared.view.Mode.TheVariants as mode
use Rattle.al_view.specs.declared.view.ObjectPlace.{ObjectPlace}
use Rattle.al_view.specs.declared.view.ObjectPlace.TheVariants as places
use Rattle.al_instr.specs.declared.numbers.Plain.{Plain as PlainOne}
use Rattle.al_view_typed.specs.DeclarationTrees.{ComponentValueTree, DeclarationTree, DeclarationFormTree, Objects, Subprogram, Elaborated, SingleTask, SingleProtected}
use Rattle.al_view_typed.specs.ExpressionTrees.{TypedTree, ValueTree}
use Rattle.al_view_typed.specs.StatementTrees.{PieceTree, SchemeTree, StatementTree, StatementsTree, StatementFormTree, BranchTree, BranchesTree, AlternativeTree, AlternativesTree}
use Rattle.al_view_typed.specs.StatementTrees.PieceTree.{TextPiece, IntegerImage, EnumerationImage}
use Rattle.al_view_typed.specs.StatementTrees.SchemeTree.{ForeverScheme, WhileScheme, ForScheme}
use Rattle.al_view_typed.specs.StatementTrees.StatementTree.{Numbered}
use Rattle.al_view_typed.specs.StatementTrees.StatementsTree.{NoStatement, MoreStatements}
use Rattle.al_view_typed.specs.StatementTrees.StatementFormTree.{NullStatement, AssignmentStatement, CallStatement, PutStatement, ReturnStatement, ExitStatement, DelayStatement, IfStatement, CaseStatement, LoopStatement, BlockStatement}
use Rattle.al_view_typed.specs.StatementTrees.BranchTree.{Branch}
use Rattle.al_view_typed.specs.StatementTrees.BranchesTree.{NoBranch, MoreBranches}
use Rattle.al_view_typed.specs.StatementTrees.AlternativeTree.{Alternative}
use Rattle.al_view_typed.specs.StatementTrees.AlternativesTree.{NoAlternative, MoreAlternatives}
use Rattle.al_view_typed.specs.StatementViews.{statements_of}
use Rattle.al_view_typed.specs.UnitTrees.{ElaborationTree}
use Rattle.al_view_typed.specs.declared.unit.EntryOf.{EntryOf}
use Rattle.al_view_typed.specs.declared.unit.FormalWords.{FormalWords}
use Rattle.al_code.specs.declared.piece.Construct.TheVariants as construct
use Rattle.al_code.specs.Pieces.{Piece}
use Rattle.al_code.specs.declared.routine.Routine.{Routine}
use Rattle.al_code.specs.Declarations.{object_code, subprogram_code, elaborated_code, component_code, declaration_code, declaration_form_code, seed_code, declarations_code}
use Rattle.al_code.specs.Images.{dropped_code, image_code, images, line_code, piece_code, pieces_code, emit_code}
use Rattle.al_code.specs.Loops.{bounds_code, compare_code, high_word, leave_code, low_word, mark_check, marked_code, round_code, step_operator, turn_code}
use Rattle.al_code.specs.Routines.{barrier_code, begun_code, copied_code, ending_code, entry_call_code, formal_code, gate_code, inside_code, mode_code, served_code}
use Rattle.al_code.specs.Statements.{alternative_code, alternatives_code, branch_code, branches_code, choice_code, choices_code, other_choice_code, others_code, return_code, statement_code, statement_form_code, statements_code, unlocked_code}
use Rattle.al_code.specs.Marks.{declaration_has_code, has_code, mark_of}
use Rattle.al_code.proofs.Bounds.{Bounded, Inner, line_here, nothing, whole, using_one, waiting, then, last, ending, end_of, around}
use Rattle.al_code.proofs.BoundedExpressions.{address_bounded, call_bounded, check_bounded, checked_bounded, guarded_bounded, join_bounded, load_bounded, number_bounded, one_bounded, place_bounded, slot_bounded, store_bounded, value_bounded}

-- a list of codes one after the other
each_bounded : {A : Type 0} (f : A → List Piece) → ((x : A) → Bounded (f x)) → (xs : List A) → Bounded (flat_map f xs)
each_bounded f h [] = nothing
each_bounded f h (x ∷ xs) = then (h x) (each_bounded f h xs)

pub mark_bounded : (b : Bool) (line : ℕ) → Bounded (mark_of b line)
unfolding mark_of
mark_bounded true line = line_here
mark_bounded false line = nothing

-- ---- declarations

object_bounded : (depth words : ℕ) (value : Option ValueTree) (place : ObjectPlace) → Bounded (object_code depth words value place)
object_bounded depth words (Some value) place = then (then (checked_bounded depth value) (place_bounded Data depth place)) (whole refl)
object_bounded depth words None place = then (place_bounded Data depth place) (whole refl)

subprogram_bounded : (depth : ℕ) (flag : ObjectPlace) → Bounded (subprogram_code depth flag)
unfolding subprogram_code
subprogram_bounded depth (places.Frame d word) = then (place_bounded Flag depth (places.Frame d word)) (whole refl)
subprogram_bounded depth (places.Static symbol word) = nothing

elaborated_bounded : (depth : ℕ) (flag : ObjectPlace) → Bounded (elaborated_code depth flag)
unfolding elaborated_code
elaborated_bounded depth flag = then (then (number_bounded (pos 1)) (place_bounded Flag depth flag)) (whole refl)

seed_bounded : (depth : ℕ) (symbol : Symbol) (words : ℕ) (value : ValueTree) (word : ℕ) → Bounded (seed_code depth symbol words value word)
seed_bounded depth symbol words value word = then (checked_bounded depth value) (using_one refl)

component_bounded : (depth : ℕ) (symbol : Symbol) (c : ComponentValueTree) → Bounded (component_code depth symbol c)
component_bounded depth symbol c = each_bounded (seed_code depth symbol c.words c.value) (λ word. seed_bounded depth symbol c.words c.value word) c.places

declaration_bounded : (depth : ℕ) (d : DeclarationFormTree) → Bounded (declaration_form_code depth d)
declaration_bounded depth (Objects objects words value) = each_bounded (object_code depth words value) (λ place. object_bounded depth words value place) objects
declaration_bounded depth (Subprogram flag) = subprogram_bounded depth flag
declaration_bounded depth (Elaborated flag) = elaborated_bounded depth flag
declaration_bounded depth (SingleTask symbol priority) = using_one refl
declaration_bounded depth (SingleProtected symbol values) = each_bounded (component_code depth symbol) (λ c. component_bounded depth symbol c) values

declarations_bounded : (depth : ℕ) (ds : List DeclarationTree) → Bounded (declarations_code depth ds)
declarations_bounded depth ds = each_bounded (declaration_code depth) (λ d. then (mark_bounded (declaration_has_code d.form) d.line) (declaration_bounded depth d.form)) ds

-- ---- what is put out

image_bounded : (depth : ℕ) (p : PieceTree) → Bounded (image_code depth p)
image_bounded depth (TextPiece bytes) = nothing
image_bounded depth (IntegerImage value) = value_bounded depth value
image_bounded depth (EnumerationImage value names) = value_bounded depth value

piece_bounded : (above : ℕ) (p : PieceTree) → Bounded (piece_code above p)
piece_bounded above (TextPiece bytes) = whole refl
piece_bounded above (IntegerImage value) = whole refl
piece_bounded above (EnumerationImage value names) = whole refl

pieces_bounded : (ps : List PieceTree) → Bounded (pieces_code ps)
pieces_bounded [] = nothing
pieces_bounded (p ∷ ps) = then (piece_bounded (images ps) p) (pieces_bounded ps)

line_bounded : (b : Bool) → Bounded (line_code b)
line_bounded true = whole refl
line_bounded false = nothing

dropped_bounded : (n : ℕ) → Bounded (dropped_code n)
dropped_bounded zero = nothing
dropped_bounded (suc n) = whole refl

emit_bounded : (depth : ℕ) (ps : List PieceTree) (b : Bool) → Bounded (emit_code depth ps b)
emit_bounded depth ps b = then (then (then (each_bounded (image_code depth) (λ p. image_bounded depth p) ps) (pieces_bounded ps)) (line_bounded b)) (dropped_bounded (images ps))

-- ---- loops

leave_bounded : (depth loops : ℕ) (c : Option TypedTree) → Bounded (leave_code depth loops c)
leave_bounded depth loops None = waiting
leave_bounded depth loops (Some condition) = then (value_bounded depth condition) (guarded_bounded waiting)

compare_bounded : (left right : ℕ) (o : PlainOne) → Bounded (compare_code left right o)
unfolding compare_code
compare_bounded left right o = then (then (load_bounded left) (load_bounded right)) (one_bounded o)

bounds_bounded : (depth : ℕ) (is_reverse : Bool) (low high : TypedTree) (parameter final : ℕ) → Bounded (bounds_code depth is_reverse low high parameter final)
unfolding bounds_code
bounds_bounded depth is_reverse low high parameter final =
    then (then (then (then (then (value_bounded depth low) (store_bounded (low_word is_reverse parameter final))) (value_bounded depth high)) (store_bounded (high_word is_reverse parameter final))) (compare_bounded (low_word is_reverse parameter final) (high_word is_reverse parameter final) _)) waiting

mark_check_bounded : (b : Option Bounds) (word : ℕ) → Bounded (mark_check b word)
unfolding mark_check
mark_check_bounded b word = then (then (load_bounded word) (check_bounded b)) (whole refl)

marked_bounded : (b : Option Bounds) (parameter final : ℕ) → Bounded (marked_code b parameter final)
unfolding marked_code
marked_bounded None parameter final = nothing
marked_bounded (Some b) parameter final = then (mark_check_bounded (Some b) parameter) (mark_check_bounded (Some b) final)

turn_bounded : (is_reverse : Bool) (parameter final : ℕ) → Bounded (turn_code is_reverse parameter final)
unfolding turn_code
turn_bounded is_reverse parameter final =
    then (then (then (then (then (compare_bounded parameter final _) (guarded_bounded waiting)) (load_bounded parameter)) (number_bounded (pos 1))) (one_bounded (step_operator is_reverse))) (store_bounded parameter)

round_bounded : (depth : ℕ) (s : SchemeTree) {p : List Piece} → Bounded p → Bounded (round_code depth s p)
round_bounded depth ForeverScheme h = around h
round_bounded depth (WhileScheme condition) h = around (then (then (value_bounded depth condition) waiting) h)
round_bounded depth (ForScheme is_reverse low high mark parameter final) h =
    then (then (bounds_bounded depth is_reverse low high parameter final) (marked_bounded mark parameter final)) (around (then h (turn_bounded is_reverse parameter final)))

-- ---- statements

unlocked_bounded : (b : Bool) → Bounded (unlocked_code b)
unlocked_bounded true = whole refl
unlocked_bounded false = nothing

return_bounded : (r : Routine) (value : Option ValueTree) (words : ℕ) → Bounded (return_code r value words)
return_bounded r None words = waiting
return_bounded r (Some value) words = then (then (checked_bounded r.depth value) (unlocked_bounded r.unlocks)) (whole refl)

choice_bounded : (word : ℕ) (b : Bounds) → Bounded (choice_code word b)
unfolding choice_code
choice_bounded word b =
    then (then (then (then (then (then (load_bounded word) (number_bounded b.low)) (one_bounded _)) (load_bounded word)) (number_bounded b.high)) (one_bounded _)) (one_bounded _)

other_choice_bounded : (word : ℕ) (b : Bounds) → Bounded (other_choice_code word b)
unfolding other_choice_code
other_choice_bounded word b = then (choice_bounded word b) (whole refl)

choices_bounded : (word : ℕ) (bs : List Bounds) → Bounded (choices_code word bs)
choices_bounded word [] = nothing
choices_bounded word (b ∷ bs) = then (choice_bounded word b) (each_bounded (other_choice_code word) (λ c. other_choice_bounded word c) bs)

others_bounded : (ss : StatementsTree) {p : List Piece} → Bounded p → Bounded (others_code ss p)
others_bounded NoStatement h = nothing
others_bounded (MoreStatements s ss) h = then h join_bounded

mutual
  statement_bounded : (r : Routine) (s : StatementTree) → Bounded (statement_code r s)
  statement_bounded r (Numbered line form) = then (mark_bounded (has_code form) line) (statement_form_bounded r line form)

  pub statements_bounded : (r : Routine) (ss : StatementsTree) → Bounded (statements_code r ss)
  statements_bounded r NoStatement = nothing
  statements_bounded r (MoreStatements s ss) = then (statement_bounded r s) (statements_bounded r ss)

  statement_form_bounded : (r : Routine) (line : ℕ) (f : StatementFormTree) → Bounded (statement_form_code r line f)
  statement_form_bounded r line NullStatement = nothing
  statement_form_bounded r line (AssignmentStatement target words value) = then (then (checked_bounded r.depth value) (address_bounded r.depth target)) (whole refl)
  statement_form_bounded r line (CallStatement call) = call_bounded r.depth call
  statement_form_bounded r line (PutStatement pieces ends_line) = emit_bounded r.depth pieces ends_line
  statement_form_bounded r line (ReturnStatement value words) = return_bounded r value words
  statement_form_bounded r line (ExitStatement loops condition) = leave_bounded r.depth loops condition
  statement_form_bounded r line (DelayStatement moment) = then (value_bounded r.depth moment) (whole refl)
  statement_form_bounded r line (IfStatement branches otherwise) = end_of construct.Choice (then (branches_bounded r branches) (statements_bounded r otherwise))
  statement_form_bounded r line (CaseStatement selector word alternatives otherwise) =
      then (then (value_bounded r.depth selector) (store_bounded word)) (end_of construct.Choice (then (then (then (alternatives_bounded r word alternatives) (others_bounded otherwise (statements_bounded r otherwise))) (mark_bounded true line)) (whole refl)))
  statement_form_bounded r line (LoopStatement scheme statements) = end_of construct.Loop (round_bounded r.depth scheme (statements_bounded r statements))
  statement_form_bounded r line (BlockStatement declarations statements) = then (declarations_bounded r.depth declarations) (statements_bounded r statements)

  branch_bounded : (r : Routine) (b : BranchTree) → Bounded (branch_code r b)
  branch_bounded r (Branch line condition statements) = then (then (mark_bounded true line) (value_bounded r.depth condition)) (guarded_bounded (then (statements_bounded r statements) join_bounded))

  branches_bounded : (r : Routine) (bs : BranchesTree) → Bounded (branches_code r bs)
  branches_bounded r NoBranch = nothing
  branches_bounded r (MoreBranches b bs) = then (branch_bounded r b) (branches_bounded r bs)

  alternative_bounded : (r : Routine) (word : ℕ) (a : AlternativeTree) → Bounded (alternative_code r word a)
  alternative_bounded r word (Alternative choices statements) = then (choices_bounded word choices) (guarded_bounded (then (statements_bounded r statements) join_bounded))

  alternatives_bounded : (r : Routine) (word : ℕ) (as_ : AlternativesTree) → Bounded (alternatives_code r word as_)
  alternatives_bounded r word NoAlternative = nothing
  alternatives_bounded r word (MoreAlternatives a as_) = then (alternative_bounded r word a) (alternatives_bounded r word as_)

-- ---- parts of bodies

begun_bounded : (b : Bool) → Bounded (begun_code b)
begun_bounded true = whole refl
begun_bounded false = nothing

ending_bounded : (r : Routine) (e : ElaborationTree) → Bounded (ending_code r e)
unfolding ending_code
ending_bounded r e = end_of construct.Routine (statements_bounded r (statements_of e.statements))

pub inside_bounded : (r : Routine) (is_task : Bool) (e : ElaborationTree) → Bounded (inside_code r is_task e)
unfolding inside_code
inside_bounded r is_task e = then (then (then (whole refl) (declarations_bounded r.depth e.declarations)) (begun_bounded is_task)) (ending_bounded r e)

entry_call_bounded : (entry : Symbol) → Bounded (entry_call_code entry)
unfolding entry_call_code
entry_call_bounded entry = then (whole refl) (using_one refl)

barrier_bounded : (depth : ℕ) (barrier : ObjectPlace) → Bounded (barrier_code depth barrier)
unfolding barrier_code
barrier_bounded depth barrier = then (place_bounded Data depth barrier) (whole refl)

pub served_bounded : (depth : ℕ) (object : Symbol) (e : Option EntryOf) → Bounded (served_code depth object e)
unfolding served_code
served_bounded depth object None = nothing
served_bounded depth object (Some e) =
    then (using_one refl) (guarded_bounded (then (barrier_bounded depth e.barrier) (guarded_bounded (then (entry_call_bounded e.entry) (using_one refl)))))

pub gate_inner : (depth : ℕ) (entry object : Symbol) (barrier : ObjectPlace) → Inner (gate_code depth entry object barrier)
unfolding gate_code
gate_inner depth entry object barrier =
    ending (then (then (then (using_one refl) (barrier_bounded depth barrier)) (guarded_bounded (then (then (entry_call_bounded entry) (whole refl)) (whole refl)))) (using_one refl)) (last refl)

mode_bounded : (m : Mode) (word words : ℕ) → Bounded (mode_code m word words)
mode_bounded mode.In word words = nothing
mode_bounded mode.Out word words = then (slot_bounded word) (whole refl)
mode_bounded mode.InOut word words = then (slot_bounded word) (whole refl)

formal_bounded : (f : FormalWords) → Bounded (formal_code f)
unfolding formal_code
formal_bounded f = mode_bounded f.mode f.word f.words

pub copied_inner : (formals : List FormalWords) (copied : ℕ) → Inner (copied_code formals copied)
unfolding copied_code
copied_inner formals copied = ending (each_bounded formal_code (λ f. formal_bounded f) formals) (last refl)
