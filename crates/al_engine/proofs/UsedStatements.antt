-- What the code of declarations and statements uses.
use Rattle.std.proofs.Common.{ℕ, zero, suc, Bool, true, false, List, [], ◌∷◌, ◌++◌, Option, Some, None, refl}
use Rattle.std.specs.List.{flat_map}
use Rattle.al_view.specs.ViewUses.{link, place_uses}
use Rattle.al_view.specs.declared.link.LinkKind.TheVariants.{Flag, Data}
use Rattle.al_view.specs.declared.link.LinkSymbol.{LinkSymbol}
use Rattle.al_view.specs.declared.symbol.Symbol.{Symbol}
use Rattle.al_view.specs.declared.types.Bounds.{Bounds}
use Rattle.al_view.specs.declared.view.ObjectPlace.{ObjectPlace}
use Rattle.al_view.specs.declared.view.ObjectPlace.TheVariants as places
use Rattle.al_instr.specs.declared.numbers.Plain.{Plain as PlainOne}
use Rattle.al_view_typed.specs.DeclarationTrees.{ComponentValueTree, DeclarationTree, DeclarationFormTree, Objects, Subprogram, Elaborated, SingleTask, SingleProtected}
use Rattle.al_view_typed.specs.ExpressionTrees.{TypedTree, ValueTree}
use Rattle.al_view_typed.specs.StatementTrees.{PieceTree, SchemeTree, StatementTree, StatementsTree, StatementFormTree, BranchTree, BranchesTree, AlternativeTree, AlternativesTree}
use Rattle.al_view_typed.specs.StatementTrees.PieceTree.{TextPiece, IntegerImage, EnumerationImage}
use Rattle.al_view_typed.specs.StatementTrees.SchemeTree.{ForeverScheme, WhileScheme, ForScheme}
use Rattle.al_view_typed.specs.StatementTrees.StatementTree.{Numbered}
use Rattle.al_view_typed.specs.StatementTrees.StatementsTree.{NoStatement, MoreStatements}
use Rattle.al_view_typed.specs.StatementTrees.StatementFormTree.{NullStatement, AssignmentStatement, CallStatement, PutStatement, ReturnStatement, ExitStatement, DelayStatement, IfStatement, CaseStatement, LoopStatement, BlockStatement}
use Rattle.al_view_typed.specs.StatementTrees.BranchTree.{Branch}
use Rattle.al_view_typed.specs.StatementTrees.BranchesTree.{NoBranch, MoreBranches}
use Rattle.al_view_typed.specs.StatementTrees.AlternativeTree.{Alternative}
use Rattle.al_view_typed.specs.StatementTrees.AlternativesTree.{NoAlternative, MoreAlternatives}
use Rattle.al_view_typed.specs.Uses.{alternative_uses, alternatives_uses, branch_uses, branches_uses, declaration_form_uses, declarations_uses, name_uses, piece_uses, scheme_uses, some_uses, statement_form_uses, statement_uses, statements_uses, typed_uses, value_uses}
use Rattle.al_code.specs.declared.piece.Construct.TheVariants as construct
use Rattle.al_code.specs.Pieces.{Piece}
use Rattle.al_code.specs.declared.routine.Routine.{Routine}
use Rattle.al_code.specs.Declarations.{object_code, subprogram_code, elaborated_code, component_code, declaration_code, declaration_form_code, seed_code, declarations_code}
use Rattle.al_code.specs.Images.{dropped_code, image_code, images, line_code, piece_code, pieces_code, emit_code}
use Rattle.al_code.specs.Loops.{bounds_code, compare_code, high_word, leave_code, low_word, mark_check, marked_code, round_code, turn_code}
use Rattle.al_code.specs.Statements.{alternative_code, alternatives_code, branch_code, branches_code, choice_code, choices_code, other_choice_code, others_code, return_code, statement_code, statement_form_code, statements_code, unlocked_code}
use Rattle.al_code.specs.Marks.{declaration_has_code, has_code, mark_of}
use Rattle.al_engine.proofs.Used.{Uses, around, each, each_own, end_of, first_and_last, first_or_last, first_two, left, nothing, quiet, rest_or_last, right, then, using_first, waiting, whole}
use Rattle.al_engine.proofs.UsedExpressions.{address_used, call_used, check_quiet, checked_used, guarded_used, load_quiet, place_used, store_quiet, value_used}

pub mark_quiet : (b : Bool) (line : ℕ) {xs : List LinkSymbol} → Uses (mark_of b line) xs
unfolding mark_of
mark_quiet true line = quiet refl
mark_quiet false line = nothing

-- ---- declarations

object_used : (depth words : ℕ) (value : Option ValueTree) (place : ObjectPlace) → Uses (object_code depth words value place) (place_uses Data place ++ some_uses value_uses value)
object_used depth words (Some value) place = then (then (right (place_uses Data place) (checked_used depth value)) (left _ (place_used Data depth place))) whole
object_used depth words None place = then (left _ (place_used Data depth place)) whole

-- the value is evaluated for each object
objects_used : (depth words : ℕ) (value : Option ValueTree) (objects : List ObjectPlace) → Uses (flat_map (object_code depth words value) objects) (flat_map (place_uses Data) objects ++ some_uses value_uses value)
objects_used depth words value [] = nothing
objects_used depth words value (p ∷ ps) =
    let mine = place_uses Data p in
    let others = flat_map (place_uses Data) ps in
    let values = some_uses value_uses value in
    then {p = object_code depth words value p} {q = flat_map (object_code depth words value) ps} {xs = (mine ++ others) ++ values}
    (record { are = λ x c. first_or_last mine others values x ((object_used depth words value p).are x c) })
    (record { are = λ x c. rest_or_last mine others values x ((objects_used depth words value ps).are x c) })

subprogram_used : (depth : ℕ) (flag : ObjectPlace) → Uses (subprogram_code depth flag) (place_uses Flag flag)
unfolding subprogram_code
subprogram_used depth (places.Frame d word) = quiet refl
subprogram_used depth (places.Static symbol word) = nothing

elaborated_used : (depth : ℕ) (flag : ObjectPlace) → Uses (elaborated_code depth flag) (place_uses Flag flag)
unfolding elaborated_code
elaborated_used depth flag = then (then whole (place_used Flag depth flag)) whole

seed_used : (depth : ℕ) (symbol : Symbol) (words : ℕ) (value : ValueTree) (word : ℕ) → Uses (seed_code depth symbol words value word) (link Data symbol ∷ value_uses value)
seed_used depth symbol words value word = then (right (link Data symbol ∷ []) (checked_used depth value)) using_first

component_used : (depth : ℕ) (symbol : Symbol) (c : ComponentValueTree) → Uses (component_code depth symbol c) (link Data symbol ∷ value_uses c.value)
component_used depth symbol c = each (seed_code depth symbol c.words c.value) (link Data symbol ∷ value_uses c.value) (λ word. seed_used depth symbol c.words c.value word) c.places

components_used : (depth : ℕ) (symbol : Symbol) (cs : List ComponentValueTree) → Uses (flat_map (component_code depth symbol) cs) (link Data symbol ∷ flat_map (λ v. value_uses v.value) cs)
components_used depth symbol [] = nothing
components_used depth symbol (c ∷ cs) =
    let own = link Data symbol ∷ [] in
    let mine = value_uses c.value in
    let others = flat_map (λ (v : ComponentValueTree). value_uses v.value) cs in
    then {p = component_code depth symbol c} {q = flat_map (component_code depth symbol) cs} {xs = own ++ (mine ++ others)}
    (record { are = λ x h. first_two own mine others x ((component_used depth symbol c).are x h) })
    (record { are = λ x h. first_and_last own mine others x ((components_used depth symbol cs).are x h) })

declaration_used : (depth : ℕ) (d : DeclarationFormTree) → Uses (declaration_form_code depth d) (declaration_form_uses d)
declaration_used depth (Objects objects words value) = objects_used depth words value objects
declaration_used depth (Subprogram flag) = subprogram_used depth flag
declaration_used depth (Elaborated flag) = elaborated_used depth flag
declaration_used depth (SingleTask symbol priority) = using_first
declaration_used depth (SingleProtected symbol values) = components_used depth symbol values

pub declarations_used : (depth : ℕ) (ds : List DeclarationTree) → Uses (declarations_code depth ds) (declarations_uses ds)
declarations_used depth ds = each_own (declaration_code depth) (λ d. declaration_form_uses d.form) (λ d. then (mark_quiet (declaration_has_code d.form) d.line) (declaration_used depth d.form)) ds

-- ---- output

image_used : (depth : ℕ) (p : PieceTree) → Uses (image_code depth p) (piece_uses p)
image_used depth (TextPiece bytes) = nothing
image_used depth (IntegerImage value) = value_used depth value
image_used depth (EnumerationImage value names) = value_used depth value

piece_quiet : (above : ℕ) (p : PieceTree) {xs : List LinkSymbol} → Uses (piece_code above p) xs
piece_quiet above (TextPiece bytes) = quiet refl
piece_quiet above (IntegerImage value) = quiet refl
piece_quiet above (EnumerationImage value names) = quiet refl

pieces_quiet : (ps : List PieceTree) {xs : List LinkSymbol} → Uses (pieces_code ps) xs
pieces_quiet [] = nothing
pieces_quiet (p ∷ ps) = then (piece_quiet (images ps) p) (pieces_quiet ps)

line_quiet : (b : Bool) {xs : List LinkSymbol} → Uses (line_code b) xs
line_quiet true = quiet refl
line_quiet false = nothing

dropped_quiet : (n : ℕ) {xs : List LinkSymbol} → Uses (dropped_code n) xs
dropped_quiet zero = nothing
dropped_quiet (suc n) = quiet refl

emit_used : (depth : ℕ) (ps : List PieceTree) (b : Bool) → Uses (emit_code depth ps b) (flat_map piece_uses ps)
emit_used depth ps b = then (then (then (each_own (image_code depth) piece_uses (λ p. image_used depth p) ps) (pieces_quiet ps)) (line_quiet b)) (dropped_quiet (images ps))

-- ---- loops

leave_used : (depth loops : ℕ) (c : Option TypedTree) → Uses (leave_code depth loops c) (some_uses typed_uses c)
leave_used depth loops None = quiet refl
leave_used depth loops (Some condition) = then (value_used depth condition) (guarded_used (quiet refl))

compare_quiet : (one_word other_word : ℕ) (o : PlainOne) {xs : List LinkSymbol} → Uses (compare_code one_word other_word o) xs
unfolding compare_code
compare_quiet one_word other_word o = then (then (load_quiet one_word) (load_quiet other_word)) whole

bounds_used : (depth : ℕ) (is_reverse : Bool) (low high : TypedTree) (parameter final : ℕ) → Uses (bounds_code depth is_reverse low high parameter final) (typed_uses low ++ typed_uses high)
unfolding bounds_code
bounds_used depth is_reverse low high parameter final =
    then (then (then (then (then (left _ (value_used depth low)) (store_quiet (low_word is_reverse parameter final))) (right (typed_uses low) (value_used depth high))) (store_quiet (high_word is_reverse parameter final))) (compare_quiet (low_word is_reverse parameter final) (high_word is_reverse parameter final) _)) waiting

mark_check_quiet : (b : Option Bounds) (word : ℕ) {xs : List LinkSymbol} → Uses (mark_check b word) xs
unfolding mark_check
mark_check_quiet b word = then (then (load_quiet word) (check_quiet b)) whole

marked_quiet : (b : Option Bounds) (parameter final : ℕ) {xs : List LinkSymbol} → Uses (marked_code b parameter final) xs
unfolding marked_code
marked_quiet None parameter final = nothing
marked_quiet (Some b) parameter final = then (mark_check_quiet (Some b) parameter) (mark_check_quiet (Some b) final)

turn_quiet : (is_reverse : Bool) (parameter final : ℕ) {xs : List LinkSymbol} → Uses (turn_code is_reverse parameter final) xs
unfolding turn_code
turn_quiet is_reverse parameter final =
    then (then (then (then (then (compare_quiet parameter final _) (guarded_used (quiet refl))) (load_quiet parameter)) whole) whole) (store_quiet parameter)

round_used : (depth : ℕ) (s : SchemeTree) {p : List Piece} {xs : List LinkSymbol} → Uses p xs → Uses (round_code depth s p) (scheme_uses s ++ xs)
round_used depth ForeverScheme h = around h
round_used depth (WhileScheme condition) {p = p} {xs = xs} h = around (then (then (left _ (value_used depth condition)) waiting) (right (typed_uses condition) h))
round_used depth (ForScheme is_reverse low high mark parameter final) {p = p} {xs = xs} h =
    then (then (left _ (bounds_used depth is_reverse low high parameter final)) (marked_quiet mark parameter final)) (around (then (right (typed_uses low ++ typed_uses high) h) (turn_quiet is_reverse parameter final)))

-- ---- statements

unlocked_quiet : (b : Bool) {xs : List LinkSymbol} → Uses (unlocked_code b) xs
unlocked_quiet true = quiet refl
unlocked_quiet false = nothing

return_used : (r : Routine) (value : Option ValueTree) (words : ℕ) → Uses (return_code r value words) (some_uses value_uses value)
return_used r None words = quiet refl
return_used r (Some value) words = then (then (checked_used r.depth value) (unlocked_quiet r.unlocks)) whole

choice_quiet : (word : ℕ) (b : Bounds) {xs : List LinkSymbol} → Uses (choice_code word b) xs
unfolding choice_code
choice_quiet word b =
    then (then (then (then (then (then (load_quiet word) whole) whole) (load_quiet word)) whole) whole) whole

other_choice_quiet : (word : ℕ) (b : Bounds) {xs : List LinkSymbol} → Uses (other_choice_code word b) xs
unfolding other_choice_code
other_choice_quiet word b = then (choice_quiet word b) whole

choices_quiet : (word : ℕ) (bs : List Bounds) {xs : List LinkSymbol} → Uses (choices_code word bs) xs
choices_quiet word [] = nothing
choices_quiet word (b ∷ bs) {xs = xs} = then (choice_quiet word b) (each (other_choice_code word) xs (λ c. other_choice_quiet word c) bs)

others_used : (ss : StatementsTree) {p : List Piece} {xs : List LinkSymbol} → Uses p xs → Uses (others_code ss p) xs
others_used NoStatement h = nothing
others_used (MoreStatements s ss) h = then h waiting

mutual
  statement_used : (r : Routine) (s : StatementTree) → Uses (statement_code r s) (statement_uses s)
  statement_used r (Numbered line form) = then (mark_quiet (has_code form) line) (statement_form_used r line form)

  pub statements_used : (r : Routine) (ss : StatementsTree) → Uses (statements_code r ss) (statements_uses ss)
  statements_used r NoStatement = nothing
  statements_used r (MoreStatements s ss) = then (left _ (statement_used r s)) (right (statement_uses s) (statements_used r ss))

  statement_form_used : (r : Routine) (line : ℕ) (f : StatementFormTree) → Uses (statement_form_code r line f) (statement_form_uses f)
  statement_form_used r line NullStatement = nothing
  statement_form_used r line (AssignmentStatement target words value) =
      then (then (right (name_uses target) (checked_used r.depth value)) (left _ (address_used r.depth target))) whole
  statement_form_used r line (CallStatement call) = call_used r.depth call
  statement_form_used r line (PutStatement pieces ends_line) = emit_used r.depth pieces ends_line
  statement_form_used r line (ReturnStatement value words) = return_used r value words
  statement_form_used r line (ExitStatement loops condition) = leave_used r.depth loops condition
  statement_form_used r line (DelayStatement moment) = then (value_used r.depth moment) whole
  statement_form_used r line (IfStatement branches otherwise) =
      end_of construct.Choice (then (left _ (branches_used r branches)) (right (branches_uses branches) (statements_used r otherwise)))
  statement_form_used r line (CaseStatement selector word alternatives otherwise) =
      let before = typed_uses selector ++ alternatives_uses alternatives in
      then (then (left _ (left _ (value_used r.depth selector))) (store_quiet word))
      (end_of construct.Choice
      (then
      (then
      (then (left _ (right (typed_uses selector) (alternatives_used r word alternatives)))
      (right before (others_used otherwise (statements_used r otherwise))))
      (mark_quiet true line))
      whole))
  statement_form_used r line (LoopStatement scheme statements) = end_of construct.Loop (round_used r.depth scheme (statements_used r statements))
  statement_form_used r line (BlockStatement declarations statements) =
      then (left _ (declarations_used r.depth declarations)) (right (declarations_uses declarations) (statements_used r statements))

  branch_used : (r : Routine) (b : BranchTree) → Uses (branch_code r b) (branch_uses b)
  branch_used r (Branch line condition statements) =
      then (then (mark_quiet true line) (left _ (value_used r.depth condition)))
      (guarded_used (then (right (typed_uses condition) (statements_used r statements)) waiting))

  branches_used : (r : Routine) (bs : BranchesTree) → Uses (branches_code r bs) (branches_uses bs)
  branches_used r NoBranch = nothing
  branches_used r (MoreBranches b bs) = then (left _ (branch_used r b)) (right (branch_uses b) (branches_used r bs))

  alternative_used : (r : Routine) (word : ℕ) (a : AlternativeTree) → Uses (alternative_code r word a) (alternative_uses a)
  alternative_used r word (Alternative choices statements) = then (choices_quiet word choices) (guarded_used (then (statements_used r statements) waiting))

  alternatives_used : (r : Routine) (word : ℕ) (as_ : AlternativesTree) → Uses (alternatives_code r word as_) (alternatives_uses as_)
  alternatives_used r word NoAlternative = nothing
  alternatives_used r word (MoreAlternatives a as_) = then (left _ (alternative_used r word a)) (right (alternative_uses a) (alternatives_used r word as_))
