-- Which statements and declarations have code.
use Rattle.std.proofs.Common.{◌≡◌, ℕ, ◌<◌, Bool, true, false, ltb, ◌||◌, List, [], ◌∷◌, ◌++◌, length, Option, Some, None, refl, sym, ap, ◌∙◌, arith}
use Rattle.std.specs.Prelude.{pos}
use Rattle.std.specs.List.{flat_map, list_any}
use Rattle.std.proofs.lemmas.Bool.{lt-ltb}
use Rattle.al_view.specs.ViewUses.{link}
use Rattle.al_view.specs.declared.link.LinkKind.TheVariants.{Data}
use Rattle.al_view.specs.declared.symbol.Symbol.{Symbol}
use Rattle.al_view.specs.declared.view.ObjectPlace.{ObjectPlace}
use Rattle.al_view.specs.declared.view.ObjectPlace.TheVariants as places
use Rattle.al_view_typed.specs.declared.expression.Callee.{Callee}
use Rattle.al_view_typed.specs.declared.expression.Callee.TheVariants as callee
use Rattle.al_view_typed.specs.DeclarationTrees.{ComponentValueTree, DeclarationTree, DeclarationFormTree, Objects, Subprogram, Elaborated, SingleTask, SingleProtected}
use Rattle.al_view_typed.specs.ExpressionTrees.{CallTree, TypedTree, ValueTree}
use Rattle.al_view_typed.specs.ExpressionTrees.CallTree.{Called}
use Rattle.al_view_typed.specs.StatementTrees.{StatementTree, StatementsTree, StatementFormTree, SchemeTree, BranchTree, BranchesTree, PieceTree}
use Rattle.al_view_typed.specs.StatementTrees.PieceTree.{TextPiece, IntegerImage, EnumerationImage}
use Rattle.al_view_typed.specs.StatementTrees.SchemeTree.{ForeverScheme, WhileScheme, ForScheme}
use Rattle.al_view_typed.specs.StatementTrees.StatementTree.{Numbered}
use Rattle.al_view_typed.specs.StatementTrees.StatementsTree.{NoStatement, MoreStatements}
use Rattle.al_view_typed.specs.StatementTrees.StatementFormTree.{NullStatement, AssignmentStatement, CallStatement, PutStatement, ReturnStatement, ExitStatement, DelayStatement, IfStatement, CaseStatement, LoopStatement, BlockStatement}
use Rattle.al_view_typed.specs.StatementTrees.BranchTree.{Branch}
use Rattle.al_view_typed.specs.StatementTrees.BranchesTree.{NoBranch, MoreBranches}
use Rattle.al_instr.specs.declared.instruction.Instr.{Instr}
use Rattle.al_instr.specs.declared.instruction.Instr.TheVariants as instr
use Rattle.al_instr.specs.Numbers.{plain_number, protected_number, sized_number}
use Rattle.al_instr.specs.Codes.{encoded, jump_bytes, long_bytes, names_bytes, word_bytes}
use Rattle.al_code.specs.declared.piece.Construct.{Construct}
use Rattle.al_code.specs.declared.piece.Construct.TheVariants as construct
use Rattle.al_code.specs.declared.piece.Target.{Target}
use Rattle.al_code.specs.Pieces.{Piece, Whole, Using, Leaving, Begins, Line, closed, jump_of, over_or, piece_bytes, piece_size, repeated, size}
use Rattle.al_code.specs.Targets.{outside}
use Rattle.al_code.proofs.Writing.{size_cons}
use Rattle.al_code.specs.ExprPieces.{guarded, unless_zero}
use Rattle.al_code.specs.Templates.{call_code, checked_code, routine_code}
use Rattle.al_code.specs.declared.routine.Routine.{Routine}
use Rattle.al_code.specs.Declarations.{component_code, declaration_code, declaration_form_code, declarations_code, elaborated_code, object_code, seed_code, subprogram_code}
use Rattle.al_code.specs.Images.{emit_code, piece_code}
use Rattle.al_code.specs.Loops.{leave_code, round_code}
use Rattle.al_code.specs.LineLaws.{TreesTellCode}
use Rattle.al_code.specs.Marks.{component_has_code, declaration_has_code, flag_has_code, has_branch, has_code, is_some_of, mark_of, statement_has_code, statements_have_code}
use Rattle.al_code.specs.Statements.{branch_code, branches_code, return_code, statement_code, statement_form_code, statements_code}

-- ---- whether a piece that has bytes is among some

some_bytes : (b : ℕ) (bs : List ℕ) → 0 < length (b ∷ bs)
some_bytes b bs = omega arith

has_bytes : (i : Instr) → 0 < length (encoded i)
unfolding encoded
has_bytes (instr.Plain p) = some_bytes (plain_number p) []
has_bytes (instr.Sized s n) = some_bytes (sized_number s) (word_bytes n)
has_bytes (instr.Protected a n) = some_bytes (protected_number a) (word_bytes n)
has_bytes (instr.Const c) = some_bytes 0x00 (long_bytes c)
has_bytes (instr.Frame depth word) = some_bytes 0x01 (word_bytes depth ++ word_bytes word)
has_bytes (instr.Global place) = some_bytes 0x02 (word_bytes place)
has_bytes (instr.Check low high) = some_bytes 0x08 (long_bytes low ++ long_bytes high)
has_bytes (instr.Index low high words) = some_bytes 0x09 ((long_bytes low ++ long_bytes high) ++ word_bytes words)
has_bytes (instr.Jump distance) = some_bytes 0x0b (jump_bytes distance)
has_bytes (instr.JumpZero distance) = some_bytes 0x0c (jump_bytes distance)
has_bytes (instr.Call place words) = some_bytes 0x32 (word_bytes place ++ word_bytes words)
has_bytes (instr.PutText text) = some_bytes 0x40 (word_bytes (length text) ++ text)
has_bytes (instr.PutName below names) = some_bytes 0x42 (word_bytes below ++ names_bytes names)
has_bytes (instr.Task place priority) = some_bytes 0x50 (word_bytes place ++ word_bytes priority)
has_bytes (instr.Seed place words) = some_bytes 0x5c (word_bytes place ++ word_bytes words)

abbrev solid : List Piece → Bool
solid [] = false
solid (Whole i ∷ ps) = true
solid (Using i symbol ∷ ps) = true
solid (Leaving w t ∷ ps) = true
solid (Begins symbol ∷ ps) = solid ps
solid (Line n ∷ ps) = solid ps

instr_size : (x : Piece) (ps : List Piece) (i : Instr) → piece_bytes x ≡ encoded i → true ≡ ltb 0 (size (x ∷ ps))
instr_size x ps i is =
    let some : 0 < length (encoded i) = has_bytes i in
    let same : piece_size x ≡ length (encoded i) = ap (λ (bytes : List ℕ). length bytes) is in
    let more : 0 < size (x ∷ ps) = omega (arith, size_cons x ps, same, some) in
    sym (lt-ltb 0 (size (x ∷ ps)) more)

solid_size : (ps : List Piece) → solid ps ≡ ltb 0 (size ps)
solid_size [] = refl
solid_size (Whole i ∷ ps) = instr_size (Whole i) ps i refl
solid_size (Using i symbol ∷ ps) = instr_size (Using i symbol) ps i refl
solid_size (Leaving w t ∷ ps) = instr_size (Leaving w t) ps (jump_of w (pos 0)) refl
solid_size (Begins symbol ∷ ps) = solid_size ps
solid_size (Line n ∷ ps) = solid_size ps

solid_append : (p q : List Piece) → solid (p ++ q) ≡ (solid p || solid q)
solid_append [] q = refl
solid_append (Whole i ∷ p) q = refl
solid_append (Using i symbol ∷ p) q = refl
solid_append (Leaving w t ∷ p) q = refl
solid_append (Begins symbol ∷ p) q = solid_append p q
solid_append (Line n ∷ p) q = solid_append p q

solid_closed : (c : Construct) (p : List Piece) → solid (closed c p) ≡ solid p
solid_closed c [] = refl
solid_closed c (Whole i ∷ p) = refl
solid_closed c (Using i symbol ∷ p) = refl
solid_closed c (Begins symbol ∷ p) = solid_closed c p
solid_closed c (Line n ∷ p) = solid_closed c p
solid_closed c (Leaving w t ∷ p) = jump (outside c t) where
  jump : (o : Option Target) → solid (over_or w o (size p) ∷ closed c p) ≡ true
  jump None = refl
  jump (Some u) = refl

-- ---- code with bytes

record Coded (p : List Piece) : Type 0 where
  pub is : solid p ≡ true

or_true : (b : Bool) → (b || true) ≡ true
or_true true = refl
or_true false = refl

whole : {i : Instr} {p : List Piece} → Coded (Whole i ∷ p)
whole = record { is = refl }

-- at the end, and at the beginning
last : (p : List Piece) {q : List Piece} → Coded q → Coded (p ++ q)
last p {q = q} h = record { is = solid_append p q ∙ ap (λ (b : Bool). solid p || b) h.is ∙ or_true (solid p) }

first : {p : List Piece} (q : List Piece) → Coded p → Coded (p ++ q)
first {p = p} q h = record { is = solid_append p q ∙ ap (λ (b : Bool). b || solid q) h.is }

inside : (c : Construct) {p : List Piece} → Coded p → Coded (closed c p)
inside c {p = p} h = record { is = solid_closed c p ∙ h.is }

guarded_coded : (p : List Piece) → Coded (guarded p)
unfolding guarded
guarded_coded p = let h : Coded (unless_zero ++ p) = record { is = refl } in inside construct.Test h

repeated_coded : (p : List Piece) → Coded (repeated p)
unfolding repeated
repeated_coded p = last _ whole

mark_solid : (b : Bool) (line : ℕ) → solid (mark_of b line) ≡ false
unfolding mark_of
mark_solid true line = refl
mark_solid false line = refl

-- a mark is no code
after_mark : (b : Bool) (line : ℕ) (p : List Piece) → solid (mark_of b line ++ p) ≡ solid p
after_mark b line p = solid_append (mark_of b line) p ∙ ap (λ (x : Bool). x || solid p) (mark_solid b line)

-- ---- declarations

object_coded : (depth words : ℕ) (value : Option ValueTree) (place : ObjectPlace) → Coded (object_code depth words value place)
object_coded depth words (Some value) place = last _ whole
object_coded depth words None place = last _ whole

subprogram_solid : (depth : ℕ) (flag : ObjectPlace) → flag_has_code flag ≡ solid (subprogram_code depth flag)
unfolding subprogram_code
subprogram_solid depth (places.Frame d word) = refl
subprogram_solid depth (places.Static symbol word) = refl

elaborated_coded : (depth : ℕ) (flag : ObjectPlace) → Coded (elaborated_code depth flag)
unfolding elaborated_code
elaborated_coded depth flag = record { is = refl }

seed_coded : (depth : ℕ) (symbol : Symbol) (words : ℕ) (value : ValueTree) (word : ℕ) → Coded (seed_code depth symbol words value word)
seed_coded depth symbol words value word =
    let h : Coded (Using (instr.Seed word words) (link Data symbol) ∷ []) = record { is = refl } in
    last (checked_code depth value) h

each_solid : {A : Type 0} (f : A → List Piece) → ((x : A) → Coded (f x)) → (xs : List A) → is_some_of xs ≡ solid (flat_map f xs)
each_solid f h [] = refl
each_solid f h (x ∷ xs) = let c : Coded (f x ++ flat_map f xs) = first _ (h x) in sym c.is

component_solid : (depth : ℕ) (symbol : Symbol) (c : ComponentValueTree) → component_has_code c ≡ solid (component_code depth symbol c)
component_solid depth symbol c = each_solid (seed_code depth symbol c.words c.value) (λ w. seed_coded depth symbol c.words c.value w) c.places

components_solid : (depth : ℕ) (symbol : Symbol) (cs : List ComponentValueTree) → list_any component_has_code cs ≡ solid (flat_map (component_code depth symbol) cs)
components_solid depth symbol [] = refl
components_solid depth symbol (c ∷ cs) =
    ap (λ (b : Bool). b || list_any component_has_code cs) (component_solid depth symbol c)
    ∙ ap (λ (b : Bool). solid (component_code depth symbol c) || b) (components_solid depth symbol cs)
    ∙ sym (solid_append (component_code depth symbol c) (flat_map (component_code depth symbol) cs))

declaration_solid : (depth : ℕ) (f : DeclarationFormTree) → declaration_has_code f ≡ solid (declaration_form_code depth f)
declaration_solid depth (Objects objects words value) = each_solid (object_code depth words value) (λ o. object_coded depth words value o) objects
declaration_solid depth (Subprogram flag) = subprogram_solid depth flag
declaration_solid depth (Elaborated flag) = let c : Coded (elaborated_code depth flag) = elaborated_coded depth flag in sym c.is
declaration_solid depth (SingleTask symbol priority) = refl
declaration_solid depth (SingleProtected symbol values) = components_solid depth symbol values

declarations_solid : (depth : ℕ) (ds : List DeclarationTree) → list_any (λ d. declaration_has_code d.form) ds ≡ solid (declarations_code depth ds)
declarations_solid depth [] = refl
declarations_solid depth (d ∷ ds) =
    ap (λ (b : Bool). b || list_any (λ e. declaration_has_code e.form) ds) (declaration_solid depth d.form ∙ sym (after_mark (declaration_has_code d.form) d.line (declaration_form_code depth d.form)))
    ∙ ap (λ (b : Bool). solid (declaration_code depth d) || b) (declarations_solid depth ds)
    ∙ sym (solid_append (declaration_code depth d) (declarations_code depth ds))

-- ---- statements

piece_coded : (above : ℕ) (p : PieceTree) → Coded (piece_code above p)
piece_coded above (TextPiece bytes) = whole
piece_coded above (IntegerImage value) = whole
piece_coded above (EnumerationImage value names) = whole

emit_solid : (depth : ℕ) (ends_line : Bool) (pieces : List PieceTree) → (ends_line || is_some_of pieces) ≡ solid (emit_code depth pieces ends_line)
emit_solid depth true pieces = let c : Coded (emit_code depth pieces true) = first _ (last _ whole) in sym c.is
emit_solid depth false [] = refl
emit_solid depth false (p ∷ ps) = let c : Coded (emit_code depth (p ∷ ps) false) = first _ (first _ (last _ (first _ (piece_coded _ p)))) in sym c.is

routine_coded : (c : Callee) (words : ℕ) → Coded (routine_code c words)
routine_coded (callee.Subprogram symbol depth) words = record { is = refl }
routine_coded (callee.Protected symbol) words = record { is = refl }
routine_coded (callee.Entry symbol) words = record { is = refl }

call_coded : (depth : ℕ) (call : CallTree) → Coded (call_code depth call)
call_coded depth (Called c flag words actuals) = first _ (last _ (routine_coded c words))

return_coded : (r : Routine) (value : Option ValueTree) (words : ℕ) → Coded (return_code r value words)
return_coded r None words = record { is = refl }
return_coded r (Some value) words = last _ whole

leave_coded : (depth loops : ℕ) (condition : Option TypedTree) → Coded (leave_code depth loops condition)
leave_coded depth loops None = record { is = refl }
leave_coded depth loops (Some condition) = last _ (guarded_coded _)

round_coded : (depth : ℕ) (scheme : SchemeTree) (p : List Piece) → Coded (round_code depth scheme p)
round_coded depth ForeverScheme p = repeated_coded p
round_coded depth (WhileScheme condition) p = repeated_coded _
round_coded depth (ForScheme is_reverse low high mark parameter last_word) p = last _ (repeated_coded _)

branch_coded : (r : Routine) (b : BranchTree) → Coded (branch_code r b)
branch_coded r (Branch line condition statements) = last _ (guarded_coded _)

branches_solid : (r : Routine) (bs : BranchesTree) → has_branch bs ≡ solid (branches_code r bs)
branches_solid r NoBranch = refl
branches_solid r (MoreBranches b bs) = let c : Coded (branches_code r (MoreBranches b bs)) = first _ (branch_coded r b) in sym c.is

mutual
  form_solid : (r : Routine) (line : ℕ) (f : StatementFormTree) → has_code f ≡ solid (statement_form_code r line f)
  form_solid r line NullStatement = refl
  form_solid r line (AssignmentStatement target words value) = let c : Coded (statement_form_code r line (AssignmentStatement target words value)) = last _ whole in sym c.is
  form_solid r line (CallStatement call) = let c : Coded (call_code r.depth call) = call_coded r.depth call in sym c.is
  form_solid r line (PutStatement pieces ends_line) = emit_solid r.depth ends_line pieces
  form_solid r line (ReturnStatement value words) = let c : Coded (return_code r value words) = return_coded r value words in sym c.is
  form_solid r line (ExitStatement loops condition) = let c : Coded (leave_code r.depth loops condition) = leave_coded r.depth loops condition in sym c.is
  form_solid r line (DelayStatement moment) = let c : Coded (statement_form_code r line (DelayStatement moment)) = last _ whole in sym c.is
  form_solid r line (IfStatement branches otherwise) =
      ap (λ (b : Bool). b || statements_have_code otherwise) (branches_solid r branches)
      ∙ ap (λ (b : Bool). solid (branches_code r branches) || b) (statements_solid r otherwise)
      ∙ sym (solid_append (branches_code r branches) (statements_code r otherwise))
      ∙ sym (solid_closed construct.Choice (branches_code r branches ++ statements_code r otherwise))
  form_solid r line (CaseStatement selector word alternatives otherwise) =
      let c : Coded (statement_form_code r line (CaseStatement selector word alternatives otherwise)) = last _ (inside construct.Choice (last _ whole)) in sym c.is
  form_solid r line (LoopStatement scheme statements) =
      let c : Coded (statement_form_code r line (LoopStatement scheme statements)) = inside construct.Loop (round_coded r.depth scheme (statements_code r statements)) in sym c.is
  form_solid r line (BlockStatement declarations statements) =
      ap (λ (b : Bool). b || statements_have_code statements) (declarations_solid r.depth declarations)
      ∙ ap (λ (b : Bool). solid (declarations_code r.depth declarations) || b) (statements_solid r statements)
      ∙ sym (solid_append (declarations_code r.depth declarations) (statements_code r statements))

  statement_solid : (r : Routine) (s : StatementTree) → statement_has_code s ≡ solid (statement_code r s)
  statement_solid r (Numbered line form) = form_solid r line form ∙ sym (after_mark (has_code form) line (statement_form_code r line form))

  statements_solid : (r : Routine) (ss : StatementsTree) → statements_have_code ss ≡ solid (statements_code r ss)
  statements_solid r NoStatement = refl
  statements_solid r (MoreStatements s ss) =
      ap (λ (b : Bool). b || statements_have_code ss) (statement_solid r s)
      ∙ ap (λ (b : Bool). solid (statement_code r s) || b) (statements_solid r ss)
      ∙ sym (solid_append (statement_code r s) (statements_code r ss))

pub trees_tell_code : TreesTellCode
trees_tell_code = record {
  statements = λ r line form. form_solid r line form ∙ solid_size (statement_form_code r line form);
  declarations = λ depth form. declaration_solid depth form ∙ solid_size (declaration_form_code depth form);
}
