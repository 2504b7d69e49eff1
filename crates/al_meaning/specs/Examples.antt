-- Small programs, and what they mean. The values and the exceptions are those of runs of the same programs through GNAT, but for the actual that is named
-- twice; the lines are those of the statements.
use Rattle.std.specs.Prelude.{Bool, ◌++◌, ◌≡◌, ℕ, pos, negsuc, true, false, List, [], ◌∷◌, Option, Some, None, Ok, Err}
use Rattle.al_base.specs.declared.unit_key.UnitKey.{UnitKey}
use Rattle.al_base.specs.declared.unit_key.UnitKind.TheVariants.{Body}
use Rattle.al_view.specs.declared.symbol.Symbol.{Symbol}
use Rattle.al_view.specs.declared.types.Bounds.{Bounds}
use Rattle.al_view.specs.declared.view.Mode.TheVariants as mode
use Rattle.al_view.specs.declared.view.ObjectPlace.{ObjectPlace}
use Rattle.al_view.specs.declared.view.ObjectPlace.TheVariants as places
use Rattle.al_view_typed.specs.declared.expression.Callee.TheVariants as callee
use Rattle.al_view_typed.specs.declared.label.BinaryOperator.{BinaryOperator}
use Rattle.al_view_typed.specs.declared.label.BinaryOperator.TheVariants as binary
use Rattle.al_view_typed.specs.declared.label.ExpressionType.TheVariants.{RootInteger}
use Rattle.al_view_typed.specs.declared.unit.BodyKind.{BodyKind}
use Rattle.al_view_typed.specs.declared.unit.BodyKind.TheVariants as kinds
use Rattle.al_view_typed.specs.declared.unit.FormalWords.{FormalWords}
use Rattle.al_view_typed.specs.ExpressionTrees.{TypedTree, FormTree, NameTree, ActualsTree, CallTree, ValuesTree}
use Rattle.al_view_typed.specs.ExpressionTrees.FormTree.{LiteralForm, NamedForm, BinaryForm, ShortCircuitForm, MembershipForm, ConvertedForm, AggregateForm, OthersForm, CallForm}
use Rattle.al_view_typed.specs.ExpressionTrees.TypedTree.{Labelled}
use Rattle.al_view_typed.specs.ExpressionTrees.NameTree.{ObjectName, ComponentName, IndexedName}
use Rattle.al_view_typed.specs.ExpressionTrees.ValueTree.{Checked}
use Rattle.al_view_typed.specs.ExpressionTrees.ValuesTree.{NoValue, MoreValues}
use Rattle.al_view_typed.specs.ExpressionTrees.ActualTree.{InActual, VariableActual}
use Rattle.al_view_typed.specs.ExpressionTrees.ActualsTree.{NoActual, MoreActuals}
use Rattle.al_view_typed.specs.ExpressionTrees.CallTree.{Called}
use Rattle.al_view_typed.specs.DeclarationTrees.{Objects, Subprogram, Elaborated}
use Rattle.al_view_typed.specs.declared.label.Conversion.{Conversion}
use Rattle.al_view_typed.specs.declared.label.Conversion.TheVariants as conversions
use Rattle.al_view_typed.specs.declared.label.ShortCircuit.TheVariants as short
use Rattle.al_view_typed.specs.StatementTrees.{StatementTree, StatementsTree, StatementFormTree}
use Rattle.al_view_typed.specs.StatementTrees.SchemeTree.{ForeverScheme, WhileScheme, ForScheme}
use Rattle.al_view_typed.specs.StatementTrees.StatementTree.{Numbered}
use Rattle.al_view_typed.specs.StatementTrees.StatementsTree.{NoStatement}
use Rattle.al_view_typed.specs.StatementTrees.StatementFormTree.{AssignmentStatement, BlockStatement, CallStatement, CaseStatement, ExitStatement, IfStatement, LoopStatement, ReturnStatement}
use Rattle.al_view_typed.specs.StatementTrees.BranchTree.{Branch}
use Rattle.al_view_typed.specs.StatementTrees.BranchesTree.{NoBranch, MoreBranches}
use Rattle.al_view_typed.specs.StatementTrees.AlternativeTree.{Alternative}
use Rattle.al_view_typed.specs.StatementTrees.AlternativesTree.{NoAlternative, MoreAlternatives}
use Rattle.al_view_typed.specs.StatementViews.{statements_of}
use Rattle.al_view_typed.specs.UnitTrees.{UnitTree, BodyTree}
use Rattle.al_meaning.specs.Scalars.{Failure, ConstraintError, ProgramError, applied}
use Rattle.al_meaning.specs.States.{Outcome, Gives, Raises, GoesOn, Words, words_at}
use Rattle.al_meaning.specs.Partitions.{meaning}

-- ---- trees

abbrev pub m : UnitKey
m = record { name = 109 ∷ []; kind = Body }

abbrev pub symbol : ℕ → Symbol
symbol letter = record { unit = m; name = letter ∷ []; number = 0 }

abbrev pub tree : FormTree → TypedTree
tree form = Labelled (record { place = record { line = 1; col = 1 }; of = RootInteger; bounds = None; words = 1; value = None }) form

abbrev pub number : ℕ → TypedTree
number n = tree (LiteralForm (record { word = pos n }))

-- an object of the package with these words, and one of a frame
abbrev pub global : ℕ → NameTree
global letter = ObjectName (places.Static (symbol letter) 0) false

abbrev pub own : ℕ → ℕ → NameTree
own depth word = ObjectName (places.Frame depth word) false

abbrev pub value_of : NameTree → TypedTree
value_of name = tree (NamedForm name)

abbrev pub op : BinaryOperator → TypedTree → TypedTree → TypedTree
op o x y = tree (BinaryForm o x y)

abbrev pub range : ℕ → ℕ → Bounds
range low high = record { low = pos low; high = pos high }

abbrev pub list : List StatementTree → StatementsTree
list ss = statements_of ss

abbrev pub set : NameTree → TypedTree → StatementFormTree
set name x = AssignmentStatement name 1 (Checked x None)

abbrev pub call : ℕ → ℕ → ActualsTree → CallTree
call letter words actuals = Called (callee.Subprogram (symbol letter) 1) None words actuals

abbrev pub in_of : TypedTree → ActualsTree → ActualsTree
in_of x more = MoreActuals (InActual (Checked x None)) more

abbrev pub body : ℕ → BodyKind → List FormalWords → List StatementTree → BodyTree
body letter kind formals ss = record { symbol = symbol letter; kind = kind; depth = 2; formals = formals; inside = record { line = 2; frame = 0; declarations = []; statements = ss } }

-- the main procedure `m` with these statements, and bodies inside it
abbrev pub unit : List StatementTree → List BodyTree → UnitTree
unit ss bodies = record {
  unit = m;
  elaboration = None;
  words = 0;
  objects = [];
  flags = [];
  protected_objects = [];
  bodies = record { symbol = symbol 109; kind = kinds.Procedure 0; depth = 1; formals = []; inside = record { line = 1; frame = 4; declarations = []; statements = ss } } ∷ bodies;
}

-- what its run leaves in so many words of an object, and the exception with its line, if it ends by one
abbrev pub left_in : ObjectPlace → ℕ → Outcome Words → Words × Option (Failure × Option (UnitKey × ℕ))
left_in place n (Gives vs st) = (words_at st.words place n, None)
left_in place n (Raises e line st) = (words_at st.words place n, Some (e, line))
left_in place n (GoesOn st) = ([], None)

abbrev pub left : List StatementTree → List BodyTree → ℕ → Words × Option (Failure × Option (UnitKey × ℕ))
left ss bodies n = left_in (places.Static (symbol 115) 0) n (meaning (unit ss bodies ∷ []) (unit ss bodies ∷ []) (symbol 109) 12)

-- ---- loops: `s` is 115, `x` 120

-- for I in reverse 1 .. 5 loop exit when I = 2; S := S * 10 + I; end loop;
abbrev pub counting : List StatementTree
counting =
    Numbered 3 (LoopStatement (ForScheme true (number 1) (number 5) None 5 6) (list (
    Numbered 4 (ExitStatement 0 (Some (op binary.Equal (value_of (own 1 5)) (number 2))))
    ∷ Numbered 5 (set (global 115) (op binary.Plus (op binary.Times (value_of (global 115)) (number 10)) (value_of (own 1 5)))) ∷ []))) ∷ []

-- Outer: loop loop exit Outer; end loop; S := 1; end loop Outer; S := S + 2;
abbrev pub exits_outer : List StatementTree
exits_outer =
    Numbered 3 (LoopStatement ForeverScheme (list (
    Numbered 4 (LoopStatement ForeverScheme (list (Numbered 5 (ExitStatement 1 None) ∷ [])))
    ∷ Numbered 6 (set (global 115) (number 1)) ∷ [])))
    ∷ Numbered 7 (set (global 115) (op binary.Plus (value_of (global 115)) (number 2))) ∷ []

-- case 7 is when 1 .. 3 | 7 => S := 1; when others => S := 2; end case;
abbrev pub choosing : List StatementTree
choosing = Numbered 3 (CaseStatement (number 7) 7 (MoreAlternatives (Alternative (range 1 3 ∷ range 7 7 ∷ []) (list (Numbered 4 (set (global 115) (number 1)) ∷ []))) NoAlternative) (list (Numbered 5 (set (global 115) (number 2)) ∷ []))) ∷ []

pub record LoopsEnd : Type 0 where
  pub counts : left counting [] 1 ≡ (pos 543 ∷ [], None)
  pub exits : left exits_outer [] 1 ≡ (pos 2 ∷ [], None)
  pub chooses : left choosing [] 1 ≡ (pos 1 ∷ [], None)

-- ---- calls

-- function F (N) is if N <= 1 then return 1; end if; return N * F (N - 1);
abbrev pub factorial : BodyTree
factorial = body 102 (kinds.Function 1 9) (record { mode = mode.In; word = 3; words = 1 } ∷ []) (
    Numbered 3 (IfStatement (MoreBranches (Branch 3 (op binary.LessOrEqual (value_of (own 2 3)) (number 1)) (list (Numbered 4 (ReturnStatement (Some (Checked (number 1) None)) 1) ∷ []))) NoBranch) NoStatement)
    ∷ Numbered 5 (ReturnStatement (Some (Checked (op binary.Times (value_of (own 2 3)) (tree (CallForm (call 102 1 (in_of (op binary.Minus (value_of (own 2 3)) (number 1)) NoActual))))) None)) 1) ∷ [])

-- S := F (5);
abbrev pub calling : List StatementTree
calling = Numbered 7 (set (global 115) (tree (CallForm (call 102 1 (in_of (number 5) NoActual))))) ∷ []

-- procedure Q (N; Z : in out) is Z := Z + N;
abbrev pub adding : BodyTree
adding = body 113 (kinds.Procedure 1) (record { mode = mode.In; word = 3; words = 1 } ∷ record { mode = mode.InOut; word = 4; words = 1 } ∷ []) (
    Numbered 3 (set (own 2 4) (op binary.Plus (value_of (own 2 3)) (value_of (own 2 4)))) ∷ [])

-- V (I) where V is `s` and I the word 3 of the main procedure
abbrev pub indexed : TypedTree → NameTree
indexed i = IndexedName (global 115) i (range 1 3) 1

-- function G is I := 2; return 5;
abbrev pub moving : BodyTree
moving = body 103 (kinds.Function 1 9) [] (Numbered 3 (set (own 1 3) (number 2)) ∷ Numbered 4 (ReturnStatement (Some (Checked (number 5) None)) 1) ∷ [])

-- V := (10, 20, 30); I := 1; Q (G, V (I)): V (2) plus 5 goes to V (1)
abbrev pub naming : List StatementTree
naming =
    Numbered 4 (set (indexed (number 1)) (number 10)) ∷ Numbered 5 (set (indexed (number 2)) (number 20)) ∷ Numbered 6 (set (indexed (number 3)) (number 30)) ∷ Numbered 7 (set (own 1 3) (number 1))
    ∷ Numbered 8 (CallStatement (call 113 2 (in_of (tree (CallForm (call 103 0 NoActual))) (MoreActuals (VariableActual (indexed (value_of (own 1 3))) 1 mode.InOut None None 8) NoActual)))) ∷ []

-- procedure R is S := S + 1; called with its flag `e`, which the package's elaboration sets after S : Integer := 6
abbrev pub raising : BodyTree
raising = body 114 (kinds.Procedure 0) [] (Numbered 8 (set (global 115) (op binary.Plus (value_of (global 115)) (number 1))) ∷ [])

abbrev pub elaborating : UnitTree
elaborating = record (unit (Numbered 9 (CallStatement (Called (callee.Subprogram (symbol 114) 1) (Some (places.Static (symbol 101) 0)) 0 NoActual)) ∷ []) (raising ∷ [])) {
  elaboration = Some (record {
    line = 1;
    frame = 0;
    statements = [];
    declarations = record { line = 2; form = Subprogram (places.Static (symbol 101) 0) } ∷ record { line = 3; form = Objects (places.Static (symbol 115) 0 ∷ []) 1 (Some (Checked (number 6) None)) }
        ∷ record { line = 4; form = Elaborated (places.Static (symbol 101) 0) } ∷ [];
  });
}

pub record CallsReturn : Type 0 where
  pub elaborated : left_in (places.Static (symbol 115) 0) 1 (meaning (elaborating ∷ []) (elaborating ∷ []) (symbol 109) 12) ≡ (pos 7 ∷ [], None)
  pub recursion : left calling (factorial ∷ []) 1 ≡ (pos 120 ∷ [], None)
  pub twice_named : left naming (adding ∷ moving ∷ []) 3 ≡ (pos 25 ∷ pos 20 ∷ pos 30 ∷ [], None)

-- ---- exceptions

-- S := 2; while S < 10 loop Q (S, S); end loop; where S is in 0 .. 12: 8 and 8 are 16
abbrev pub copying : List StatementTree
copying =
    Numbered 5 (set (global 115) (number 2))
    ∷ Numbered 6 (LoopStatement (WhileScheme (op binary.Less (value_of (global 115)) (number 10))) (list (
    Numbered 7 (CallStatement (call 113 2 (in_of (value_of (global 115)) (MoreActuals (VariableActual (global 115) 1 mode.InOut None (Some (range 0 12)) 4) NoActual)))) ∷ []))) ∷ []

-- for I in Small range 0 .. 5, where Small is 1 .. 3
abbrev pub marked : ℕ → ℕ → List StatementTree
marked low high = Numbered 4 (LoopStatement (ForScheme false (number low) (number high) (Some (range 1 3)) 5 6) (list (Numbered 5 (set (global 115) (number 9)) ∷ []))) ∷ []

-- S := 7; S := S / 0;
abbrev pub dividing : List StatementTree
dividing = Numbered 3 (set (global 115) (number 7)) ∷ Numbered 4 (set (global 115) (op binary.Divide (value_of (global 115)) (number 0))) ∷ []

-- a function that runs past its end, which is at line 9
abbrev pub ending : BodyTree
ending = body 102 (kinds.Function 1 9) (record { mode = mode.In; word = 3; words = 1 } ∷ []) []

-- a call before the flag `e` is set
abbrev pub early : List StatementTree
early = Numbered 6 (CallStatement (Called (callee.Subprogram (symbol 113) 1) (Some (places.Static (symbol 101) 0)) 0 NoActual)) ∷ []

pub record ExceptionsHaveLines : Type 0 where
  pub copies : left copying (adding ∷ []) 1 ≡ (pos 8 ∷ [], Some (ConstraintError, Some (m, 7)))
  pub marks : left (marked 0 5) [] 1 ≡ (pos 0 ∷ [], Some (ConstraintError, Some (m, 4)))
  pub null_ranges : left (marked 5 0) [] 1 ≡ (pos 0 ∷ [], None)
  pub divides : left dividing [] 1 ≡ (pos 7 ∷ [], Some (ConstraintError, Some (m, 4)))
  pub ends : left calling (ending ∷ []) 1 ≡ (pos 0 ∷ [], Some (ProgramError, Some (m, 9)))
  pub accesses : left early [] 1 ≡ (pos 0 ∷ [], Some (ProgramError, Some (m, 6)))

-- ---- operators: division goes to zero, `rem` has the sign of the left operand and `mod` that of the right one

pub record OperatorsGive : Type 0 where
  pub quotient : applied binary.Divide (negsuc 6) (pos 2) ≡ Ok (negsuc 2)
  pub remainder : applied binary.Rem (negsuc 6) (pos 3) ≡ Ok (negsuc 0)
  pub modulus : applied binary.Mod (negsuc 6) (pos 3) ≡ Ok (pos 2)
  pub negative : applied binary.Mod (pos 7) (negsuc 2) ≡ Ok (negsuc 1)
  pub power : applied binary.Power (negsuc 1) (pos 3) ≡ Ok (negsuc 7)
  pub overflow : applied binary.Plus (pos 9223372036854775807) (pos 1) ≡ Err ConstraintError
  pub zero_divisor : applied binary.Divide (pos 1) (pos 0) ≡ Err ConstraintError

-- ---- records, arrays, blocks

abbrev pub left_at : ℕ → List StatementTree → List BodyTree → ℕ → Words × Option (Failure × Option (UnitKey × ℕ))
left_at letter ss bodies n = left_in (places.Static (symbol letter) 0) n (meaning (unit ss bodies ∷ []) (unit ss bodies ∷ []) (symbol 109) 12)

-- an expression of so many words
abbrev pub wide : ℕ → FormTree → TypedTree
wide words form = Labelled (record { place = record { line = 1; col = 1 }; of = RootInteger; bounds = None; words = words; value = None }) form

abbrev pub set_wide : ℕ → NameTree → FormTree → StatementFormTree
set_wide words name form = AssignmentStatement name words (Checked (wide words form) None)

abbrev pub more : ℕ → ValuesTree → ValuesTree
more n vs = MoreValues (Checked (number n) None) vs

-- S.A := 3; S.B := 4; X := S; S.A := 9;
abbrev pub copying_records : List StatementTree
copying_records =
    Numbered 3 (set (ComponentName (global 115) 0) (number 3)) ∷ Numbered 4 (set (ComponentName (global 115) 1) (number 4))
    ∷ Numbered 5 (set_wide 2 (global 120) (NamedForm (global 115))) ∷ Numbered 6 (set (ComponentName (global 115) 0) (number 9)) ∷ []

-- S := (1, 2, 3); X := (others => 7); S (2) := 20;
abbrev pub filling : List StatementTree
filling =
    Numbered 3 (set_wide 3 (global 115) (AggregateForm (more 1 (more 2 (more 3 NoValue))))) ∷ Numbered 4 (set_wide 3 (global 120) (OthersForm 3 (Checked (number 7) None)))
    ∷ Numbered 5 (set (indexed (number 2)) (number 20)) ∷ []

abbrev pub same : TypedTree
same = op binary.SameWords (wide 3 (NamedForm (global 115))) (wide 3 (NamedForm (global 120)))

-- .. Y := S = X; and after X := S
abbrev pub comparing : List StatementTree → List StatementTree
comparing more_ = filling ++ (more_ ++ Numbered 9 (set (global 121) same) ∷ [])

-- declare P := 4; Q; begin S := P * 10 + Q; end;
abbrev pub declaring : List StatementTree
declaring =
    Numbered 3 (BlockStatement
    (record { line = 4; form = Objects (places.Frame 1 5 ∷ []) 1 (Some (Checked (number 4) None)) } ∷ record { line = 5; form = Objects (places.Frame 1 6 ∷ []) 1 None } ∷ [])
    (list (Numbered 6 (set (global 115) (op binary.Plus (op binary.Times (value_of (own 1 5)) (number 10)) (value_of (own 1 6)))) ∷ []))) ∷ []

-- S (4) := 1
abbrev pub beyond : List StatementTree
beyond = Numbered 3 (set (indexed (number 4)) (number 1)) ∷ []

pub record ObjectsHold : Type 0 where
  pub copied : left_at 120 copying_records [] 2 ≡ (pos 3 ∷ pos 4 ∷ [], None)
  pub kept : left_at 115 copying_records [] 2 ≡ (pos 9 ∷ pos 4 ∷ [], None)
  pub listed : left_at 115 filling [] 3 ≡ (pos 1 ∷ pos 20 ∷ pos 3 ∷ [], None)
  pub filled : left_at 120 filling [] 3 ≡ (pos 7 ∷ pos 7 ∷ pos 7 ∷ [], None)
  pub differ : left_at 121 (comparing []) [] 1 ≡ (pos 0 ∷ [], None)
  pub agree : left_at 121 (comparing (Numbered 8 (set_wide 3 (global 120) (NamedForm (global 115))) ∷ [])) [] 1 ≡ (pos 1 ∷ [], None)
  pub declares : left declaring [] 1 ≡ (pos 40 ∷ [], None)
  pub beyond_bounds : left beyond [] 3 ≡ (pos 0 ∷ pos 0 ∷ pos 0 ∷ [], Some (ConstraintError, Some (m, 3)))

-- ---- tests and conversions: the value goes to S at line 3

abbrev pub putting : FormTree → Words × Option (Failure × Option (UnitKey × ℕ))
putting form = left (Numbered 3 (set (global 115) (tree form)) ∷ []) [] 1

abbrev pub member : ℕ → Bool → FormTree
member n is_negated = MembershipForm (number n) is_negated (number 1) (number 3) 7

-- 10 / X > 1, where X is 0
abbrev pub divided : TypedTree
divided = op binary.Greater (op binary.Divide (number 10) (value_of (global 120))) (number 1)

abbrev pub is_zero : TypedTree
is_zero = op binary.Equal (value_of (global 120)) (number 0)

abbrev pub small : Conversion → FormTree
small conversion = ConvertedForm conversion (Checked (number 3) (Some (range 1 3)))

-- procedure O (Z : out) is Z := 5; with a variable in 0 .. 4
abbrev pub leaving_out : List StatementTree
leaving_out = Numbered 3 (CallStatement (call 111 1 (MoreActuals (VariableActual (global 115) 1 mode.Out (Some (range 5 9)) (Some (range 0 4)) 8) NoActual))) ∷ []

abbrev pub out_body : BodyTree
out_body = body 111 (kinds.Procedure 1) (record { mode = mode.Out; word = 3; words = 1 } ∷ []) (Numbered 2 (set (own 2 3) (number 5)) ∷ [])

pub record TestsGive : Type 0 where
  pub outside : putting (member 5 false) ≡ (pos 0 ∷ [], None)
  pub not_inside : putting (member 5 true) ≡ (pos 1 ∷ [], None)
  pub inside : putting (member 2 false) ≡ (pos 1 ∷ [], None)
  pub or_else : putting (ShortCircuitForm short.OrElse is_zero divided) ≡ (pos 1 ∷ [], None)
  pub and_then : putting (ShortCircuitForm short.AndThen is_zero divided) ≡ (pos 0 ∷ [], Some (ConstraintError, Some (m, 3)))
  pub successor : putting (small conversions.Succ) ≡ (pos 0 ∷ [], Some (ConstraintError, Some (m, 3)))
  pub predecessor : putting (small conversions.Pred) ≡ (pos 2 ∷ [], None)
  pub leaves_out : left leaving_out (out_body ∷ []) 1 ≡ (pos 0 ∷ [], Some (ConstraintError, Some (m, 3)))
