-- Lists of lexemes that are sentences, and places of faults.
use Rattle.std.proofs.Common.{ℕ, zero, suc, ◌≡◌, List, [], ◌∷◌, ◌++◌, Option, Some, None, if◌then◌else◌, refl}
use Rattle.std.specs.Prelude.{replicate}
use Rattle.al_tree_grammar.specs.Grammar.{Label, Lexeme}
use Rattle.al_tree_grammar.specs.Grammar.Lexeme.{Fixed, Named}
use Rattle.al_tree_grammar.specs.Reading.{times, turns}
use Rattle.al_tree_grammar.specs.Growing.{fault_of}
use Rattle.al_tree_syntax.specs.Symbols.{Symbol, number, is_labelled}
use Rattle.al_tree_syntax.specs.Symbols.Symbol.{Identifier, Number, StringLiteral, Ampersand, And, Apostrophe, Array, Arrow, Assign, Begin, Body, Case, Colon, Comma, Constant, Declare, Delay, Dot, DoubleAsterisk, DoubleDot, Else, Elsif, End, Entry, Equal, Exit, For, Function, If, In, Is, LeftParenthesis, Loop, Minus, Mod, Not, NotEqual, Null, Of, Or, Others, Out, Package, Plus, Pragma, Private, Procedure, Protected, Range, Record, Return, Reverse, RightParenthesis, Semicolon, Separate, Subtype, Task, Then, «Type», Until, Use, VerticalLine, When, While, With}
use Rattle.al_tree_syntax.specs.Constructs.{construct_at}
use Rattle.al_tree_syntax.specs.Expressions.{identifier_rule, identifiers_rule, compound_name_rule, compound_names_rule, selection_rule, designator_rule, name_rest_rule, parentheses_rule, name_rule, primary_rule, factor_rule, multiplying_rule, term_rule, adding_rule, simple_expression_rule, relational_rule, membership_rule, relation_rule, and_rule, or_rule, xor_rule, expression_rule, expressions_rule, range_rule, discrete_range_rule}
use Rattle.al_tree_syntax.specs.Declarations.{use_rule, pragma_rule, subtype_indication_rule, array_rule, initial_rule, typed_rule, object_rule, component_rule, type_rule, subtype_rule, formal_rule, formals_rule, specification_rule, aspect_rule, task_rule, common_rule, declaration_rule, subprogram_rule, item_rule, operation_rule, element_rule, protected_rule, operation_body_rule, protected_body_rule}
use Rattle.al_tree_syntax.specs.Statements.{loop_rule, block_rule, named_rule, return_rule, exit_rule, delay_rule, statement_rule, statements_rule, branch_rule, if_rule, choice_rule, alternative_rule, case_rule, plain_loop_rule, while_rule, for_rule, plain_block_rule, declare_rule}
use Rattle.al_tree_syntax.specs.Units.{subprogram_body_rule, package_rule, package_body_rule, context_rule, library_item_rule, unit_rule}
use Rattle.al_tree_syntax.specs.Rules.{inside, grammar, most}

nowhere : Label
nowhere = record { text = []; line = 0; col = 0 }

word : Symbol → Lexeme
word s = if is_labelled s then Named (number s) nowhere else Fixed (number s)

name : Lexeme
name = word Identifier

number_literal : Lexeme
number_literal = word Number

string : Lexeme
string = word StringLiteral

repeated : ℕ → List Lexeme → List Lexeme
repeated zero xs = []
repeated (suc n) xs = xs ++ repeated n xs

-- how many lexemes are before the fault
fault : List Lexeme → Option ℕ
fault xs = fault_of grammar most unit_rule xs

-- procedure M is begin null; end M;
smallest : List Lexeme
smallest = (word Procedure ∷ name ∷ word Is ∷ word Begin ∷ word Null ∷ word Semicolon ∷ word End ∷ name ∷ word Semicolon ∷ [])

-- procedure M is begin null; end M
no_last_semicolon : List Lexeme
no_last_semicolon = (word Procedure ∷ name ∷ word Is ∷ word Begin ∷ word Null ∷ word Semicolon ∷ word End ∷ name ∷ [])

-- procedure M is X : Boolean := A and B or C; begin null; end M;
no_mixing : List Lexeme
no_mixing =
    (word Procedure ∷ name ∷ word Is ∷ name ∷ word Colon ∷ name ∷ word Assign ∷ name ∷ word And ∷ name ∷ word Or ∷ name
    ∷ word Semicolon ∷ word Begin ∷ word Null ∷ word Semicolon ∷ word End ∷ name ∷ word Semicolon ∷ [])

-- procedure M is X : Boolean := A and then B and C; begin null; end M;
no_mixing_short : List Lexeme
no_mixing_short =
    (word Procedure ∷ name ∷ word Is ∷ name ∷ word Colon ∷ name ∷ word Assign ∷ name ∷ word And ∷ word Then ∷ name ∷ word And
    ∷ name ∷ word Semicolon ∷ word Begin ∷ word Null ∷ word Semicolon ∷ word End ∷ name ∷ word Semicolon ∷ [])

-- procedure M is X : Boolean := A and then B and then not C; Y : Boolean := A or else B = 1; begin null; end M;
short_forms : List Lexeme
short_forms =
    (word Procedure ∷ name ∷ word Is ∷ name ∷ word Colon ∷ name ∷ word Assign ∷ name ∷ word And ∷ word Then ∷ name ∷ word And
    ∷ word Then ∷ word Not ∷ name ∷ word Semicolon ∷ name ∷ word Colon ∷ name ∷ word Assign ∷ name ∷ word Or ∷ word Else
    ∷ name ∷ word Equal ∷ number_literal ∷ word Semicolon ∷ word Begin ∷ word Null ∷ word Semicolon ∷ word End ∷ name
    ∷ word Semicolon ∷ [])

-- procedure M is X : Integer := {63 (} 1 {63 )}; begin null; end M;
parentheses_63 : List Lexeme
parentheses_63 =
    (word Procedure ∷ name ∷ word Is ∷ name ∷ word Colon ∷ name ∷ word Assign
    ∷ []) ++ replicate 63 (word LeftParenthesis) ++ (number_literal
    ∷ []) ++ replicate 63 (word RightParenthesis) ++ (word Semicolon ∷ word Begin ∷ word Null ∷ word Semicolon ∷ word End
    ∷ name ∷ word Semicolon ∷ [])

-- procedure M is X : Integer := {64 (} 1 {64 )}; begin null; end M;
parentheses_64 : List Lexeme
parentheses_64 =
    (word Procedure ∷ name ∷ word Is ∷ name ∷ word Colon ∷ name ∷ word Assign
    ∷ []) ++ replicate 64 (word LeftParenthesis) ++ (number_literal
    ∷ []) ++ replicate 64 (word RightParenthesis) ++ (word Semicolon ∷ word Begin ∷ word Null ∷ word Semicolon ∷ word End
    ∷ name ∷ word Semicolon ∷ [])

-- procedure M is begin {61 begin} declare procedure X (A : Integer) is begin null; end X; begin null; end; {61 end;} end M;
body_in_63 : List Lexeme
body_in_63 =
    (word Procedure ∷ name ∷ word Is ∷ word Begin ∷ []) ++ replicate 61 (word Begin) ++ (word Declare ∷ word Procedure ∷ name
    ∷ word LeftParenthesis ∷ name ∷ word Colon ∷ name ∷ word RightParenthesis ∷ word Is ∷ word Begin ∷ word Null
    ∷ word Semicolon ∷ word End ∷ name ∷ word Semicolon ∷ word Begin ∷ word Null ∷ word Semicolon ∷ word End ∷ word Semicolon
    ∷ []) ++ repeated 61 (word End ∷ word Semicolon ∷ []) ++ (word End ∷ name ∷ word Semicolon ∷ [])

-- procedure M is begin {62 begin} declare procedure X is begin null; end X; begin null; end; {62 end;} end M;
body_in_64 : List Lexeme
body_in_64 =
    (word Procedure ∷ name ∷ word Is ∷ word Begin ∷ []) ++ replicate 62 (word Begin) ++ (word Declare ∷ word Procedure ∷ name
    ∷ word Is ∷ word Begin ∷ word Null ∷ word Semicolon ∷ word End ∷ name ∷ word Semicolon ∷ word Begin ∷ word Null
    ∷ word Semicolon ∷ word End ∷ word Semicolon ∷ []) ++ repeated 62 (word End ∷ word Semicolon ∷ []) ++ (word End ∷ name
    ∷ word Semicolon ∷ [])

-- procedure M is begin {62 begin} declare procedure X is separate; begin null; end; {62 end;} end M;
stub_in_64 : List Lexeme
stub_in_64 =
    (word Procedure ∷ name ∷ word Is ∷ word Begin ∷ []) ++ replicate 62 (word Begin) ++ (word Declare ∷ word Procedure ∷ name
    ∷ word Is ∷ word Separate ∷ word Semicolon ∷ word Begin ∷ word Null ∷ word Semicolon ∷ word End ∷ word Semicolon
    ∷ []) ++ repeated 62 (word End ∷ word Semicolon ∷ []) ++ (word End ∷ name ∷ word Semicolon ∷ [])

-- procedure M is begin {62 begin} if (True) then null; end if; {62 end;} end M;
condition_in_63 : List Lexeme
condition_in_63 =
    (word Procedure ∷ name ∷ word Is ∷ word Begin ∷ []) ++ replicate 62 (word Begin) ++ (word If ∷ word LeftParenthesis
    ∷ name ∷ word RightParenthesis ∷ word Then ∷ word Null ∷ word Semicolon ∷ word End ∷ word If ∷ word Semicolon
    ∷ []) ++ repeated 62 (word End ∷ word Semicolon ∷ []) ++ (word End ∷ name ∷ word Semicolon ∷ [])

-- procedure M is begin {62 begin} if True then null; end if; {62 end;} end M;
if_in_63 : List Lexeme
if_in_63 =
    (word Procedure ∷ name ∷ word Is ∷ word Begin ∷ []) ++ replicate 62 (word Begin) ++ (word If ∷ name ∷ word Then
    ∷ word Null ∷ word Semicolon ∷ word End ∷ word If ∷ word Semicolon ∷ []) ++ repeated 62 (word End ∷ word Semicolon
    ∷ []) ++ (word End ∷ name ∷ word Semicolon ∷ [])

-- procedure M is begin {62 begin} declare X : array (1 .. 2) of Integer; begin null; end; {62 end;} end M;
array_in_64 : List Lexeme
array_in_64 =
    (word Procedure ∷ name ∷ word Is ∷ word Begin ∷ []) ++ replicate 62 (word Begin) ++ (word Declare ∷ name ∷ word Colon
    ∷ word Array ∷ word LeftParenthesis ∷ number_literal ∷ word DoubleDot ∷ number_literal ∷ word RightParenthesis ∷ word Of
    ∷ name ∷ word Semicolon ∷ word Begin ∷ word Null ∷ word Semicolon ∷ word End ∷ word Semicolon
    ∷ []) ++ repeated 62 (word End ∷ word Semicolon ∷ []) ++ (word End ∷ name ∷ word Semicolon ∷ [])

-- procedure M is begin {63 begin} L : loop null; end loop L; {63 end;} end M;
label_in_64 : List Lexeme
label_in_64 =
    (word Procedure ∷ name ∷ word Is ∷ word Begin ∷ []) ++ replicate 63 (word Begin) ++ (name ∷ word Colon ∷ word Loop
    ∷ word Null ∷ word Semicolon ∷ word End ∷ word Loop ∷ name ∷ word Semicolon ∷ []) ++ repeated 63 (word End
    ∷ word Semicolon ∷ []) ++ (word End ∷ name ∷ word Semicolon ∷ [])

-- procedure M is begin {63 begin} if True then null; end if; {63 end;} end M;
if_in_64 : List Lexeme
if_in_64 =
    (word Procedure ∷ name ∷ word Is ∷ word Begin ∷ []) ++ replicate 63 (word Begin) ++ (word If ∷ name ∷ word Then
    ∷ word Null ∷ word Semicolon ∷ word End ∷ word If ∷ word Semicolon ∷ []) ++ repeated 63 (word End ∷ word Semicolon
    ∷ []) ++ (word End ∷ name ∷ word Semicolon ∷ [])

-- procedure M is begin {62 begin} declare protected P is end P; begin null; end; {62 end;} end M;
protected_in_64 : List Lexeme
protected_in_64 =
    (word Procedure ∷ name ∷ word Is ∷ word Begin ∷ []) ++ replicate 62 (word Begin) ++ (word Declare ∷ word Protected ∷ name
    ∷ word Is ∷ word End ∷ name ∷ word Semicolon ∷ word Begin ∷ word Null ∷ word Semicolon ∷ word End ∷ word Semicolon
    ∷ []) ++ repeated 62 (word End ∷ word Semicolon ∷ []) ++ (word End ∷ name ∷ word Semicolon ∷ [])

-- procedure M is begin {62 begin} declare task T; task body T is begin null; end T; begin null; end; {62 end;} end M;
task_body_in_64 : List Lexeme
task_body_in_64 =
    (word Procedure ∷ name ∷ word Is ∷ word Begin ∷ []) ++ replicate 62 (word Begin) ++ (word Declare ∷ word Task ∷ name
    ∷ word Semicolon ∷ word Task ∷ word Body ∷ name ∷ word Is ∷ word Begin ∷ word Null ∷ word Semicolon ∷ word End ∷ name
    ∷ word Semicolon ∷ word Begin ∷ word Null ∷ word Semicolon ∷ word End ∷ word Semicolon ∷ []) ++ repeated 62 (word End
    ∷ word Semicolon ∷ []) ++ (word End ∷ name ∷ word Semicolon ∷ [])

-- procedure M is begin {62 begin} declare type T is record null; end record; begin null; end; {62 end;} end M;
record_in_64 : List Lexeme
record_in_64 =
    (word Procedure ∷ name ∷ word Is ∷ word Begin ∷ []) ++ replicate 62 (word Begin) ++ (word Declare ∷ word «Type» ∷ name
    ∷ word Is ∷ word Record ∷ word Null ∷ word Semicolon ∷ word End ∷ word Record ∷ word Semicolon ∷ word Begin ∷ word Null
    ∷ word Semicolon ∷ word End ∷ word Semicolon ∷ []) ++ repeated 62 (word End ∷ word Semicolon ∷ []) ++ (word End ∷ name
    ∷ word Semicolon ∷ [])

-- procedure M is begin {61 begin} declare protected body P is procedure Q is begin null; end Q; end P; begin null; end; {61 end;} end M;
procedure_in_64 : List Lexeme
procedure_in_64 =
    (word Procedure ∷ name ∷ word Is ∷ word Begin ∷ []) ++ replicate 61 (word Begin) ++ (word Declare ∷ word Protected
    ∷ word Body ∷ name ∷ word Is ∷ word Procedure ∷ name ∷ word Is ∷ word Begin ∷ word Null ∷ word Semicolon ∷ word End
    ∷ name ∷ word Semicolon ∷ word End ∷ name ∷ word Semicolon ∷ word Begin ∷ word Null ∷ word Semicolon ∷ word End
    ∷ word Semicolon ∷ []) ++ repeated 61 (word End ∷ word Semicolon ∷ []) ++ (word End ∷ name ∷ word Semicolon ∷ [])

-- procedure M is X : Integer := Integer'(1).Y; begin null; end M;
qualified_ends : List Lexeme
qualified_ends =
    (word Procedure ∷ name ∷ word Is ∷ name ∷ word Colon ∷ name ∷ word Assign ∷ name ∷ word Apostrophe ∷ word LeftParenthesis
    ∷ number_literal ∷ word RightParenthesis ∷ word Dot ∷ name ∷ word Semicolon ∷ word Begin ∷ word Null ∷ word Semicolon
    ∷ word End ∷ name ∷ word Semicolon ∷ [])

-- procedure M is begin P'(1); end M;
qualified_no_statement : List Lexeme
qualified_no_statement =
    (word Procedure ∷ name ∷ word Is ∷ word Begin ∷ name ∷ word Apostrophe ∷ word LeftParenthesis ∷ number_literal
    ∷ word RightParenthesis ∷ word Semicolon ∷ word End ∷ name ∷ word Semicolon ∷ [])

-- procedure M is X : Integer := T'First.Y (1)'Last'(2); begin P.Q (1).R := S'range; end M;
attribute_goes_on : List Lexeme
attribute_goes_on =
    (word Procedure ∷ name ∷ word Is ∷ name ∷ word Colon ∷ name ∷ word Assign ∷ name ∷ word Apostrophe ∷ name ∷ word Dot
    ∷ name ∷ word LeftParenthesis ∷ number_literal ∷ word RightParenthesis ∷ word Apostrophe ∷ name ∷ word Apostrophe
    ∷ word LeftParenthesis ∷ number_literal ∷ word RightParenthesis ∷ word Semicolon ∷ word Begin ∷ name ∷ word Dot ∷ name
    ∷ word LeftParenthesis ∷ number_literal ∷ word RightParenthesis ∷ word Dot ∷ name ∷ word Assign ∷ name ∷ word Apostrophe
    ∷ word Range ∷ word Semicolon ∷ word End ∷ name ∷ word Semicolon ∷ [])

-- procedure M is separate;
stub_of_unit : List Lexeme
stub_of_unit = (word Procedure ∷ name ∷ word Is ∷ word Separate ∷ word Semicolon ∷ [])

-- package P is type E is (A, B); type R is record X, Y : Integer range 1 .. 2; end record; type N is null record; A : constant := 1; B, C : constant P.E := A; D : array (E) of E := (others => A); subtype S is Integer range 0 .. 9; protected O with Priority => 5 is procedure Q (X : in out E; Y : E); entry Z; private K : Integer := 1; end O; task T with Priority => (2); function F return E; pragma Pure (P); use type P.E; private type V is range -1 .. +1; end P;
declarations : List Lexeme
declarations =
    (word Package ∷ name ∷ word Is ∷ word «Type» ∷ name ∷ word Is ∷ word LeftParenthesis ∷ name ∷ word Comma ∷ name
    ∷ word RightParenthesis ∷ word Semicolon ∷ word «Type» ∷ name ∷ word Is ∷ word Record ∷ name ∷ word Comma ∷ name
    ∷ word Colon ∷ name ∷ word Range ∷ number_literal ∷ word DoubleDot ∷ number_literal ∷ word Semicolon ∷ word End
    ∷ word Record ∷ word Semicolon ∷ word «Type» ∷ name ∷ word Is ∷ word Null ∷ word Record ∷ word Semicolon ∷ name
    ∷ word Colon ∷ word Constant ∷ word Assign ∷ number_literal ∷ word Semicolon ∷ name ∷ word Comma ∷ name ∷ word Colon
    ∷ word Constant ∷ name ∷ word Dot ∷ name ∷ word Assign ∷ name ∷ word Semicolon ∷ name ∷ word Colon ∷ word Array
    ∷ word LeftParenthesis ∷ name ∷ word RightParenthesis ∷ word Of ∷ name ∷ word Assign ∷ word LeftParenthesis ∷ word Others
    ∷ word Arrow ∷ name ∷ word RightParenthesis ∷ word Semicolon ∷ word Subtype ∷ name ∷ word Is ∷ name ∷ word Range
    ∷ number_literal ∷ word DoubleDot ∷ number_literal ∷ word Semicolon ∷ word Protected ∷ name ∷ word With ∷ name
    ∷ word Arrow ∷ number_literal ∷ word Is ∷ word Procedure ∷ name ∷ word LeftParenthesis ∷ name ∷ word Colon ∷ word In
    ∷ word Out ∷ name ∷ word Semicolon ∷ name ∷ word Colon ∷ name ∷ word RightParenthesis ∷ word Semicolon ∷ word Entry
    ∷ name ∷ word Semicolon ∷ word Private ∷ name ∷ word Colon ∷ name ∷ word Assign ∷ number_literal ∷ word Semicolon
    ∷ word End ∷ name ∷ word Semicolon ∷ word Task ∷ name ∷ word With ∷ name ∷ word Arrow ∷ word LeftParenthesis
    ∷ number_literal ∷ word RightParenthesis ∷ word Semicolon ∷ word Function ∷ name ∷ word Return ∷ name ∷ word Semicolon
    ∷ word Pragma ∷ name ∷ word LeftParenthesis ∷ name ∷ word RightParenthesis ∷ word Semicolon ∷ word Use ∷ word «Type» ∷ name
    ∷ word Dot ∷ name ∷ word Semicolon ∷ word Private ∷ word «Type» ∷ name ∷ word Is ∷ word Range ∷ word Minus ∷ number_literal
    ∷ word DoubleDot ∷ word Plus ∷ number_literal ∷ word Semicolon ∷ word End ∷ name ∷ word Semicolon ∷ [])

-- with A, B.C; use A; package body P is task body T is begin loop delay until X; end loop; end T; protected body O is function F return E is begin return 1; end F; entry Z when (K) is begin null; end Z; end O; procedure S is separate; begin null; end P;
bodies : List Lexeme
bodies =
    (word With ∷ name ∷ word Comma ∷ name ∷ word Dot ∷ name ∷ word Semicolon ∷ word Use ∷ name ∷ word Semicolon
    ∷ word Package ∷ word Body ∷ name ∷ word Is ∷ word Task ∷ word Body ∷ name ∷ word Is ∷ word Begin ∷ word Loop
    ∷ word Delay ∷ word Until ∷ name ∷ word Semicolon ∷ word End ∷ word Loop ∷ word Semicolon ∷ word End ∷ name
    ∷ word Semicolon ∷ word Protected ∷ word Body ∷ name ∷ word Is ∷ word Function ∷ name ∷ word Return ∷ name ∷ word Is
    ∷ word Begin ∷ word Return ∷ number_literal ∷ word Semicolon ∷ word End ∷ name ∷ word Semicolon ∷ word Entry ∷ name
    ∷ word When ∷ word LeftParenthesis ∷ name ∷ word RightParenthesis ∷ word Is ∷ word Begin ∷ word Null ∷ word Semicolon
    ∷ word End ∷ name ∷ word Semicolon ∷ word End ∷ name ∷ word Semicolon ∷ word Procedure ∷ name ∷ word Is ∷ word Separate
    ∷ word Semicolon ∷ word Begin ∷ word Null ∷ word Semicolon ∷ word End ∷ name ∷ word Semicolon ∷ [])

-- separate (A.B) procedure M (X : out E) is begin X := -A ** 2 + B mod 3 & "c"; P; Q (1, F (2)).R; if A in 1 .. 2 then return; elsif A not in B then exit when C; else null; end if; case X is when 1 | 2 .. 3 => null; when S range 1 .. 2 => null; when others => exit L; end case; L : for I in reverse S'range loop null; end loop L; while A /= B loop null; end loop; declare Z : E; begin Z := (1, 2); end; K : begin null; end K; end M;
statements : List Lexeme
statements =
    (word Separate ∷ word LeftParenthesis ∷ name ∷ word Dot ∷ name ∷ word RightParenthesis ∷ word Procedure ∷ name
    ∷ word LeftParenthesis ∷ name ∷ word Colon ∷ word Out ∷ name ∷ word RightParenthesis ∷ word Is ∷ word Begin ∷ name
    ∷ word Assign ∷ word Minus ∷ name ∷ word DoubleAsterisk ∷ number_literal ∷ word Plus ∷ name ∷ word Mod ∷ number_literal
    ∷ word Ampersand ∷ string ∷ word Semicolon ∷ name ∷ word Semicolon ∷ name ∷ word LeftParenthesis ∷ number_literal
    ∷ word Comma ∷ name ∷ word LeftParenthesis ∷ number_literal ∷ word RightParenthesis ∷ word RightParenthesis ∷ word Dot
    ∷ name ∷ word Semicolon ∷ word If ∷ name ∷ word In ∷ number_literal ∷ word DoubleDot ∷ number_literal ∷ word Then
    ∷ word Return ∷ word Semicolon ∷ word Elsif ∷ name ∷ word Not ∷ word In ∷ name ∷ word Then ∷ word Exit ∷ word When ∷ name
    ∷ word Semicolon ∷ word Else ∷ word Null ∷ word Semicolon ∷ word End ∷ word If ∷ word Semicolon ∷ word Case ∷ name
    ∷ word Is ∷ word When ∷ number_literal ∷ word VerticalLine ∷ number_literal ∷ word DoubleDot ∷ number_literal
    ∷ word Arrow ∷ word Null ∷ word Semicolon ∷ word When ∷ name ∷ word Range ∷ number_literal ∷ word DoubleDot
    ∷ number_literal ∷ word Arrow ∷ word Null ∷ word Semicolon ∷ word When ∷ word Others ∷ word Arrow ∷ word Exit ∷ name
    ∷ word Semicolon ∷ word End ∷ word Case ∷ word Semicolon ∷ name ∷ word Colon ∷ word For ∷ name ∷ word In ∷ word Reverse
    ∷ name ∷ word Apostrophe ∷ word Range ∷ word Loop ∷ word Null ∷ word Semicolon ∷ word End ∷ word Loop ∷ name
    ∷ word Semicolon ∷ word While ∷ name ∷ word NotEqual ∷ name ∷ word Loop ∷ word Null ∷ word Semicolon ∷ word End
    ∷ word Loop ∷ word Semicolon ∷ word Declare ∷ name ∷ word Colon ∷ name ∷ word Semicolon ∷ word Begin ∷ name ∷ word Assign
    ∷ word LeftParenthesis ∷ number_literal ∷ word Comma ∷ number_literal ∷ word RightParenthesis ∷ word Semicolon ∷ word End
    ∷ word Semicolon ∷ name ∷ word Colon ∷ word Begin ∷ word Null ∷ word Semicolon ∷ word End ∷ name ∷ word Semicolon
    ∷ word End ∷ name ∷ word Semicolon ∷ [])

-- package P is type T is private; function F return T; private type T is null record; end P;
private_type : List Lexeme
private_type =
    (word Package ∷ name ∷ word Is ∷ word «Type» ∷ name ∷ word Is ∷ word Private ∷ word Semicolon ∷ word Function ∷ name
    ∷ word Return ∷ name ∷ word Semicolon ∷ word Private ∷ word «Type» ∷ name ∷ word Is ∷ word Null ∷ word Record
    ∷ word Semicolon ∷ word End ∷ name ∷ word Semicolon ∷ [])

-- package P is type T is private record null; end record; end P;
private_record : List Lexeme
private_record =
    (word Package ∷ name ∷ word Is ∷ word «Type» ∷ name ∷ word Is ∷ word Private ∷ word Record ∷ word Null ∷ word Semicolon
    ∷ word End ∷ word Record ∷ word Semicolon ∷ word End ∷ name ∷ word Semicolon ∷ [])

-- private procedure A.B;
private_unit : List Lexeme
private_unit = (word Private ∷ word Procedure ∷ name ∷ word Dot ∷ name ∷ word Semicolon ∷ [])

-- private procedure A.B is begin null; end A.B;
private_body : List Lexeme
private_body =
    (word Private ∷ word Procedure ∷ name ∷ word Dot ∷ name ∷ word Is ∷ word Begin ∷ word Null ∷ word Semicolon ∷ word End
    ∷ name ∷ word Dot ∷ name ∷ word Semicolon ∷ [])

-- procedure M is begin end M;
no_statement : List Lexeme
no_statement = (word Procedure ∷ name ∷ word Is ∷ word Begin ∷ word End ∷ name ∷ word Semicolon ∷ [])

-- no lexeme at all
nothing : List Lexeme
nothing = []

-- Sentences have no fault.
sentences_have_none :
    (fault smallest ≡ None)
    × (fault short_forms ≡ None)
    × (fault parentheses_63 ≡ None)
    × (fault body_in_63 ≡ None)
    × (fault stub_in_64 ≡ None)
    × (fault if_in_63 ≡ None)
    × (fault attribute_goes_on ≡ None)
    × (fault declarations ≡ None)
    × (fault bodies ≡ None)
    × (fault statements ≡ None)
    × (fault private_unit ≡ None)
    × (fault private_type ≡ None)
unfolding fault fault_of times turns grammar construct_at inside nowhere word name number_literal string repeated smallest no_last_semicolon no_mixing no_mixing_short short_forms parentheses_63 parentheses_64 body_in_63 body_in_64 stub_in_64 condition_in_63 if_in_63 array_in_64 label_in_64 if_in_64 protected_in_64 task_body_in_64 record_in_64 procedure_in_64 qualified_ends qualified_no_statement attribute_goes_on stub_of_unit declarations bodies statements private_unit private_body private_type private_record no_statement nothing identifier_rule identifiers_rule compound_name_rule compound_names_rule selection_rule designator_rule name_rest_rule parentheses_rule name_rule primary_rule factor_rule multiplying_rule term_rule adding_rule simple_expression_rule relational_rule membership_rule relation_rule and_rule or_rule xor_rule expression_rule expressions_rule range_rule discrete_range_rule use_rule pragma_rule subtype_indication_rule array_rule initial_rule typed_rule object_rule component_rule type_rule subtype_rule formal_rule formals_rule specification_rule aspect_rule task_rule common_rule declaration_rule subprogram_rule item_rule operation_rule element_rule protected_rule operation_body_rule protected_body_rule loop_rule block_rule named_rule return_rule exit_rule delay_rule statement_rule statements_rule branch_rule if_rule choice_rule alternative_rule case_rule plain_loop_rule while_rule for_rule plain_block_rule declare_rule subprogram_body_rule package_rule package_body_rule context_rule library_item_rule unit_rule
sentences_have_none = (refl, refl, refl, refl, refl, refl, refl, refl, refl, refl, refl, refl)

-- Where the fault is.
faults_have_places :
    (fault no_last_semicolon ≡ Some 8)  -- at the end
    × (fault no_mixing ≡ Some 10)  -- at `or`
    × (fault no_mixing_short ≡ Some 12)  -- at `C`
    × (fault parentheses_64 ≡ Some 70)  -- at `(`
    × (fault body_in_64 ≡ Some 70)  -- at `begin`
    × (fault condition_in_63 ≡ Some 67)  -- at `(`
    × (fault array_in_64 ≡ Some 69)  -- at `array`
    × (fault label_in_64 ≡ Some 68)  -- at `:`
    × (fault if_in_64 ≡ Some 67)  -- at `if`
    × (fault protected_in_64 ≡ Some 67)  -- at `protected`
    × (fault task_body_in_64 ≡ Some 71)  -- at `body`
    × (fault record_in_64 ≡ Some 70)  -- at `record`
    × (fault procedure_in_64 ≡ Some 70)  -- at `procedure`
    × (fault qualified_ends ≡ Some 12)  -- at `.`
    × (fault qualified_no_statement ≡ Some 6)  -- at `(`
    × (fault stub_of_unit ≡ Some 3)  -- at `separate`
    × (fault private_body ≡ Some 5)  -- at `is`
    × (fault private_record ≡ Some 7)  -- at `record`
    × (fault no_statement ≡ Some 4)  -- at `end`
    × (fault nothing ≡ Some 0)  -- at the end
unfolding fault fault_of times turns grammar construct_at inside nowhere word name number_literal string repeated smallest no_last_semicolon no_mixing no_mixing_short short_forms parentheses_63 parentheses_64 body_in_63 body_in_64 stub_in_64 condition_in_63 if_in_63 array_in_64 label_in_64 if_in_64 protected_in_64 task_body_in_64 record_in_64 procedure_in_64 qualified_ends qualified_no_statement attribute_goes_on stub_of_unit declarations bodies statements private_unit private_body private_type private_record no_statement nothing identifier_rule identifiers_rule compound_name_rule compound_names_rule selection_rule designator_rule name_rest_rule parentheses_rule name_rule primary_rule factor_rule multiplying_rule term_rule adding_rule simple_expression_rule relational_rule membership_rule relation_rule and_rule or_rule xor_rule expression_rule expressions_rule range_rule discrete_range_rule use_rule pragma_rule subtype_indication_rule array_rule initial_rule typed_rule object_rule component_rule type_rule subtype_rule formal_rule formals_rule specification_rule aspect_rule task_rule common_rule declaration_rule subprogram_rule item_rule operation_rule element_rule protected_rule operation_body_rule protected_body_rule loop_rule block_rule named_rule return_rule exit_rule delay_rule statement_rule statements_rule branch_rule if_rule choice_rule alternative_rule case_rule plain_loop_rule while_rule for_rule plain_block_rule declare_rule subprogram_body_rule package_rule package_body_rule context_rule library_item_rule unit_rule
faults_have_places = (refl, refl, refl, refl, refl, refl, refl, refl, refl, refl, refl, refl, refl, refl, refl, refl, refl, refl, refl, refl)
