-- The laws: what the code of labelled trees does is what they mean.
use Rattle.std.specs.Prelude.{◌≡◌, ◌≢◌, ℕ, zero, suc, ◌+◌, ◌<◌, ◌≤◌, ⊤, ℤ, Bool, true, false, List, [], ◌∷◌, ◌++◌, length, Some, None, Result, Ok, Err}
use Rattle.al_base.specs.declared.unit_key.UnitKey.{UnitKey}
use Rattle.al_view.specs.ViewUses.{link}
use Rattle.al_view.specs.declared.link.LinkKind.TheVariants as links
use Rattle.al_view.specs.declared.link.LinkSymbol.{LinkSymbol}
use Rattle.al_view.specs.declared.symbol.Symbol.{Symbol}
use Rattle.al_view.specs.declared.view.ObjectPlace.{ObjectPlace}
use Rattle.al_view.specs.declared.view.ObjectPlace.TheVariants as places
use Rattle.al_view_typed.specs.declared.expression.Callee.TheVariants as callee
use Rattle.al_view_typed.specs.declared.unit.BodyKind.TheVariants as kinds
use Rattle.al_view_typed.specs.ExpressionTrees.{TypedTree, CallTree}
use Rattle.al_view_typed.specs.ExpressionTrees.ActualsTree.{NoActual}
use Rattle.al_view_typed.specs.ExpressionTrees.CallTree.{Called}
use Rattle.al_view_typed.specs.DeclarationTrees.{DeclarationTree}
use Rattle.al_view_typed.specs.StatementTrees.{StatementTree, StatementsTree}
use Rattle.al_view_typed.specs.StatementViews.{statements_of}
use Rattle.al_view_typed.specs.UnitTrees.{BodyTree, UnitTree}
use Rattle.al_view_typed.specs.declared.label.BinaryOperator.{BinaryOperator}
use Rattle.al_view_typed.specs.declared.label.UnaryOperator.{UnaryOperator}
use Rattle.al_view_typed.specs.declared.label.UnaryOperator.TheVariants as unary
use Rattle.al_instr.specs.declared.numbers.Plain.{Plain}
use Rattle.al_instr.specs.declared.instruction.Instr.{Instr}
use Rattle.al_instr.specs.declared.instruction.Instr.TheVariants as instr
use Rattle.al_instr.specs.Codes.{code_bytes, size_of}
use Rattle.al_code.specs.declared.piece.Target.{Target}
use Rattle.al_code.specs.declared.piece.Target.TheVariants as target
use Rattle.al_code.specs.Pieces.{Piece, Whole, Using, Leaving, size}
use Rattle.al_code.specs.ExprPieces.{one}
use Rattle.al_code.specs.Routines.{procedure_code}
use Rattle.al_code.specs.Statements.{statements_code}
use Rattle.al_code.specs.Templates.{value_of, unary_code, binary_code, call_code}
use Rattle.al_link_image.specs.declared.parts.Region.{Region}
use Rattle.al_machine.specs.declared.regions.Entered.{Entered}
use Rattle.al_machine.specs.declared.code.Step.{Step}
use Rattle.al_machine.specs.declared.instruction.BinaryOperator.{BinaryOperator as MachineBinary}
use Rattle.al_machine.specs.declared.instruction.UnaryOperator.{UnaryOperator as MachineUnary}
use Rattle.al_machine.specs.declared.instruction.Exception.{Exception}
use Rattle.al_machine.specs.declared.instruction.Exception.TheVariants as exception
use Rattle.al_machine.specs.declared.instruction.Instruction.{Instruction}
use Rattle.al_machine.specs.declared.instruction.Trap.{Trap}
use Rattle.al_machine.specs.declared.instruction.Trap.TheVariants.{Raised}
use Rattle.al_machine.specs.declared.instruction.Instruction.TheVariants as kind
use Rattle.al_machine.specs.declared.operation.Operation.TheVariants as operation
use Rattle.al_machine.specs.Arithmetic.{operated, changed}
use Rattle.al_machine.specs.Operations.{operation_of}
use Rattle.al_machine.specs.Code.{fetch, steps_from}
use Rattle.al_machine.specs.Machine.{Machine}
use Rattle.al_machine.specs.Memory.{is_open}
use Rattle.al_meaning.specs.Scalars.{ConstraintError, ProgramError, Meaningless, Valued, applied, applied_to}
use Rattle.al_meaning.specs.States.{State, same_place, further, Outcome, Raises, Words}
use Rattle.al_meaning.specs.Expressions.{Calls, value, called}
use Rattle.al_meaning.specs.Statements.{all_done}
use Rattle.al_meaning.specs.Partitions.{body_of, calls_of, start, meaning}
use Rattle.al_meaning_code.specs.Running.{Lines, at, TrapsAt}
use Rattle.al_meaning_code.specs.Standing.{Stands, AreMarked}
use Rattle.al_meaning_code.specs.Showing.{Shows}
use Rattle.al_meaning_code.specs.Subset.{needs, IsScalar, IsIn, AreIn, AreDeclared}
use Rattle.al_meaning_code.specs.Effects.{Evaluates, Runs, CallRuns, table_line, line_or}

-- ---- operators

-- the machine's result is that of the language
abbrev pub Agree : Valued → Result ℤ Trap → Type 0
Agree (Ok v) r = r ≡ Ok v
Agree (Err ConstraintError) r = r ≡ Err (Raised exception.Constraint)
Agree (Err ProgramError) r = r ≡ Err (Raised exception.Program)
Agree (Err Meaningless) r = ⊤

-- each operator on scalars is one instruction of the machine, which gives what it gives
abbrev pub OperatorsAgree : Type 0
OperatorsAgree =
    ((o : BinaryOperator) (words : ℕ) → IsScalar o → (p : Plain) × (m : MachineBinary) × (binary_code o words ≡ one p) × (operation_of (instr.Plain p) ≡ operation.Word (kind.Binary m)) × ((a b : ℤ) → Agree (applied o a b) (operated m a b)))
    × ((o : UnaryOperator) → (o ≡ unary.Plus → ⊥) → (p : Plain) × (m : MachineUnary) × (unary_code o ≡ one p) × (operation_of (instr.Plain p) ≡ operation.Word (kind.Unary m)) × ((a : ℤ) → Agree (applied_to o a) (changed m a)))

-- ---- pieces

-- what linking makes of instructions in pieces, and no jump of theirs waits for its end
abbrev pub linked_code : (LinkSymbol → Instr → Instr) → List Piece → List Instr
linked_code linked [] = []
linked_code linked (Whole i ∷ ps) = i ∷ linked_code linked ps
linked_code linked (Using i s ∷ ps) = linked s i ∷ linked_code linked ps
linked_code linked (_ ∷ ps) = linked_code linked ps

abbrev pub IsWhole : List Piece → Type 0
IsWhole [] = ⊤
IsWhole (Leaving w t ∷ ps) = ⊥
IsWhole (_ ∷ ps) = IsWhole ps

-- pieces stand in a code that has their linked instructions, after those before them
abbrev pub PiecesStand : Type 0
PiecesStand =
    (linked : LinkSymbol → Instr → Instr) → ((s : LinkSymbol) (i : Instr) → size_of (linked s i) ≡ size_of i)
    → (ends : Target → ℕ) (before : List Instr) (ps : List Piece) (i : Instr) (after : List Instr) → IsWhole ps
    → Stands (steps_from 0 (before ++ (linked_code linked ps ++ i ∷ after))) linked ends (length (code_bytes before)) ps

-- ---- where code is run

-- variables of frames, and of units
abbrev pub Joined : (ℕ → ℕ → Type 0) → (Symbol → ℕ → Type 0) → ObjectPlace → Type 0
Joined F G (places.Frame d w) = F d w
Joined F G (places.Static s w) = G s w

-- Code as it is run in a body: with the protected objects, those that the task is inside of, and the line of each place; what linking makes of an
-- instruction that uses a symbol; the depth of nesting of the body; the variables that it sees, in frames and in units, with their addresses, and a
-- place of the stack above them all.
pub record Setting : Type 0 where
  pub code : List Step
  pub objects : List Region
  pub inside : List Entered
  pub lines : Lines
  pub linked : LinkSymbol → Instr → Instr
  pub depth : ℕ
  pub is_local : ℕ → ℕ → Bool
  pub is_global : Symbol → ℕ → Bool
  pub address : ObjectPlace → ℕ
  pub floor : ℕ

abbrev pub Globals : Setting → Symbol → ℕ → Type 0
Globals c s w = c.is_global s w ≡ true

abbrev pub Among : Setting → ObjectPlace → Type 0
Among c = Joined (λ d w. c.is_local d w ≡ true) (Globals c)

-- the words of an object lie one after the other, and variables apart from each other; the task may touch them and what is above them; those of frames are of some body
pub record IsLaidOut (c : Setting) : Type 0 where
  pub below : (p : ObjectPlace) → Among c p → c.address p < c.floor
  pub opens : (p : ObjectPlace) → Among c p → is_open c.objects c.inside 0 (c.address p) 1 ≡ true
  pub linear : (p : ObjectPlace) (k : ℕ) → Among c p → Among c (further p k) → c.address (further p k) ≡ c.address p + k
  pub apart : (p q : ObjectPlace) → Among c p → Among c q → same_place p q ≡ false → c.address p ≢ c.address q
  pub alike : (p q : ObjectPlace) → Among c p → Among c q → same_place p q ≡ true → c.address p ≡ c.address q
  pub nested : (d w : ℕ) → Among c (places.Frame d w) → 1 ≤ d
  pub free : (k : ℕ) → c.floor ≤ k → is_open c.objects c.inside 0 k 1 ≡ true

-- the machine shows what the variables hold
abbrev pub ShowsIn : Setting → State → Machine → Type 0
ShowsIn c st m = Shows c.linked c.depth c.floor (Among c) c.address st.words m

abbrev pub StandsIn : Setting → (Target → ℕ) → ℕ → List Piece → Type 0
StandsIn c ends pc ps = Stands c.code c.linked ends pc ps

-- ---- expressions

-- the code of a scalar expression gives its value or raises its exception
abbrev pub ValuesAreGiven : Type 0
ValuesAreGiven =
    (c : Setting) → IsLaidOut c → (calls : Calls) (unit : UnitKey) (line : ℕ) (t : TypedTree) (st : State) (ends : Target → ℕ) (pc : ℕ) (m : Machine)
    → IsIn (Among c) t → ShowsIn c st m → StandsIn c ends pc (value_of c.depth t) → AreMarked c.lines unit line pc (value_of c.depth t)
    → Evaluates c.objects c.inside c.code c.lines (unit, line) (at pc m) m (pc + size (value_of c.depth t)) (needs t) st (value calls t st)

-- ---- procedures of library level without parameters, which call each other

abbrev pub procedure : Symbol → ℕ → ℕ → List DeclarationTree → List StatementTree → BodyTree
procedure symbol line frame declarations statements = record {
  symbol = symbol;
  kind = kinds.Procedure 0;
  depth = 1;
  formals = [];
  inside = record { line = line; frame = frame; declarations = declarations; statements = statements };
}

abbrev pub call_of : Symbol → CallTree
call_of symbol = Called (callee.Subprogram symbol 0) None 0 NoActual

abbrev pub IsCallOf : (Symbol → Bool) → CallTree → Type 0
IsCallOf members call = (symbol : Symbol) × (call ≡ call_of symbol) × (members symbol ≡ true)

-- their statements see the words of their frame, and the objects of units
abbrev pub SeenInside : (Symbol → ℕ → Type 0) → ℕ → ObjectPlace → Type 0
SeenInside G frame = Joined (λ d w. (d ≡ 1) × (3 ≤ w) × (w < 3 + frame)) G

-- one of them: it is the body of its symbol, its frame has at most so many words, its objects are of one word, its statements call such procedures
-- alone and no value needs more than `room`; and its code stands where its symbol leads
pub record IsMember (c : Setting) (us : List UnitTree) (words room : ℕ) (members : Symbol → Bool) (symbol : Symbol) : Type 0 where
  pub unit : UnitKey
  pub line : ℕ
  pub frame : ℕ
  pub declarations : List DeclarationTree
  pub statements : List StatementTree
  pub found : body_of us symbol ≡ Some (unit, procedure symbol line frame declarations statements)
  pub small : frame ≤ words
  pub declares : AreDeclared (SeenInside (Globals c) frame) (IsCallOf members) room declarations
  pub fits : AreIn (SeenInside (Globals c) frame) (IsCallOf members) room (statements_of statements)
  pub place : ℕ
  pub leads : c.linked (link links.Code symbol) (instr.Call 0 0) ≡ instr.Call place 0
  pub ends : Target → ℕ
  pub stands : StandsIn c ends place (procedure_code (procedure symbol line frame declarations statements) 0)
  pub before : ℕ
  pub marked : AreMarked c.lines unit before place (procedure_code (procedure symbol line frame declarations statements) 0)

abbrev pub IsFamily : Setting → List UnitTree → ℕ → ℕ → (Symbol → Bool) → Type 0
IsFamily c us words room members = (symbol : Symbol) → members symbol ≡ true → IsMember c us words room members symbol

-- the words of the stack that calls need which are so many deep
abbrev pub stack_for : ℕ → ℕ → ℕ → ℕ
stack_for words room zero = 3 + room
stack_for words room (suc n) = 3 + words + stack_for words room n

-- a call of one of them does what its body means
abbrev pub CallsAreDone : Type 0
CallsAreDone =
    (c : Setting) → IsLaidOut c → (us : List UnitTree) (words room : ℕ) (members : Symbol → Bool) → IsFamily c us words room members
    → (n : ℕ) (symbol : Symbol) → members symbol ≡ true → (line : UnitKey × ℕ) (st : State) (ends : Target → ℕ) (pc : ℕ) (m : Machine)
    → ShowsIn c st m → StandsIn c ends pc (call_code c.depth (call_of symbol))
    → CallRuns c.objects c.inside c.code c.lines c.linked c.depth c.floor (stack_for words room n) (Among c) c.address line (at pc m) m (pc + size (call_code c.depth (call_of symbol))) (suc n) (called (calls_of us n) (call_of symbol) st)

-- the exception at that line is what the call means; nothing is said of what no checked unit does
abbrev pub IsMeant : Exception → UnitKey × ℕ → Outcome Words → Type 0
IsMeant e line (Raises ConstraintError told st) = (e ≡ exception.Constraint) × (table_line (line_or line told) ≡ line)
IsMeant e line (Raises ProgramError told st) = (e ≡ exception.Program) × (table_line (line_or line told) ≡ line)
IsMeant e line (Raises Meaningless told st) = ⊤
IsMeant e line _ = ⊥

-- conversely, where no instruction on words follows such a call: an exception other than Storage_Error that a run comes to in fewer than so many
-- instructions is what the call means within that bound
abbrev pub ExceptionsAreMeant : Type 0
ExceptionsAreMeant =
    (c : Setting) → IsLaidOut c → (us : List UnitTree) (words room : ℕ) (members : Symbol → Bool) → IsFamily c us words room members
    → (n : ℕ) (symbol : Symbol) → members symbol ≡ true → (st : State) (ends : Target → ℕ) (pc : ℕ) (m : Machine)
    → ShowsIn c st m → StandsIn c ends pc (call_code c.depth (call_of symbol))
    → ((i : Instruction) (next : ℕ) → fetch c.code (pc + size (call_code c.depth (call_of symbol))) ≡ Some (operation.Word i, next) → ⊥)
    → (line : UnitKey × ℕ) (e : Exception) (t : TrapsAt c.objects c.inside c.code c.lines (at pc m) line e) → t.leads.0 ≤ n → e ≢ exception.Storage
    → IsMeant e line (called (calls_of us n) (call_of symbol) st)

-- ---- partitions

-- nothing is done when the items are elaborated
abbrev pub AreWithoutElaboration : List UnitTree → Type 0
AreWithoutElaboration [] = ⊤
AreWithoutElaboration (u ∷ us) = (u.elaboration ≡ None) × AreWithoutElaboration us

-- before a machine that shows the state at the start, a call of the main subprogram does what the partition means
abbrev pub PartitionsAreDone : Type 0
PartitionsAreDone =
    (c : Setting) → IsLaidOut c → (us items : List UnitTree) (words room : ℕ) (members : Symbol → Bool) → IsFamily c us words room members → AreWithoutElaboration items
    → (n : ℕ) (main : Symbol) → members main ≡ true → (line : UnitKey × ℕ) (ends : Target → ℕ) (pc : ℕ) (m : Machine)
    → ShowsIn c start m → StandsIn c ends pc (call_code c.depth (call_of main))
    → CallRuns c.objects c.inside c.code c.lines c.linked c.depth c.floor (stack_for words room n) (Among c) c.address line (at pc m) m (pc + size (call_code c.depth (call_of main))) (suc n) (meaning us items main n)

-- ---- statements

-- the code of statements that call such procedures does what they mean
abbrev pub StatementsAreDone : Type 0
StatementsAreDone =
    (c : Setting) → IsLaidOut c → (us : List UnitTree) (words room : ℕ) (members : Symbol → Bool) → IsFamily c us words room members
    → (n : ℕ) (unit : UnitKey) (unlocks : Bool) (before : ℕ) (line : UnitKey × ℕ) (ss : StatementsTree) (st : State) (ends : Target → ℕ) (pc : ℕ) (m : Machine)
    → AreIn (Among c) (IsCallOf members) room ss → ShowsIn c st m
    → StandsIn c ends pc (statements_code (record { depth = c.depth; unlocks = unlocks }) ss) → AreMarked c.lines unit before pc (statements_code (record { depth = c.depth; unlocks = unlocks }) ss)
    → Runs c.objects c.inside c.code c.lines c.linked c.depth c.floor (stack_for words room n) (Among c) c.address (λ loops. ends (target.Loop loops)) (ends target.Routine) line (at pc m) m (pc + size (statements_code (record { depth = c.depth; unlocks = unlocks }) ss)) (suc n) (all_done (calls_of us n) unit c.depth (suc n) ss st)
