-- What a walk has so far, and how its parts are put together. Nothing is asked here.
use Rattle.std.specs.Prelude.{ℕ, List, [], ◌∷◌, ◌++◌, Option, Some, option_map, Result, Ok, Err}
use Rattle.al_base_fault.specs.declared.fault.Fault.{Fault}
use Rattle.al_tree_grammar.specs.Grammar.{Label}
use Rattle.al_stmts.specs.declared.choice.Choice.{Choice}
use Rattle.al_stmts.specs.Exits.{EnclosingLoops}
use Rattle.al_stmts.specs.FaultLists.{followed, no_fault, of_declaration, of_statement}
use Rattle.al_stmts.specs.declared.fault_list.FaultList.{FaultList}
use Rattle.al_view_typed.specs.DeclarationTrees.{DeclarationTree}
use Rattle.al_view_typed.specs.ExpressionTrees.{TypedTree}
use Rattle.al_view_typed.specs.StatementTrees.{SchemeTree, StatementTree}
use Rattle.al_view_typed.specs.UnitTrees.{BodyTree}
use Rattle.al_stmts.specs.Branches.{Branched, branched, no_branch, with_branch, with_otherwise}
use Rattle.al_stmts.specs.Cases.{Alternatives, cased, chosen_by, none_chosen, with_alternative}
use Rattle.al_stmts.specs.Checking.{Checked, alone, broken_off, checked_after}
use Rattle.al_stmts.specs.LoopForms.{blocked, looped}
use Rattle.al_stmts.specs.declared.simple.ReturnContext.{ReturnContext}

-- what is round statements: the innermost body, and the loops in it
pub record Enclosing : Type 0 where
  pub returns : ReturnContext
  pub loops : EnclosingLoops

abbrev pub name_of : Option Label → Option (List ℕ)
name_of name = option_map (λ l. l.text) name

-- one more loop, with its name if it has one
abbrev pub in_loop : Enclosing → Option Label → Enclosing
in_loop r name = record { returns = r.returns; loops = name_of name ∷ r.loops }

-- the statements of a body
abbrev pub in_body : ReturnContext → Enclosing
in_body returns = record { returns = returns; loops = [] }

-- ---- statements

-- statements that were walked over: what is wrong, the statements, and the bodies inside them in the order of their first tokens
pub record Walked : Type 0 where
  pub checked : Checked
  pub bodies : List BodyTree

unfoldable pub nothing : Walked
nothing = record { checked = broken_off no_fault; bodies = [] }

-- a statement with nothing inside it
unfoldable pub alone_of : Result StatementTree Fault → Walked
alone_of checked = record { checked = alone checked; bodies = [] }

-- a statement that ends with the fault of a declaration inside it
unfoldable pub broken_by : Fault → Walked
broken_by f = record { checked = broken_off (of_declaration (Some f)); bodies = [] }

-- statements, and then those after them
unfoldable pub joined : Walked → Walked → Walked
joined a b = record { checked = checked_after a.checked b.checked; bodies = a.bodies ++ b.bodies }

-- ---- branches

-- the branches so far
pub record Branching : Type 0 where
  pub so_far : Branched
  pub bodies : List BodyTree

unfoldable pub no_branching : Branching
no_branching = record { so_far = no_branch; bodies = [] }

-- one more branch, by its condition and its statements
unfoldable pub one_branch : Branching → ℕ → Result TypedTree Fault → Walked → Branching
one_branch b line condition inner = record { so_far = with_branch b.so_far line condition inner.checked; bodies = b.bodies ++ inner.bodies }

unfoldable pub one_otherwise : Branching → Walked → Branching
one_otherwise b inner = record { so_far = with_otherwise b.so_far inner.checked; bodies = b.bodies ++ inner.bodies }

unfoldable pub if_of : ℕ → Branching → Walked
if_of line b = record { checked = branched line b.so_far; bodies = b.bodies }

-- ---- alternatives

-- the selector with its choices, in the word that keeps it; the alternatives so far, and the choices of those after them
pub record Choosing : Type 0 where
  pub slot : ℕ
  pub selector : Result TypedTree Fault
  pub choices : List (List Choice)
  pub so_far : Alternatives
  pub bodies : List BodyTree

unfoldable pub choosing : ℕ → Result TypedTree Fault → List (List Choice) → Choosing
choosing slot selector choices = record { slot = slot; selector = selector; choices = choices; so_far = none_chosen; bodies = [] }

-- the choices of the next alternative, and those after them
abbrev pub next_choices : List (List Choice) → List Choice
next_choices [] = []
next_choices (c ∷ cs) = c

abbrev pub rest_of : List (List Choice) → List (List Choice)
rest_of [] = []
rest_of (c ∷ cs) = cs

-- one more alternative, by its statements
unfoldable pub one_alternative : Choosing → Walked → Choosing
one_alternative a inner = record {
  slot = a.slot;
  selector = a.selector;
  choices = rest_of a.choices;
  so_far = with_alternative a.so_far (chosen_by (next_choices a.choices)) inner.checked;
  bodies = a.bodies ++ inner.bodies;
}

unfoldable pub case_of : ℕ → Choosing → Walked
case_of line a = record { checked = cased line a.slot a.selector a.so_far; bodies = a.bodies }

-- ---- loops

-- a loop, with the fault of the name at its end
unfoldable pub loop_of : ℕ → Result SchemeTree Fault → Option Fault → Walked → Walked
loop_of line scheme end inner = record { checked = looped line scheme end inner.checked; bodies = inner.bodies }

-- ---- declarations

-- declarations that were walked over, with the bodies inside them
pub record Part : Type 0 where
  pub faults : FaultList
  pub declarations : List DeclarationTree
  pub bodies : List BodyTree

unfoldable pub no_part : Part
no_part = record { faults = no_fault; declarations = []; bodies = [] }

-- a declaration by what it does, or by its fault, which ends the list
unfoldable pub part_of : Result (List DeclarationTree) Fault → Part
part_of (Ok effects) = record { faults = no_fault; declarations = effects; bodies = [] }
part_of (Err f) = record { faults = of_declaration (Some f); declarations = []; bodies = [] }

unfoldable pub parts_joined : Part → Part → Part
parts_joined a b = record { faults = followed a.faults b.faults; declarations = a.declarations ++ b.declarations; bodies = a.bodies ++ b.bodies }

-- a part with what is wrong at its end, which counts as a declaration
unfoldable pub closed_by : Part → Option Fault → Part
closed_by part fault = record { faults = followed part.faults (of_declaration fault); declarations = part.declarations; bodies = part.bodies }

-- ---- declarations with the statements after them

pub record Inside : Type 0 where
  pub faults : FaultList
  pub declarations : List DeclarationTree
  pub statements : List StatementTree
  pub bodies : List BodyTree

-- what is wrong with both is in one list
unfoldable pub inside_of : Part → Walked → Inside
inside_of part inner = record {
  faults = followed part.faults inner.checked.faults;
  declarations = part.declarations;
  statements = inner.checked.statements;
  bodies = part.bodies ++ inner.bodies;
}

-- a block, with the fault of the name at its end
unfoldable pub block_of : ℕ → Option Fault → Inside → Walked
block_of line end inside = record {
  checked = blocked line inside.declarations end (record { faults = inside.faults; statements = inside.statements });
  bodies = inside.bodies;
}

-- what is wrong with a body after its head: E504 at its `end` counts as a statement, E308 as a declaration
abbrev pub body_faults : FaultList → Option Fault → Option Fault → FaultList
body_faults inside no_return end = followed (followed inside (of_statement no_return)) (of_declaration end)

-- a body by what it does at its place, by what is wrong at its end, and by what it is with its labels, which is before the bodies
-- inside it
unfoldable pub body_of : List DeclarationTree → Option Fault → Option Fault → BodyTree → Inside → Part
body_of effects no_return end body inside = record {
  faults = body_faults inside.faults no_return end;
  declarations = effects;
  bodies = body ∷ inside.bodies;
}

-- declarations and statements with the fault of the name at their end, which counts as a declaration
unfoldable pub ended_by : Inside → Option Fault → Inside
ended_by inside fault = record {
  faults = followed inside.faults (of_declaration fault);
  declarations = inside.declarations;
  statements = inside.statements;
  bodies = inside.bodies;
}

-- a protected body by what it does at its place, with its operations' bodies and the fault of the name at its end, which counts as a
-- declaration
unfoldable pub object_of : List DeclarationTree → Option Fault → Part → Part
object_of effects end operations = record { faults = followed operations.faults (of_declaration end); declarations = effects; bodies = operations.bodies }
