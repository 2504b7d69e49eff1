-- What a walk over a text asks of whoever knows what its names mean. H is how far the check has come: the place with its regions, what
-- is declared and waits there, and the words that are taken.
use Rattle.std.specs.Prelude.{ℕ, Bool, List, Option, Result}
use Rattle.al_view.specs.declared.types.Bounds.{Bounds}
use Rattle.al_base_fault.specs.declared.fault.Fault.{Fault}
use Rattle.al_tree_grammar.specs.Grammar.{Label}
use Rattle.al_tree_syntax.specs.DeclarationTrees.{CommonTree, DiscreteRangeTree, ProtectedTree, SpecificationTree, TaskTree}
use Rattle.al_tree_syntax.specs.ExpressionTrees.{ExpressionTree}
use Rattle.al_tree_syntax.specs.StatementTrees.{ChoiceTree, OperationBodiesTree}
use Rattle.al_stmts.specs.declared.choice.Choice.{Choice}
use Rattle.al_stmts.specs.declared.choice.Selector.{Selector}
use Rattle.al_view_typed.specs.DeclarationTrees.{DeclarationTree}
use Rattle.al_view_typed.specs.ExpressionTrees.{CallTree, TypedTree}
use Rattle.al_view_typed.specs.StatementTrees.{PieceTree, StatementTree}
use Rattle.al_view_typed.specs.UnitTrees.{BodyTree}
use Rattle.al_stmts.specs.LoopForms.{RangeTree}
use Rattle.al_stmts.specs.declared.loops.LoopWords.{LoopWords}
use Rattle.al_stmts.specs.declared.simple.ReturnContext.{ReturnContext}
use Rattle.al_stmts.specs.declared.extent.BodyExtent.{BodyExtent}

-- what the name of a statement that is a name alone denotes
pub data CallEffect : Type 0 where
  -- a procedure or an entry (ARM 6.4, 9.5.3)
  Called : CallTree → CallEffect
  -- Put, Put_Line or New_Line (ARM A.10.5, A.10.7), and whether the line ends
  Put : List PieceTree → Bool → CallEffect

-- a walk that goes on, with what was judged
abbrev pub Read : Type 0 → Type 0 → Type 0
Read H A = H × Result A Fault

-- how far a check has come, with what is given there
abbrev pub giving : {H A : Type 0} → H → A → H × A
giving h a = (h, a)

pub record Reading (H : Type 0) : Type 0 where
  -- ---- expressions, each with its labels and with the words of its temporaries in source order
  pub condition : H → ExpressionTree → Read H TypedTree
  pub moment : H → ExpressionTree → Read H TypedTree
  -- what is assigned to, and the value that is wanted at its type
  pub target : H → ExpressionTree → Read H TypedTree
  pub source : H → ExpressionTree → ExpressionTree → Read H TypedTree
  pub call_effect : H → ExpressionTree → Read H CallEffect
  -- the value of the innermost function
  pub result : H → ExpressionTree → Read H TypedTree
  -- a selector, the bounds of its type, and a choice that is wanted at its type
  pub selector : H → ExpressionTree → Read H TypedTree
  pub whole : H → ExpressionTree → Bounds
  pub choice : H → ExpressionTree → ChoiceTree → Result Choice Fault
  -- whether choices are right
  pub are_right : Selector → List (List Choice) → Bool
  -- ---- words of the frame
  pub word : H → ℕ
  pub with_word : H → H
  -- ---- regions (ARM 8.1): of a loop, in which its parameter is begun; of a block; both are left again
  pub loop_entered : H → Label → H
  pub loop_range : H → DiscreteRangeTree → Read H RangeTree
  -- the parameter is declared, if its range is right
  pub with_parameter : H → Label → RangeTree → LoopWords → H
  pub block_entered : H → H
  pub left : H → H
  -- ---- declarations: what they do at their places, or their fault
  pub declared : H → CommonTree → Read H (List DeclarationTree)
  pub subprogram : H → SpecificationTree → Read H (List DeclarationTree)
  pub stub : H → SpecificationTree → Label → Read H (List DeclarationTree)
  -- a task; a protected object, with the place of `protected` (ARM 9.1, 9.4)
  pub single_task : H → TaskTree → Read H (List DeclarationTree)
  pub single_object : H → Label → ProtectedTree → Read H (List DeclarationTree)
  -- what waits for its body at the end of a part
  pub missing : H → Label → Option Fault
  -- ---- bodies: what comes before `is`, with what the body does at its place; of a subprogram, of a task by its name, of an entry by
  -- its name and its barrier (ARM 6.3, 9.1, 9.5.2)
  pub head : H → SpecificationTree → Read H (List DeclarationTree)
  pub task_head : H → Label → Read H (List DeclarationTree)
  pub entry_head : H → Label → ExpressionTree → Read H (List DeclarationTree)
  -- after its head, the region of a body with its formals, one deeper, where the words of the frame begin after theirs
  pub body_entered : H → H
  -- what its return statements are in
  pub returns : H → ReturnContext
  -- after what was inside: the body as it is labelled; and how far the check has come after it, in what is round it
  pub body : H → BodyExtent → List DeclarationTree → List StatementTree → BodyTree
  pub body_left : H → H
  -- ---- protected bodies (ARM 9.4): by the place of `protected`, the name and the operations a region in which these wait for their
  -- bodies, with what the body does at its place; it is left again
  pub object_entered : H → Label → Label → OperationBodiesTree → Read H (List DeclarationTree)
  pub object_left : H → H
  -- ---- units
  -- what is wrong at the end of a package's declaration: a private type has no full declaration (ARM 7.3(4))
  pub incomplete : H → Label → Option Fault
  -- from here on the ancestors' private parts are seen (ARM 8.2(5))
  pub private_entered : H → H
  -- the statements of a package's body, whose frame is that of the unit's elaboration
  pub statements_entered : H → H
