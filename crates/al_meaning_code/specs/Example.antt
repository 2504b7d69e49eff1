-- A setting that meets the premises of the laws: X := X + 1 in the frame of a main procedure, where X is its word 3.
use Rattle.std.specs.Prelude.{◌≡◌, ℕ, ℤ, pos, false, ◌&&◌, ◌==◌, List, [], ◌∷◌, ◌++◌, length, Some, None}
use Rattle.al_base.specs.declared.unit_key.UnitKey.{UnitKey}
use Rattle.al_base.specs.declared.unit_key.UnitKind.TheVariants.{Body}
use Rattle.al_view.specs.declared.view.ObjectPlace.{ObjectPlace}
use Rattle.al_view.specs.declared.view.ObjectPlace.TheVariants as places
use Rattle.al_view_typed.specs.declared.label.BinaryOperator.TheVariants as binary
use Rattle.al_view_typed.specs.declared.label.ExpressionType.TheVariants.{RootInteger}
use Rattle.al_view_typed.specs.ExpressionTrees.{TypedTree, FormTree}
use Rattle.al_view_typed.specs.ExpressionTrees.FormTree.{LiteralForm, NamedForm, BinaryForm}
use Rattle.al_view_typed.specs.ExpressionTrees.NameTree.{ObjectName}
use Rattle.al_view_typed.specs.ExpressionTrees.TypedTree.{Labelled}
use Rattle.al_view_typed.specs.ExpressionTrees.ValueTree.{Checked}
use Rattle.al_view_typed.specs.StatementTrees.{StatementsTree}
use Rattle.al_view_typed.specs.StatementTrees.StatementTree.{Numbered}
use Rattle.al_view_typed.specs.StatementTrees.StatementsTree.{NoStatement, MoreStatements}
use Rattle.al_view_typed.specs.StatementTrees.StatementFormTree.{AssignmentStatement}
use Rattle.al_instr.specs.declared.instruction.Instr.TheVariants as instr
use Rattle.al_instr.specs.declared.numbers.Plain.TheVariants as plain
use Rattle.al_code.specs.Statements.{statements_code}
use Rattle.al_machine.specs.Code.{steps_from}
use Rattle.al_machine.specs.Machine.{Machine}
use Rattle.al_machine.specs.Stack.{word_at}
use Rattle.al_meaning.specs.Partitions.{start}
use Rattle.al_meaning_code.specs.Laws.{Setting, Among, IsLaidOut, IsCallOf, ShowsIn, StandsIn, linked_code}
use Rattle.al_meaning_code.specs.Standing.{AreMarked}
use Rattle.al_meaning_code.specs.Subset.{AreIn}

abbrev pub unit : UnitKey
unit = record { name = 109 ∷ []; kind = Body }

abbrev pub tree : FormTree → TypedTree
tree form = Labelled (record { place = record { line = 1; col = 1 }; of = RootInteger; bounds = None; words = 1; value = None }) form

abbrev pub x : ObjectPlace
x = places.Frame 1 3

-- at line 2
abbrev pub statements : StatementsTree
statements =
    MoreStatements (Numbered 2 (AssignmentStatement (ObjectName x false) 1
    (Checked (tree (BinaryForm binary.Plus (tree (NamedForm (ObjectName x false))) (tree (LiteralForm (record { word = pos 1 }))))) None))) NoStatement

abbrev pub setting : Setting
setting = record {
  code = steps_from 0 (linked_code (λ s i. i) (statements_code (record { depth = 1; unlocks = false }) statements) ++ instr.Plain plain.Done ∷ []);
  objects = [];
  inside = [];
  lines = λ k. Some (unit, 2);
  linked = λ s i. i;
  depth = 1;
  is_local = λ d w. (d == 1) && (w == 3);
  is_global = λ s w. false;
  address = λ p. 3;
  floor = 4;
}

-- the frame has the one word
abbrev pub machine : List ℤ → Machine
machine memory = record { memory = memory; first = 0; frame = 0; top = 4 }

pub record MeetsPremises (memory : List ℤ) : Type 0 where
  pub laid_out : IsLaidOut setting
  pub are_in : AreIn (Among setting) (IsCallOf (λ s. false)) 2 statements
  pub shows : ShowsIn setting start (machine memory)
  pub stands : StandsIn setting (λ t. 0) 0 (statements_code (record { depth = 1; unlocks = false }) statements)
  pub marked : AreMarked setting.lines unit 2 0 (statements_code (record { depth = 1; unlocks = false }) statements)

-- a memory of zeros meets them
abbrev pub PremisesAreMet : Type 0
PremisesAreMet = (memory : List ℤ) → length memory ≡ 16384 → ((k : ℕ) → word_at (machine memory) k ≡ pos 0) → MeetsPremises memory
