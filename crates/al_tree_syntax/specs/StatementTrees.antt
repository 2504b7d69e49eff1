-- Trees of statements (ARM 5, 6.4, 6.5, 9.6) and of the bodies that hold them (ARM 3.11, 6.3, 9.1, 9.4) as plain data, and their lexemes.
use Rattle.std.specs.Prelude.{Bool, List, [], ◌∷◌, ◌++◌, Option}
use Rattle.al_tree_grammar.specs.Grammar.{Label, Lexeme, each, maybe}
use Rattle.al_tree_syntax.specs.Symbols.{Symbol as symbols}
use Rattle.al_tree_syntax.specs.Words.{word, labelled}
use Rattle.al_tree_syntax.specs.ExpressionTrees.{ExpressionTree, expression_tokens, name_tokens}
use Rattle.al_tree_syntax.specs.DeclarationTrees.{CompoundNameTree, DiscreteRangeTree, SpecificationTree, TaskTree, ProtectedTree, CommonTree, identifier_token, compound_tokens, end_name_tokens, flag_tokens, discrete_range_tokens, initial_tokens, specification_tokens, task_tokens, protected_tokens, common_tokens}

-- others; a discrete range
pub data ChoiceTree : Type 0 where
  OthersChoice : ChoiceTree
  RangeChoice : DiscreteRangeTree → ChoiceTree

-- the places of the words that close a statement (`end if`), with the name of a loop
pub record LoopEndTree : Type 0 where
  pub end : Label
  pub closing : Label
  pub end_name : Option Label

-- end [identifier] ;
pub record NamedEndTree : Type 0 where
  pub end : Label
  pub end_name : Option Label

-- end [compound name] ;
pub record CompoundEndTree : Type 0 where
  pub end : Label
  pub end_name : Option CompoundNameTree

mutual
  -- one at least (ARM 5.1)
  pub data StatementsTree : Type 0 where
    Statements : StatementTree → MoreStatementsTree → StatementsTree

  pub data MoreStatementsTree : Type 0 where
    NoStatement : MoreStatementsTree
    MoreStatements : StatementTree → MoreStatementsTree → MoreStatementsTree

  -- a statement with the place of its first word, if it begins with one, and of the last word of `end if` and `end case`
  pub data StatementTree : Type 0 where
    NullStatement : StatementTree
    Assignment : ExpressionTree → ExpressionTree → StatementTree
    CallStatement : ExpressionTree → StatementTree
    ReturnStatement : Label → Option ExpressionTree → StatementTree
    ExitStatement : Label → Option Label → Option ExpressionTree → StatementTree
    DelayStatement : Label → ExpressionTree → StatementTree
    IfStatement : Label → BranchTree → ElsifsTree → ElseTree → Label → Label → StatementTree
    CaseStatement : Label → ExpressionTree → AlternativeTree → AlternativesTree → Label → Label → StatementTree
    LoopStatement : Option Label → LoopTree → StatementTree
    BlockStatement : Option Label → BlockTree → StatementTree

  -- condition then statements
  pub data BranchTree : Type 0 where
    Branch : ExpressionTree → StatementsTree → BranchTree

  pub data ElsifsTree : Type 0 where
    NoElsif : ElsifsTree
    MoreElsifs : Label → BranchTree → ElsifsTree → ElsifsTree

  pub data ElseTree : Type 0 where
    NoElse : ElseTree
    Else : StatementsTree → ElseTree

  -- when choice {| choice} => statements
  pub data AlternativeTree : Type 0 where
    Alternative : ChoiceTree → List ChoiceTree → StatementsTree → AlternativeTree

  pub data AlternativesTree : Type 0 where
    NoAlternative : AlternativesTree
    MoreAlternatives : AlternativeTree → AlternativesTree → AlternativesTree

  -- a while loop and a for loop have the places of their first word and of `loop`
  pub data LoopTree : Type 0 where
    PlainLoop : Label → StatementsTree → LoopEndTree → LoopTree
    WhileLoop : Label → ExpressionTree → Label → StatementsTree → LoopEndTree → LoopTree
    ForLoop : Label → Label → Bool → DiscreteRangeTree → Label → StatementsTree → LoopEndTree → LoopTree

  pub data BlockTree : Type 0 where
    DeclareBlock : Label → HandledTree → BlockTree
    PlainBlock : Label → StatementsTree → NamedEndTree → BlockTree

  -- declarations begin statements end [identifier] ; as a block, a task body and an entry body have them
  pub data HandledTree : Type 0 where
    Handled : ItemsTree → Label → StatementsTree → NamedEndTree → HandledTree

  -- the body of a subprogram, after `is` (ARM 6.3)
  pub data BodyTree : Type 0 where
    Body : ItemsTree → Label → StatementsTree → CompoundEndTree → BodyTree

  pub data ItemsTree : Type 0 where
    NoItem : ItemsTree
    MoreItems : ItemTree → ItemsTree → ItemsTree

  -- an item of a declarative part (ARM 3.11). A stub has the place of `separate`, a task body that of `task`, a protected
  -- declaration or body that of `protected`.
  pub data ItemTree : Type 0 where
    CommonItem : CommonTree → ItemTree
    SubprogramItem : SpecificationTree → ItemTree
    StubItem : SpecificationTree → Label → ItemTree
    BodyItem : SpecificationTree → BodyTree → ItemTree
    TaskItem : TaskTree → ItemTree
    TaskBodyItem : Label → Label → HandledTree → ItemTree
    ProtectedItem : Label → ProtectedTree → ItemTree
    ProtectedBodyItem : Label → Label → OperationBodiesTree → NamedEndTree → ItemTree

  pub data OperationBodiesTree : Type 0 where
    NoOperationBody : OperationBodiesTree
    MoreOperationBodies : OperationBodyTree → OperationBodiesTree → OperationBodiesTree

  -- the body of an operation in a protected body; an entry body has the place of `entry`, its name and its barrier (ARM 9.5.2)
  pub data OperationBodyTree : Type 0 where
    SubprogramOperation : SpecificationTree → BodyTree → OperationBodyTree
    EntryOperation : Label → Label → ExpressionTree → HandledTree → OperationBodyTree

abbrev pub choice_tokens : ChoiceTree → List Lexeme
choice_tokens OthersChoice = word symbols.Others ∷ []
choice_tokens (RangeChoice r) = discrete_range_tokens r

-- end loop [identifier] ;
abbrev pub loop_end_tokens : LoopEndTree → List Lexeme
loop_end_tokens e = labelled symbols.End e.end ∷ labelled symbols.Loop e.closing ∷ (end_name_tokens e.end_name ++ word symbols.Semicolon ∷ [])

abbrev pub named_end_tokens : NamedEndTree → List Lexeme
named_end_tokens e = labelled symbols.End e.end ∷ (end_name_tokens e.end_name ++ word symbols.Semicolon ∷ [])

abbrev pub compound_end_tokens : CompoundEndTree → List Lexeme
compound_end_tokens e = labelled symbols.End e.end ∷ (maybe compound_tokens e.end_name ++ word symbols.Semicolon ∷ [])

-- when expression
abbrev pub when_tokens : ExpressionTree → List Lexeme
when_tokens e = word symbols.When ∷ expression_tokens e

-- identifier :
abbrev pub label_tokens : Label → List Lexeme
label_tokens l = identifier_token l ∷ word symbols.Colon ∷ []

abbrev mutual
  pub statements_tokens : StatementsTree → List Lexeme
  statements_tokens (Statements s ss) = statement_tokens s ++ more_statements_tokens ss

  pub more_statements_tokens : MoreStatementsTree → List Lexeme
  more_statements_tokens NoStatement = []
  more_statements_tokens (MoreStatements s ss) = statement_tokens s ++ more_statements_tokens ss

  pub statement_tokens : StatementTree → List Lexeme
  statement_tokens NullStatement = word symbols.Null ∷ word symbols.Semicolon ∷ []
  statement_tokens (Assignment n e) = name_tokens n ++ (initial_tokens e ++ word symbols.Semicolon ∷ [])
  statement_tokens (CallStatement n) = name_tokens n ++ word symbols.Semicolon ∷ []
  statement_tokens (ReturnStatement l e) = labelled symbols.Return l ∷ (maybe expression_tokens e ++ word symbols.Semicolon ∷ [])
  statement_tokens (ExitStatement l n e) = labelled symbols.Exit l ∷ (end_name_tokens n ++ (maybe when_tokens e ++ word symbols.Semicolon ∷ []))
  statement_tokens (DelayStatement l e) = labelled symbols.Delay l ∷ word symbols.Until ∷ (expression_tokens e ++ word symbols.Semicolon ∷ [])
  statement_tokens (IfStatement l b bs e m c) =
      labelled symbols.If l ∷ (branch_tokens b ++ (elsifs_tokens bs ++ (else_tokens e
      ++ labelled symbols.End m ∷ labelled symbols.If c ∷ word symbols.Semicolon ∷ [])))
  statement_tokens (CaseStatement l e a more m c) =
      labelled symbols.Case l ∷ (expression_tokens e ++ word symbols.Is ∷ (alternative_tokens a ++ (alternatives_tokens more
      ++ labelled symbols.End m ∷ labelled symbols.Case c ∷ word symbols.Semicolon ∷ [])))
  statement_tokens (LoopStatement n l) = maybe label_tokens n ++ loop_tokens l
  statement_tokens (BlockStatement n b) = maybe label_tokens n ++ block_tokens b

  pub branch_tokens : BranchTree → List Lexeme
  branch_tokens (Branch e ss) = expression_tokens e ++ word symbols.Then ∷ statements_tokens ss

  pub elsifs_tokens : ElsifsTree → List Lexeme
  elsifs_tokens NoElsif = []
  elsifs_tokens (MoreElsifs l b bs) = labelled symbols.Elsif l ∷ (branch_tokens b ++ elsifs_tokens bs)

  pub else_tokens : ElseTree → List Lexeme
  else_tokens NoElse = []
  else_tokens (Else ss) = word symbols.Else ∷ statements_tokens ss

  pub alternative_tokens : AlternativeTree → List Lexeme
  alternative_tokens (Alternative c cs ss) =
      word symbols.When ∷ (choice_tokens c ++ (each (λ d. word symbols.VerticalLine ∷ choice_tokens d) cs
      ++ word symbols.Arrow ∷ statements_tokens ss))

  pub alternatives_tokens : AlternativesTree → List Lexeme
  alternatives_tokens NoAlternative = []
  alternatives_tokens (MoreAlternatives a more) = alternative_tokens a ++ alternatives_tokens more

  pub loop_tokens : LoopTree → List Lexeme
  loop_tokens (PlainLoop l ss e) = labelled symbols.Loop l ∷ (statements_tokens ss ++ loop_end_tokens e)
  loop_tokens (WhileLoop w c l ss e) =
      labelled symbols.While w ∷ (expression_tokens c ++ labelled symbols.Loop l ∷ (statements_tokens ss ++ loop_end_tokens e))
  loop_tokens (ForLoop f i r d l ss e) =
      labelled symbols.For f ∷ identifier_token i ∷ word symbols.In ∷ (flag_tokens symbols.Reverse r ++ (discrete_range_tokens d
      ++ labelled symbols.Loop l ∷ (statements_tokens ss ++ loop_end_tokens e)))

  pub block_tokens : BlockTree → List Lexeme
  block_tokens (DeclareBlock l h) = labelled symbols.Declare l ∷ handled_tokens h
  block_tokens (PlainBlock l ss e) = labelled symbols.Begin l ∷ (statements_tokens ss ++ named_end_tokens e)

  pub handled_tokens : HandledTree → List Lexeme
  handled_tokens (Handled is b ss e) = items_tokens is ++ labelled symbols.Begin b ∷ (statements_tokens ss ++ named_end_tokens e)

  pub body_tokens : BodyTree → List Lexeme
  body_tokens (Body is b ss e) = items_tokens is ++ labelled symbols.Begin b ∷ (statements_tokens ss ++ compound_end_tokens e)

  pub items_tokens : ItemsTree → List Lexeme
  items_tokens NoItem = []
  items_tokens (MoreItems i is) = item_tokens i ++ items_tokens is

  pub item_tokens : ItemTree → List Lexeme
  item_tokens (CommonItem c) = common_tokens c
  item_tokens (SubprogramItem s) = specification_tokens s ++ word symbols.Semicolon ∷ []
  item_tokens (StubItem s l) = specification_tokens s ++ word symbols.Is ∷ labelled symbols.Separate l ∷ word symbols.Semicolon ∷ []
  item_tokens (BodyItem s b) = specification_tokens s ++ word symbols.Is ∷ body_tokens b
  item_tokens (TaskItem t) = task_tokens t
  item_tokens (TaskBodyItem l n h) = labelled symbols.Task l ∷ word symbols.Body ∷ identifier_token n ∷ word symbols.Is ∷ handled_tokens h
  item_tokens (ProtectedItem l p) = labelled symbols.Protected l ∷ protected_tokens p
  item_tokens (ProtectedBodyItem l n os e) =
      labelled symbols.Protected l ∷ word symbols.Body ∷ identifier_token n ∷ word symbols.Is ∷ (operation_bodies_tokens os ++ named_end_tokens e)

  pub operation_bodies_tokens : OperationBodiesTree → List Lexeme
  operation_bodies_tokens NoOperationBody = []
  operation_bodies_tokens (MoreOperationBodies o os) = operation_body_tokens o ++ operation_bodies_tokens os

  pub operation_body_tokens : OperationBodyTree → List Lexeme
  operation_body_tokens (SubprogramOperation s b) = specification_tokens s ++ word symbols.Is ∷ body_tokens b
  operation_body_tokens (EntryOperation l n b h) =
      labelled symbols.Entry l ∷ identifier_token n ∷ word symbols.When ∷ (expression_tokens b ++ word symbols.Is ∷ handled_tokens h)
