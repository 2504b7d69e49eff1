-- The laws of the grammar, by those of every grammar that the next lexeme decides.
use Rattle.std.proofs.Common.{true, refl}
use Rattle.al_tree_grammar.specs.Grammar.{Construct, has_room}
use Rattle.al_tree_grammar.proofs.Layers.{plain_tree, some_construct}
use Rattle.al_tree_grammar.proofs.Laws.{trees_are_unique, trees_are_found, faults_are_found}
use Rattle.al_tree_syntax.specs.Symbols.Symbol.{Identifier, Number, StringLiteral, Ampersand, Apostrophe, LeftParenthesis, RightParenthesis, Asterisk, Plus, Comma, Minus, Dot, Slash, Colon, Semicolon, Less, Equal, Greater, VerticalLine, Arrow, DoubleDot, DoubleAsterisk, Assign, NotEqual, GreaterOrEqual, LessOrEqual, Abs, And, Array, Begin, Body, Case, Constant, Declare, Delay, Else, Elsif, End, Entry, Exit, For, Function, If, In, Is, Loop, Mod, Not, Null, Of, Or, Others, Out, Package, Pragma, Private, Procedure, Protected, Range, Record, Rem, Return, Reverse, Separate, Subtype, Task, Then, «Type», Until, Use, When, While, With, Xor, Other}
use Rattle.al_tree_syntax.specs.Constructs.{construct_at}
use Rattle.al_tree_syntax.specs.Constructs.Construct.{Parentheses, Arguments, PragmaArguments, ParentName, FormalPart, EnumerationLiterals, ArrayIndex, RecordDefinition, ProtectedDeclaration, ProtectedUnit, EntryBody, TaskBody, SubprogramBody, BodyOrStub, PackageDeclaration, PackageUnit, IfStatement, CaseStatement, WhileLoop, ForLoop, PlainLoop, DeclareBlock, PlainBlock}
use Rattle.al_tree_syntax.specs.Units.{unit_rule}
use Rattle.al_tree_syntax.specs.Rules.{grammar, most}
use Rattle.al_tree_syntax.specs.Laws.{UnitTree, UnitsAreUnique, UnitsAreFound, FaultsAreFound, SymbolsAreNumbered, ConstructsArePlaced}
use Rattle.al_tree_syntax.proofs.Clear.{closed, unit_clear, unit_plain}

-- there is a unit
some_unit : UnitTree
some_unit = plain_tree (has_room most) (Construct grammar most) (some_construct grammar closed most) true (λ _. refl) unit_rule unit_plain

pub units_unique : UnitsAreUnique
units_unique x y e = trees_are_unique grammar closed most unit_rule unit_clear x y e

pub units_found : UnitsAreFound
units_found xs x = trees_are_found grammar closed most unit_rule unit_clear xs x

pub faults_found : FaultsAreFound
faults_found xs = faults_are_found grammar closed most unit_rule unit_clear some_unit xs

pub symbols_numbered : SymbolsAreNumbered
symbols_numbered Identifier = refl
symbols_numbered Number = refl
symbols_numbered StringLiteral = refl
symbols_numbered Ampersand = refl
symbols_numbered Apostrophe = refl
symbols_numbered LeftParenthesis = refl
symbols_numbered RightParenthesis = refl
symbols_numbered Asterisk = refl
symbols_numbered Plus = refl
symbols_numbered Comma = refl
symbols_numbered Minus = refl
symbols_numbered Dot = refl
symbols_numbered Slash = refl
symbols_numbered Colon = refl
symbols_numbered Semicolon = refl
symbols_numbered Less = refl
symbols_numbered Equal = refl
symbols_numbered Greater = refl
symbols_numbered VerticalLine = refl
symbols_numbered Arrow = refl
symbols_numbered DoubleDot = refl
symbols_numbered DoubleAsterisk = refl
symbols_numbered Assign = refl
symbols_numbered NotEqual = refl
symbols_numbered GreaterOrEqual = refl
symbols_numbered LessOrEqual = refl
symbols_numbered Abs = refl
symbols_numbered And = refl
symbols_numbered Array = refl
symbols_numbered Begin = refl
symbols_numbered Body = refl
symbols_numbered Case = refl
symbols_numbered Constant = refl
symbols_numbered Declare = refl
symbols_numbered Delay = refl
symbols_numbered Else = refl
symbols_numbered Elsif = refl
symbols_numbered End = refl
symbols_numbered Entry = refl
symbols_numbered Exit = refl
symbols_numbered For = refl
symbols_numbered Function = refl
symbols_numbered If = refl
symbols_numbered In = refl
symbols_numbered Is = refl
symbols_numbered Loop = refl
symbols_numbered Mod = refl
symbols_numbered Not = refl
symbols_numbered Null = refl
symbols_numbered Of = refl
symbols_numbered Or = refl
symbols_numbered Others = refl
symbols_numbered Out = refl
symbols_numbered Package = refl
symbols_numbered Pragma = refl
symbols_numbered Private = refl
symbols_numbered Procedure = refl
symbols_numbered Protected = refl
symbols_numbered Range = refl
symbols_numbered Record = refl
symbols_numbered Rem = refl
symbols_numbered Return = refl
symbols_numbered Reverse = refl
symbols_numbered Separate = refl
symbols_numbered Subtype = refl
symbols_numbered Task = refl
symbols_numbered Then = refl
symbols_numbered «Type» = refl
symbols_numbered Until = refl
symbols_numbered Use = refl
symbols_numbered When = refl
symbols_numbered While = refl
symbols_numbered With = refl
symbols_numbered Xor = refl
symbols_numbered Other = refl

pub constructs_placed : ConstructsArePlaced
unfolding construct_at
constructs_placed Parentheses = refl
constructs_placed Arguments = refl
constructs_placed PragmaArguments = refl
constructs_placed ParentName = refl
constructs_placed FormalPart = refl
constructs_placed EnumerationLiterals = refl
constructs_placed ArrayIndex = refl
constructs_placed RecordDefinition = refl
constructs_placed ProtectedDeclaration = refl
constructs_placed ProtectedUnit = refl
constructs_placed EntryBody = refl
constructs_placed TaskBody = refl
constructs_placed SubprogramBody = refl
constructs_placed BodyOrStub = refl
constructs_placed PackageDeclaration = refl
constructs_placed PackageUnit = refl
constructs_placed IfStatement = refl
constructs_placed CaseStatement = refl
constructs_placed WhileLoop = refl
constructs_placed ForLoop = refl
constructs_placed PlainLoop = refl
constructs_placed DeclareBlock = refl
constructs_placed PlainBlock = refl
