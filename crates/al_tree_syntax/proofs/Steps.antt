-- What the trees of constructs have for lexemes, and the steps from a part's lexemes to those of the whole.
use Rattle.std.proofs.Common.{Bool, List, None, Option, Some, [], false, map, refl, true, ℕ, ◌++◌, ◌∷◌, ◌≡◌}
use Rattle.std.specs.Prelude.{option_map}
use Rattle.al_tree_grammar.specs.Grammar.{Label, Lexeme, Rule, Within, each, layer_lexemes, maybe, within}
use Rattle.al_tree_syntax.specs.Constructs.Construct.{Arguments as InArguments, ArrayIndex as InArrayIndex, BodyOrStub as InBodyOrStub, CaseStatement as InCaseStatement, DeclareBlock as InDeclareBlock, EntryBody as InEntryBody, EnumerationLiterals as InEnumerationLiterals, ForLoop as InForLoop, FormalPart as InFormalPart, IfStatement as InIfStatement, PackageDeclaration as InPackageDeclaration, PackageUnit as InPackageUnit, ParentName as InParentName, Parentheses as InParentheses, PlainBlock as InPlainBlock, PlainLoop as InPlainLoop, PragmaArguments as InPragmaArguments, ProtectedDeclaration as InProtectedDeclaration, ProtectedUnit as InProtectedUnit, RecordDefinition as InRecordDefinition, SubprogramBody as InSubprogramBody, TaskBody as InTaskBody, WhileLoop as InWhileLoop}
use Rattle.al_tree_syntax.specs.Constructs.{Construct, construct_at}
use Rattle.al_tree_syntax.specs.Words.{labelled, word}
use Rattle.al_tree_syntax.specs.ExpressionTrees.{group_tokens, part_rank, part_tokens}
use Rattle.al_tree_syntax.specs.DeclarationTrees.{SpecificationTree, compound_tokens, compounds_tokens, discrete_range_tokens, formal_part_tokens, identifier_token, identifiers_tokens, protected_tokens, specification_tokens, type_definition_tokens}
use Rattle.al_tree_syntax.specs.StatementTrees.{block_tokens, body_tokens, handled_tokens, item_tokens, loop_tokens, operation_body_tokens, statement_tokens}
use Rattle.al_tree_syntax.specs.UnitTrees.{library_item_tokens, package_tokens}
use Rattle.al_tree_syntax.specs.Insides.{InsideTree, Nested, Of, each_from, roomed}
use Rattle.al_tree_syntax.specs.Symbols.{Symbol as symbols}

-- What the tree that an inside becomes has for lexemes, where the inside has xs.
abbrev pub HasLexemes : (k : Construct) → InsideTree k → List Lexeme → Type 0
HasLexemes InParentheses t xs = (l : Label) → group_tokens (t l) ≡ labelled symbols.LeftParenthesis l ∷ xs
HasLexemes InArguments t xs = (l : Label) → (part_tokens (t l) ≡ labelled symbols.LeftParenthesis l ∷ xs) × (part_rank (t l) ≡ 0)
HasLexemes InPragmaArguments t xs = compounds_tokens t ++ word symbols.RightParenthesis ∷ [] ≡ xs
HasLexemes InParentName t xs = compound_tokens t ++ word symbols.RightParenthesis ∷ [] ≡ xs
HasLexemes InFormalPart t xs = (l : Label) → formal_part_tokens (t l) ≡ labelled symbols.LeftParenthesis l ∷ xs
HasLexemes InEnumerationLiterals t xs = identifiers_tokens t ++ word symbols.RightParenthesis ∷ [] ≡ xs
HasLexemes InArrayIndex t xs = discrete_range_tokens t ++ word symbols.RightParenthesis ∷ [] ≡ xs
HasLexemes InRecordDefinition t xs = type_definition_tokens t ≡ word symbols.Record ∷ xs
HasLexemes InProtectedDeclaration t xs = protected_tokens t ≡ xs
HasLexemes InProtectedUnit t xs = (l : Label) → item_tokens (t l) ≡ labelled symbols.Protected l ∷ xs
HasLexemes InEntryBody t xs = (l : Label) → operation_body_tokens (t l) ≡ labelled symbols.Entry l ∷ xs
HasLexemes InTaskBody t xs = identifier_token t.name ∷ word symbols.Is ∷ handled_tokens t.handled ≡ xs
HasLexemes InSubprogramBody t xs = body_tokens t ≡ xs
HasLexemes InBodyOrStub t xs = (s : SpecificationTree) → item_tokens (t s) ≡ specification_tokens s ++ word symbols.Is ∷ xs
HasLexemes InPackageDeclaration t xs = package_tokens t ≡ xs
HasLexemes InPackageUnit t xs = (l : Label) → library_item_tokens (t l) ≡ labelled symbols.Package l ∷ xs
HasLexemes InIfStatement t xs = (l : Label) → statement_tokens (t l) ≡ labelled symbols.If l ∷ xs
HasLexemes InCaseStatement t xs = (l : Label) → statement_tokens (t l) ≡ labelled symbols.Case l ∷ xs
HasLexemes InWhileLoop t xs = (l : Label) → loop_tokens (t l) ≡ labelled symbols.While l ∷ xs
HasLexemes InForLoop t xs = (l : Label) → loop_tokens (t l) ≡ labelled symbols.For l ∷ xs
HasLexemes InPlainLoop t xs = (l : Label) → loop_tokens (t l) ≡ labelled symbols.Loop l ∷ xs
HasLexemes InDeclareBlock t xs = (l : Label) → block_tokens (t l) ≡ labelled symbols.Declare l ∷ xs
HasLexemes InPlainBlock t xs = (l : Label) → block_tokens (t l) ≡ labelled symbols.Begin l ∷ xs

-- the lexemes of constructs, and that their trees have them
pub record Lexed (c : Nested) : Type 0 where
  pub lexemes : (n : ℕ) → c.Tree n → List Lexeme
  pub same : (n : ℕ) (x : c.Tree n) → HasLexemes (construct_at n) (c.from n x) (lexemes n x)

abbrev pub lexed : (c : Nested) → Lexed c → (r : Rule) → Of c r → List Lexeme
lexed c h r x = layer_lexemes c.room c.Tree h.lexemes r x

pub each_same : {A B C : Type 0} (f : B → C) (t : C → List Lexeme) (g : A × B → List Lexeme) → ((a : A) (b : B) → t (f b) ≡ g (a, b)) → (xs : List (A × B)) → each t (each_from f xs) ≡ each g xs
unfolding each_from
each_same f t g e [] = refl
each_same f t g e ((a, b) ∷ xs) = λ i. e a b i ++ each_same f t g e xs i

pub map_same : {A B : Type 0} (f : A → B) (t : B → List Lexeme) (g : A → List Lexeme) → ((x : A) → t (f x) ≡ g x) → (xs : List A) → each t (map f xs) ≡ each g xs
map_same f t g e [] = refl
map_same f t g e (x ∷ xs) = λ i. e x i ++ map_same f t g e xs i

pub maybe_same : {A B : Type 0} (f : A → B) (t : B → List Lexeme) (g : A → List Lexeme) → ((x : A) → t (f x) ≡ g x) → (o : Option A) → maybe t (option_map f o) ≡ maybe g o
maybe_same f t g e None = refl
maybe_same f t g e (Some x) = e x

pub roomed_same : {A : Type 0} (room : Bool) (g : A → List Lexeme) (x : Within room A) → g (roomed room x) ≡ within room g x
unfolding roomed
roomed_same true g x = refl
roomed_same false g x = absurd x
