-- Trees of compilation units have the lexemes of the grammar's trees.
use Rattle.std.proofs.Common.{List, [], ap, append_assoc, ap₂, inl, inr, map, suc, sym, zero, ℕ, ◌++◌, ◌∙◌, ◌∷◌, ◌≡◌}
use Rattle.al_tree_grammar.specs.Grammar.{Construct as Deep, Lexeme, Tree, construct_lexemes, each, lexemes_of}
use Rattle.al_tree_grammar.specs.Grammar.Rule.{Many}
use Rattle.al_tree_syntax.specs.Constructs.Construct.{Arguments as InArguments, ArrayIndex as InArrayIndex, BodyOrStub as InBodyOrStub, CaseStatement as InCaseStatement, DeclareBlock as InDeclareBlock, EntryBody as InEntryBody, EnumerationLiterals as InEnumerationLiterals, ForLoop as InForLoop, FormalPart as InFormalPart, IfStatement as InIfStatement, PackageDeclaration as InPackageDeclaration, PackageUnit as InPackageUnit, ParentName as InParentName, Parentheses as InParentheses, PlainBlock as InPlainBlock, PlainLoop as InPlainLoop, PragmaArguments as InPragmaArguments, ProtectedDeclaration as InProtectedDeclaration, ProtectedUnit as InProtectedUnit, RecordDefinition as InRecordDefinition, SubprogramBody as InSubprogramBody, TaskBody as InTaskBody, WhileLoop as InWhileLoop}
use Rattle.al_tree_syntax.specs.Constructs.{Construct, construct_at, place}
use Rattle.al_tree_syntax.specs.Notation.{any, ◌⨾◌}
use Rattle.al_tree_syntax.specs.Words.{labelled, word}
use Rattle.al_tree_syntax.specs.Declarations.{declaration_rule}
use Rattle.al_tree_syntax.specs.Statements.{statements_rule}
use Rattle.al_tree_syntax.specs.Units.{context_rule, library_item_rule, package_body_rule, package_rule, unit_rule}
use Rattle.al_tree_syntax.specs.Rules.{grammar, inside}
use Rattle.al_tree_syntax.specs.DeclarationTrees.{compound_tokens, declaration_tokens, specification_tokens}
use Rattle.al_tree_syntax.specs.StatementTrees.{body_tokens}
use Rattle.al_tree_syntax.specs.UnitTrees.{context_tokens, library_item_tokens, package_body_tokens, package_statements_tokens, package_tokens, private_part_tokens, tokens_of}
use Rattle.al_tree_syntax.specs.Insides.{Nested, Of, roomed}
use Rattle.al_tree_syntax.specs.DeclarationsFrom.{declaration_from, specification_from}
use Rattle.al_tree_syntax.specs.UnitsFrom.{compilation_unit_from, construct_from, context_from, inside_from, library_item_from, nested, package_body_from, package_from, package_inside, package_statements_from, package_unit_inside, private_part_from, roomed_unit_from, unit_from}
use Rattle.al_tree_syntax.proofs.Steps.{HasLexemes, Lexed, lexed, map_same, maybe_same, roomed_same}
use Rattle.al_tree_syntax.proofs.ExpressionsRead.{arguments_inside_same, parentheses_inside_same}
use Rattle.al_tree_syntax.proofs.DeclarationsRead.{array_index_inside_same, compound_end_same, compound_same, compounds_same, declaration_same, enumeration_inside_same, formal_part_inside_same, parent_name_inside_same, pragma_arguments_inside_same, pragma_same, protected_inside_same, record_inside_same, specification_same, use_same}
use Rattle.al_tree_syntax.proofs.StatementsRead.{body_inside_same, body_or_stub_inside_same, case_inside_same, declare_inside_same, entry_body_inside_same, for_inside_same, if_inside_same, items_same, plain_block_inside_same, plain_loop_inside_same, protected_unit_inside_same, statements_same, task_body_inside_same, while_inside_same}
use Rattle.al_tree_syntax.specs.Symbols.Symbol.{Begin as BeginWord, Private as PrivateWord}
use Rattle.al_tree_syntax.specs.Symbols.{Symbol as symbols}

module _ (c : Nested) (h : Lexed c) where
  context_same : (x : Of c context_rule) → context_tokens (context_from c x) ≡ lexed c h context_rule x
  unfolding context_rule context_from
  context_same (inl (with, (ns, semicolon))) = λ i. word symbols.With ∷ (compounds_same c h ns i ++ word symbols.Semicolon ∷ [])
  context_same (inr (inl u)) = use_same c h u
  context_same (inr (inr p)) = pragma_same c h p

  declarations_same : (xs : List (Of c declaration_rule)) → each declaration_tokens (map (declaration_from c) xs) ≡ each (lexed c h declaration_rule) xs
  declarations_same xs = map_same (declaration_from c) declaration_tokens (lexed c h declaration_rule) (declaration_same c h) xs

  private_part_same : (x : Of c (any PrivateWord ⨾ Many declaration_rule)) → private_part_tokens (private_part_from c x) ≡ lexed c h (any PrivateWord ⨾ Many declaration_rule) x
  unfolding private_part_from
  private_part_same (l, xs) = λ i. labelled symbols.Private l ∷ declarations_same xs i

  package_same : (x : Of c package_rule) → package_tokens (package_from c x) ≡ lexed c h package_rule x
  unfolding package_rule package_from
  package_same (n, (is, (xs, (p, (e, (m, semicolon)))))) =
      λ i. compound_same c h n i ++ word symbols.Is ∷ (declarations_same xs i
      ++ (maybe_same (private_part_from c) private_part_tokens (lexed c h (any PrivateWord ⨾ Many declaration_rule)) private_part_same p i
      ++ labelled symbols.End e ∷ (compound_end_same c h m i ++ word symbols.Semicolon ∷ [])))

  package_statements_same : (x : Of c (any BeginWord ⨾ statements_rule)) → package_statements_tokens (package_statements_from c x) ≡ lexed c h (any BeginWord ⨾ statements_rule) x
  unfolding package_statements_from
  package_statements_same (l, ss) = λ i. labelled symbols.Begin l ∷ statements_same c h ss i

  package_body_same : (x : Of c package_body_rule) → package_body_tokens (package_body_from c x) ≡ lexed c h package_body_rule x
  unfolding package_body_rule package_body_from
  package_body_same (n, (is, (xs, (ss, (e, (m, semicolon)))))) =
      λ i. compound_same c h n i ++ word symbols.Is ∷ (items_same c h xs i
      ++ (maybe_same (package_statements_from c) package_statements_tokens (lexed c h (any BeginWord ⨾ statements_rule)) package_statements_same ss i
      ++ labelled symbols.End e ∷ (compound_end_same c h m i ++ word symbols.Semicolon ∷ [])))

  package_inside_same : (x : Of c (inside InPackageDeclaration)) → HasLexemes InPackageDeclaration (package_inside c x) (lexed c h (inside InPackageDeclaration) x)
  unfolding inside package_inside
  package_inside_same x = package_same x

  package_unit_inside_same : (x : Of c (inside InPackageUnit)) → HasLexemes InPackageUnit (package_unit_inside c x) (lexed c h (inside InPackageUnit) x)
  unfolding inside package_unit_inside
  package_unit_inside_same (inl x) = λ l i. labelled symbols.Package l ∷ package_same x i
  package_unit_inside_same (inr (body, x)) = λ l i. labelled symbols.Package l ∷ word symbols.Body ∷ package_body_same x i

  library_item_same : (x : Of c library_item_rule) → library_item_tokens (library_item_from c x) ≡ lexed c h library_item_rule x
  unfolding library_item_rule library_item_from construct_at
  library_item_same (inl (p, inl (s, semicolon))) = λ i. labelled symbols.Private p ∷ (specification_same c h s i ++ word symbols.Semicolon ∷ [])
  library_item_same (inl (p, inr (l, x))) = λ i. labelled symbols.Private p ∷ labelled symbols.Package l ∷ h.same (place InPackageDeclaration) x i
  library_item_same (inr (inl (s, inl semicolon))) = λ i. specification_same c h s i ++ word symbols.Semicolon ∷ []
  library_item_same (inr (inl (s, inr x))) = λ i. specification_same c h s i ++ word symbols.Is ∷ h.same (place InSubprogramBody) x i
  library_item_same (inr (inr (inl (l, x)))) = h.same (place InPackageUnit) x l
  library_item_same (inr (inr (inr (l, ((o, n), (s, x)))))) =
      ap (λ (t : List Lexeme). labelled symbols.Separate l ∷ labelled symbols.LeftParenthesis o ∷ t)
      (sym (append_assoc (compound_tokens (c.from (place InParentName) n)) (word symbols.RightParenthesis ∷ []) (specification_tokens (specification_from c s) ++ word symbols.Is ∷ body_tokens (c.from (place InSubprogramBody) x)))
      ∙ ap₂ (λ (a b : List Lexeme). a ++ b) (h.same (place InParentName) n) (λ i. specification_same c h s i ++ word symbols.Is ∷ h.same (place InSubprogramBody) x i))

  roomed_unit_same : (x : Of c (Many context_rule ⨾ library_item_rule)) → tokens_of (roomed_unit_from c x) ≡ lexed c h (Many context_rule ⨾ library_item_rule) x
  unfolding tokens_of roomed_unit_from
  roomed_unit_same (xs, x) = λ i. map_same (context_from c) context_tokens (lexed c h context_rule) context_same xs i ++ library_item_same x i

  compilation_unit_same : (x : Of c unit_rule) → tokens_of (compilation_unit_from c x) ≡ lexed c h unit_rule x
  unfolding unit_rule compilation_unit_from
  compilation_unit_same x = roomed_unit_same (roomed c.room x) ∙ roomed_same c.room (lexed c h (Many context_rule ⨾ library_item_rule)) x

  inside_same : (k : Construct) (x : Of c (inside k)) → HasLexemes k (inside_from c k x) (lexed c h (inside k) x)
  unfolding inside_from
  inside_same InParentheses x = parentheses_inside_same c h x
  inside_same InArguments x = arguments_inside_same c h x
  inside_same InPragmaArguments x = pragma_arguments_inside_same c h x
  inside_same InParentName x = parent_name_inside_same c h x
  inside_same InFormalPart x = formal_part_inside_same c h x
  inside_same InEnumerationLiterals x = enumeration_inside_same c h x
  inside_same InArrayIndex x = array_index_inside_same c h x
  inside_same InRecordDefinition x = record_inside_same c h x
  inside_same InProtectedDeclaration x = protected_inside_same c h x
  inside_same InProtectedUnit x = protected_unit_inside_same c h x
  inside_same InEntryBody x = entry_body_inside_same c h x
  inside_same InTaskBody x = task_body_inside_same c h x
  inside_same InSubprogramBody x = body_inside_same c h x
  inside_same InBodyOrStub x = body_or_stub_inside_same c h x
  inside_same InPackageDeclaration x = package_inside_same x
  inside_same InPackageUnit x = package_unit_inside_same x
  inside_same InIfStatement x = if_inside_same c h x
  inside_same InCaseStatement x = case_inside_same c h x
  inside_same InWhileLoop x = while_inside_same c h x
  inside_same InForLoop x = for_inside_same c h x
  inside_same InPlainLoop x = plain_loop_inside_same c h x
  inside_same InDeclareBlock x = declare_inside_same c h x
  inside_same InPlainBlock x = plain_block_inside_same c h x

construct_same : (d n : ℕ) (x : Deep grammar d n) → HasLexemes (construct_at n) (construct_from d n x) (construct_lexemes grammar d n x)
unfolding grammar construct_from
construct_same zero n x = absurd x
construct_same (suc d) n x = inside_same (nested d) (record { lexemes = construct_lexemes grammar d; same = construct_same d }) (construct_at n) x

-- the lexemes stay
pub unit_same : (d : ℕ) (x : Tree grammar d unit_rule) → tokens_of (unit_from d x) ≡ lexemes_of grammar d unit_rule x
unfolding unit_from
unit_same d x = compilation_unit_same (nested d) (record { lexemes = construct_lexemes grammar d; same = construct_same d }) x
