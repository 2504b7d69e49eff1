-- The trees that the grammar's trees stand for nest no deeper: compilation units.
use Rattle.std.proofs.Common.{inl, inr, suc, zero, ℕ, ◌≤◌}
use Rattle.std.proofs.Math.Nat.{max-le}
use Rattle.al_tree_grammar.specs.Grammar.{Construct as Deep, Tree}
use Rattle.al_tree_grammar.specs.Grammar.Rule.{Many}
use Rattle.al_tree_syntax.specs.Constructs.Construct.{Arguments as InArguments, ArrayIndex as InArrayIndex, BodyOrStub as InBodyOrStub, CaseStatement as InCaseStatement, DeclareBlock as InDeclareBlock, EntryBody as InEntryBody, EnumerationLiterals as InEnumerationLiterals, ForLoop as InForLoop, FormalPart as InFormalPart, IfStatement as InIfStatement, PackageDeclaration as InPackageDeclaration, PackageUnit as InPackageUnit, ParentName as InParentName, Parentheses as InParentheses, PlainBlock as InPlainBlock, PlainLoop as InPlainLoop, PragmaArguments as InPragmaArguments, ProtectedDeclaration as InProtectedDeclaration, ProtectedUnit as InProtectedUnit, RecordDefinition as InRecordDefinition, SubprogramBody as InSubprogramBody, TaskBody as InTaskBody, WhileLoop as InWhileLoop}
use Rattle.al_tree_syntax.specs.Constructs.{Construct, construct_at, place}
use Rattle.al_tree_syntax.specs.Notation.{any, ◌⨾◌}
use Rattle.al_tree_syntax.specs.Declarations.{declaration_rule}
use Rattle.al_tree_syntax.specs.Statements.{statements_rule}
use Rattle.al_tree_syntax.specs.Units.{context_rule, library_item_rule, package_body_rule, package_rule, unit_rule}
use Rattle.al_tree_syntax.specs.Rules.{grammar, inside}
use Rattle.al_tree_syntax.specs.Insides.{Nested, Of, roomed}
use Rattle.al_tree_syntax.specs.DeclarationsFrom.{declaration_from}
use Rattle.al_tree_syntax.specs.UnitsFrom.{compilation_unit_from, construct_from, context_from, inside_from, library_item_from, nested, package_body_from, package_from, package_inside, package_statements_from, package_unit_inside, private_part_from, roomed_unit_from, unit_from}
use Rattle.al_tree_syntax.specs.Nesting.{context_nesting, declaration_nesting, library_item_nesting, nesting_by, package_body_nesting, package_nesting, private_part_nesting, statements_nesting}
use Rattle.al_tree_syntax.proofs.ExpressionsFit.{AllFit, Fits, arguments_inside_fits, map_fits, maybe_fits, none_fits, opened_fits, parentheses_inside_fits}
use Rattle.al_tree_syntax.proofs.DeclarationsFit.{array_index_inside_fits, declaration_fits, pragma_fits, protected_inside_fits, record_inside_fits, specification_fits}
use Rattle.al_tree_syntax.proofs.StatementsFit.{body_inside_fits, body_or_stub_inside_fits, case_inside_fits, declare_inside_fits, entry_body_inside_fits, for_inside_fits, if_inside_fits, items_fit, plain_block_inside_fits, plain_loop_inside_fits, protected_unit_inside_fits, statements_fit, task_body_inside_fits, while_inside_fits}
use Rattle.al_tree_syntax.specs.Symbols.Symbol.{Begin as BeginWord, Private as PrivateWord}

module _ (w : ℕ) (c : Nested) (d : ℕ) (h : AllFit w c d) where
  context_fits : (x : Of c context_rule) → context_nesting w (context_from c x) ≤ d
  unfolding context_rule context_from
  context_fits (inl x) = none_fits d
  context_fits (inr (inl u)) = none_fits d
  context_fits (inr (inr p)) = pragma_fits w c d h p

  private_part_fits : (x : Of c (any PrivateWord ⨾ Many declaration_rule)) → private_part_nesting w (private_part_from c x) ≤ d
  unfolding private_part_from
  private_part_fits (l, xs) = map_fits (declaration_from c) (declaration_nesting w) d (declaration_fits w c d h) xs

  package_fits : (x : Of c package_rule) → package_nesting w (package_from c x) ≤ suc d
  unfolding package_rule package_from
  package_fits (n, (is, (xs, (p, y)))) =
      opened_fits (max-le (map_fits (declaration_from c) (declaration_nesting w) d (declaration_fits w c d h) xs) (maybe_fits (private_part_from c) (private_part_nesting w) d private_part_fits p))

  package_statements_fit : (x : Of c (any BeginWord ⨾ statements_rule)) → statements_nesting w (package_statements_from c x).statements ≤ d
  unfolding package_statements_from
  package_statements_fit (l, ss) = statements_fit w c d h ss

  package_body_fits : (x : Of c package_body_rule) → package_body_nesting w (package_body_from c x) ≤ suc d
  unfolding package_body_rule package_body_from
  package_body_fits (n, (is, (xs, (ss, y)))) =
      opened_fits (max-le (items_fit w c d h xs) (maybe_fits (package_statements_from c) (λ s. statements_nesting w s.statements) d package_statements_fit ss))

  package_inside_fits : (x : Of c (inside InPackageDeclaration)) → Fits w InPackageDeclaration (package_inside c x) (suc d)
  unfolding inside package_inside
  package_inside_fits x = package_fits x

  package_unit_inside_fits : (x : Of c (inside InPackageUnit)) → Fits w InPackageUnit (package_unit_inside c x) (suc d)
  unfolding inside package_unit_inside
  package_unit_inside_fits (inl x) = λ l. package_fits x
  package_unit_inside_fits (inr (body, x)) = λ l. package_body_fits x

  library_item_fits : (x : Of c library_item_rule) → library_item_nesting w (library_item_from c x) ≤ d
  unfolding library_item_rule library_item_from construct_at
  library_item_fits (inl (p, inl (s, semicolon))) = specification_fits w c d h s
  library_item_fits (inl (p, inr (l, x))) = h (place InPackageDeclaration) x
  library_item_fits (inr (inl (s, inl semicolon))) = specification_fits w c d h s
  library_item_fits (inr (inl (s, inr x))) = max-le (specification_fits w c d h s) (h (place InSubprogramBody) x)
  library_item_fits (inr (inr (inl (l, x)))) = h (place InPackageUnit) x l
  library_item_fits (inr (inr (inr (l, ((o, n), (s, x)))))) = max-le (h (place InParentName) n) (max-le (specification_fits w c d h s) (h (place InSubprogramBody) x))

  roomed_unit_fits : (x : Of c (Many context_rule ⨾ library_item_rule)) → nesting_by w (roomed_unit_from c x) ≤ d
  unfolding nesting_by roomed_unit_from
  roomed_unit_fits (xs, x) = max-le (map_fits (context_from c) (context_nesting w) d context_fits xs) (library_item_fits x)

  compilation_unit_fits : (x : Of c unit_rule) → nesting_by w (compilation_unit_from c x) ≤ d
  unfolding unit_rule compilation_unit_from
  compilation_unit_fits x = roomed_unit_fits (roomed c.room x)

  inside_fits : (k : Construct) (x : Of c (inside k)) → Fits w k (inside_from c k x) (suc d)
  unfolding inside_from
  inside_fits InParentheses x = parentheses_inside_fits w c d h x
  inside_fits InArguments x = arguments_inside_fits w c d h x
  inside_fits InPragmaArguments x = opened_fits (none_fits d)
  inside_fits InParentName x = opened_fits (none_fits d)
  inside_fits InFormalPart x = opened_fits (none_fits d)
  inside_fits InEnumerationLiterals x = opened_fits (none_fits d)
  inside_fits InArrayIndex x = array_index_inside_fits w c d h x
  inside_fits InRecordDefinition x = record_inside_fits w c d h x
  inside_fits InProtectedDeclaration x = protected_inside_fits w c d h x
  inside_fits InProtectedUnit x = protected_unit_inside_fits w c d h x
  inside_fits InEntryBody x = entry_body_inside_fits w c d h x
  inside_fits InTaskBody x = task_body_inside_fits w c d h x
  inside_fits InSubprogramBody x = body_inside_fits w c d h x
  inside_fits InBodyOrStub x = body_or_stub_inside_fits w c d h x
  inside_fits InPackageDeclaration x = package_inside_fits x
  inside_fits InPackageUnit x = package_unit_inside_fits x
  inside_fits InIfStatement x = if_inside_fits w c d h x
  inside_fits InCaseStatement x = case_inside_fits w c d h x
  inside_fits InWhileLoop x = while_inside_fits w c d h x
  inside_fits InForLoop x = for_inside_fits w c d h x
  inside_fits InPlainLoop x = plain_loop_inside_fits w c d h x
  inside_fits InDeclareBlock x = declare_inside_fits w c d h x
  inside_fits InPlainBlock x = plain_block_inside_fits w c d h x

construct_fits : (w d n : ℕ) (x : Deep grammar d n) → Fits w (construct_at n) (construct_from d n x) d
unfolding grammar construct_from
construct_fits w zero n x = absurd x
construct_fits w (suc d) n x = inside_fits w (nested d) d (construct_fits w d) (construct_at n) x

-- The tree of a tree of the grammar nests no deeper.
pub unit_fits : (w d : ℕ) (x : Tree grammar d unit_rule) → nesting_by w (unit_from d x) ≤ d
unfolding unit_from
unit_fits w d x = compilation_unit_fits w (nested d) d (construct_fits w d) x
