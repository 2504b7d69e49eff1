-- What the grammar's trees of compilation units stand for.
use Rattle.std.specs.Prelude.{None, Some, map, option_map, suc, zero, ℕ}
use Rattle.std.proofs.Common.{inl, inr}
use Rattle.al_tree_grammar.specs.Grammar.{Construct as Deep, Label, Tree, has_room}
use Rattle.al_tree_grammar.specs.Grammar.Rule.{Many}
use Rattle.al_tree_syntax.specs.Constructs.Construct.{Arguments as InArguments, ArrayIndex as InArrayIndex, BodyOrStub as InBodyOrStub, CaseStatement as InCaseStatement, DeclareBlock as InDeclareBlock, EntryBody as InEntryBody, EnumerationLiterals as InEnumerationLiterals, ForLoop as InForLoop, FormalPart as InFormalPart, IfStatement as InIfStatement, PackageDeclaration as InPackageDeclaration, PackageUnit as InPackageUnit, ParentName as InParentName, Parentheses as InParentheses, PlainBlock as InPlainBlock, PlainLoop as InPlainLoop, PragmaArguments as InPragmaArguments, ProtectedDeclaration as InProtectedDeclaration, ProtectedUnit as InProtectedUnit, RecordDefinition as InRecordDefinition, SubprogramBody as InSubprogramBody, TaskBody as InTaskBody, WhileLoop as InWhileLoop}
use Rattle.al_tree_syntax.specs.Constructs.{Construct, construct_at, place}
use Rattle.al_tree_syntax.specs.Notation.{any, ◌⨾◌}
use Rattle.al_tree_syntax.specs.Declarations.{declaration_rule}
use Rattle.al_tree_syntax.specs.Statements.{statements_rule}
use Rattle.al_tree_syntax.specs.Units.{context_rule, library_item_rule, package_body_rule, package_rule, unit_rule}
use Rattle.al_tree_syntax.specs.Rules.{grammar, inside}
use Rattle.al_tree_syntax.specs.UnitTrees.{CompilationUnitTree, ContextTree, LibraryItemTree, PackageBodyTree, PackageStatementsTree, PackageTree, PrivatePartTree}
use Rattle.al_tree_syntax.specs.UnitTrees.ContextTree.{ContextPragma, ContextUse, WithClause}
use Rattle.al_tree_syntax.specs.UnitTrees.LibraryItemTree.{LibraryBody, LibraryPackage, LibraryPackageBody, LibrarySubprogram, Subunit}
use Rattle.al_tree_syntax.specs.Insides.{InsideTree, Nested, Of, roomed}
use Rattle.al_tree_syntax.specs.ExpressionsFrom.{arguments_inside, parentheses_inside}
use Rattle.al_tree_syntax.specs.DeclarationsFrom.{array_index_inside, compound_from, compounds_from, declaration_from, enumeration_inside, formal_part_inside, parent_name_inside, pragma_arguments_inside, pragma_from, protected_inside, record_inside, specification_from, use_from}
use Rattle.al_tree_syntax.specs.StatementsFrom.{body_inside, body_or_stub_inside, case_inside, declare_inside, entry_body_inside, for_inside, if_inside, items_from, plain_block_inside, plain_loop_inside, protected_unit_inside, statements_from, task_body_inside, while_inside}
use Rattle.al_tree_syntax.specs.Symbols.Symbol.{Begin, Private}

module _ (c : Nested) where
  unfoldable pub context_from : Of c context_rule → ContextTree
  unfolding context_rule
  context_from (inl (with, (ns, semicolon))) = WithClause (compounds_from c ns)
  context_from (inr (inl u)) = ContextUse (use_from c u)
  context_from (inr (inr p)) = ContextPragma (pragma_from c p)

  unfoldable pub private_part_from : Of c (any Private ⨾ Many declaration_rule) → PrivatePartTree
  private_part_from (l, xs) = record { opening = l; declarations = map (declaration_from c) xs }

  unfoldable pub package_from : Of c package_rule → PackageTree
  unfolding package_rule
  package_from (n, (is, (xs, (p, (e, (m, semicolon)))))) = record {
    name = compound_from c n;
    visible = map (declaration_from c) xs;
    private_part = option_map private_part_from p;
    end = record { end = e; end_name = option_map (compound_from c) m };
  }

  unfoldable pub package_statements_from : Of c (any Begin ⨾ statements_rule) → PackageStatementsTree
  package_statements_from (l, ss) = record { opening = l; statements = statements_from c ss }

  unfoldable pub package_body_from : Of c package_body_rule → PackageBodyTree
  unfolding package_body_rule
  package_body_from (n, (is, (xs, (ss, (e, (m, semicolon)))))) = record {
    name = compound_from c n;
    items = items_from c xs;
    statements = option_map package_statements_from ss;
    end = record { end = e; end_name = option_map (compound_from c) m };
  }

  unfoldable pub package_inside : Of c (inside InPackageDeclaration) → PackageTree
  unfolding inside
  package_inside x = package_from x

  unfoldable pub package_unit_inside : Of c (inside InPackageUnit) → Label → LibraryItemTree
  unfolding inside
  package_unit_inside (inl x) l = LibraryPackage None l (package_from x)
  package_unit_inside (inr (body, x)) l = LibraryPackageBody l (package_body_from x)

  unfoldable pub library_item_from : Of c library_item_rule → LibraryItemTree
  unfolding library_item_rule construct_at
  library_item_from (inl (p, inl (s, semicolon))) = LibrarySubprogram (Some p) (specification_from c s)
  library_item_from (inl (p, inr (l, x))) = LibraryPackage (Some p) l (c.from (place InPackageDeclaration) x)
  library_item_from (inr (inl (s, inl semicolon))) = LibrarySubprogram None (specification_from c s)
  library_item_from (inr (inl (s, inr x))) = LibraryBody (specification_from c s) (c.from (place InSubprogramBody) x)
  library_item_from (inr (inr (inl (l, x)))) = c.from (place InPackageUnit) x l
  library_item_from (inr (inr (inr (l, ((o, n), (s, x)))))) =
      Subunit l o (c.from (place InParentName) n) (specification_from c s) (c.from (place InSubprogramBody) x)

  unfoldable pub roomed_unit_from : Of c (Many context_rule ⨾ library_item_rule) → CompilationUnitTree
  roomed_unit_from (xs, x) = record { context = map context_from xs; item = library_item_from x }

  unfoldable pub compilation_unit_from : Of c unit_rule → CompilationUnitTree
  unfolding unit_rule
  compilation_unit_from x = roomed_unit_from (roomed c.room x)

  unfoldable pub inside_from : (k : Construct) → Of c (inside k) → InsideTree k
  inside_from InParentheses x = parentheses_inside c x
  inside_from InArguments x = arguments_inside c x
  inside_from InPragmaArguments x = pragma_arguments_inside c x
  inside_from InParentName x = parent_name_inside c x
  inside_from InFormalPart x = formal_part_inside c x
  inside_from InEnumerationLiterals x = enumeration_inside c x
  inside_from InArrayIndex x = array_index_inside c x
  inside_from InRecordDefinition x = record_inside c x
  inside_from InProtectedDeclaration x = protected_inside c x
  inside_from InProtectedUnit x = protected_unit_inside c x
  inside_from InEntryBody x = entry_body_inside c x
  inside_from InTaskBody x = task_body_inside c x
  inside_from InSubprogramBody x = body_inside c x
  inside_from InBodyOrStub x = body_or_stub_inside c x
  inside_from InPackageDeclaration x = package_inside x
  inside_from InPackageUnit x = package_unit_inside x
  inside_from InIfStatement x = if_inside c x
  inside_from InCaseStatement x = case_inside c x
  inside_from InWhileLoop x = while_inside c x
  inside_from InForLoop x = for_inside c x
  inside_from InPlainLoop x = plain_loop_inside c x
  inside_from InDeclareBlock x = declare_inside c x
  inside_from InPlainBlock x = plain_block_inside c x

unfoldable pub construct_from : (d n : ℕ) → Deep grammar d n → InsideTree (construct_at n)
unfolding grammar
construct_from zero n x = absurd x
construct_from (suc d) n x = inside_from (record { room = has_room d; Tree = Deep grammar d; from = construct_from d }) (construct_at n) x

-- if at most d constructs are open
abbrev pub nested : ℕ → Nested
nested d = record { room = has_room d; Tree = Deep grammar d; from = construct_from d }

unfoldable pub unit_from : (d : ℕ) → Tree grammar d unit_rule → CompilationUnitTree
unit_from d x = compilation_unit_from (nested d) x
