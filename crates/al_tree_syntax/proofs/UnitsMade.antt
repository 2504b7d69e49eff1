-- Each tree of a compilation unit that nests no deeper is made from one of the grammar's.
use Rattle.std.proofs.Common.{List, None, Option, Some, arith, inl, inr, map, refl, suc, true, zero, ℕ, ◌∙◌, ◌≡◌, ◌≤◌}
use Rattle.std.specs.Prelude.{option_map}
use Rattle.al_tree_grammar.specs.Grammar.{Construct as Deep, has_room}
use Rattle.al_tree_syntax.specs.Constructs.Construct.{Arguments as InArguments, ArrayIndex as InArrayIndex, BodyOrStub as InBodyOrStub, CaseStatement as InCaseStatement, DeclareBlock as InDeclareBlock, EntryBody as InEntryBody, EnumerationLiterals as InEnumerationLiterals, ForLoop as InForLoop, FormalPart as InFormalPart, IfStatement as InIfStatement, PackageDeclaration as InPackageDeclaration, PackageUnit as InPackageUnit, ParentName as InParentName, Parentheses as InParentheses, PlainBlock as InPlainBlock, PlainLoop as InPlainLoop, PragmaArguments as InPragmaArguments, ProtectedDeclaration as InProtectedDeclaration, ProtectedUnit as InProtectedUnit, RecordDefinition as InRecordDefinition, SubprogramBody as InSubprogramBody, TaskBody as InTaskBody, WhileLoop as InWhileLoop}
use Rattle.al_tree_syntax.specs.Constructs.{Construct, construct_at, place}
use Rattle.al_tree_syntax.specs.Units.{context_rule, library_item_rule, package_body_rule, package_rule, unit_rule}
use Rattle.al_tree_syntax.specs.Rules.{grammar, inside}
use Rattle.al_tree_syntax.specs.ExpressionTrees.{GroupTree}
use Rattle.al_tree_syntax.specs.ExpressionTrees.GroupTree.{OthersAggregate, Positional}
use Rattle.al_tree_syntax.specs.DeclarationTrees.{CompoundNameTree, DeclarationTree}
use Rattle.al_tree_syntax.specs.UnitTrees.{CompilationUnitTree, ContextTree, LibraryItemTree, PackageBodyTree, PackageStatementsTree, PackageTree, PrivatePartTree}
use Rattle.al_tree_syntax.specs.UnitTrees.ContextTree.{ContextPragma, ContextUse, WithClause}
use Rattle.al_tree_syntax.specs.UnitTrees.LibraryItemTree.{LibraryBody, LibraryPackage, LibraryPackageBody, LibrarySubprogram, Subunit}
use Rattle.al_tree_syntax.specs.Insides.{InsideTree, Nested, Of}
use Rattle.al_tree_syntax.specs.DeclarationsFrom.{compound_from, declaration_from}
use Rattle.al_tree_syntax.specs.UnitsFrom.{compilation_unit_from, construct_from, context_from, inside_from, library_item_from, nested, package_body_from, package_from, package_inside, package_statements_from, package_unit_inside, private_part_from, roomed_unit_from, unit_from}
use Rattle.al_tree_syntax.specs.Nesting.{context_nesting, declaration_nesting, deepest, library_item_nesting, nesting_by, package_body_nesting, package_nesting, group_nesting, private_part_nesting, statements_nesting}
use Rattle.al_tree_syntax.proofs.Making.{Fiber, IsMade, Made, map_within, maybe_made, maybe_within, roomed_made}
use Rattle.al_tree_syntax.proofs.ExpressionsMade.{arguments_inside_made, parentheses_inside_made}
use Rattle.al_tree_syntax.proofs.DeclarationsMade.{array_index_inside_made, compound_made, compounds_made, declaration_made, enumeration_inside_made, formal_part_inside_made, parent_name_inside_made, pragma_arguments_inside_made, pragma_made, protected_inside_made, record_inside_made, specification_made, use_made}
use Rattle.al_tree_syntax.proofs.StatementsMade.{body_deep, body_inside_made, body_or_stub_inside_made, case_inside_made, declare_inside_made, entry_body_inside_made, for_inside_made, if_inside_made, items_made, plain_block_inside_made, plain_loop_inside_made, protected_unit_inside_made, statements_made, task_body_inside_made, while_inside_made}

module _ (w : ℕ) (c : Nested) (d : ℕ) (m : Made w c d) where
  context_made : (k : ContextTree) → context_nesting w k ≤ d → Fiber (context_from c) k
  unfolding context_rule context_from
  context_made (WithClause n) h = let x = compounds_made w c d m n in (inl (tt, (x.0, tt)), λ i. WithClause (x.1 i))
  context_made (ContextUse u) h = let x = use_made w c d m u in (inr (inl x.0), λ i. ContextUse (x.1 i))
  context_made (ContextPragma p) h = let x = pragma_made w c d m p h in (inr (inr x.0), λ i. ContextPragma (x.1 i))

  declarations_made : (ks : List DeclarationTree) → deepest (declaration_nesting w) ks ≤ d → Fiber (map (declaration_from c)) ks
  declarations_made ks h = map_within (declaration_from c) (declaration_nesting w) d (declaration_made w c d m) ks h

  private_part_made : (p : PrivatePartTree) → private_part_nesting w p ≤ d → Fiber (private_part_from c) p
  unfolding private_part_from
  private_part_made p h = let x = declarations_made p.declarations h in ((p.opening, x.0), λ i. record { opening = p.opening; declarations = x.1 i })

  end_made : (n : Option CompoundNameTree) → Fiber (option_map (compound_from c)) n
  end_made n = maybe_made (compound_from c) (compound_made w c d m) n

  package_made : (p : PackageTree) → package_nesting w p ≤ suc d → Fiber (package_from c) p
  unfolding package_rule package_from
  package_made p h =
      let x = compound_made w c d m p.name in
      let y = declarations_made p.visible (omega arith) in
      let z = maybe_within (private_part_from c) (private_part_nesting w) d private_part_made p.private_part (omega arith) in
      let e = end_made p.end.end_name in (
        (x.0, (tt, (y.0, (z.0, (p.end.end, (e.0, tt)))))),
        λ i. record { name = x.1 i; visible = y.1 i; private_part = z.1 i; end = record { end = p.end.end; end_name = e.1 i } },
      )

  package_statements_made : (s : PackageStatementsTree) → statements_nesting w s.statements ≤ d → Fiber (package_statements_from c) s
  unfolding package_statements_from
  package_statements_made s h = let x = statements_made w c d m s.statements h in ((s.opening, x.0), λ i. record { opening = s.opening; statements = x.1 i })

  package_body_made : (p : PackageBodyTree) → package_body_nesting w p ≤ suc d → Fiber (package_body_from c) p
  unfolding package_body_rule package_body_from
  package_body_made p h =
      let x = compound_made w c d m p.name in
      let y = items_made w c d m p.items (omega arith) in
      let z = maybe_within (package_statements_from c) (λ s. statements_nesting w s.statements) d package_statements_made p.statements (omega arith) in
      let e = end_made p.end.end_name in (
        (x.0, (tt, (y.0, (z.0, (p.end.end, (e.0, tt)))))),
        λ i. record { name = x.1 i; items = y.1 i; statements = z.1 i; end = record { end = p.end.end; end_name = e.1 i } },
      )

  package_inside_made : IsMade w InPackageDeclaration (Of c (inside InPackageDeclaration)) (package_inside c) (suc d)
  unfolding inside package_inside
  package_inside_made p h = package_made p h

  package_unit_inside_made : IsMade w InPackageUnit (Of c (inside InPackageUnit)) (package_unit_inside c) (suc d)
  unfolding inside package_unit_inside
  package_unit_inside_made = (
    λ l p h. let x = package_made p h in (inl x.0, λ i. LibraryPackage None l (x.1 i)),
    λ l p h. let x = package_body_made p h in (inr (tt, x.0), λ i. LibraryPackageBody l (x.1 i)),
  )

  library_item_made : (k : LibraryItemTree) → library_item_nesting w k ≤ d → Fiber (library_item_from c) k
  unfolding library_item_rule library_item_from construct_at
  library_item_made (LibrarySubprogram (Some p) s) h = let x = specification_made w c d m s h in (inl (p, inl (x.0, tt)), λ i. LibrarySubprogram (Some p) (x.1 i))
  library_item_made (LibrarySubprogram None s) h = let x = specification_made w c d m s h in (inr (inl (x.0, inl tt)), λ i. LibrarySubprogram None (x.1 i))
  library_item_made (LibraryPackage (Some p) l k) h = let x = m.made (place InPackageDeclaration) k h in (inl (p, inr (l, x.0)), λ i. LibraryPackage (Some p) l (x.1 i))
  library_item_made (LibraryPackage None l k) h = let x = (m.made (place InPackageUnit)).0 l k h in (inr (inr (inl (l, x.0))), x.1)
  library_item_made (LibraryBody s b) h =
      let x = specification_made w c d m s (omega arith) in
      let y = m.made (place InSubprogramBody) b (omega arith) in
      (inr (inl (x.0, inr y.0)), λ i. LibraryBody (x.1 i) (y.1 i))
  library_item_made (LibraryPackageBody l k) h = let x = (m.made (place InPackageUnit)).1 l k h in (inr (inr (inl (l, x.0))), x.1)
  library_item_made (Subunit l o n s b) h =
      let v = m.made (place InParentName) n (omega arith) in
      let x = specification_made w c d m s (omega arith) in
      let y = m.made (place InSubprogramBody) b (omega arith) in
      (inr (inr (inr (l, ((o, v.0), (x.0, y.0))))), λ i. Subunit l o (v.1 i) (x.1 i) (y.1 i))

  compilation_unit_made : (u : CompilationUnitTree) → nesting_by w u ≤ d → 1 ≤ d → Fiber (compilation_unit_from c) u
  unfolding unit_rule compilation_unit_from roomed_unit_from nesting_by
  compilation_unit_made u h o =
      let x = map_within (context_from c) (context_nesting w) d context_made u.context (omega arith) in
      let y = library_item_made u.item (omega arith) in
      let r = roomed_made c.room (m.opens o) (x.0, y.0) in
      (r.0, (λ i. roomed_unit_from c (r.1 i)) ∙ λ i. record { context = x.1 i; item = y.1 i })

  inside_made : (k : Construct) → IsMade w k (Of c (inside k)) (inside_from c k) (suc d)
  unfolding inside_from
  inside_made InParentheses = parentheses_inside_made w c d m
  inside_made InArguments = arguments_inside_made w c d m
  inside_made InPragmaArguments = pragma_arguments_inside_made w c d m
  inside_made InParentName = parent_name_inside_made w c d m
  inside_made InFormalPart = formal_part_inside_made w c d m
  inside_made InEnumerationLiterals = enumeration_inside_made w c d m
  inside_made InArrayIndex = array_index_inside_made w c d m
  inside_made InRecordDefinition = record_inside_made w c d m
  inside_made InProtectedDeclaration = protected_inside_made w c d m
  inside_made InProtectedUnit = protected_unit_inside_made w c d m
  inside_made InEntryBody = entry_body_inside_made w c d m
  inside_made InTaskBody = task_body_inside_made w c d m
  inside_made InSubprogramBody = body_inside_made w c d m
  inside_made InBodyOrStub = body_or_stub_inside_made w c d m
  inside_made InPackageDeclaration = package_inside_made
  inside_made InPackageUnit = package_unit_inside_made
  inside_made InIfStatement = if_inside_made w c d m
  inside_made InCaseStatement = case_inside_made w c d m
  inside_made InWhileLoop = while_inside_made w c d m
  inside_made InForLoop = for_inside_made w c d m
  inside_made InPlainLoop = plain_loop_inside_made w c d m
  inside_made InDeclareBlock = declare_inside_made w c d m
  inside_made InPlainBlock = plain_block_inside_made w c d m

parentheses_deep : (w : ℕ) (p : GroupTree) → 1 ≤ group_nesting w p
parentheses_deep w (Positional l e es) = omega arith
parentheses_deep w (OthersAggregate l e) = omega arith

-- where no construct may be open
none_made : (w : ℕ) (k : Construct) (T : Type 0) (from : T → InsideTree k) → IsMade w k T from 0
none_made w InParentheses T from = λ p h. absurd (omega (arith, parentheses_deep w p))
none_made w InArguments T from = λ l e es h. absurd (omega arith)
none_made w InPragmaArguments T from = λ n h. absurd (omega arith)
none_made w InParentName T from = λ n h. absurd (omega arith)
none_made w InFormalPart T from = λ p h. absurd (omega arith)
none_made w InEnumerationLiterals T from = λ n h. absurd (omega arith)
none_made w InArrayIndex T from = λ r h. absurd (omega arith)
none_made w InRecordDefinition T from = λ r e h. absurd (omega arith)
none_made w InProtectedDeclaration T from = λ p h. absurd (omega arith)
none_made w InProtectedUnit T from = (λ l p h. absurd (omega arith), λ l n os e h. absurd (omega arith))
none_made w InEntryBody T from = λ l n e b h. absurd (omega arith)
none_made w InTaskBody T from = λ n b h. absurd (omega arith)
none_made w InSubprogramBody T from = λ b h. absurd (omega (arith, body_deep w b))
none_made w InBodyOrStub T from = (λ l h. absurd (omega arith), λ b h. absurd (omega (arith, body_deep w b)))
none_made w InPackageDeclaration T from = λ p h. absurd (omega arith)
none_made w InPackageUnit T from = (λ l p h. absurd (omega arith), λ l p h. absurd (omega arith))
none_made w InIfStatement T from = λ l b bs e m k h. absurd (omega arith)
none_made w InCaseStatement T from = λ l e a more m k h. absurd (omega arith)
none_made w InWhileLoop T from = λ w e l ss n h. absurd (omega arith)
none_made w InForLoop T from = λ f i r e l ss n h. absurd (omega arith)
none_made w InPlainLoop T from = λ l ss n h. absurd (omega arith)
none_made w InDeclareBlock T from = λ l b h. absurd (omega arith)
none_made w InPlainBlock T from = λ l ss n h. absurd (omega arith)

room_opens : (d : ℕ) → 1 ≤ d → has_room d ≡ true
room_opens zero h = absurd (omega arith)
room_opens (suc d) h = refl

room_opened : (d : ℕ) → has_room d ≡ true → 1 ≤ d
room_opened zero e = absurd (cc)
room_opened (suc d) e = omega arith

construct_made : (w d n : ℕ) → suc d ≤ w → IsMade w (construct_at n) (Deep grammar d n) (construct_from d n) d
unfolding grammar construct_from
construct_made w zero n f = none_made w (construct_at n) (Deep grammar zero n) (construct_from zero n)
construct_made w (suc d) n f = inside_made w (nested d) d (record { few = omega (arith, f); opens = room_opens d; opened = room_opened d; made = λ k. construct_made w d k (omega (arith, f)) }) (construct_at n)

-- A tree that nests no deeper is made from one of the grammar's.
pub unit_made : (w d : ℕ) (u : CompilationUnitTree) → nesting_by w u ≤ d → 1 ≤ d → suc d ≤ w → Fiber (unit_from d) u
unfolding unit_from
unit_made w d u h o f = compilation_unit_made w (nested d) d (record { few = f; opens = room_opens d; opened = room_opened d; made = λ k. construct_made w d k f }) u h o
