-- A walk relates how far a check has come before a text with how far it has come after it, if each field of its reading does so: by one relation
-- for statements (S), by another one for declarations (D), whatever is wrong with the text. After the head of a body that is right, N holds.
use Rattle.std.proofs.Common.{ℕ, Bool, List, [], ◌∷◌, Option, Some, None, Ok, Err, is_some, if◌then◌else◌}
use Rattle.al_base.specs.declared.place.Place.{Place}
use Rattle.al_base_fault.specs.Judging.{next}
use Rattle.al_base_fault.specs.declared.fault.Fault.{Fault}
use Rattle.al_overload_lookup.specs.Places.{place_of}
use Rattle.al_stmts.specs.LoopForms.{RangeTree}
use Rattle.al_stmts.specs.Readings.{Reading}
use Rattle.al_stmts.specs.Simple.{TargetTree, target_of}
use Rattle.al_stmts.specs.Steps.{Branching, Choosing, Enclosing, Inside, Part, Walked, in_loop, inside_of, joined, no_branching, nothing, parts_joined}
use Rattle.al_stmts.specs.Units as units
use Rattle.al_stmts.specs.Walking as w
use Rattle.al_stmts.specs.declared.extent.BodyExtent.{BodyExtent}
use Rattle.al_stmts.specs.declared.loops.LoopWords.{LoopWords}
use Rattle.al_tree_grammar.specs.Grammar.{Label}
use Rattle.al_tree_syntax.specs.DeclarationTrees.{CommonTree, DiscreteRangeTree, ProtectedTree, SpecificationTree, TaskTree}
use Rattle.al_tree_syntax.specs.DeclarationTrees.{DeclarationTree as Basic}
use Rattle.al_tree_syntax.specs.DeclarationTrees.DeclarationTree.{CommonDeclaration, SubprogramDeclaration, TaskDeclaration, ProtectedDeclaration}
use Rattle.al_tree_syntax.specs.ExpressionTrees.{ExpressionTree}
use Rattle.al_tree_syntax.specs.StatementTrees.{AlternativeTree, AlternativesTree, BlockTree, BodyTree, BranchTree, ElseTree, ElsifsTree, HandledTree, ItemTree, ItemsTree, LoopTree, MoreStatementsTree, NamedEndTree, OperationBodiesTree, OperationBodyTree, StatementTree, StatementsTree}
use Rattle.al_tree_syntax.specs.StatementTrees.StatementsTree.{Statements}
use Rattle.al_tree_syntax.specs.StatementTrees.MoreStatementsTree.{NoStatement, MoreStatements}
use Rattle.al_tree_syntax.specs.StatementTrees.StatementTree.{NullStatement, Assignment, CallStatement, ReturnStatement, ExitStatement, DelayStatement, IfStatement, CaseStatement, LoopStatement, BlockStatement}
use Rattle.al_tree_syntax.specs.StatementTrees.BranchTree.{Branch}
use Rattle.al_tree_syntax.specs.StatementTrees.ElsifsTree.{NoElsif, MoreElsifs}
use Rattle.al_tree_syntax.specs.StatementTrees.ElseTree.{NoElse, Else}
use Rattle.al_tree_syntax.specs.StatementTrees.AlternativeTree.{Alternative}
use Rattle.al_tree_syntax.specs.StatementTrees.AlternativesTree.{NoAlternative, MoreAlternatives}
use Rattle.al_tree_syntax.specs.StatementTrees.LoopTree.{PlainLoop, WhileLoop, ForLoop}
use Rattle.al_tree_syntax.specs.StatementTrees.BlockTree.{DeclareBlock, PlainBlock}
use Rattle.al_tree_syntax.specs.StatementTrees.HandledTree.{Handled}
use Rattle.al_tree_syntax.specs.StatementTrees.BodyTree.{Body}
use Rattle.al_tree_syntax.specs.StatementTrees.ItemsTree.{NoItem, MoreItems}
use Rattle.al_tree_syntax.specs.StatementTrees.ItemTree.{CommonItem, SubprogramItem, StubItem, BodyItem, TaskItem, TaskBodyItem, ProtectedItem, ProtectedBodyItem}
use Rattle.al_tree_syntax.specs.StatementTrees.OperationBodiesTree.{NoOperationBody, MoreOperationBodies}
use Rattle.al_tree_syntax.specs.StatementTrees.OperationBodyTree.{SubprogramOperation, EntryOperation}
use Rattle.al_tree_syntax.specs.UnitTrees.{LibraryItemTree, PackageStatementsTree, PrivatePartTree}
use Rattle.al_tree_syntax.specs.UnitTrees.LibraryItemTree.{LibrarySubprogram, LibraryPackage, LibraryBody, LibraryPackageBody, Subunit}
use Rattle.al_view_typed.specs.DeclarationTrees.{DeclarationTree}
use Rattle.al_view_typed.specs.StatementTrees.{SchemeTree}
use Rattle.al_check_promise_laws.proofs.AllLemmas.{one_of}
use Rattle.al_check_promise_laws.proofs.CleanLemmas.{IsOk}
use Rattle.al_check_promise_laws.proofs.RightLemmas.{Judged}

module _ {H : Type 0} (S D : H → H → Type 0) (N : H → Type 0) where
  -- what comes before `is`: if it is right, N holds after it
  abbrev pub Heads : H → H × Judged (List DeclarationTree) → Type 0
  Heads h p = D h p.0 × (IsOk p.1 → N p.0)

  -- what a reading relates
  pub record Relates (R : Reading H) : Type 0 where
    pub stays : (a : H) → S a a
    pub further : (a b c : H) → S a b → S b c → S a c
    pub rests : (a : H) → D a a
    pub onward : (a b c : H) → D a b → D b c → D a c
    pub less : (a b : H) → S a b → D a b
    pub condition : (h : H) (e : ExpressionTree) → S h (R.condition h e).0
    pub moment : (h : H) (e : ExpressionTree) → S h (R.moment h e).0
    pub target : (h : H) (e : ExpressionTree) → S h (R.target h e).0
    pub source : (h : H) (n e : ExpressionTree) → S h (R.source h n e).0
    pub effect : (h : H) (e : ExpressionTree) → S h (R.call_effect h e).0
    pub result : (h : H) (e : ExpressionTree) → S h (R.result h e).0
    pub selector : (h : H) (e : ExpressionTree) → S h (R.selector h e).0
    pub with_word : (h : H) → S h (R.with_word h)
    pub loop : (h g : H) (l : Label) → S (R.loop_entered h l) g → S h (R.left g)
    pub loop_range : (h : H) (d : DiscreteRangeTree) → S h (R.loop_range h d).0
    pub with_parameter : (h : H) (l : Label) (r : RangeTree) (ws : LoopWords) → S h (R.with_parameter h l r ws)
    pub block : (h g : H) → D (R.block_entered h) g → S h (R.left g)
    pub declared : (h : H) (c : CommonTree) → D h (R.declared h c).0
    pub subprogram : (h : H) (s : SpecificationTree) → D h (R.subprogram h s).0
    pub stub : (h : H) (s : SpecificationTree) (l : Label) → D h (R.stub h s l).0
    pub single_task : (h : H) (k : TaskTree) → D h (R.single_task h k).0
    pub single_object : (h : H) (l : Label) (o : ProtectedTree) → D h (R.single_object h l o).0
    pub head : (h : H) (s : SpecificationTree) → Heads h (R.head h s)
    pub task_head : (h : H) (l : Label) → Heads h (R.task_head h l)
    pub entry_head : (h : H) (l : Label) (e : ExpressionTree) → Heads h (R.entry_head h l e)
    pub body : (h g : H) → N h → D (R.body_entered h) g → D h (R.body_left g)
    pub object_entered : (h : H) (l n : Label) (os : OperationBodiesTree) → D h (R.object_entered h l n os).0
    pub object_left : (h : H) → D h (R.object_left h)
    pub private_entered : (h : H) → D h (R.private_entered h)
    pub statements_entered : (h : H) → S h (R.statements_entered h)

  module _ (R : Reading H) (rel : Relates R) where
    -- ---- one text, and then what comes after it

    after-s : (h : H) (a b : H × Walked) → S h a.0 → S a.0 b.0 → S h (w.walked_after a b).0
    after-s h a b p q = one_of (λ (x : H × Walked). S h x.0) (is_some a.1.checked.faults.end) a (b.0, joined a.1 b.1) p (rel.further h a.0 b.0 p q)

    after-d : (h : H) (a b : H × Part) → D h a.0 → D a.0 b.0 → D h (w.part_after a b).0
    after-d h a b p q = one_of (λ (x : H × Part). D h x.0) (is_some a.1.faults.end) a (b.0, parts_joined a.1 b.1) p (rel.onward h a.0 b.0 p q)

    inside-d : (h : H) (a : H × Part) (b : H × Walked) → D h a.0 → S a.0 b.0 → D h (w.inside_after a b).0
    inside-d h a b p q = one_of (λ (x : H × Inside). D h x.0) (is_some a.1.faults.end) (a.0, inside_of a.1 nothing) (b.0, inside_of a.1 b.1) p (rel.onward h a.0 b.0 p (rel.less a.0 b.0 q))

    -- ---- statements without statements inside them

    assigned-s : (h g : H) (n e : ExpressionTree) (j : Judged TargetTree) → S h g → S h (w.assigned_at R g n e j).0
    assigned-s h g n e (Ok t) a = rel.further h g (R.source g n e).0 a (rel.source g n e)
    assigned-s h g n e (Err f) a = a

    return-s : (r : Enclosing) (h : H) (p : Place) (o : Option ExpressionTree) → S h (w.return_walked R r h p o).0
    return-s r h p None = rel.stays h
    return-s r h p (Some e) = one_of (λ (x : H × Walked). S h x.0) (w.is_function r.returns.body) (w.result_at R r.returns h p e) _ (rel.result h e) (rel.stays h)

    maybe-s : (h : H) (o : Option ExpressionTree) → S h (w.maybe_condition R h o).0
    maybe-s h None = rel.stays h
    maybe-s h (Some e) = rel.condition h e

    -- ---- loops

    parameter-s : (h g : H) (i : Label) (b : Bool) (ws : LoopWords) (j : Judged RangeTree) → S h g → S h (w.parameter_declared R g i b ws j).0
    parameter-s h g i b ws (Ok r) a = rel.further h g (R.with_parameter g i r ws) a (rel.with_parameter g i r ws)
    parameter-s h g i b ws (Err f) a = a

    for-s : (h g : H) (l : Label) (line : ℕ) (j : Judged SchemeTree) (e : Option Fault) (q : H × Walked) → S (R.loop_entered h l) g → S g q.0 → S h (w.for_walked R g line j e q).0
    for-s h g l line (Ok s) e q a b = rel.loop h q.0 l (rel.further (R.loop_entered h l) g q.0 a b)
    for-s h g l line (Err f) e q a b = rel.loop h g l a

    -- ---- bodies

    body-made : (h g : H) (x : BodyExtent) (f : Option Fault) (j : Judged (List DeclarationTree)) (q : H × Inside) → Heads h (g, j) → D (R.body_entered g) q.0 → D h (w.body_after R (g, j) x f q).0
    body-made h g x f (Ok ds) q a b = rel.onward h g (R.body_left q.0) a.0 (rel.body g q.0 (a.1 tt) b)
    body-made h g x f (Err e) q a b = a.0

    object-made : (h g : H) (n : Label) (e : NamedEndTree) (j : Judged (List DeclarationTree)) (q : H × Part) → D h g → D g q.0 → D h (w.object_after R (g, j) n e q).0
    object-made h g n e (Ok ds) q a b = rel.onward h q.0 (R.object_left q.0) (rel.onward h g q.0 a b) (rel.object_left q.0)
    object-made h g n e (Err f) q a b = a

    -- ---- the walk

    mutual
      pub statements-s : (r : Enclosing) (h : H) (s : StatementsTree) → S h (w.statements_walked R r h s).0
      statements-s r h (Statements s more) = let one = w.statement_walked R r h s in after-s h one (w.more_walked R r one.0 more) (statement-s r h s) (more-s r one.0 more)

      more-s : (r : Enclosing) (h : H) (s : MoreStatementsTree) → S h (w.more_walked R r h s).0
      more-s r h NoStatement = rel.stays h
      more-s r h (MoreStatements s more) = let one = w.statement_walked R r h s in after-s h one (w.more_walked R r one.0 more) (statement-s r h s) (more-s r one.0 more)

      statement-s : (r : Enclosing) (h : H) (s : StatementTree) → S h (w.statement_walked R r h s).0
      statement-s r h NullStatement = rel.stays h
      statement-s r h (Assignment n e) = assigned-s h (R.target h n).0 n e (next (R.target h n).1 target_of) (rel.target h n)
      statement-s r h (CallStatement n) = rel.effect h n
      statement-s r h (ReturnStatement l e) = return-s r h (place_of l) e
      statement-s r h (ExitStatement l n c) = maybe-s h c
      statement-s r h (DelayStatement l e) = rel.moment h e
      statement-s r h (IfStatement l b bs e m c) =
          let one = w.branch_walked R r (h, no_branching) l.line b in
          let two = w.elsifs_walked R r one bs in
          let all = w.else_walked R r two e in
          rel.further h two.0 all.0 (rel.further h one.0 two.0 (branch-s r (h, no_branching) l.line b) (elsifs-s r one bs)) (else-s r two e)
      statement-s r h (CaseStatement l e x more m c) =
          let head = w.case_head R h (place_of l) e x more in
          let one = w.alternative_walked R r head x in
          let all = w.alternatives_walked R r one more in
          rel.further h one.0 all.0 (rel.further h head.0 one.0 (rel.further h (R.with_word h) head.0 (rel.with_word h) (rel.selector (R.with_word h) e)) (alternative-s r head x)) (alternatives-s r one more)
      statement-s r h (LoopStatement n l) = inner-loop-s r h n l
      statement-s r h (BlockStatement n b) = inner-block-s r h n b

      branch-s : (r : Enclosing) (p : H × Branching) (line : ℕ) (b : BranchTree) → S p.0 (w.branch_walked R r p line b).0
      branch-s r p line (Branch c ss) =
          let f = R.condition p.0 c in rel.further p.0 f.0 (w.statements_walked R r f.0 ss).0 (rel.condition p.0 c) (statements-s r f.0 ss)

      elsifs-s : (r : Enclosing) (p : H × Branching) (e : ElsifsTree) → S p.0 (w.elsifs_walked R r p e).0
      elsifs-s r p NoElsif = rel.stays p.0
      elsifs-s r p (MoreElsifs l b bs) =
          let one = w.branch_walked R r p l.line b in
          one_of (λ (x : H × Branching). S p.0 x.0) (is_some p.1.so_far.faults.end) p (w.elsifs_walked R r one bs) (rel.stays p.0) (rel.further p.0 one.0 (w.elsifs_walked R r one bs).0 (branch-s r p l.line b) (elsifs-s r one bs))

      else-s : (r : Enclosing) (p : H × Branching) (e : ElseTree) → S p.0 (w.else_walked R r p e).0
      else-s r p NoElse = rel.stays p.0
      else-s r p (Else ss) = one_of (λ (x : H × Branching). S p.0 x.0) (is_some p.1.so_far.faults.end) p _ (rel.stays p.0) (statements-s r p.0 ss)

      alternative-s : (r : Enclosing) (p : H × Choosing) (x : AlternativeTree) → S p.0 (w.alternative_walked R r p x).0
      alternative-s r p (Alternative first others ss) = statements-s r p.0 ss

      alternatives-s : (r : Enclosing) (p : H × Choosing) (xs : AlternativesTree) → S p.0 (w.alternatives_walked R r p xs).0
      alternatives-s r p NoAlternative = rel.stays p.0
      alternatives-s r p (MoreAlternatives x more) =
          let one = w.alternative_walked R r p x in
          one_of (λ (y : H × Choosing). S p.0 y.0) (is_some p.1.so_far.faults.end) p (w.alternatives_walked R r one more) (rel.stays p.0) (rel.further p.0 one.0 (w.alternatives_walked R r one more).0 (alternative-s r p x) (alternatives-s r one more))

      inner-loop-s : (r : Enclosing) (h : H) (n : Option Label) (l : LoopTree) → S h (w.inner_loop_walked R r h n l).0
      inner-loop-s r h n (PlainLoop l ss e) = statements-s (in_loop r n) h ss
      inner-loop-s r h n (WhileLoop x c l ss e) =
          let f = R.condition h c in rel.further h f.0 (w.statements_walked R (in_loop r n) f.0 ss).0 (rel.condition h c) (statements-s (in_loop r n) f.0 ss)
      inner-loop-s r h n (ForLoop f i is_reverse d l ss e) =
          let two = R.with_word (R.with_word h) in
          let range = R.loop_range (R.loop_entered two i) d in
          let head = w.for_head R h i is_reverse d in
          let inner = w.statements_walked R (in_loop r n) head.0 ss in
          let all = w.for_walked R head.0 (w.named_line n f) head.1 (w.end_of n e.end_name) inner in
          rel.further h two all.0 (rel.further h (R.with_word h) two (rel.with_word h) (rel.with_word (R.with_word h)))
          (for-s two head.0 i (w.named_line n f) head.1 (w.end_of n e.end_name) inner (parameter-s (R.loop_entered two i) range.0 i is_reverse (w.loop_words R h) range.1 (rel.loop_range (R.loop_entered two i) d)) (statements-s (in_loop r n) head.0 ss))

      inner-block-s : (r : Enclosing) (h : H) (n : Option Label) (b : BlockTree) → S h (w.inner_block_walked R r h n b).0
      inner-block-s r h n (PlainBlock l ss e) = statements-s r h ss
      inner-block-s r h n (DeclareBlock l inner) = handled-s r h n (w.named_line n l) inner

      handled-s : (r : Enclosing) (h : H) (n : Option Label) (line : ℕ) (x : HandledTree) → S h (w.handled_walked R r h n line x).0
      handled-s r h n line (Handled is b ss e) =
          let g = R.block_entered h in
          let part = w.closed R (w.items_walked R g is) b in
          let q = w.statements_walked R r part.0 ss in
          rel.block h (w.inside_after part q).0 (inside-d g part q (items-d g is) (statements-s r part.0 ss))

      pub items-d : (h : H) (is : ItemsTree) → D h (w.items_walked R h is).0
      items-d h NoItem = rel.rests h
      items-d h (MoreItems i is) = let one = w.item_walked R h i in after-d h one (w.items_walked R one.0 is) (item-d h i) (items-d one.0 is)

      item-d : (h : H) (i : ItemTree) → D h (w.item_walked R h i).0
      item-d h (CommonItem c) = rel.declared h c
      item-d h (SubprogramItem s) = rel.subprogram h s
      item-d h (StubItem s l) = rel.stub h s l
      item-d h (BodyItem s b) = body-d h s b
      item-d h (TaskItem t) = rel.single_task h t
      item-d h (TaskBodyItem l n inner) = task-d h l n inner
      item-d h (ProtectedItem l p) = rel.single_object h l p
      item-d h (ProtectedBodyItem l n os e) =
          let f = R.object_entered h l n os in object-made h f.0 n e f.1 (w.operations_walked R f.0 os) (rel.object_entered h l n os) (operations-d f.0 os)

      operations-d : (h : H) (os : OperationBodiesTree) → D h (w.operations_walked R h os).0
      operations-d h NoOperationBody = rel.rests h
      operations-d h (MoreOperationBodies o os) = let one = w.operation_walked R h o in after-d h one (w.operations_walked R one.0 os) (operation-d h o) (operations-d one.0 os)

      operation-d : (h : H) (o : OperationBodyTree) → D h (w.operation_walked R h o).0
      operation-d h (SubprogramOperation s b) = body-d h s b
      operation-d h (EntryOperation l n barrier inner) = entry-d h l n barrier inner

      pub body-d : (h : H) (s : SpecificationTree) (b : BodyTree) → D h (w.body_walked R h s b).0
      body-d h s (Body is l ss e) =
          let f = R.head h s in
          let g = w.body_entered R f.0 in
          let part = w.closed R (w.items_walked R g.0 is) l in
          let q = w.statements_walked R g.1 part.0 ss in
          body-made h f.0 _ _ f.1 (w.inside_after part q) (rel.head h s) (inside-d g.0 part q (items-d g.0 is) (statements-s g.1 part.0 ss))

      task-d : (h : H) (l n : Label) (x : HandledTree) → D h (w.task_walked R h l n x).0
      task-d h l n (Handled is b ss e) =
          let f = R.task_head h n in
          let g = w.body_entered R f.0 in
          let part = w.closed R (w.items_walked R g.0 is) b in
          let q = w.statements_walked R g.1 part.0 ss in
          body-made h f.0 _ _ f.1 (w.inside_after part q) (rel.task_head h n) (inside-d g.0 part q (items-d g.0 is) (statements-s g.1 part.0 ss))

      entry-d : (h : H) (l n : Label) (barrier : ExpressionTree) (x : HandledTree) → D h (w.entry_walked R h l n barrier x).0
      entry-d h l n barrier (Handled is b ss e) =
          let f = R.entry_head h n barrier in
          let g = w.body_entered R f.0 in
          let part = w.closed R (w.items_walked R g.0 is) b in
          let q = w.statements_walked R g.1 part.0 ss in
          body-made h f.0 _ _ f.1 (w.inside_after part q) (rel.entry_head h n barrier) (inside-d g.0 part q (items-d g.0 is) (statements-s g.1 part.0 ss))

    -- ---- what is inside a body that was entered

    abbrev pub body_inside : H → ItemsTree → Label → StatementsTree → H × Inside
    body_inside g is l ss =
        let inner = w.body_entered R g in
        let part = w.closed R (w.items_walked R inner.0 is) l in
        w.inside_after part (w.statements_walked R inner.1 part.0 ss)

    pub within-d : (g : H) (is : ItemsTree) (l : Label) (ss : StatementsTree) → D (R.body_entered g) (body_inside g is l ss).0
    within-d g is l ss =
        let inner = w.body_entered R g in
        let part = w.closed R (w.items_walked R inner.0 is) l in
        inside-d inner.0 part (w.statements_walked R inner.1 part.0 ss) (items-d inner.0 is) (statements-s inner.1 part.0 ss)

    -- ---- units

    declaration-d : (h : H) (d : Basic) → D h (units.declaration_walked R h d).0
    declaration-d h (CommonDeclaration c) = rel.declared h c
    declaration-d h (SubprogramDeclaration s) = rel.subprogram h s
    declaration-d h (TaskDeclaration t) = rel.single_task h t
    declaration-d h (ProtectedDeclaration l p) = rel.single_object h l p

    declarations-d : (h : H) (ds : List Basic) → D h (units.declarations_walked R h ds).0
    declarations-d h [] = rel.rests h
    declarations-d h (d ∷ ds) = let one = units.declaration_walked R h d in after-d h one (units.declarations_walked R one.0 ds) (declaration-d h d) (declarations-d one.0 ds)

    private-d : (h : H) (o : Option PrivatePartTree) → D h (units.private_walked R h o).0
    private-d h None = rel.rests h
    private-d h (Some p) = rel.onward h (R.private_entered h) (units.declarations_walked R (R.private_entered h) p.declarations).0 (rel.private_entered h) (declarations-d (R.private_entered h) p.declarations)

    package-inside-d : (h : H) (a : H × Part) (l : Label) (o : Option PackageStatementsTree) → D h a.0 → D h (units.package_inside R a l o).0
    package-inside-d h a l None d = d
    package-inside-d h a l (Some s) d =
        let whole = units.statements_entered R (w.closed R a s.opening) in
        inside-d h whole (w.statements_walked R units.enclosing_package whole.0 s.statements) (rel.onward h a.0 whole.0 d (rel.less a.0 whole.0 (rel.statements_entered a.0))) (statements-s units.enclosing_package whole.0 s.statements)

    -- the item of a unit
    pub unit-d : (h : H) (i : LibraryItemTree) → D h (units.unit_walked R h i).0
    unit-d h (LibrarySubprogram p s) = rel.subprogram h s
    unit-d h (LibraryPackage p l k) = let one = units.declarations_walked R h k.visible in after-d h one (units.private_walked R one.0 k.private_part) (declarations-d h k.visible) (private-d one.0 k.private_part)
    unit-d h (LibraryBody s b) = body-d h s b
    unit-d h (LibraryPackageBody l k) = package-inside-d h (w.items_walked R h k.items) k.end.end k.statements (items-d h k.items)
    unit-d h (Subunit l o n s b) = body-d h s b
