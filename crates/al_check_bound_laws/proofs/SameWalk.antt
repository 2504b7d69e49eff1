-- The walk is the same under two readings that are the same where they are asked: at states of which something holds, which both keep (I), and of texts
-- whose lexemes may be asked for (Ok).
use Rattle.std.proofs.Common.{◌≡◌, refl, ◌∙◌, ap, ℕ, Bool, true, false, List, [], ◌∷◌, Option, Some, None, Ok, Err, is_some, is_ok, fold, if◌then◌else◌}
use Rattle.al_base.specs.declared.place.Place.{Place}
use Rattle.al_tree_grammar.specs.Grammar.{Label}
use Rattle.al_tree_syntax.specs.DeclarationTrees.{CommonTree, DiscreteRangeTree, ProtectedTree, SpecificationTree, TaskTree}
use Rattle.al_tree_syntax.specs.DeclarationTrees.{DeclarationTree as Basic}
use Rattle.al_tree_syntax.specs.DeclarationTrees.DeclarationTree.{CommonDeclaration, SubprogramDeclaration, TaskDeclaration, ProtectedDeclaration}
use Rattle.al_tree_syntax.specs.ExpressionTrees.{ExpressionTree}
use Rattle.al_tree_syntax.specs.StatementTrees.{AlternativeTree, AlternativesTree, BlockTree, BodyTree, BranchTree, ElseTree, ElsifsTree, HandledTree, ItemTree, ItemsTree, LoopTree, MoreStatementsTree, NamedEndTree, OperationBodiesTree, OperationBodyTree, StatementTree, StatementsTree}
use Rattle.al_tree_syntax.specs.StatementTrees.StatementsTree.{Statements}
use Rattle.al_tree_syntax.specs.StatementTrees.MoreStatementsTree.{NoStatement, MoreStatements}
use Rattle.al_tree_syntax.specs.StatementTrees.StatementTree.{NullStatement, Assignment, CallStatement, ReturnStatement, ExitStatement, DelayStatement, IfStatement, CaseStatement, LoopStatement, BlockStatement}
use Rattle.al_tree_syntax.specs.StatementTrees.BranchTree.{Branch}
use Rattle.al_tree_syntax.specs.StatementTrees.ElsifsTree.{NoElsif, MoreElsifs}
use Rattle.al_tree_syntax.specs.StatementTrees.ElseTree.{NoElse, Else}
use Rattle.al_tree_syntax.specs.StatementTrees.AlternativeTree.{Alternative}
use Rattle.al_tree_syntax.specs.StatementTrees.AlternativesTree.{NoAlternative, MoreAlternatives}
use Rattle.al_tree_syntax.specs.StatementTrees.LoopTree.{PlainLoop, WhileLoop, ForLoop}
use Rattle.al_tree_syntax.specs.StatementTrees.BlockTree.{DeclareBlock, PlainBlock}
use Rattle.al_tree_syntax.specs.StatementTrees.HandledTree.{Handled}
use Rattle.al_tree_syntax.specs.StatementTrees.BodyTree.{Body}
use Rattle.al_tree_syntax.specs.StatementTrees.ItemsTree.{NoItem, MoreItems}
use Rattle.al_tree_syntax.specs.StatementTrees.ItemTree.{CommonItem, SubprogramItem, StubItem, BodyItem, TaskItem, TaskBodyItem, ProtectedItem, ProtectedBodyItem}
use Rattle.al_tree_syntax.specs.StatementTrees.OperationBodiesTree.{NoOperationBody, MoreOperationBodies}
use Rattle.al_tree_syntax.specs.StatementTrees.OperationBodyTree.{SubprogramOperation, EntryOperation}
use Rattle.al_tree_syntax.specs.UnitTrees.{LibraryItemTree, PackageTree, PackageBodyTree, PackageStatementsTree, PrivatePartTree}
use Rattle.al_tree_syntax.specs.UnitTrees.LibraryItemTree.{LibrarySubprogram, LibraryPackage, LibraryBody, LibraryPackageBody, Subunit}
use Rattle.al_overload_lookup.specs.Places.{first_place, place_of}
use Rattle.al_base_fault.specs.declared.check_rule.CheckRule.TheVariants.{BadReturn}
use Rattle.al_base_fault.specs.Faults.{fault_at}
use Rattle.al_base_fault.specs.Judging.{next}
use Rattle.al_base_fault.specs.declared.fault.Fault.{Fault}
use Rattle.al_stmts.specs.Returns.{no_return_fault}
use Rattle.al_stmts.specs.Returning.{has_return}
use Rattle.al_view_typed.specs.DeclarationTrees.{DeclarationTree}
use Rattle.al_view_typed.specs.ExpressionTrees.{TypedTree}
use Rattle.al_view_typed.specs.StatementTrees.{SchemeTree, SchemeTree as schemes}
use Rattle.al_stmts.specs.Simple.{TargetTree, assigned, delayed, exited, returned, target_of}
use Rattle.al_stmts.specs.LoopForms.{RangeTree, while_scheme}
use Rattle.al_stmts.specs.Cases.{selected}
use Rattle.al_stmts.specs.declared.extent.BodyExtent.{BodyExtent}
use Rattle.al_stmts.specs.declared.loops.LoopWords.{LoopWords}
use Rattle.al_stmts.specs.Readings.{Reading}
use Rattle.al_stmts.specs.Steps.{in_body, Enclosing, Branching, Choosing, Inside, Part, Walked, block_of, case_of, choosing, ended_by, if_of, in_loop, inside_of, name_of, no_branching, no_part, nothing, one_alternative, one_branch, one_otherwise}
use Rattle.al_stmts.specs.Walking as w
use Rattle.al_stmts.specs.Units as units
use Rattle.al_tree_grammar.specs.Grammar.{Lexeme}
use Rattle.al_tree_grammar.specs.Grammar as g
use Rattle.al_tree_syntax.specs.DeclarationTrees.{compound_tokens, identifier_token, end_name_tokens, common_tokens, declaration_tokens, discrete_range_tokens, protected_tokens, specification_tokens, task_tokens, flag_tokens}
use Rattle.al_tree_syntax.specs.ExpressionTrees.{expression_tokens, name_tokens}
use Rattle.al_tree_syntax.specs.StatementTrees.{ChoiceTree, when_tokens, alternative_tokens, alternatives_tokens, block_tokens, body_tokens, branch_tokens, choice_tokens, else_tokens, elsifs_tokens, handled_tokens, item_tokens, items_tokens, label_tokens, loop_tokens, more_statements_tokens, operation_bodies_tokens, operation_body_tokens, statement_tokens, statements_tokens}
use Rattle.al_tree_syntax.specs.UnitTrees.{package_statements_tokens, library_item_tokens, package_tokens, package_body_tokens, private_part_tokens, private_tokens}
use Rattle.al_stmts.specs.Readings.{Read}
use Rattle.al_stmts.specs.declared.choices.CaseChoices.{CaseChoices}
use Rattle.al_stmts.specs.Cases.{bounds_of, held_against, no_alternative, no_choice, with_choice, with_choices}
use Rattle.al_check_bound_laws.proofs.AllLemmas.{All, all-left, all-right, one_of}
use Rattle.al_view.specs.declared.types.Bounds.{Bounds}
use Rattle.std.specs.Prelude.{Result}
use Rattle.al_tree_syntax.specs.Symbols.{Symbol as symbols}
use Rattle.al_tree_syntax.specs.Words.{word}

pub record SameReading {H : Type 0} (R S : Reading H) (I : H → Type 0) (Q : Lexeme → Type 0) : Type 0 where
  pub condition : (h : H) → I h → (e : ExpressionTree) → All Q (expression_tokens e) → (R.condition h e ≡ S.condition h e) × I (R.condition h e).0
  pub moment : (h : H) → I h → (e : ExpressionTree) → All Q (expression_tokens e) → (R.moment h e ≡ S.moment h e) × I (R.moment h e).0
  pub target : (h : H) → I h → (n : ExpressionTree) → All Q (name_tokens n) → (R.target h n ≡ S.target h n) × I (R.target h n).0
  pub source : (h : H) → I h → (n e : ExpressionTree) → All Q (name_tokens n) → All Q (expression_tokens e) → (R.source h n e ≡ S.source h n e) × I (R.source h n e).0
  pub call_effect : (h : H) → I h → (n : ExpressionTree) → All Q (name_tokens n) → (R.call_effect h n ≡ S.call_effect h n) × I (R.call_effect h n).0
  pub result : (h : H) → I h → (e : ExpressionTree) → All Q (expression_tokens e) → (R.result h e ≡ S.result h e) × I (R.result h e).0
  pub selector : (h : H) → I h → (e : ExpressionTree) → All Q (expression_tokens e) → (R.selector h e ≡ S.selector h e) × I (R.selector h e).0
  pub whole : (h : H) → I h → (e : ExpressionTree) → All Q (expression_tokens e) → R.whole h e ≡ S.whole h e
  pub choice : (h : H) → I h → (e : ExpressionTree) (c : ChoiceTree) → All Q (expression_tokens e) → All Q (choice_tokens c) → R.choice h e c ≡ S.choice h e c
  pub with_word : (h : H) → I h → I (R.with_word h)
  pub loop_entered : (h : H) → I h → (i : Label) → I (R.loop_entered h i)
  pub loop_range : (h : H) → I h → (d : DiscreteRangeTree) → All Q (discrete_range_tokens d) → (R.loop_range h d ≡ S.loop_range h d) × I (R.loop_range h d).0
  pub with_parameter : (h : H) → I h → (i : Label) (r : RangeTree) (ws : LoopWords) → I (R.with_parameter h i r ws)
  pub block_entered : (h : H) → I h → I (R.block_entered h)
  pub left : (h : H) → I h → I (R.left h)
  pub declared : (h : H) → I h → (c : CommonTree) → All Q (common_tokens c) → (R.declared h c ≡ S.declared h c) × I (R.declared h c).0
  pub subprogram : (h : H) → I h → (s : SpecificationTree) → All Q (specification_tokens s) → (R.subprogram h s ≡ S.subprogram h s) × I (R.subprogram h s).0
  pub stub : (h : H) → I h → (s : SpecificationTree) (l : Label) → All Q (specification_tokens s) → (R.stub h s l ≡ S.stub h s l) × I (R.stub h s l).0
  pub single_task : (h : H) → I h → (t : TaskTree) → All Q (task_tokens t) → (R.single_task h t ≡ S.single_task h t) × I (R.single_task h t).0
  pub single_object : (h : H) → I h → (l : Label) (p : ProtectedTree) → All Q (protected_tokens p) → (R.single_object h l p ≡ S.single_object h l p) × I (R.single_object h l p).0
  pub head : (h : H) → I h → (s : SpecificationTree) → All Q (specification_tokens s) → (R.head h s ≡ S.head h s) × I (R.head h s).0
  pub task_head : (h : H) → I h → (n : Label) → Q (identifier_token n) → (R.task_head h n ≡ S.task_head h n) × I (R.task_head h n).0
  pub entry_head : (h : H) → I h → (n : Label) (b : ExpressionTree) → Q (identifier_token n) → All Q (expression_tokens b) → (R.entry_head h n b ≡ S.entry_head h n b) × I (R.entry_head h n b).0
  pub body_entered : (h : H) → I h → (R.body_entered h ≡ S.body_entered h) × I (R.body_entered h)
  pub body_left : (h : H) → I h → I (R.body_left h)
  pub object_entered : (h : H) → I h → (l n : Label) (os : OperationBodiesTree) → Q (identifier_token n) → All Q (operation_bodies_tokens os) → (R.object_entered h l n os ≡ S.object_entered h l n os) × I (R.object_entered h l n os).0
  pub object_left : (h : H) → I h → I (R.object_left h)
  pub private_entered : (h : H) → I h → (R.private_entered h ≡ S.private_entered h) × I (R.private_entered h)
  pub statements_entered : (h : H) → I h → I (R.statements_entered h)

module _ {H : Type 0} (R S : Reading H) (I : H → Type 0) (Q : Lexeme → Type 0) (same : SameReading R S I Q) where
  -- what asks is the second's, all else the first's
  abbrev pub mixed : Reading H
  mixed = record R {
    condition = S.condition;
    moment = S.moment;
    target = S.target;
    source = S.source;
    call_effect = S.call_effect;
    result = S.result;
    selector = S.selector;
    whole = S.whole;
    choice = S.choice;
    loop_range = S.loop_range;
    declared = S.declared;
    subprogram = S.subprogram;
    stub = S.stub;
    single_task = S.single_task;
    single_object = S.single_object;
    head = S.head;
    task_head = S.task_head;
    entry_head = S.entry_head;
    body_entered = S.body_entered;
    object_entered = S.object_entered;
    private_entered = S.private_entered;
  }

  abbrev pub Alike : {X : Type 0} → H × X → H × X → Type 0
  Alike a b = (a ≡ b) × I a.0

  chain : {X Y : Type 0} (f g : H × X → H × Y) (a b : H × X) → Alike a b → (I a.0 → Alike (f a) (g a)) → Alike (f a) (g b)
  chain f g a b s k = let r = k s.1 in (r.0 ∙ ap g s.0, r.1)

  -- the same of what is made of it, where the state stays
  made : {X Y : Type 0} (f : H × X → H × Y) (a b : H × X) → Alike a b → (I a.0 → I (f a).0) → Alike (f a) (f b)
  made f a b s k = (ap f s.0, k s.1)

  -- ---- statements without statements inside them

  assigned-same : (h : H) → I h → (n e : ExpressionTree) → All Q (name_tokens n) → All Q (expression_tokens e) → (j : Result TargetTree Fault) → Alike (w.assigned_at R h n e j) (w.assigned_at mixed h n e j)
  assigned-same h i n e wn we (Ok t) = made (λ v. w.alone_at v.0 (assigned (first_place n).line t v.1)) (R.source h n e) (S.source h n e) (same.source h i n e wn we) (λ k. k)
  assigned-same h i n e wn we (Err f) = (refl, i)

  assignment-same : (h : H) → I h → (n e : ExpressionTree) → All Q (name_tokens n) → All Q (expression_tokens e) → Alike (w.assignment_walked R h n e) (w.assignment_walked mixed h n e)
  assignment-same h i n e wn we =
      chain (λ p. w.assigned_at R p.0 n e (next p.1 target_of)) (λ p. w.assigned_at mixed p.0 n e (next p.1 target_of)) (R.target h n) (S.target h n) (same.target h i n wn)
      (λ k. assigned-same (R.target h n).0 k n e wn we (next (R.target h n).1 target_of))

  return-same : (r : Enclosing) (h : H) → I h → (p : Place) (o : Option ExpressionTree) → All Q (g.maybe expression_tokens o) → Alike (w.return_walked R r h p o) (w.return_walked mixed r h p o)
  return-same r h i p None a = (refl, i)
  return-same r h i p (Some e) a = at (w.is_function r.returns.body)
    where
      at : (b : Bool) → Alike (if b then w.result_at R r.returns h p e else w.alone_at h (returned p r.returns (Some (Err (fault_at p BadReturn))))) (if b then w.result_at mixed r.returns h p e else w.alone_at h (returned p r.returns (Some (Err (fault_at p BadReturn)))))
      at true = made (λ v. w.alone_at v.0 (returned p r.returns (Some v.1))) (R.result h e) (S.result h e) (same.result h i e a) (λ k. k)
      at false = (refl, i)

  maybe-condition-same : (h : H) → I h → (o : Option ExpressionTree) → All Q (g.maybe when_tokens o) → Alike (w.maybe_condition R h o) (w.maybe_condition mixed h o)
  maybe-condition-same h i None a = (refl, i)
  maybe-condition-same h i (Some e) a = made (λ v. (v.0, Some v.1)) (R.condition h e) (S.condition h e) (same.condition h i e a.1) (λ k. k)

  -- ---- choices

  choices-fold : (h : H) → I h → (e : ExpressionTree) → All Q (expression_tokens e) → (so_far : _) (cs : List ChoiceTree) → All Q (g.each (λ d. word symbols.VerticalLine ∷ choice_tokens d) cs)
      → fold (λ x c. with_choice x (R.choice h e c)) so_far cs ≡ fold (λ x c. with_choice x (S.choice h e c)) so_far cs
  choices-fold h i e we so_far [] a = refl
  choices-fold h i e we so_far (c ∷ cs) a =
      ap (λ j. fold (λ x d. with_choice x (R.choice h e d)) (with_choice so_far j) cs) (same.choice h i e c we (all-left Q (choice_tokens c) _ a.1))
      ∙ choices-fold h i e we (with_choice so_far (S.choice h e c)) cs (all-right Q (choice_tokens c) _ a.1)

  choices-same : (h : H) → I h → (e : ExpressionTree) → All Q (expression_tokens e) → (so_far : CaseChoices) (x : AlternativeTree) → All Q (alternative_tokens x) → w.choices_walked R h e so_far x ≡ w.choices_walked mixed h e so_far x
  choices-same h i e we so_far (Alternative first others ss) a =
      ap (λ j. with_choices so_far (fold (λ x c. with_choice x (R.choice h e c)) (with_choice no_choice j) others)) (same.choice h i e first we (all-left Q (choice_tokens first) _ a.1))
      ∙ ap (with_choices so_far) (choices-fold h i e we (with_choice no_choice (S.choice h e first)) others (all-left Q (g.each (λ d. word symbols.VerticalLine ∷ choice_tokens d) others) _ (all-right Q (choice_tokens first) _ a.1)))

  more-same : (h : H) → I h → (e : ExpressionTree) → All Q (expression_tokens e) → (so_far : CaseChoices) (xs : AlternativesTree) → All Q (alternatives_tokens xs) → w.more_choices R h e so_far xs ≡ w.more_choices mixed h e so_far xs
  more-same h i e we so_far NoAlternative a = refl
  more-same h i e we so_far (MoreAlternatives x xs) a =
      ap (λ c. w.more_choices R h e c xs) (choices-same h i e we so_far x (all-left Q (alternative_tokens x) _ a))
      ∙ more-same h i e we (w.choices_walked mixed h e so_far x) xs (all-right Q (alternative_tokens x) _ a)

  all-same : (h : H) → I h → (e : ExpressionTree) → All Q (expression_tokens e) → (b : Bool) (x : AlternativeTree) (xs : AlternativesTree) → All Q (alternative_tokens x) → All Q (alternatives_tokens xs) → w.all_choices R h e b x xs ≡ w.all_choices mixed h e b x xs
  all-same h i e we true x xs a b =
      ap (λ c. w.more_choices R h e c xs) (choices-same h i e we no_alternative x a) ∙ more-same h i e we (w.choices_walked mixed h e no_alternative x) xs b
  all-same h i e we false x xs a b = refl

  right-same : (h : H) → I h → (e : ExpressionTree) → All Q (expression_tokens e) → (j : Result TypedTree Fault) (cs : CaseChoices) → w.right_choices R h e j cs ≡ w.right_choices mixed h e j cs
  right-same h i e we (Ok x) cs = ap (λ (b : Bounds). R.are_right (held_against (bounds_of x) b) cs.alternatives) (same.whole h i e we)
  right-same h i e we (Err f) cs = refl

  case-after-same : (h : H) → I h → (p : Place) (slot : ℕ) (e : ExpressionTree) → All Q (expression_tokens e) → (j : Result TypedTree Fault) (x : AlternativeTree) (xs : AlternativesTree) → All Q (alternative_tokens x) → All Q (alternatives_tokens xs)
      → w.case_after R h p slot e j x xs ≡ w.case_after mixed h p slot e j x xs
  case-after-same h i p slot e we j x xs a b =
      ap (λ (c : CaseChoices). (h, choosing slot (selected p j c.fault (w.right_choices R h e j c)) c.alternatives)) (all-same h i e we (is_ok j) x xs a b)
      ∙ ap (λ (r : Bool). let c = w.all_choices mixed h e (is_ok j) x xs in (h, choosing slot (selected p j c.fault r) c.alternatives)) (right-same h i e we j (w.all_choices mixed h e (is_ok j) x xs))

  case-head-same : (h : H) → I h → (p : Place) (e : ExpressionTree) → All Q (expression_tokens e) → (x : AlternativeTree) (xs : AlternativesTree) → All Q (alternative_tokens x) → All Q (alternatives_tokens xs) → Alike (w.case_head R h p e x xs) (w.case_head mixed h p e x xs)
  case-head-same h i p e we x xs a b =
      let k = R.with_word h in
      chain (λ v. w.case_after R v.0 p (R.word h) e v.1 x xs) (λ v. w.case_after mixed v.0 p (R.word h) e v.1 x xs) (R.selector k e) (S.selector k e) (same.selector k (same.with_word h i) e we)
      (λ m. (case-after-same (R.selector k e).0 m p (R.word h) e we (R.selector k e).1 x xs a b, m))

  -- ---- loops

  parameter-same : (h g : H) → I g → (i : Label) (b : Bool) (j : Result RangeTree Fault) → Alike (w.parameter_declared R g i b (w.loop_words R h) j) (w.parameter_declared mixed g i b (w.loop_words R h) j)
  parameter-same h g m i b (Ok r) = (refl, same.with_parameter g m i r (w.loop_words R h))
  parameter-same h g m i b (Err f) = (refl, m)

  for-head-same : (h : H) → I h → (i : Label) (b : Bool) (d : DiscreteRangeTree) → All Q (discrete_range_tokens d) → Alike (w.for_head R h i b d) (w.for_head mixed h i b d)
  for-head-same h k i b d a =
      let one = R.with_word h in
      let two = R.loop_entered (R.with_word one) i in
      chain (λ v. w.parameter_declared R v.0 i b (w.loop_words R h) v.1) (λ v. w.parameter_declared mixed v.0 i b (w.loop_words R h) v.1) (R.loop_range two d) (S.loop_range two d) (same.loop_range two (same.loop_entered (R.with_word one) (same.with_word one (same.with_word h k)) i) d a)
      (λ m. parameter-same h (R.loop_range two d).0 m i b (R.loop_range two d).1)

  for-same : (h : H) (line : ℕ) (j : Result SchemeTree Fault) (f : Option Fault) (p q : H × Walked) → I h → Alike p q → Alike (w.for_walked R h line j f p) (w.for_walked mixed h line j f q)
  for-same h line (Ok x) f p q i s = made (λ v. w.region_left R (w.loop_walked line (Ok x) f v)) p q s (λ k. same.left p.0 k)
  for-same h line (Err e) f p q i s = (refl, same.left h i)

  -- ---- one text, and then what stands after it

  walked-same : (f g : H → H × Walked) (a b : H × Walked) → Alike a b → (I a.0 → Alike (f a.0) (g a.0)) → Alike (w.walked_after a (f a.0)) (w.walked_after b (g b.0))
  walked-same f g a b s k =
      let r = k s.1 in
      (ap (λ d. w.walked_after a d) r.0 ∙ ap (λ c. w.walked_after c (g c.0)) s.0, one_of (λ (p : H × Walked). I p.0) (is_some a.1.checked.faults.end) a _ s.1 r.1)

  part-same : (f g : H → H × Part) (a b : H × Part) → Alike a b → (I a.0 → Alike (f a.0) (g a.0)) → Alike (w.part_after a (f a.0)) (w.part_after b (g b.0))
  part-same f g a b s k =
      let r = k s.1 in
      (ap (λ d. w.part_after a d) r.0 ∙ ap (λ c. w.part_after c (g c.0)) s.0, one_of (λ (p : H × Part). I p.0) (is_some a.1.faults.end) a _ s.1 r.1)

  inside-same : (f g : H → H × Walked) (a b : H × Part) → Alike a b → (I a.0 → Alike (f a.0) (g a.0)) → Alike (w.inside_after a (f a.0)) (w.inside_after b (g b.0))
  inside-same f g a b s k =
      let r = k s.1 in
      (ap (λ d. w.inside_after a d) r.0 ∙ ap (λ c. w.inside_after c (g c.0)) s.0, one_of (λ (p : H × Inside). I p.0) (is_some a.1.faults.end) (a.0, inside_of a.1 nothing) _ s.1 r.1)

  declared-same : (a b : Read H (List DeclarationTree)) → Alike a b → Alike (w.declared_part a) (w.declared_part b)
  declared-same a b s = (ap w.declared_part s.0, s.1)

  -- where the list of faults has ended, the same
  unless-same : {X : Type 0} (b : Bool) (p q r : H × X) → I p.0 → Alike q r → Alike (if b then p else q) (if b then p else r)
  unless-same true p q r i s = (refl, i)
  unless-same false p q r i s = s

  -- ---- bodies

  ended-same : (p : H) → I p → (j : Result (List DeclarationTree) Fault) (x : BodyExtent) (o : Option Fault) (a : H × Inside) → I a.0 → Alike (w.body_after R (p, j) x o a) (w.body_after mixed (p, j) x o a)
  ended-same p i (Ok effects) x o a k = (refl, same.body_left a.0 k)
  ended-same p i (Err f) x o a k = (refl, i)

  object-same : (p : H) → I p → (j : Result (List DeclarationTree) Fault) (n : Label) (e : NamedEndTree) (a : H × Part) → I a.0 → Alike (w.object_after R (p, j) n e a) (w.object_after mixed (p, j) n e a)
  object-same p i (Ok effects) n e a k = (refl, same.object_left a.0 k)
  object-same p i (Err f) n e a k = (refl, i)

  closed-same : (a b : H × Part) (l : Label) → Alike a b → Alike (w.closed R a l) (w.closed R b l)
  closed-same a b l s = (ap (λ c. w.closed R c l) s.0, s.1)

  -- a body by the walks over its declarations and its statements
  body-by-same : (p : Read H (List DeclarationTree)) → I p.0 → (x : BodyExtent) (f g : H → H × Part) (l : Label) (has : Bool) (u v : Enclosing → H → H × Walked)
      → ((k : H) → I k → Alike (f k) (g k)) → ((r : Enclosing) (k : H) → I k → Alike (u r k) (v r k)) → Alike (w.body_by R p x f l has u) (w.body_by mixed p x g l has v)
  body-by-same p i x f g l has u v sf su =
      let b = same.body_entered p.0 i in
      let k = R.body_entered p.0 in
      let r = (w.body_entered R p.0).1 in
      let nr = no_return_fault x.end r.returns.body has in
      let a = closed-same (f k) (g k) l (sf k b.1) in
      let q = inside-same (u r) (v r) (w.closed R (f k) l) (w.closed R (g k) l) a (su r (w.closed R (f k) l).0) in
      let e = ended-same p.0 i p.1 x nr (w.inside_after (w.closed R (f k) l) (u r (w.closed R (f k) l).0)) q.1 in
      (e.0 ∙ ap (λ z. w.body_after mixed p x nr z) q.0 ∙ ap (λ (y : H). let m = in_body (R.returns y) in w.body_after mixed p x (no_return_fault x.end m.returns.body has) (w.inside_after (w.closed R (g y) l) (v m (w.closed R (g y) l).0))) b.0, e.1)

  body-same : (a b : Read H (List DeclarationTree)) → Alike a b → (x : BodyExtent) (f g : H → H × Part) (l : Label) (has : Bool) (u v : Enclosing → H → H × Walked)
      → ((k : H) → I k → Alike (f k) (g k)) → ((r : Enclosing) (k : H) → I k → Alike (u r k) (v r k)) → Alike (w.body_by R a x f l has u) (w.body_by mixed b x g l has v)
  body-same a b s x f g l has u v sf su =
      let r = body-by-same a s.1 x f g l has u v sf su in (r.0 ∙ ap (λ p. w.body_by mixed p x g l has v) s.0, r.1)

  -- ---- the walk

  mutual
    pub statements-same : (r : Enclosing) (h : H) → I h → (ss : StatementsTree) → All Q (statements_tokens ss) → Alike (w.statements_walked R r h ss) (w.statements_walked mixed r h ss)
    statements-same r h i (Statements s more) a =
        walked-same (λ k. w.more_walked R r k more) (λ k. w.more_walked mixed r k more) (w.statement_walked R r h s) (w.statement_walked mixed r h s) (statement-same r h i s (all-left Q (statement_tokens s) _ a))
        (λ k. more-walked-same r (w.statement_walked R r h s).0 k more (all-right Q (statement_tokens s) _ a))

    more-walked-same : (r : Enclosing) (h : H) → I h → (ss : MoreStatementsTree) → All Q (more_statements_tokens ss) → Alike (w.more_walked R r h ss) (w.more_walked mixed r h ss)
    more-walked-same r h i NoStatement a = (refl, i)
    more-walked-same r h i (MoreStatements s more) a =
        walked-same (λ k. w.more_walked R r k more) (λ k. w.more_walked mixed r k more) (w.statement_walked R r h s) (w.statement_walked mixed r h s) (statement-same r h i s (all-left Q (statement_tokens s) _ a))
        (λ k. more-walked-same r (w.statement_walked R r h s).0 k more (all-right Q (statement_tokens s) _ a))

    statement-same : (r : Enclosing) (h : H) → I h → (s : StatementTree) → All Q (statement_tokens s) → Alike (w.statement_walked R r h s) (w.statement_walked mixed r h s)
    statement-same r h i NullStatement a = (refl, i)
    statement-same r h i (Assignment n e) a = assignment-same h i n e (all-left Q (name_tokens n) _ a) (all-left Q (expression_tokens e) _ (all-right Q (name_tokens n) _ a).1)
    statement-same r h i (CallStatement n) a = made (λ v. w.alone_at v.0 (w.call_effect (first_place n).line v.1)) (R.call_effect h n) (S.call_effect h n) (same.call_effect h i n (all-left Q (name_tokens n) _ a)) (λ k. k)
    statement-same r h i (ReturnStatement l e) a = return-same r h i (place_of l) e (all-left Q (g.maybe expression_tokens e) _ a.1)
    statement-same r h i (ExitStatement l n c) a =
        made (λ v. w.alone_at v.0 (exited (place_of l) r.loops (name_of n) v.1)) (w.maybe_condition R h c) (w.maybe_condition mixed h c) (maybe-condition-same h i c (all-left Q (g.maybe when_tokens c) _ (all-right Q (end_name_tokens n) _ a.1))) (λ k. k)
    statement-same r h i (DelayStatement l e) a = made (λ v. w.alone_at v.0 (delayed l.line v.1)) (R.moment h e) (S.moment h e) (same.moment h i e (all-left Q (expression_tokens e) _ a.1.1)) (λ k. k)
    statement-same r h i (IfStatement l b bs e m c) a =
        let ab = all-left Q (branch_tokens b) _ a.1 in
        let rest = all-right Q (branch_tokens b) _ a.1 in
        let last = all-right Q (elsifs_tokens bs) _ rest in
        let none : H × Branching = (h, no_branching) in
        let one = w.branch_walked R r none l.line b in
        let two = w.elsifs_walked R r one bs in
        let s1 = branch-same r h i no_branching l.line b ab in
        let s2 = chain (λ p. w.elsifs_walked R r p bs) (λ p. w.elsifs_walked mixed r p bs) one (w.branch_walked mixed r none l.line b) s1 (λ k. elsifs-same r one.0 k one.1 bs (all-left Q (elsifs_tokens bs) _ rest)) in
        let s3 = chain (λ p. w.else_walked R r p e) (λ p. w.else_walked mixed r p e) two _ s2 (λ k. else-same r two.0 k two.1 e (all-left Q (else_tokens e) _ last)) in
        made (λ p. (p.0, if_of l.line p.1)) (w.else_walked R r two e) _ s3 (λ k. k)
    statement-same r h i (CaseStatement l e x more m c) a =
        let ae = all-left Q (expression_tokens e) _ a.1 in
        let rest = (all-right Q (expression_tokens e) _ a.1).1 in
        let ax = all-left Q (alternative_tokens x) _ rest in
        let am = all-left Q (alternatives_tokens more) _ (all-right Q (alternative_tokens x) _ rest) in
        let head = w.case_head R h (place_of l) e x more in
        let one = w.alternative_walked R r head x in
        let s1 = case-head-same h i (place_of l) e ae x more ax am in
        let s2 = chain (λ p. w.alternative_walked R r p x) (λ p. w.alternative_walked mixed r p x) head _ s1 (λ k. alternative-same r head.0 k head.1 x ax) in
        let s3 = chain (λ p. w.alternatives_walked R r p more) (λ p. w.alternatives_walked mixed r p more) one _ s2 (λ k. alternatives-same r one.0 k one.1 more am) in
        made (λ p. (p.0, case_of l.line p.1)) (w.alternatives_walked R r one more) _ s3 (λ k. k)
    statement-same r h i (LoopStatement n l) a = inner-loop-same r h i n l (all-right Q (g.maybe label_tokens n) _ a)
    statement-same r h i (BlockStatement n b) a = inner-block-same r h i n b (all-right Q (g.maybe label_tokens n) _ a)

    branch-same : (r : Enclosing) (h : H) → I h → (x : Branching) (line : ℕ) (b : BranchTree) → All Q (branch_tokens b) → Alike (w.branch_walked R r (h, x) line b) (w.branch_walked mixed r (h, x) line b)
    branch-same r h i x line (Branch c ss) a =
        let f = R.condition h c in
        chain (λ f. let q = w.statements_walked R r f.0 ss in (q.0, one_branch x line f.1 q.1)) (λ f. let q = w.statements_walked mixed r f.0 ss in (q.0, one_branch x line f.1 q.1)) f (S.condition h c) (same.condition h i c (all-left Q (expression_tokens c) _ a))
        (λ k. made (λ q. (q.0, one_branch x line f.1 q.1)) (w.statements_walked R r f.0 ss) (w.statements_walked mixed r f.0 ss) (statements-same r f.0 k ss (all-right Q (expression_tokens c) _ a).1) (λ m. m))

    elsifs-same : (r : Enclosing) (h : H) → I h → (x : Branching) (e : ElsifsTree) → All Q (elsifs_tokens e) → Alike (w.elsifs_walked R r (h, x) e) (w.elsifs_walked mixed r (h, x) e)
    elsifs-same r h i x NoElsif a = (refl, i)
    elsifs-same r h i x (MoreElsifs l b bs) a =
        let one = w.branch_walked R r (h, x) l.line b in
        unless-same (is_some x.so_far.faults.end) (h, x) (w.elsifs_walked R r one bs) (w.elsifs_walked mixed r (w.branch_walked mixed r (h, x) l.line b) bs) i
        (chain (λ p. w.elsifs_walked R r p bs) (λ p. w.elsifs_walked mixed r p bs) one _ (branch-same r h i x l.line b (all-left Q (branch_tokens b) _ a.1)) (λ k. elsifs-same r one.0 k one.1 bs (all-right Q (branch_tokens b) _ a.1)))

    else-same : (r : Enclosing) (h : H) → I h → (x : Branching) (e : ElseTree) → All Q (else_tokens e) → Alike (w.else_walked R r (h, x) e) (w.else_walked mixed r (h, x) e)
    else-same r h i x NoElse a = (refl, i)
    else-same r h i x (Else ss) a =
        unless-same (is_some x.so_far.faults.end) (h, x) (let q = w.statements_walked R r h ss in (q.0, one_otherwise x q.1)) (let q = w.statements_walked mixed r h ss in (q.0, one_otherwise x q.1)) i
        (made (λ q. (q.0, one_otherwise x q.1)) (w.statements_walked R r h ss) (w.statements_walked mixed r h ss) (statements-same r h i ss a.1) (λ k. k))

    alternative-same : (r : Enclosing) (h : H) → I h → (x : Choosing) (y : AlternativeTree) → All Q (alternative_tokens y) → Alike (w.alternative_walked R r (h, x) y) (w.alternative_walked mixed r (h, x) y)
    alternative-same r h i x (Alternative first others ss) a =
        made (λ q. (q.0, one_alternative x q.1)) (w.statements_walked R r h ss) (w.statements_walked mixed r h ss)
        (statements-same r h i ss (all-right Q (g.each (λ d. word symbols.VerticalLine ∷ choice_tokens d) others) _ (all-right Q (choice_tokens first) _ a.1)).1) (λ k. k)

    alternatives-same : (r : Enclosing) (h : H) → I h → (x : Choosing) (ys : AlternativesTree) → All Q (alternatives_tokens ys) → Alike (w.alternatives_walked R r (h, x) ys) (w.alternatives_walked mixed r (h, x) ys)
    alternatives-same r h i x NoAlternative a = (refl, i)
    alternatives-same r h i x (MoreAlternatives y ys) a =
        let one = w.alternative_walked R r (h, x) y in
        unless-same (is_some x.so_far.faults.end) (h, x) (w.alternatives_walked R r one ys) (w.alternatives_walked mixed r (w.alternative_walked mixed r (h, x) y) ys) i
        (chain (λ p. w.alternatives_walked R r p ys) (λ p. w.alternatives_walked mixed r p ys) one _ (alternative-same r h i x y (all-left Q (alternative_tokens y) _ a)) (λ k. alternatives-same r one.0 k one.1 ys (all-right Q (alternative_tokens y) _ a)))

    inner-loop-same : (r : Enclosing) (h : H) → I h → (n : Option Label) (l : LoopTree) → All Q (loop_tokens l) → Alike (w.inner_loop_walked R r h n l) (w.inner_loop_walked mixed r h n l)
    inner-loop-same r h i n (PlainLoop l ss e) a =
        made (w.loop_walked (w.named_line n l) (Ok schemes.ForeverScheme) (w.end_of n e.end_name)) (w.statements_walked R (in_loop r n) h ss) _ (statements-same (in_loop r n) h i ss (all-left Q (statements_tokens ss) _ a.1)) (λ k. k)
    inner-loop-same r h i n (WhileLoop x c l ss e) a =
        let f = R.condition h c in
        let m = in_loop r n in
        chain (λ f. w.loop_walked (w.named_line n x) (while_scheme f.1) (w.end_of n e.end_name) (w.statements_walked R m f.0 ss)) (λ f. w.loop_walked (w.named_line n x) (while_scheme f.1) (w.end_of n e.end_name) (w.statements_walked mixed m f.0 ss)) f (S.condition h c) (same.condition h i c (all-left Q (expression_tokens c) _ a.1))
        (λ k. made (w.loop_walked (w.named_line n x) (while_scheme f.1) (w.end_of n e.end_name)) (w.statements_walked R m f.0 ss) _ (statements-same m f.0 k ss (all-left Q (statements_tokens ss) _ (all-right Q (expression_tokens c) _ a.1).1)) (λ o. o))
    inner-loop-same r h i n (ForLoop f x is_reverse d l ss e) a =
        let head = w.for_head R h x is_reverse d in
        let m = in_loop r n in
        let rest = all-right Q (flag_tokens symbols.Reverse is_reverse) _ a.1.1.1 in
        chain (λ p. w.for_walked R p.0 (w.named_line n f) p.1 (w.end_of n e.end_name) (w.statements_walked R m p.0 ss)) (λ p. w.for_walked mixed p.0 (w.named_line n f) p.1 (w.end_of n e.end_name) (w.statements_walked mixed m p.0 ss)) head (w.for_head mixed h x is_reverse d)
        (for-head-same h i x is_reverse d (all-left Q (discrete_range_tokens d) _ rest))
        (λ k. for-same head.0 (w.named_line n f) head.1 (w.end_of n e.end_name) (w.statements_walked R m head.0 ss) (w.statements_walked mixed m head.0 ss) k (statements-same m head.0 k ss (all-left Q (statements_tokens ss) _ (all-right Q (discrete_range_tokens d) _ rest).1)))

    inner-block-same : (r : Enclosing) (h : H) → I h → (n : Option Label) (b : BlockTree) → All Q (block_tokens b) → Alike (w.inner_block_walked R r h n b) (w.inner_block_walked mixed r h n b)
    inner-block-same r h i n (PlainBlock l ss e) a =
        made (λ q. (q.0, block_of (w.named_line n l) (w.end_of n e.end_name) (inside_of no_part q.1))) (w.statements_walked R r h ss) _ (statements-same r h i ss (all-left Q (statements_tokens ss) _ a.1)) (λ k. k)
    inner-block-same r h i n (DeclareBlock l inner) a = handled-same r h i n (w.named_line n l) inner a.1

    handled-same : (r : Enclosing) (h : H) → I h → (n : Option Label) (line : ℕ) (x : HandledTree) → All Q (handled_tokens x) → Alike (w.handled_walked R r h n line x) (w.handled_walked mixed r h n line x)
    handled-same r h i n line (Handled is b ss e) a =
        let k = R.block_entered h in
        let part = w.closed R (w.items_walked R k is) b in
        let s1 = closed-same (w.items_walked R k is) (w.items_walked mixed k is) b (items-same k (same.block_entered h i) is (all-left Q (items_tokens is) _ a)) in
        let s2 = inside-same (λ m. w.statements_walked R r m ss) (λ m. w.statements_walked mixed r m ss) part (w.closed R (w.items_walked mixed k is) b) s1 (λ m. statements-same r part.0 m ss (all-left Q (statements_tokens ss) _ (all-right Q (items_tokens is) _ a).1)) in
        made (λ q. (R.left q.0, block_of line (w.end_of n e.end_name) q.1)) (w.inside_after part (w.statements_walked R r part.0 ss)) _ s2 (λ m. same.left (w.inside_after part (w.statements_walked R r part.0 ss)).0 m)

    pub items-same : (h : H) → I h → (is : ItemsTree) → All Q (items_tokens is) → Alike (w.items_walked R h is) (w.items_walked mixed h is)
    items-same h i NoItem a = (refl, i)
    items-same h i (MoreItems x is) a =
        part-same (λ k. w.items_walked R k is) (λ k. w.items_walked mixed k is) (w.item_walked R h x) (w.item_walked mixed h x) (item-same h i x (all-left Q (item_tokens x) _ a))
        (λ k. items-same (w.item_walked R h x).0 k is (all-right Q (item_tokens x) _ a))

    item-same : (h : H) → I h → (x : ItemTree) → All Q (item_tokens x) → Alike (w.item_walked R h x) (w.item_walked mixed h x)
    item-same h i (CommonItem c) a = declared-same (R.declared h c) (S.declared h c) (same.declared h i c a)
    item-same h i (SubprogramItem s) a = declared-same (R.subprogram h s) (S.subprogram h s) (same.subprogram h i s (all-left Q (specification_tokens s) _ a))
    item-same h i (StubItem s l) a = declared-same (R.stub h s l) (S.stub h s l) (same.stub h i s l (all-left Q (specification_tokens s) _ a))
    item-same h i (BodyItem s b) a = body-walked-same h i s b (all-left Q (specification_tokens s) _ a) (all-right Q (specification_tokens s) _ a).1
    item-same h i (TaskItem t) a = declared-same (R.single_task h t) (S.single_task h t) (same.single_task h i t a)
    item-same h i (TaskBodyItem l n inner) a = task-same h i l n inner a.1.1.0 a.1.1.1.1
    item-same h i (ProtectedItem l p) a = declared-same (R.single_object h l p) (S.single_object h l p) (same.single_object h i l p a.1)
    item-same h i (ProtectedBodyItem l n os e) a =
        let f = R.object_entered h l n os in
        let ao = all-left Q (operation_bodies_tokens os) _ a.1.1.1.1 in
        chain (λ f. w.object_after R f n e (w.operations_walked R f.0 os)) (λ f. w.object_after mixed f n e (w.operations_walked mixed f.0 os)) f (S.object_entered h l n os) (same.object_entered h i l n os a.1.1.0 ao)
        (λ k. let s = operations-same f.0 k os ao in let o = object-same f.0 k f.1 n e (w.operations_walked R f.0 os) s.1 in (o.0 ∙ ap (λ z. w.object_after mixed f n e z) s.0, o.1))

    operations-same : (h : H) → I h → (os : OperationBodiesTree) → All Q (operation_bodies_tokens os) → Alike (w.operations_walked R h os) (w.operations_walked mixed h os)
    operations-same h i NoOperationBody a = (refl, i)
    operations-same h i (MoreOperationBodies o os) a =
        part-same (λ k. w.operations_walked R k os) (λ k. w.operations_walked mixed k os) (w.operation_walked R h o) (w.operation_walked mixed h o) (operation-same h i o (all-left Q (operation_body_tokens o) _ a))
        (λ k. operations-same (w.operation_walked R h o).0 k os (all-right Q (operation_body_tokens o) _ a))

    operation-same : (h : H) → I h → (o : OperationBodyTree) → All Q (operation_body_tokens o) → Alike (w.operation_walked R h o) (w.operation_walked mixed h o)
    operation-same h i (SubprogramOperation s b) a = body-walked-same h i s b (all-left Q (specification_tokens s) _ a) (all-right Q (specification_tokens s) _ a).1
    operation-same h i (EntryOperation l n barrier inner) a = entry-same h i l n barrier inner a.1.0 (all-left Q (expression_tokens barrier) _ a.1.1.1) (all-right Q (expression_tokens barrier) _ a.1.1.1).1

    pub body-walked-same : (h : H) → I h → (s : SpecificationTree) (b : BodyTree) → All Q (specification_tokens s) → All Q (body_tokens b) → Alike (w.body_walked R h s b) (w.body_walked mixed h s b)
    body-walked-same h i s (Body is l ss e) a b =
        body-same (R.head h s) (S.head h s) (same.head h i s a) (w.subprogram_extent s e) (λ k. w.items_walked R k is) (λ k. w.items_walked mixed k is) l (has_return ss) (λ r k. w.statements_walked R r k ss) (λ r k. w.statements_walked mixed r k ss)
        (λ k m. items-same k m is (all-left Q (items_tokens is) _ b)) (λ r k m. statements-same r k m ss (all-left Q (statements_tokens ss) _ (all-right Q (items_tokens is) _ b).1))

    task-same : (h : H) → I h → (l n : Label) (x : HandledTree) → Q (identifier_token n) → All Q (handled_tokens x) → Alike (w.task_walked R h l n x) (w.task_walked mixed h l n x)
    task-same h i l n (Handled is b ss e) q a =
        body-same (R.task_head h n) (S.task_head h n) (same.task_head h i n q) (w.named_extent l n e) (λ k. w.items_walked R k is) (λ k. w.items_walked mixed k is) b (has_return ss) (λ r k. w.statements_walked R r k ss) (λ r k. w.statements_walked mixed r k ss)
        (λ k m. items-same k m is (all-left Q (items_tokens is) _ a)) (λ r k m. statements-same r k m ss (all-left Q (statements_tokens ss) _ (all-right Q (items_tokens is) _ a).1))

    entry-same : (h : H) → I h → (l n : Label) (barrier : ExpressionTree) (x : HandledTree) → Q (identifier_token n) → All Q (expression_tokens barrier) → All Q (handled_tokens x) → Alike (w.entry_walked R h l n barrier x) (w.entry_walked mixed h l n barrier x)
    entry-same h i l n barrier (Handled is b ss e) q c a =
        body-same (R.entry_head h n barrier) (S.entry_head h n barrier) (same.entry_head h i n barrier q c) (w.named_extent l n e) (λ k. w.items_walked R k is) (λ k. w.items_walked mixed k is) b (has_return ss) (λ r k. w.statements_walked R r k ss) (λ r k. w.statements_walked mixed r k ss)
        (λ k m. items-same k m is (all-left Q (items_tokens is) _ a)) (λ r k m. statements-same r k m ss (all-left Q (statements_tokens ss) _ (all-right Q (items_tokens is) _ a).1))

  -- ---- units

  without-same : (a b : H × Part) → Alike a b → Alike (units.without_statements a) (units.without_statements b)
  without-same a b s = (ap units.without_statements s.0, s.1)

  declaration-same : (h : H) → I h → (d : Basic) → All Q (declaration_tokens d) → Alike (units.declaration_walked R h d) (units.declaration_walked mixed h d)
  declaration-same h i (CommonDeclaration c) a = declared-same (R.declared h c) (S.declared h c) (same.declared h i c a)
  declaration-same h i (SubprogramDeclaration s) a = declared-same (R.subprogram h s) (S.subprogram h s) (same.subprogram h i s (all-left Q (specification_tokens s) _ a))
  declaration-same h i (TaskDeclaration t) a = declared-same (R.single_task h t) (S.single_task h t) (same.single_task h i t a)
  declaration-same h i (ProtectedDeclaration l p) a = declared-same (R.single_object h l p) (S.single_object h l p) (same.single_object h i l p a.1)

  declarations-same : (h : H) → I h → (ds : List Basic) → All Q (g.each declaration_tokens ds) → Alike (units.declarations_walked R h ds) (units.declarations_walked mixed h ds)
  declarations-same h i [] a = (refl, i)
  declarations-same h i (d ∷ ds) a =
      part-same (λ k. units.declarations_walked R k ds) (λ k. units.declarations_walked mixed k ds) (units.declaration_walked R h d) (units.declaration_walked mixed h d) (declaration-same h i d (all-left Q (declaration_tokens d) _ a))
      (λ k. declarations-same (units.declaration_walked R h d).0 k ds (all-right Q (declaration_tokens d) _ a))

  private-same : (h : H) → I h → (o : Option PrivatePartTree) → All Q (g.maybe private_part_tokens o) → Alike (units.private_walked R h o) (units.private_walked mixed h o)
  private-same h i None a = (refl, i)
  private-same h i (Some p) a =
      let e = same.private_entered h i in
      let r = declarations-same (R.private_entered h) e.1 p.declarations a.1 in
      (r.0 ∙ ap (λ k. units.declarations_walked mixed k p.declarations) e.0, r.1)

  package-same : (h : H) → I h → (k : PackageTree) → All Q (package_tokens k) → Alike (units.package_walked R h k) (units.package_walked mixed h k)
  package-same h i k a =
      let rest = (all-right Q (compound_tokens k.name) _ a).1 in
      let s = part-same (λ x. units.private_walked R x k.private_part) (λ x. units.private_walked mixed x k.private_part) (units.declarations_walked R h k.visible) (units.declarations_walked mixed h k.visible) (declarations-same h i k.visible (all-left Q (g.each declaration_tokens k.visible) _ rest))
      (λ m. private-same (units.declarations_walked R h k.visible).0 m k.private_part (all-left Q (g.maybe private_part_tokens k.private_part) _ (all-right Q (g.each declaration_tokens k.visible) _ rest))) in
      made (λ p. let whole = units.parts_completed R p k.end.end in (whole.0, ended_by (inside_of whole.1 nothing) (w.end_of_compound k.name k.end.end_name))) (units.parts_walked R h k) (units.parts_walked mixed h k) s (λ m. m)

  package-inside-same : (a : H × Part) → I a.0 → (e : Label) (o : Option PackageStatementsTree) → All Q (g.maybe package_statements_tokens o) → Alike (units.package_inside R a e o) (units.package_inside mixed a e o)
  package-inside-same a i e (Some s) b =
      let whole = units.statements_entered R (w.closed R a s.opening) in
      inside-same (λ m. w.statements_walked R units.enclosing_package m s.statements) (λ m. w.statements_walked mixed units.enclosing_package m s.statements) whole whole (refl, same.statements_entered a.0 i) (λ m. statements-same units.enclosing_package whole.0 m s.statements b.1)
  package-inside-same a i e None b = (refl, i)

  package-body-same : (h : H) → I h → (k : PackageBodyTree) → All Q (package_body_tokens k) → Alike (units.package_body_walked R h k) (units.package_body_walked mixed h k)
  package-body-same h i k a =
      let rest = (all-right Q (compound_tokens k.name) _ a).1 in
      let items = w.items_walked R h k.items in
      let s = chain (λ p. units.package_inside R p k.end.end k.statements) (λ p. units.package_inside mixed p k.end.end k.statements) items (w.items_walked mixed h k.items) (items-same h i k.items (all-left Q (items_tokens k.items) _ rest))
      (λ m. package-inside-same items m k.end.end k.statements (all-left Q (g.maybe package_statements_tokens k.statements) _ (all-right Q (items_tokens k.items) _ rest))) in
      made (λ p. (p.0, ended_by p.1 (w.end_of_compound k.name k.end.end_name))) (units.package_inside R items k.end.end k.statements) _ s (λ m. m)

  -- the item of a unit
  pub unit-same : (h : H) → I h → (x : LibraryItemTree) → All Q (library_item_tokens x) → Alike (units.unit_walked R h x) (units.unit_walked mixed h x)
  unit-same h i (LibrarySubprogram p s) a = without-same (w.declared_part (R.subprogram h s)) (w.declared_part (S.subprogram h s)) (declared-same (R.subprogram h s) (S.subprogram h s) (same.subprogram h i s (all-left Q (specification_tokens s) _ (all-right Q (private_tokens p) _ a))))
  unit-same h i (LibraryPackage p l k) a = package-same h i k (all-right Q (private_tokens p) _ a).1
  unit-same h i (LibraryBody s b) a = without-same (w.body_walked R h s b) (w.body_walked mixed h s b) (body-walked-same h i s b (all-left Q (specification_tokens s) _ a) (all-right Q (specification_tokens s) _ a).1)
  unit-same h i (LibraryPackageBody l k) a = package-body-same h i k a.1.1
  unit-same h i (Subunit l o n s b) a =
      let rest = (all-right Q (compound_tokens n) _ a.1.1).1 in
      without-same (w.body_walked R h s b) (w.body_walked mixed h s b) (body-walked-same h i s b (all-left Q (specification_tokens s) _ rest) (all-right Q (specification_tokens s) _ rest).1)
