-- Each tree of a declaration that nests no deeper is made from one of the grammar's.
use Rattle.std.proofs.Common.{Bool, List, None, Option, Some, ap, arith, false, inl, inr, refl, suc, true, ℕ, ◌∙◌, ◌≤◌}
use Rattle.std.specs.Prelude.{is_some, option_map}
use Rattle.al_tree_grammar.specs.Grammar.{Label}
use Rattle.al_tree_syntax.specs.Constructs.Construct.{ArrayIndex as InArrayIndex, EnumerationLiterals as InEnumerationLiterals, FormalPart as InFormalPart, ParentName as InParentName, PragmaArguments as InPragmaArguments, ProtectedDeclaration as InProtectedDeclaration, RecordDefinition as InRecordDefinition}
use Rattle.al_tree_syntax.specs.Constructs.{construct_at, place}
use Rattle.al_tree_syntax.specs.Expressions.{compound_name_rule, compound_names_rule, discrete_range_rule, identifier_rule, identifiers_rule, range_rule}
use Rattle.al_tree_syntax.specs.Declarations.{array_rule, aspect_rule, common_rule, component_rule, declaration_rule, element_rule, formal_rule, formals_rule, initial_rule, object_rule, operation_rule, pragma_rule, protected_rule, specification_rule, subtype_indication_rule, subtype_rule, task_rule, type_rule, typed_rule, use_rule}
use Rattle.al_tree_syntax.specs.Rules.{inside}
use Rattle.al_tree_syntax.specs.ExpressionTrees.{ExpressionTree}
use Rattle.al_tree_syntax.specs.DeclarationTrees.{ArrayTree, AspectTree, CommonTree, ComponentTree, ComponentsTree, CompoundNameTree, CompoundNamesTree, DeclarationTree, DiscreteRangeTree, FormalPartTree, FormalTree, IdentifiersTree, ObjectFormTree, ObjectTree, ObjectTypeTree, PragmaArgumentsTree, PragmaTree, ProtectedComponentTree, ProtectedOperationTree, ProtectedPrivateTree, ProtectedTree, RangeTree, SpecificationTree, SubtypeIndicationTree, SubtypeTree, TaskTree, TypeDefinitionTree, TypeTree, UseTree}
use Rattle.al_tree_syntax.specs.DeclarationTrees.DiscreteRangeTree.{Bounds, MarkRange, SoleMark}
use Rattle.al_tree_syntax.specs.DeclarationTrees.ObjectTypeTree.{AnonymousArray, NamedType}
use Rattle.al_tree_syntax.specs.DeclarationTrees.ObjectFormTree.{NamedNumber, TypedObject}
use Rattle.al_tree_syntax.specs.DeclarationTrees.ComponentsTree.{NullComponents, SomeComponents}
use Rattle.al_tree_syntax.specs.DeclarationTrees.TypeDefinitionTree.{ArrayDefinition, EnumerationDefinition, IntegerDefinition, NullRecordDefinition, PrivateDefinition, RecordDefinition}
use Rattle.al_tree_syntax.specs.DeclarationTrees.SpecificationTree.{FunctionSpecification, ProcedureSpecification}
use Rattle.al_tree_syntax.specs.DeclarationTrees.ProtectedOperationTree.{EntryDeclaration, ProtectedSubprogram}
use Rattle.al_tree_syntax.specs.DeclarationTrees.CommonTree.{ObjectDeclaration, PragmaItem, SubtypeDeclaration, TypeDeclaration, UseClause}
use Rattle.al_tree_syntax.specs.DeclarationTrees.DeclarationTree.{CommonDeclaration, ProtectedDeclaration, SubprogramDeclaration, TaskDeclaration}
use Rattle.al_tree_syntax.specs.Insides.{Nested, Of, each_from}
use Rattle.al_tree_syntax.specs.DeclarationsFrom.{array_from, array_index_inside, aspect_from, common_from, component_from, components_from, compound_from, compounds_from, declaration_from, discrete_range_from, element_from, enumeration_inside, formal_from, formal_part_inside, formals_from, identifiers_from, initial_from, object_form_from, object_from, object_type_from, operation_from, parent_name_inside, pragma_arguments_from, pragma_arguments_inside, pragma_from, private_from, protected_from, protected_inside, range_from, record_inside, roomed_array_from, specification_from, subtype_from, subtype_indication_from, task_from, type_definition_from, type_from, use_from}
use Rattle.al_tree_syntax.specs.Nesting.{array_nesting, aspect_nesting, at_least, common_nesting, component_nesting, components_nesting, declaration_nesting, discrete_range_nesting, element_nesting, expression_nesting, formals_nesting, object_form_nesting, object_nesting, object_type_nesting, operation_nesting, pragma_nesting, private_nesting, protected_nesting, range_nesting, specification_nesting, subtype_indication_nesting, subtype_nesting, task_nesting, type_definition_nesting, type_nesting}
use Rattle.al_tree_syntax.proofs.Making.{Fiber, IsMade, Made, each_made, map_within, maybe_within, roomed_made}
use Rattle.al_tree_syntax.proofs.ExpressionsMade.{expression_made, simple_made}

module _ (w : ℕ) (c : Nested) (d : ℕ) (m : Made w c d) where
  after_made : (ls : List Label) → Fiber (each_from {A = Unit {0}} {B = Label} (λ l. l)) ls
  after_made ls = each_made (λ l. l) (λ l. (l, refl)) ls

  identifiers_made : (n : IdentifiersTree) → Fiber (identifiers_from c) n
  unfolding identifiers_rule identifier_rule identifiers_from
  identifiers_made n = let x = after_made n.others in ((n.first, x.0), λ i. record { first = n.first; others = x.1 i })

  pub compound_made : (n : CompoundNameTree) → Fiber (compound_from c) n
  unfolding compound_name_rule identifier_rule compound_from
  compound_made n = let x = after_made n.selectors in ((n.first, x.0), λ i. record { first = n.first; selectors = x.1 i })

  pub compounds_made : (n : CompoundNamesTree) → Fiber (compounds_from c) n
  unfolding compound_names_rule compounds_from
  compounds_made n =
      let x = compound_made n.first in
      let y = each_made (compound_from c) compound_made n.others in
      ((x.0, y.0), λ i. record { first = x.1 i; others = y.1 i })

  pub flag_made : (b : Bool) → Fiber (is_some {T = Unit {0}}) b
  flag_made true = (Some tt, refl)
  flag_made false = (None, refl)

  range_made : (r : RangeTree) → range_nesting w r ≤ d → Fiber (range_from c) r
  unfolding range_rule range_from
  range_made r h =
      let x = simple_made w c d m r.low (omega arith) in
      let y = simple_made w c d m r.high (omega arith) in
      ((tt, (x.0, (tt, y.0))), λ i. record { low = x.1 i; high = y.1 i })

  pub discrete_range_made : (r : DiscreteRangeTree) → discrete_range_nesting w r ≤ d → Fiber (discrete_range_from c) r
  unfolding discrete_range_rule discrete_range_from
  discrete_range_made (SoleMark s) h = let x = simple_made w c d m s h in ((x.0, None), λ i. SoleMark (x.1 i))
  discrete_range_made (Bounds r) h =
      let x = simple_made w c d m r.low (omega arith) in
      let y = simple_made w c d m r.high (omega arith) in
      ((x.0, Some (inl (tt, y.0))), λ i. Bounds (record { low = x.1 i; high = y.1 i }))
  discrete_range_made (MarkRange s r) h =
      let x = simple_made w c d m s (omega arith) in
      let y = range_made r (omega arith) in
      ((x.0, Some (inr y.0)), λ i. MarkRange (x.1 i) (y.1 i))

  pub use_made : (u : UseTree) → Fiber (use_from c) u
  unfolding use_rule use_from
  use_made u =
      let x = flag_made u.of_type in
      let y = compounds_made u.names in
      ((tt, (x.0, (y.0, tt))), λ i. record { of_type = x.1 i; names = y.1 i })

  pragma_arguments_made : (a : PragmaArgumentsTree) → 1 ≤ d → Fiber (pragma_arguments_from c) a
  unfolding pragma_arguments_from construct_at
  pragma_arguments_made a h = let x = m.made (place InPragmaArguments) a.names h in ((a.opening, x.0), λ i. record { opening = a.opening; names = x.1 i })

  pub pragma_made : (p : PragmaTree) → pragma_nesting w p ≤ d → Fiber (pragma_from c) p
  unfolding pragma_rule identifier_rule pragma_from
  pragma_made p h =
      let x = maybe_within (pragma_arguments_from c) (λ a. 1) d pragma_arguments_made p.arguments h in
      ((tt, (p.name, (x.0, tt))), λ i. record { name = p.name; arguments = x.1 i })

  subtype_indication_made : (s : SubtypeIndicationTree) → subtype_indication_nesting w s ≤ d → Fiber (subtype_indication_from c) s
  unfolding subtype_indication_rule subtype_indication_from
  subtype_indication_made s h =
      let x = compound_made s.mark in
      let y = maybe_within (range_from c) (range_nesting w) d range_made s.constraint h in
      ((x.0, y.0), λ i. record { mark = x.1 i; constraint = y.1 i })

  roomed_array_made : (a : ArrayTree) → array_nesting w a ≤ d → Fiber (roomed_array_from c) a
  unfolding roomed_array_from construct_at
  roomed_array_made a h =
      let x = m.made (place InArrayIndex) a.index (omega arith) in
      let y = subtype_indication_made a.component (omega arith) in
      ((tt, ((a.opening, x.0), (tt, y.0))), λ i. record { opening = a.opening; index = x.1 i; component = y.1 i })

  array_made : (a : ArrayTree) → array_nesting w a ≤ d → Fiber (array_from c) a
  unfolding array_rule array_from
  array_made a h =
      let x = roomed_array_made a h in
      let y = roomed_made c.room (m.opens (omega arith)) x.0 in
      (y.0, ap (roomed_array_from c) y.1 ∙ x.1)

  pub initial_made : (e : ExpressionTree) → expression_nesting w e ≤ d → Fiber (initial_from c) e
  unfolding initial_rule initial_from
  initial_made e h = let x = expression_made w c d m e h in ((tt, x.0), x.1)

  maybe_initial_made : (e : Option ExpressionTree) → at_least (expression_nesting w) e ≤ d → Fiber (option_map (initial_from c)) e
  maybe_initial_made e h = maybe_within (initial_from c) (expression_nesting w) d initial_made e h

  object_type_made : (t : ObjectTypeTree) → object_type_nesting w t ≤ d → Fiber (object_type_from c) t
  unfolding object_type_from
  object_type_made (NamedType s) h = let x = subtype_indication_made s h in (inl x.0, λ i. NamedType (x.1 i))
  object_type_made (AnonymousArray a) h = let x = array_made a h in (inr x.0, λ i. AnonymousArray (x.1 i))

  object_form_made : (f : ObjectFormTree) → object_form_nesting w f ≤ d → Fiber (object_form_from c) f
  unfolding typed_rule object_form_from
  object_form_made (TypedObject false t e) h =
      let x = object_type_made t (omega arith) in
      let y = maybe_initial_made e (omega arith) in
      (inl (x.0, y.0), λ i. TypedObject false (x.1 i) (y.1 i))
  object_form_made (TypedObject true t e) h =
      let x = object_type_made t (omega arith) in
      let y = maybe_initial_made e (omega arith) in
      (inr (tt, inr (x.0, y.0)), λ i. TypedObject true (x.1 i) (y.1 i))
  object_form_made (NamedNumber e) h = let x = initial_made e h in (inr (tt, inl x.0), λ i. NamedNumber (x.1 i))

  object_made : (o : ObjectTree) → object_nesting w o ≤ d → Fiber (object_from c) o
  unfolding object_rule object_from
  object_made o h =
      let x = identifiers_made o.names in
      let y = object_form_made o.form h in
      ((x.0, (tt, (y.0, tt))), λ i. record { names = x.1 i; form = y.1 i })

  component_made : (k : ComponentTree) → component_nesting w k ≤ d → Fiber (component_from c) k
  unfolding component_rule component_from
  component_made k h =
      let x = identifiers_made k.names in
      let y = subtype_indication_made k.subtype h in
      ((x.0, (tt, (y.0, tt))), λ i. record { names = x.1 i; subtype = y.1 i })

  components_made : (k : ComponentsTree) → components_nesting w k ≤ d → Fiber (components_from c) k
  unfolding components_from
  components_made NullComponents h = (inr (tt, tt), refl)
  components_made (SomeComponents k ks) h =
      let x = component_made k (omega arith) in
      let y = map_within (component_from c) (component_nesting w) d component_made ks (omega arith) in
      (inl (x.0, y.0), λ i. SomeComponents (x.1 i) (y.1 i))

  type_definition_made : (t : TypeDefinitionTree) → type_definition_nesting w t ≤ d → Fiber (type_definition_from c) t
  unfolding type_definition_from construct_at
  type_definition_made (IntegerDefinition r) h = let x = range_made r h in (inl x.0, λ i. IntegerDefinition (x.1 i))
  type_definition_made NullRecordDefinition h = (inr (inl (tt, tt)), refl)
  type_definition_made (PrivateDefinition l) h = (inr (inr (inl l)), refl)
  type_definition_made (EnumerationDefinition l n) h = let x = m.made (place InEnumerationLiterals) n h in (inr (inr (inr (inl (l, x.0)))), λ i. EnumerationDefinition l (x.1 i))
  type_definition_made (ArrayDefinition a) h = let x = array_made a h in (inr (inr (inr (inr (inl x.0)))), λ i. ArrayDefinition (x.1 i))
  type_definition_made (RecordDefinition k e) h = let x = m.made (place InRecordDefinition) k e h in (inr (inr (inr (inr (inr x.0)))), x.1)

  type_made : (t : TypeTree) → type_nesting w t ≤ d → Fiber (type_from c) t
  unfolding type_rule identifier_rule type_from
  type_made t h = let x = type_definition_made t.definition h in ((tt, (t.name, (tt, (x.0, tt)))), λ i. record { name = t.name; definition = x.1 i })

  subtype_made : (s : SubtypeTree) → subtype_nesting w s ≤ d → Fiber (subtype_from c) s
  unfolding subtype_rule identifier_rule subtype_from
  subtype_made s h = let x = subtype_indication_made s.indication h in ((tt, (s.name, (tt, (x.0, tt)))), λ i. record { name = s.name; indication = x.1 i })

  formal_made : (f : FormalTree) → Fiber (formal_from c) f
  unfolding formal_rule formal_from
  formal_made f =
      let x = identifiers_made f.names in
      let y = flag_made f.is_in in
      let z = flag_made f.is_out in
      let w = compound_made f.mark in
      ((x.0, (tt, (y.0, (z.0, w.0)))), λ i. record { names = x.1 i; is_in = y.1 i; is_out = z.1 i; mark = w.1 i })

  formals_made : (f : Option FormalPartTree) → formals_nesting w f ≤ d → Fiber (formals_from c) f
  unfolding formals_rule formals_from construct_at
  formals_made None h = (None, refl)
  formals_made (Some p) h = let x = m.made (place InFormalPart) p h in (Some (p.opening, x.0), λ i. Some (x.1 i))

  pub specification_made : (s : SpecificationTree) → specification_nesting w s ≤ d → Fiber (specification_from c) s
  unfolding specification_rule specification_from
  specification_made (ProcedureSpecification l n f) h =
      let x = compound_made n in
      let y = formals_made f h in
      (inl (l, (x.0, y.0)), λ i. ProcedureSpecification l (x.1 i) (y.1 i))
  specification_made (FunctionSpecification l n f r k) h =
      let x = compound_made n in
      let y = formals_made f h in
      let z = compound_made k in
      (inr (l, (x.0, (y.0, (r, z.0)))), λ i. FunctionSpecification l (x.1 i) (y.1 i) r (z.1 i))

  aspect_made : (a : Option AspectTree) → aspect_nesting w a ≤ d → Fiber (aspect_from c) a
  unfolding aspect_rule identifier_rule aspect_from
  aspect_made None h = (None, refl)
  aspect_made (Some a) h = let x = expression_made w c d m a.value h in (Some (tt, (a.name, (tt, x.0))), λ i. Some (record { name = a.name; value = x.1 i }))

  pub task_made : (t : TaskTree) → task_nesting w t ≤ d → Fiber (task_from c t.opening) t
  unfolding task_rule identifier_rule task_from
  task_made t h = let x = aspect_made t.aspect h in ((t.name, (x.0, tt)), λ i. record { opening = t.opening; name = t.name; aspect = x.1 i })

  pub common_made : (k : CommonTree) → common_nesting w k ≤ d → Fiber (common_from c) k
  unfolding common_rule common_from
  common_made (ObjectDeclaration o) h = let x = object_made o h in (inl x.0, λ i. ObjectDeclaration (x.1 i))
  common_made (TypeDeclaration t) h = let x = type_made t h in (inr (inl x.0), λ i. TypeDeclaration (x.1 i))
  common_made (SubtypeDeclaration s) h = let x = subtype_made s h in (inr (inr (inl x.0)), λ i. SubtypeDeclaration (x.1 i))
  common_made (UseClause u) h = let x = use_made u in (inr (inr (inr (inl x.0))), λ i. UseClause (x.1 i))
  common_made (PragmaItem p) h = let x = pragma_made p h in (inr (inr (inr (inr x.0))), λ i. PragmaItem (x.1 i))

  pub declaration_made : (k : DeclarationTree) → declaration_nesting w k ≤ d → Fiber (declaration_from c) k
  unfolding declaration_rule declaration_from construct_at
  declaration_made (CommonDeclaration k) h = let x = common_made k h in (inl x.0, λ i. CommonDeclaration (x.1 i))
  declaration_made (SubprogramDeclaration s) h = let x = specification_made s h in (inr (inl (x.0, tt)), λ i. SubprogramDeclaration (x.1 i))
  declaration_made (TaskDeclaration t) h = let x = task_made t h in (inr (inr (inl (t.opening, x.0))), λ i. TaskDeclaration (x.1 i))
  declaration_made (ProtectedDeclaration l p) h = let x = m.made (place InProtectedDeclaration) p h in (inr (inr (inr (l, x.0))), λ i. ProtectedDeclaration l (x.1 i))

  operation_made : (o : ProtectedOperationTree) → operation_nesting w o ≤ d → Fiber (operation_from c) o
  unfolding operation_rule identifier_rule operation_from
  operation_made (ProtectedSubprogram s) h = let x = specification_made s h in (inl (x.0, tt), λ i. ProtectedSubprogram (x.1 i))
  operation_made (EntryDeclaration l n) h = (inr (l, (n, tt)), refl)

  element_made : (e : ProtectedComponentTree) → element_nesting w e ≤ d → Fiber (element_from c) e
  unfolding element_rule element_from
  element_made e h =
      let x = identifiers_made e.names in
      let y = subtype_indication_made e.subtype (omega arith) in
      let z = maybe_initial_made e.initial (omega arith) in
      ((x.0, (tt, (y.0, (z.0, tt)))), λ i. record { names = x.1 i; subtype = y.1 i; initial = z.1 i })

  private_made : (p : ProtectedPrivateTree) → private_nesting w p ≤ d → Fiber (private_from c) p
  unfolding private_from
  private_made p h = let x = map_within (element_from c) (element_nesting w) d element_made p.components h in ((p.opening, x.0), λ i. record { opening = p.opening; components = x.1 i })

  pub protected_made : (p : ProtectedTree) → protected_nesting w p ≤ suc d → Fiber (protected_from c) p
  unfolding protected_rule identifier_rule protected_from
  protected_made p h =
      let x = aspect_made p.aspect (omega arith) in
      let y = map_within (operation_from c) (operation_nesting w) d operation_made p.operations (omega arith) in
      let z = maybe_within (private_from c) (private_nesting w) d private_made p.private_part (omega arith) in (
        (p.name, (x.0, (tt, (y.0, (z.0, (p.end, (p.end_name, tt))))))),
        λ i. record { name = p.name; aspect = x.1 i; operations = y.1 i; private_part = z.1 i; end = p.end; end_name = p.end_name },
      )

  -- ---- inside the constructs

  pub pragma_arguments_inside_made : IsMade w InPragmaArguments (Of c (inside InPragmaArguments)) (pragma_arguments_inside c) (suc d)
  unfolding inside pragma_arguments_inside
  pragma_arguments_inside_made n h = let x = compounds_made n in ((x.0, tt), x.1)

  pub parent_name_inside_made : IsMade w InParentName (Of c (inside InParentName)) (parent_name_inside c) (suc d)
  unfolding inside parent_name_inside
  parent_name_inside_made n h = let x = compound_made n in ((x.0, tt), x.1)

  pub formal_part_inside_made : IsMade w InFormalPart (Of c (inside InFormalPart)) (formal_part_inside c) (suc d)
  unfolding inside formal_part_inside
  formal_part_inside_made p h =
      let x = formal_made p.first in
      let y = each_made (formal_from c) formal_made p.others in
      (((x.0, y.0), tt), λ i. record { opening = p.opening; first = x.1 i; others = y.1 i })

  pub enumeration_inside_made : IsMade w InEnumerationLiterals (Of c (inside InEnumerationLiterals)) (enumeration_inside c) (suc d)
  unfolding inside enumeration_inside
  enumeration_inside_made n h = let x = identifiers_made n in ((x.0, tt), x.1)

  pub array_index_inside_made : IsMade w InArrayIndex (Of c (inside InArrayIndex)) (array_index_inside c) (suc d)
  unfolding inside array_index_inside
  array_index_inside_made r h = let x = discrete_range_made r (omega arith) in ((x.0, tt), x.1)

  pub record_inside_made : IsMade w InRecordDefinition (Of c (inside InRecordDefinition)) (record_inside c) (suc d)
  unfolding inside record_inside
  record_inside_made k e h = let x = components_made k (omega arith) in ((x.0, (e, tt)), λ i. RecordDefinition (x.1 i) e)

  pub protected_inside_made : IsMade w InProtectedDeclaration (Of c (inside InProtectedDeclaration)) (protected_inside c) (suc d)
  unfolding inside protected_inside
  protected_inside_made p h = protected_made p h
