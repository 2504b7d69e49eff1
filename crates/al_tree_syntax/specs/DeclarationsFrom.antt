-- What the grammar's trees of declarations stand for.
use Rattle.std.specs.Prelude.{None, Option, Some, false, is_some, map, option_map, true}
use Rattle.std.proofs.Common.{inl, inr}
use Rattle.al_tree_grammar.specs.Grammar.{Label}
use Rattle.al_tree_grammar.specs.Grammar.Rule.{Many}
use Rattle.al_tree_syntax.specs.Constructs.Construct.{ArrayIndex as InArrayIndex, EnumerationLiterals as InEnumerationLiterals, FormalPart as InFormalPart, ParentName as InParentName, PragmaArguments as InPragmaArguments, ProtectedDeclaration as InProtectedDeclaration, RecordDefinition as InRecordDefinition}
use Rattle.al_tree_syntax.specs.Constructs.{construct_at, place}
use Rattle.al_tree_syntax.specs.Notation.{any, opens, opens_at, the, ◌∣◌, ◌⨾◌}
use Rattle.al_tree_syntax.specs.Expressions.{compound_name_rule, compound_names_rule, discrete_range_rule, identifier_rule, identifiers_rule, range_rule}
use Rattle.al_tree_syntax.specs.Declarations.{array_rule, aspect_rule, common_rule, component_rule, declaration_rule, element_rule, formal_rule, formals_rule, initial_rule, object_rule, operation_rule, pragma_rule, protected_rule, specification_rule, subtype_indication_rule, subtype_rule, task_rule, type_rule, typed_rule, use_rule}
use Rattle.al_tree_syntax.specs.Rules.{inside}
use Rattle.al_tree_syntax.specs.ExpressionTrees.{ExpressionTree}
use Rattle.al_tree_syntax.specs.DeclarationTrees.{ArrayTree, AspectTree, CommonTree, ComponentTree, ComponentsTree, CompoundNameTree, CompoundNamesTree, DeclarationTree, DiscreteRangeTree, FormalPartTree, FormalTree, IdentifiersTree, ObjectFormTree, ObjectTree, ObjectTypeTree, PragmaArgumentsTree, PragmaTree, ProtectedComponentTree, ProtectedOperationTree, ProtectedPrivateTree, ProtectedTree, RangeTree, SpecificationTree, SubtypeIndicationTree, SubtypeTree, TaskTree, TypeDefinitionTree, TypeTree, UseTree}
use Rattle.al_tree_syntax.specs.DeclarationTrees.DiscreteRangeTree.{Bounds, MarkRange, SoleMark}
use Rattle.al_tree_syntax.specs.DeclarationTrees.ObjectTypeTree.{AnonymousArray, NamedType}
use Rattle.al_tree_syntax.specs.DeclarationTrees.ObjectFormTree.{NamedNumber, TypedObject}
use Rattle.al_tree_syntax.specs.DeclarationTrees.ComponentsTree.{NullComponents, SomeComponents}
use Rattle.al_tree_syntax.specs.DeclarationTrees.TypeDefinitionTree.{ArrayDefinition, EnumerationDefinition, IntegerDefinition, NullRecordDefinition, PrivateDefinition, RecordDefinition}
use Rattle.al_tree_syntax.specs.DeclarationTrees.SpecificationTree.{FunctionSpecification, ProcedureSpecification}
use Rattle.al_tree_syntax.specs.DeclarationTrees.ProtectedOperationTree.{EntryDeclaration, ProtectedSubprogram}
use Rattle.al_tree_syntax.specs.DeclarationTrees.CommonTree.{ObjectDeclaration, PragmaItem, SubtypeDeclaration, TypeDeclaration, UseClause}
use Rattle.al_tree_syntax.specs.DeclarationTrees.DeclarationTree.{CommonDeclaration, ProtectedDeclaration, SubprogramDeclaration, TaskDeclaration}
use Rattle.al_tree_syntax.specs.Insides.{Nested, Of, each_from, roomed}
use Rattle.al_tree_syntax.specs.ExpressionsFrom.{expression_from, simple_from}
use Rattle.al_tree_syntax.specs.Symbols.Symbol.{Array, Constant, LeftParenthesis, Null, Of as OfWord, Private, Record, Semicolon}

module _ (c : Nested) where
  unfoldable pub identifiers_from : Of c identifiers_rule → IdentifiersTree
  unfolding identifiers_rule identifier_rule
  identifiers_from (l, ls) = record { first = l; others = each_from (λ m. m) ls }

  unfoldable pub compound_from : Of c compound_name_rule → CompoundNameTree
  unfolding compound_name_rule identifier_rule
  compound_from (l, ls) = record { first = l; selectors = each_from (λ m. m) ls }

  unfoldable pub compounds_from : Of c compound_names_rule → CompoundNamesTree
  unfolding compound_names_rule
  compounds_from (n, ns) = record { first = compound_from n; others = each_from compound_from ns }

  unfoldable pub range_from : Of c range_rule → RangeTree
  unfolding range_rule
  range_from (range, (s, (dots, t))) = record { low = simple_from c s; high = simple_from c t }

  unfoldable pub discrete_range_from : Of c discrete_range_rule → DiscreteRangeTree
  unfolding discrete_range_rule
  discrete_range_from (s, None) = SoleMark (simple_from c s)
  discrete_range_from (s, Some (inl (dots, t))) = Bounds (record { low = simple_from c s; high = simple_from c t })
  discrete_range_from (s, Some (inr r)) = MarkRange (simple_from c s) (range_from r)

  unfoldable pub use_from : Of c use_rule → UseTree
  unfolding use_rule
  use_from (use_word, (t, (ns, semicolon))) = record { of_type = is_some t; names = compounds_from ns }

  unfoldable pub pragma_arguments_from : Of c (opens_at LeftParenthesis InPragmaArguments) → PragmaArgumentsTree
  unfolding construct_at
  pragma_arguments_from (l, x) = record { opening = l; names = c.from (place InPragmaArguments) x }

  unfoldable pub pragma_from : Of c pragma_rule → PragmaTree
  unfolding pragma_rule identifier_rule
  pragma_from (pragma, (l, (x, semicolon))) = record { name = l; arguments = option_map pragma_arguments_from x }

  unfoldable pub subtype_indication_from : Of c subtype_indication_rule → SubtypeIndicationTree
  unfolding subtype_indication_rule
  subtype_indication_from (n, r) = record { mark = compound_from n; constraint = option_map range_from r }

  unfoldable pub roomed_array_from : Of c (the Array ⨾ opens_at LeftParenthesis InArrayIndex ⨾ the OfWord ⨾ subtype_indication_rule) → ArrayTree
  unfolding construct_at
  roomed_array_from (array, ((l, x), (of, s))) = record { opening = l; index = c.from (place InArrayIndex) x; component = subtype_indication_from s }

  unfoldable pub array_from : Of c array_rule → ArrayTree
  unfolding array_rule
  array_from x = roomed_array_from (roomed c.room x)

  unfoldable pub initial_from : Of c initial_rule → ExpressionTree
  unfolding initial_rule
  initial_from (assign, e) = expression_from c e

  unfoldable pub object_type_from : Of c (subtype_indication_rule ∣ array_rule) → ObjectTypeTree
  object_type_from (inl s) = NamedType (subtype_indication_from s)
  object_type_from (inr a) = AnonymousArray (array_from a)

  unfoldable pub object_form_from : Of c (typed_rule ∣ the Constant ⨾ (initial_rule ∣ typed_rule)) → ObjectFormTree
  unfolding typed_rule
  object_form_from (inl (t, e)) = TypedObject false (object_type_from t) (option_map initial_from e)
  object_form_from (inr (constant, inl e)) = NamedNumber (initial_from e)
  object_form_from (inr (constant, inr (t, e))) = TypedObject true (object_type_from t) (option_map initial_from e)

  unfoldable pub object_from : Of c object_rule → ObjectTree
  unfolding object_rule
  object_from (ns, (colon, (f, semicolon))) = record { names = identifiers_from ns; form = object_form_from f }

  unfoldable pub component_from : Of c component_rule → ComponentTree
  unfolding component_rule
  component_from (ns, (colon, (s, semicolon))) = record { names = identifiers_from ns; subtype = subtype_indication_from s }

  unfoldable pub components_from : Of c (component_rule ⨾ Many component_rule ∣ the Null ⨾ the Semicolon) → ComponentsTree
  components_from (inl (x, xs)) = SomeComponents (component_from x) (map component_from xs)
  components_from (inr x) = NullComponents

  unfoldable pub type_definition_from : Of c (range_rule ∣ the Null ⨾ the Record ∣ any Private ∣ opens_at LeftParenthesis InEnumerationLiterals ∣ array_rule ∣ opens Record InRecordDefinition) → TypeDefinitionTree
  unfolding construct_at
  type_definition_from (inl r) = IntegerDefinition (range_from r)
  type_definition_from (inr (inl x)) = NullRecordDefinition
  type_definition_from (inr (inr (inl l))) = PrivateDefinition l
  type_definition_from (inr (inr (inr (inl (l, x))))) = EnumerationDefinition l (c.from (place InEnumerationLiterals) x)
  type_definition_from (inr (inr (inr (inr (inl a))))) = ArrayDefinition (array_from a)
  type_definition_from (inr (inr (inr (inr (inr x))))) = c.from (place InRecordDefinition) x

  unfoldable pub type_from : Of c type_rule → TypeTree
  unfolding type_rule identifier_rule
  type_from (type_word, (l, (is, (t, semicolon)))) = record { name = l; definition = type_definition_from t }

  unfoldable pub subtype_from : Of c subtype_rule → SubtypeTree
  unfolding subtype_rule identifier_rule
  subtype_from (subtype, (l, (is, (s, semicolon)))) = record { name = l; indication = subtype_indication_from s }

  unfoldable pub formal_from : Of c formal_rule → FormalTree
  unfolding formal_rule
  formal_from (ns, (colon, (i, (o, n)))) = record { names = identifiers_from ns; is_in = is_some i; is_out = is_some o; mark = compound_from n }

  unfoldable pub formals_from : Of c formals_rule → Option FormalPartTree
  unfolding formals_rule construct_at
  formals_from None = None
  formals_from (Some (l, x)) = Some (c.from (place InFormalPart) x l)

  unfoldable pub specification_from : Of c specification_rule → SpecificationTree
  unfolding specification_rule
  specification_from (inl (l, (n, f))) = ProcedureSpecification l (compound_from n) (formals_from f)
  specification_from (inr (l, (n, (f, (r, m))))) = FunctionSpecification l (compound_from n) (formals_from f) r (compound_from m)

  unfoldable pub aspect_from : Of c aspect_rule → Option AspectTree
  unfolding aspect_rule identifier_rule
  aspect_from None = None
  aspect_from (Some (with, (l, (arrow, e)))) = Some (record { name = l; value = expression_from c e })

  -- after the label of `task`
  unfoldable pub task_from : Label → Of c task_rule → TaskTree
  unfolding task_rule identifier_rule
  task_from l (n, (a, semicolon)) = record { opening = l; name = n; aspect = aspect_from a }

  unfoldable pub common_from : Of c common_rule → CommonTree
  unfolding common_rule
  common_from (inl o) = ObjectDeclaration (object_from o)
  common_from (inr (inl t)) = TypeDeclaration (type_from t)
  common_from (inr (inr (inl s))) = SubtypeDeclaration (subtype_from s)
  common_from (inr (inr (inr (inl u)))) = UseClause (use_from u)
  common_from (inr (inr (inr (inr p)))) = PragmaItem (pragma_from p)

  unfoldable pub declaration_from : Of c declaration_rule → DeclarationTree
  unfolding declaration_rule construct_at
  declaration_from (inl x) = CommonDeclaration (common_from x)
  declaration_from (inr (inl (s, semicolon))) = SubprogramDeclaration (specification_from s)
  declaration_from (inr (inr (inl (l, t)))) = TaskDeclaration (task_from l t)
  declaration_from (inr (inr (inr (l, x)))) = ProtectedDeclaration l (c.from (place InProtectedDeclaration) x)

  unfoldable pub operation_from : Of c operation_rule → ProtectedOperationTree
  unfolding operation_rule identifier_rule
  operation_from (inl (s, semicolon)) = ProtectedSubprogram (specification_from s)
  operation_from (inr (l, (n, semicolon))) = EntryDeclaration l n

  unfoldable pub element_from : Of c element_rule → ProtectedComponentTree
  unfolding element_rule
  element_from (ns, (colon, (s, (e, semicolon)))) = record { names = identifiers_from ns; subtype = subtype_indication_from s; initial = option_map initial_from e }

  unfoldable pub private_from : Of c (any Private ⨾ Many element_rule) → ProtectedPrivateTree
  private_from (l, xs) = record { opening = l; components = map element_from xs }

  unfoldable pub protected_from : Of c protected_rule → ProtectedTree
  unfolding protected_rule identifier_rule
  protected_from (l, (a, (is, (os, (p, (e, (n, semicolon))))))) = record {
    name = l;
    aspect = aspect_from a;
    operations = map operation_from os;
    private_part = option_map private_from p;
    end = e;
    end_name = n;
  }

  -- ---- inside the constructs

  unfoldable pub pragma_arguments_inside : Of c (inside InPragmaArguments) → CompoundNamesTree
  unfolding inside
  pragma_arguments_inside (ns, closing) = compounds_from ns

  unfoldable pub parent_name_inside : Of c (inside InParentName) → CompoundNameTree
  unfolding inside
  parent_name_inside (n, closing) = compound_from n

  unfoldable pub formal_part_inside : Of c (inside InFormalPart) → Label → FormalPartTree
  unfolding inside
  formal_part_inside ((f, fs), closing) l = record { opening = l; first = formal_from f; others = each_from formal_from fs }

  unfoldable pub enumeration_inside : Of c (inside InEnumerationLiterals) → IdentifiersTree
  unfolding inside
  enumeration_inside (ns, closing) = identifiers_from ns

  unfoldable pub array_index_inside : Of c (inside InArrayIndex) → DiscreteRangeTree
  unfolding inside
  array_index_inside (r, closing) = discrete_range_from r

  unfoldable pub record_inside : Of c (inside InRecordDefinition) → TypeDefinitionTree
  unfolding inside
  record_inside (x, (e, closing)) = RecordDefinition (components_from x) e

  unfoldable pub protected_inside : Of c (inside InProtectedDeclaration) → ProtectedTree
  unfolding inside
  protected_inside x = protected_from x
