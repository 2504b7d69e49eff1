-- The trees that the grammar's trees stand for nest no deeper: declarations.
use Rattle.std.proofs.Common.{None, Option, Some, inl, inr, suc, ℕ, ◌≤◌}
use Rattle.std.specs.Prelude.{option_map}
use Rattle.std.proofs.Math.Nat.{max-le}
use Rattle.al_tree_grammar.specs.Grammar.{Label}
use Rattle.al_tree_grammar.specs.Grammar.Rule.{Many}
use Rattle.al_tree_syntax.specs.Constructs.Construct.{ArrayIndex as InArrayIndex, EnumerationLiterals as InEnumerationLiterals, FormalPart as InFormalPart, PragmaArguments as InPragmaArguments, ProtectedDeclaration as InProtectedDeclaration, RecordDefinition as InRecordDefinition}
use Rattle.al_tree_syntax.specs.Constructs.{construct_at, place}
use Rattle.al_tree_syntax.specs.Notation.{any, opens, opens_at, the, ◌∣◌, ◌⨾◌}
use Rattle.al_tree_syntax.specs.Expressions.{discrete_range_rule, range_rule}
use Rattle.al_tree_syntax.specs.Declarations.{array_rule, aspect_rule, common_rule, component_rule, declaration_rule, element_rule, formals_rule, initial_rule, object_rule, operation_rule, pragma_rule, protected_rule, specification_rule, subtype_indication_rule, subtype_rule, task_rule, type_rule, typed_rule}
use Rattle.al_tree_syntax.specs.Rules.{inside}
use Rattle.al_tree_syntax.specs.Insides.{Nested, Of, roomed}
use Rattle.al_tree_syntax.specs.DeclarationsFrom.{array_from, array_index_inside, aspect_from, common_from, component_from, components_from, declaration_from, discrete_range_from, element_from, formals_from, initial_from, object_form_from, object_from, object_type_from, operation_from, pragma_from, private_from, protected_from, protected_inside, range_from, record_inside, roomed_array_from, specification_from, subtype_from, subtype_indication_from, task_from, type_definition_from, type_from}
use Rattle.al_tree_syntax.specs.Nesting.{array_nesting, aspect_nesting, at_least, common_nesting, component_nesting, components_nesting, declaration_nesting, discrete_range_nesting, element_nesting, expression_nesting, formals_nesting, object_form_nesting, object_type_nesting, operation_nesting, pragma_nesting, private_nesting, protected_nesting, range_nesting, specification_nesting, subtype_indication_nesting, task_nesting, type_definition_nesting}
use Rattle.al_tree_syntax.proofs.ExpressionsFit.{AllFit, Fits, expression_fits, map_fits, maybe_fits, none_fits, opened_fits, simple_fits}
use Rattle.al_tree_syntax.specs.Symbols.Symbol.{Array as ArrayWord, Constant as ConstantWord, LeftParenthesis as LeftParenthesisWord, Null as NullWord, Of as OfWord, Private as PrivateWord, Record as RecordWord, Semicolon as SemicolonWord}

module _ (w : ℕ) (c : Nested) (d : ℕ) (h : AllFit w c d) where
  range_fits : (x : Of c range_rule) → range_nesting w (range_from c x) ≤ d
  unfolding range_rule range_from
  range_fits (range, (s, (dots, t))) = max-le (simple_fits w c d h s) (simple_fits w c d h t)

  pub discrete_range_fits : (x : Of c discrete_range_rule) → discrete_range_nesting w (discrete_range_from c x) ≤ d
  unfolding discrete_range_rule discrete_range_from
  discrete_range_fits (s, None) = simple_fits w c d h s
  discrete_range_fits (s, Some (inl (dots, t))) = max-le (simple_fits w c d h s) (simple_fits w c d h t)
  discrete_range_fits (s, Some (inr r)) = max-le (simple_fits w c d h s) (range_fits r)

  pub pragma_fits : (x : Of c pragma_rule) → pragma_nesting w (pragma_from c x) ≤ d
  unfolding pragma_rule pragma_from construct_at
  pragma_fits (pragma, (l, (None, semicolon))) = none_fits d
  pragma_fits (pragma, (l, (Some (o, x), semicolon))) = h (place InPragmaArguments) x

  subtype_indication_fits : (x : Of c subtype_indication_rule) → subtype_indication_nesting w (subtype_indication_from c x) ≤ d
  unfolding subtype_indication_rule subtype_indication_from
  subtype_indication_fits (n, r) = maybe_fits (range_from c) (range_nesting w) d range_fits r

  roomed_array_fits : (x : Of c (the ArrayWord ⨾ opens_at LeftParenthesisWord InArrayIndex ⨾ the OfWord ⨾ subtype_indication_rule)) → array_nesting w (roomed_array_from c x) ≤ d
  unfolding roomed_array_from construct_at
  roomed_array_fits (array, ((l, x), (of, s))) = max-le (h (place InArrayIndex) x) (subtype_indication_fits s)

  array_fits : (x : Of c array_rule) → array_nesting w (array_from c x) ≤ d
  unfolding array_rule array_from
  array_fits x = roomed_array_fits (roomed c.room x)

  pub initial_fits : (x : Of c initial_rule) → expression_nesting w (initial_from c x) ≤ d
  unfolding initial_rule initial_from
  initial_fits (assign, e) = expression_fits w c d h e

  maybe_initial_fits : (x : Option (Of c initial_rule)) → at_least (expression_nesting w) (option_map (initial_from c) x) ≤ d
  maybe_initial_fits x = maybe_fits (initial_from c) (expression_nesting w) d initial_fits x

  object_type_fits : (x : Of c (subtype_indication_rule ∣ array_rule)) → object_type_nesting w (object_type_from c x) ≤ d
  unfolding object_type_from
  object_type_fits (inl s) = subtype_indication_fits s
  object_type_fits (inr a) = array_fits a

  object_form_fits : (x : Of c (typed_rule ∣ the ConstantWord ⨾ (initial_rule ∣ typed_rule))) → object_form_nesting w (object_form_from c x) ≤ d
  unfolding typed_rule object_form_from
  object_form_fits (inl (t, e)) = max-le (object_type_fits t) (maybe_initial_fits e)
  object_form_fits (inr (constant, inl e)) = initial_fits e
  object_form_fits (inr (constant, inr (t, e))) = max-le (object_type_fits t) (maybe_initial_fits e)

  component_fits : (x : Of c component_rule) → component_nesting w (component_from c x) ≤ d
  unfolding component_rule component_from
  component_fits (ns, (colon, (s, semicolon))) = subtype_indication_fits s

  components_fit : (x : Of c (component_rule ⨾ Many component_rule ∣ the NullWord ⨾ the SemicolonWord)) → components_nesting w (components_from c x) ≤ d
  unfolding components_from
  components_fit (inl (x, xs)) = max-le (component_fits x) (map_fits (component_from c) (component_nesting w) d component_fits xs)
  components_fit (inr x) = none_fits d

  type_definition_fits : (x : Of c (range_rule ∣ the NullWord ⨾ the RecordWord ∣ any PrivateWord ∣ opens_at LeftParenthesisWord InEnumerationLiterals ∣ array_rule ∣ opens RecordWord InRecordDefinition)) → type_definition_nesting w (type_definition_from c x) ≤ d
  unfolding type_definition_from construct_at
  type_definition_fits (inl r) = range_fits r
  type_definition_fits (inr (inl x)) = none_fits d
  type_definition_fits (inr (inr (inl l))) = none_fits d
  type_definition_fits (inr (inr (inr (inl (l, x))))) = h (place InEnumerationLiterals) x
  type_definition_fits (inr (inr (inr (inr (inl a))))) = array_fits a
  type_definition_fits (inr (inr (inr (inr (inr x))))) = h (place InRecordDefinition) x

  formals_fit : (x : Of c formals_rule) → formals_nesting w (formals_from c x) ≤ d
  unfolding formals_rule formals_from construct_at
  formals_fit None = none_fits d
  formals_fit (Some (l, x)) = h (place InFormalPart) x

  pub specification_fits : (x : Of c specification_rule) → specification_nesting w (specification_from c x) ≤ d
  unfolding specification_rule specification_from
  specification_fits (inl (l, (n, f))) = formals_fit f
  specification_fits (inr (l, (n, (f, (r, m))))) = formals_fit f

  aspect_fits : (x : Of c aspect_rule) → aspect_nesting w (aspect_from c x) ≤ d
  unfolding aspect_rule aspect_from
  aspect_fits None = none_fits d
  aspect_fits (Some (with, (l, (arrow, e)))) = expression_fits w c d h e

  pub task_fits : (l : Label) (x : Of c task_rule) → task_nesting w (task_from c l x) ≤ d
  unfolding task_rule task_from
  task_fits l (n, (a, semicolon)) = aspect_fits a

  pub common_fits : (x : Of c common_rule) → common_nesting w (common_from c x) ≤ d
  unfolding common_rule object_rule type_rule subtype_rule common_from object_from type_from subtype_from
  common_fits (inl (ns, (colon, (f, semicolon)))) = object_form_fits f
  common_fits (inr (inl (type_word, (l, (is, (t, semicolon)))))) = type_definition_fits t
  common_fits (inr (inr (inl (subtype_word, (l, (is, (s, semicolon))))))) = subtype_indication_fits s
  common_fits (inr (inr (inr (inl u)))) = none_fits d
  common_fits (inr (inr (inr (inr p)))) = pragma_fits p

  pub declaration_fits : (x : Of c declaration_rule) → declaration_nesting w (declaration_from c x) ≤ d
  unfolding declaration_rule declaration_from construct_at
  declaration_fits (inl x) = common_fits x
  declaration_fits (inr (inl (s, semicolon))) = specification_fits s
  declaration_fits (inr (inr (inl (l, t)))) = task_fits l t
  declaration_fits (inr (inr (inr (l, x)))) = h (place InProtectedDeclaration) x

  operation_fits : (x : Of c operation_rule) → operation_nesting w (operation_from c x) ≤ d
  unfolding operation_rule operation_from
  operation_fits (inl (s, semicolon)) = specification_fits s
  operation_fits (inr (l, (n, semicolon))) = none_fits d

  element_fits : (x : Of c element_rule) → element_nesting w (element_from c x) ≤ d
  unfolding element_rule element_from
  element_fits (ns, (colon, (s, (e, semicolon)))) = max-le (subtype_indication_fits s) (maybe_initial_fits e)

  private_fits : (x : Of c (any PrivateWord ⨾ Many element_rule)) → private_nesting w (private_from c x) ≤ d
  unfolding private_from
  private_fits (l, xs) = map_fits (element_from c) (element_nesting w) d element_fits xs

  pub protected_fits : (x : Of c protected_rule) → protected_nesting w (protected_from c x) ≤ suc d
  unfolding protected_rule protected_from
  protected_fits (l, (a, (is, (os, (p, (e, (n, semicolon))))))) =
      opened_fits (max-le (aspect_fits a) (max-le (map_fits (operation_from c) (operation_nesting w) d operation_fits os) (maybe_fits (private_from c) (private_nesting w) d private_fits p)))

  -- ---- inside the constructs

  pub array_index_inside_fits : (x : Of c (inside InArrayIndex)) → Fits w InArrayIndex (array_index_inside c x) (suc d)
  unfolding inside array_index_inside
  array_index_inside_fits (r, closing) = opened_fits (discrete_range_fits r)

  pub record_inside_fits : (x : Of c (inside InRecordDefinition)) → Fits w InRecordDefinition (record_inside c x) (suc d)
  unfolding inside record_inside
  record_inside_fits (x, (e, closing)) = opened_fits (components_fit x)

  pub protected_inside_fits : (x : Of c (inside InProtectedDeclaration)) → Fits w InProtectedDeclaration (protected_inside c x) (suc d)
  unfolding inside protected_inside
  protected_inside_fits x = protected_fits x
