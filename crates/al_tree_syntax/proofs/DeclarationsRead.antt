-- Trees of declarations have the lexemes of the grammar's trees.
use Rattle.std.proofs.Common.{List, None, Option, Some, [], ap, append-nil, append_assoc, ap₂, inl, inr, refl, sym, ◌++◌, ◌∙◌, ◌∷◌, ◌≡◌}
use Rattle.std.specs.Prelude.{is_some, option_map}
use Rattle.al_tree_grammar.specs.Grammar.{Label, Lexeme, each, maybe}
use Rattle.al_tree_grammar.specs.Grammar.Rule.{Many, Opt}
use Rattle.al_tree_syntax.specs.Constructs.Construct.{ArrayIndex as InArrayIndex, EnumerationLiterals as InEnumerationLiterals, FormalPart as InFormalPart, ParentName as InParentName, PragmaArguments as InPragmaArguments, ProtectedDeclaration as InProtectedDeclaration, RecordDefinition as InRecordDefinition}
use Rattle.al_tree_syntax.specs.Constructs.{construct_at, place}
use Rattle.al_tree_syntax.specs.Notation.{any, opens, opens_at, the, ◌∣◌, ◌⨾◌}
use Rattle.al_tree_syntax.specs.Words.{labelled, word}
use Rattle.al_tree_syntax.specs.Expressions.{compound_name_rule, compound_names_rule, discrete_range_rule, identifier_rule, identifiers_rule, range_rule, simple_expression_rule}
use Rattle.al_tree_syntax.specs.Declarations.{array_rule, aspect_rule, common_rule, component_rule, declaration_rule, element_rule, formal_rule, formals_rule, initial_rule, object_rule, operation_rule, pragma_rule, protected_rule, specification_rule, subtype_indication_rule, subtype_rule, task_rule, type_rule, typed_rule, use_rule}
use Rattle.al_tree_syntax.specs.Rules.{inside}
use Rattle.al_tree_syntax.specs.DeclarationTrees.{array_tokens, aspect_tokens, common_tokens, component_tokens, components_tokens, compound_tokens, compounds_tokens, declaration_tokens, discrete_range_tokens, end_name_tokens, flag_tokens, formal_part_tokens, formal_tokens, identifier_token, identifiers_tokens, initial_tokens, object_form_tokens, object_tokens, object_type_tokens, pragma_arguments_tokens, pragma_tokens, protected_component_tokens, protected_operation_tokens, protected_private_tokens, protected_tokens, range_tokens, specification_tokens, subtype_indication_tokens, subtype_tokens, task_tokens, type_definition_tokens, type_tokens, use_tokens}
use Rattle.al_tree_syntax.specs.Insides.{Nested, Of, roomed}
use Rattle.al_tree_syntax.specs.DeclarationsFrom.{array_from, array_index_inside, aspect_from, common_from, component_from, components_from, compound_from, compounds_from, declaration_from, discrete_range_from, element_from, enumeration_inside, formal_from, formal_part_inside, formals_from, identifiers_from, initial_from, object_form_from, object_from, object_type_from, operation_from, parent_name_inside, pragma_arguments_from, pragma_arguments_inside, pragma_from, private_from, protected_from, protected_inside, range_from, record_inside, roomed_array_from, specification_from, subtype_from, subtype_indication_from, task_from, type_definition_from, type_from, use_from}
use Rattle.al_tree_syntax.proofs.Steps.{HasLexemes, Lexed, each_same, lexed, map_same, maybe_same, roomed_same}
use Rattle.al_tree_syntax.proofs.ExpressionsRead.{expression_same, simple_same}
use Rattle.al_tree_syntax.specs.Symbols.Symbol.{Array as ArrayWord, Comma as CommaWord, Constant as ConstantWord, Dot as DotWord, Identifier as IdentifierWord, LeftParenthesis as LeftParenthesisWord, Null as NullWord, Of as OfWord, Private as PrivateWord, Record as RecordWord, Semicolon as SemicolonWord}
use Rattle.al_tree_syntax.specs.Symbols.{Symbol, Symbol as symbols}

module _ (c : Nested) (h : Lexed c) where
  pub identifiers_same : (x : Of c identifiers_rule) → identifiers_tokens (identifiers_from c x) ≡ lexed c h identifiers_rule x
  unfolding identifiers_rule identifier_rule identifiers_from
  identifiers_same (l, ls) = λ i. labelled symbols.Identifier l ∷ each_same (λ m. m) (λ m. word symbols.Comma ∷ identifier_token m ∷ []) (lexed c h (the CommaWord ⨾ identifier_rule)) (λ mark m. refl) ls i

  pub compound_same : (x : Of c compound_name_rule) → compound_tokens (compound_from c x) ≡ lexed c h compound_name_rule x
  unfolding compound_name_rule identifier_rule compound_from
  compound_same (l, ls) = λ i. labelled symbols.Identifier l ∷ each_same (λ m. m) (λ m. word symbols.Dot ∷ identifier_token m ∷ []) (lexed c h (the DotWord ⨾ identifier_rule)) (λ mark m. refl) ls i

  pub compounds_same : (x : Of c compound_names_rule) → compounds_tokens (compounds_from c x) ≡ lexed c h compound_names_rule x
  unfolding compound_names_rule compounds_from
  compounds_same (n, ns) =
      λ i. compound_same n i ++ each_same (compound_from c) (λ m. word symbols.Comma ∷ compound_tokens m) (lexed c h (the CommaWord ⨾ compound_name_rule)) (λ mark m j. word symbols.Comma ∷ compound_same m j) ns i

  pub end_name_same : (x : Option Label) → end_name_tokens x ≡ lexed c h (Opt (any IdentifierWord)) x
  end_name_same None = refl
  end_name_same (Some l) = refl

  pub compound_end_same : (x : Option (Of c compound_name_rule)) → maybe compound_tokens (option_map (compound_from c) x) ≡ lexed c h (Opt compound_name_rule) x
  compound_end_same x = maybe_same (compound_from c) compound_tokens (lexed c h compound_name_rule) compound_same x

  pub flag_same : (s : Symbol) (x : Of c (Opt (the s))) → flag_tokens s (is_some x) ≡ lexed c h (Opt (the s)) x
  flag_same s None = refl
  flag_same s (Some x) = refl

  range_same : (x : Of c range_rule) → range_tokens (range_from c x) ≡ lexed c h range_rule x
  unfolding range_rule range_from
  range_same (range, (s, (dots, t))) = λ i. word symbols.Range ∷ (simple_same c h s i ++ word symbols.DoubleDot ∷ simple_same c h t i)

  pub discrete_range_same : (x : Of c discrete_range_rule) → discrete_range_tokens (discrete_range_from c x) ≡ lexed c h discrete_range_rule x
  unfolding discrete_range_rule discrete_range_from
  discrete_range_same (s, None) = simple_same c h s ∙ sym (append-nil (lexed c h simple_expression_rule s))
  discrete_range_same (s, Some (inl (dots, t))) = λ i. simple_same c h s i ++ word symbols.DoubleDot ∷ simple_same c h t i
  discrete_range_same (s, Some (inr r)) = λ i. simple_same c h s i ++ range_same r i

  pub use_same : (x : Of c use_rule) → use_tokens (use_from c x) ≡ lexed c h use_rule x
  unfolding use_rule use_from
  use_same (use_word, (t, (ns, semicolon))) = λ i. word symbols.Use ∷ (flag_same symbols.«Type» t i ++ (compounds_same ns i ++ word symbols.Semicolon ∷ []))

  pragma_arguments_same : (x : Of c (opens_at LeftParenthesisWord InPragmaArguments)) → pragma_arguments_tokens (pragma_arguments_from c x) ≡ lexed c h (opens_at LeftParenthesisWord InPragmaArguments) x
  unfolding pragma_arguments_from construct_at
  pragma_arguments_same (l, x) = λ i. labelled symbols.LeftParenthesis l ∷ h.same (place InPragmaArguments) x i

  pub pragma_same : (x : Of c pragma_rule) → pragma_tokens (pragma_from c x) ≡ lexed c h pragma_rule x
  unfolding pragma_rule identifier_rule pragma_from
  pragma_same (pragma, (l, (x, semicolon))) =
      λ i. word symbols.Pragma ∷ identifier_token l ∷ (maybe_same (pragma_arguments_from c) pragma_arguments_tokens (lexed c h (opens_at LeftParenthesisWord InPragmaArguments)) pragma_arguments_same x i ++ word symbols.Semicolon ∷ [])

  subtype_indication_same : (x : Of c subtype_indication_rule) → subtype_indication_tokens (subtype_indication_from c x) ≡ lexed c h subtype_indication_rule x
  unfolding subtype_indication_rule subtype_indication_from
  subtype_indication_same (n, r) = λ i. compound_same n i ++ maybe_same (range_from c) range_tokens (lexed c h range_rule) range_same r i

  roomed_array_same : (x : Of c (the ArrayWord ⨾ opens_at LeftParenthesisWord InArrayIndex ⨾ the OfWord ⨾ subtype_indication_rule)) → array_tokens (roomed_array_from c x) ≡ lexed c h (the ArrayWord ⨾ opens_at LeftParenthesisWord InArrayIndex ⨾ the OfWord ⨾ subtype_indication_rule) x
  unfolding roomed_array_from construct_at
  roomed_array_same (array, ((l, x), (of, s))) =
      ap (λ (t : List Lexeme). word symbols.Array ∷ labelled symbols.LeftParenthesis l ∷ t)
      (sym (append_assoc (discrete_range_tokens (c.from (place InArrayIndex) x)) (word symbols.RightParenthesis ∷ []) (word symbols.Of ∷ subtype_indication_tokens (subtype_indication_from c s)))
      ∙ ap₂ (λ (a b : List Lexeme). a ++ word symbols.Of ∷ b) (h.same (place InArrayIndex) x) (subtype_indication_same s))

  array_same : (x : Of c array_rule) → array_tokens (array_from c x) ≡ lexed c h array_rule x
  unfolding array_rule array_from
  array_same x =
      roomed_array_same (roomed c.room x)
      ∙ roomed_same c.room (lexed c h (the ArrayWord ⨾ opens_at LeftParenthesisWord InArrayIndex ⨾ the OfWord ⨾ subtype_indication_rule)) x

  pub initial_same : (x : Of c initial_rule) → initial_tokens (initial_from c x) ≡ lexed c h initial_rule x
  unfolding initial_rule initial_from
  initial_same (assign, e) = λ i. word symbols.Assign ∷ expression_same c h e i

  maybe_initial_same : (x : Option (Of c initial_rule)) → maybe initial_tokens (option_map (initial_from c) x) ≡ lexed c h (Opt initial_rule) x
  maybe_initial_same x = maybe_same (initial_from c) initial_tokens (lexed c h initial_rule) initial_same x

  object_type_same : (x : Of c (subtype_indication_rule ∣ array_rule)) → object_type_tokens (object_type_from c x) ≡ lexed c h (subtype_indication_rule ∣ array_rule) x
  unfolding object_type_from
  object_type_same (inl s) = subtype_indication_same s
  object_type_same (inr a) = array_same a

  object_form_same : (x : Of c (typed_rule ∣ the ConstantWord ⨾ (initial_rule ∣ typed_rule))) → object_form_tokens (object_form_from c x) ≡ lexed c h (typed_rule ∣ the ConstantWord ⨾ (initial_rule ∣ typed_rule)) x
  unfolding typed_rule object_form_from
  object_form_same (inl (t, e)) = λ i. object_type_same t i ++ maybe_initial_same e i
  object_form_same (inr (constant, inl e)) = λ i. word symbols.Constant ∷ initial_same e i
  object_form_same (inr (constant, inr (t, e))) = λ i. word symbols.Constant ∷ (object_type_same t i ++ maybe_initial_same e i)

  object_same : (x : Of c object_rule) → object_tokens (object_from c x) ≡ lexed c h object_rule x
  unfolding object_rule object_from
  object_same (ns, (colon, (f, semicolon))) = λ i. identifiers_same ns i ++ word symbols.Colon ∷ (object_form_same f i ++ word symbols.Semicolon ∷ [])

  component_same : (x : Of c component_rule) → component_tokens (component_from c x) ≡ lexed c h component_rule x
  unfolding component_rule component_from
  component_same (ns, (colon, (s, semicolon))) = λ i. identifiers_same ns i ++ word symbols.Colon ∷ (subtype_indication_same s i ++ word symbols.Semicolon ∷ [])

  components_same : (x : Of c (component_rule ⨾ Many component_rule ∣ the NullWord ⨾ the SemicolonWord)) → components_tokens (components_from c x) ≡ lexed c h (component_rule ⨾ Many component_rule ∣ the NullWord ⨾ the SemicolonWord) x
  unfolding components_from
  components_same (inl (x, xs)) = λ i. component_same x i ++ map_same (component_from c) component_tokens (lexed c h component_rule) component_same xs i
  components_same (inr x) = refl

  type_definition_same : (x : Of c (range_rule ∣ the NullWord ⨾ the RecordWord ∣ any PrivateWord ∣ opens_at LeftParenthesisWord InEnumerationLiterals ∣ array_rule ∣ opens RecordWord InRecordDefinition)) → type_definition_tokens (type_definition_from c x) ≡ lexed c h (range_rule ∣ the NullWord ⨾ the RecordWord ∣ any PrivateWord ∣ opens_at LeftParenthesisWord InEnumerationLiterals ∣ array_rule ∣ opens RecordWord InRecordDefinition) x
  unfolding type_definition_from construct_at
  type_definition_same (inl r) = range_same r
  type_definition_same (inr (inl x)) = refl
  type_definition_same (inr (inr (inl l))) = refl
  type_definition_same (inr (inr (inr (inl (l, x))))) = λ i. labelled symbols.LeftParenthesis l ∷ h.same (place InEnumerationLiterals) x i
  type_definition_same (inr (inr (inr (inr (inl a))))) = array_same a
  type_definition_same (inr (inr (inr (inr (inr x))))) = h.same (place InRecordDefinition) x

  type_same : (x : Of c type_rule) → type_tokens (type_from c x) ≡ lexed c h type_rule x
  unfolding type_rule identifier_rule type_from
  type_same (type_word, (l, (is, (t, semicolon)))) = λ i. word symbols.«Type» ∷ identifier_token l ∷ word symbols.Is ∷ (type_definition_same t i ++ word symbols.Semicolon ∷ [])

  subtype_same : (x : Of c subtype_rule) → subtype_tokens (subtype_from c x) ≡ lexed c h subtype_rule x
  unfolding subtype_rule identifier_rule subtype_from
  subtype_same (subtype, (l, (is, (s, semicolon)))) = λ i. word symbols.Subtype ∷ identifier_token l ∷ word symbols.Is ∷ (subtype_indication_same s i ++ word symbols.Semicolon ∷ [])

  formal_same : (x : Of c formal_rule) → formal_tokens (formal_from c x) ≡ lexed c h formal_rule x
  unfolding formal_rule formal_from
  formal_same (ns, (colon, (m, (o, n)))) = λ i. identifiers_same ns i ++ word symbols.Colon ∷ (flag_same symbols.In m i ++ (flag_same symbols.Out o i ++ compound_same n i))

  formals_same : (x : Of c formals_rule) → maybe formal_part_tokens (formals_from c x) ≡ lexed c h formals_rule x
  unfolding formals_rule formals_from construct_at
  formals_same None = refl
  formals_same (Some (l, x)) = h.same (place InFormalPart) x l

  pub specification_same : (x : Of c specification_rule) → specification_tokens (specification_from c x) ≡ lexed c h specification_rule x
  unfolding specification_rule specification_from
  specification_same (inl (l, (n, f))) = λ i. labelled symbols.Procedure l ∷ (compound_same n i ++ formals_same f i)
  specification_same (inr (l, (n, (f, (r, m))))) = λ i. labelled symbols.Function l ∷ (compound_same n i ++ (formals_same f i ++ labelled symbols.Return r ∷ compound_same m i))

  aspect_same : (x : Of c aspect_rule) → maybe aspect_tokens (aspect_from c x) ≡ lexed c h aspect_rule x
  unfolding aspect_rule identifier_rule aspect_from
  aspect_same None = refl
  aspect_same (Some (with, (l, (arrow, e)))) = λ i. word symbols.With ∷ identifier_token l ∷ word symbols.Arrow ∷ expression_same c h e i

  pub task_same : (l : Label) (x : Of c task_rule) → task_tokens (task_from c l x) ≡ labelled symbols.Task l ∷ lexed c h task_rule x
  unfolding task_rule identifier_rule task_from
  task_same l (n, (a, semicolon)) = λ i. labelled symbols.Task l ∷ identifier_token n ∷ (aspect_same a i ++ word symbols.Semicolon ∷ [])

  pub common_same : (x : Of c common_rule) → common_tokens (common_from c x) ≡ lexed c h common_rule x
  unfolding common_rule common_from
  common_same (inl o) = object_same o
  common_same (inr (inl t)) = type_same t
  common_same (inr (inr (inl s))) = subtype_same s
  common_same (inr (inr (inr (inl u)))) = use_same u
  common_same (inr (inr (inr (inr p)))) = pragma_same p

  pub declaration_same : (x : Of c declaration_rule) → declaration_tokens (declaration_from c x) ≡ lexed c h declaration_rule x
  unfolding declaration_rule declaration_from construct_at
  declaration_same (inl x) = common_same x
  declaration_same (inr (inl (s, semicolon))) = λ i. specification_same s i ++ word symbols.Semicolon ∷ []
  declaration_same (inr (inr (inl (l, t)))) = task_same l t
  declaration_same (inr (inr (inr (l, x)))) = λ i. labelled symbols.Protected l ∷ h.same (place InProtectedDeclaration) x i

  operation_same : (x : Of c operation_rule) → protected_operation_tokens (operation_from c x) ≡ lexed c h operation_rule x
  unfolding operation_rule identifier_rule operation_from
  operation_same (inl (s, semicolon)) = λ i. specification_same s i ++ word symbols.Semicolon ∷ []
  operation_same (inr (l, (n, semicolon))) = refl

  element_same : (x : Of c element_rule) → protected_component_tokens (element_from c x) ≡ lexed c h element_rule x
  unfolding element_rule element_from
  element_same (ns, (colon, (s, (e, semicolon)))) = λ i. identifiers_same ns i ++ word symbols.Colon ∷ (subtype_indication_same s i ++ (maybe_initial_same e i ++ word symbols.Semicolon ∷ []))

  private_same : (x : Of c (any PrivateWord ⨾ Many element_rule)) → protected_private_tokens (private_from c x) ≡ lexed c h (any PrivateWord ⨾ Many element_rule) x
  unfolding private_from
  private_same (l, xs) = λ i. labelled symbols.Private l ∷ map_same (element_from c) protected_component_tokens (lexed c h element_rule) element_same xs i

  pub protected_same : (x : Of c protected_rule) → protected_tokens (protected_from c x) ≡ lexed c h protected_rule x
  unfolding protected_rule identifier_rule protected_from
  protected_same (l, (a, (is, (os, (p, (e, (n, semicolon))))))) =
      λ i. identifier_token l ∷ (aspect_same a i ++ word symbols.Is ∷ (map_same (operation_from c) protected_operation_tokens (lexed c h operation_rule) operation_same os i
      ++ (maybe_same (private_from c) protected_private_tokens (lexed c h (any PrivateWord ⨾ Many element_rule)) private_same p i
      ++ labelled symbols.End e ∷ (end_name_same n i ++ word symbols.Semicolon ∷ []))))

  -- ---- inside the constructs

  pub pragma_arguments_inside_same : (x : Of c (inside InPragmaArguments)) → HasLexemes InPragmaArguments (pragma_arguments_inside c x) (lexed c h (inside InPragmaArguments) x)
  unfolding inside pragma_arguments_inside
  pragma_arguments_inside_same (ns, closing) = λ i. compounds_same ns i ++ word symbols.RightParenthesis ∷ []

  pub parent_name_inside_same : (x : Of c (inside InParentName)) → HasLexemes InParentName (parent_name_inside c x) (lexed c h (inside InParentName) x)
  unfolding inside parent_name_inside
  parent_name_inside_same (n, closing) = λ i. compound_same n i ++ word symbols.RightParenthesis ∷ []

  pub formal_part_inside_same : (x : Of c (inside InFormalPart)) → HasLexemes InFormalPart (formal_part_inside c x) (lexed c h (inside InFormalPart) x)
  unfolding inside formal_part_inside
  formal_part_inside_same ((f, fs), closing) = λ l.
      ap (λ (t : List Lexeme). labelled symbols.LeftParenthesis l ∷ t)
      (ap₂ (λ (a b : List Lexeme). a ++ (b ++ word symbols.RightParenthesis ∷ [])) (formal_same f)
      (each_same (formal_from c) (λ g. word symbols.Semicolon ∷ formal_tokens g) (lexed c h (the SemicolonWord ⨾ formal_rule)) (λ mark g j. word symbols.Semicolon ∷ formal_same g j) fs)
      ∙ sym (append_assoc (lexed c h formal_rule f) (each (lexed c h (the SemicolonWord ⨾ formal_rule)) fs) (word symbols.RightParenthesis ∷ [])))

  pub enumeration_inside_same : (x : Of c (inside InEnumerationLiterals)) → HasLexemes InEnumerationLiterals (enumeration_inside c x) (lexed c h (inside InEnumerationLiterals) x)
  unfolding inside enumeration_inside
  enumeration_inside_same (ns, closing) = λ i. identifiers_same ns i ++ word symbols.RightParenthesis ∷ []

  pub array_index_inside_same : (x : Of c (inside InArrayIndex)) → HasLexemes InArrayIndex (array_index_inside c x) (lexed c h (inside InArrayIndex) x)
  unfolding inside array_index_inside
  array_index_inside_same (r, closing) = λ i. discrete_range_same r i ++ word symbols.RightParenthesis ∷ []

  pub record_inside_same : (x : Of c (inside InRecordDefinition)) → HasLexemes InRecordDefinition (record_inside c x) (lexed c h (inside InRecordDefinition) x)
  unfolding inside record_inside
  record_inside_same (x, (e, closing)) = λ i. word symbols.Record ∷ (components_same x i ++ labelled symbols.End e ∷ word symbols.Record ∷ [])

  pub protected_inside_same : (x : Of c (inside InProtectedDeclaration)) → HasLexemes InProtectedDeclaration (protected_inside c x) (lexed c h (inside InProtectedDeclaration) x)
  unfolding inside protected_inside
  protected_inside_same x = protected_same x
