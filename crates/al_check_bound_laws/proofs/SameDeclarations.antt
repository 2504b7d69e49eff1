-- Declarations at a place are the same under two tables, where the innermost region has the same of the names of the text, and their parts are read the same.
use Rattle.std.proofs.Common.{◌≡◌, refl, ◌∙◌, ap, ℕ, ◌-◌, Bool, true, false, List, [], ◌∷◌, ◌++◌, length, map, fold, Option, Some, None, Ok, Err, is_some, not, if◌then◌else◌}
use Rattle.std.specs.Bool.{⊤}
use Rattle.std.specs.List.{list_any}
use Rattle.std.specs.Prelude.{Result, slice_get, suc, unwrap_or, zero}
use Rattle.al_base_fault.specs.Faults.{earlier}
use Rattle.al_base_fault.specs.Judging.{both, map_ok, next, unless}
use Rattle.al_base_fault.specs.declared.fault.Fault.{Fault}
use Rattle.al_decl.specs.Checking.{after, finished, inside, inside_one, inside_type}
use Rattle.al_decl.specs.Components.{after_component, component_list, component_parts, part, parts_after, parts_of_both}
use Rattle.al_decl.specs.Declaring.{begun, begun_one, duplicate, duplicates, in_innermost, overloaded_duplicate, overloaded_duplicates, with_declaration, with_declarations}
use Rattle.al_decl.specs.Defining.{defined, defining_names}
use Rattle.al_decl.specs.Formals.{after_formal, after_formals, formal_list, formal_part, formals_read, mode_of}
use Rattle.al_decl.specs.Forms.{array_checked, enumeration_checked, first_read, integer_checked, number_checked, objects_checked, objects_read, private_checked, range_read, static_pair, subtype_checked, type_read, value_read}
use Rattle.al_decl.specs.Heads.{compound_defined, formals_of, heading_read, last_of, name_of, returned_read}
use Rattle.al_decl.specs.Inner.{in_region, made_visible}
use Rattle.al_decl.specs.Items.{definition_checked, form_checked, object_checked, private_item, refused, subtype_item_checked, type_checked}
use Rattle.al_decl.specs.PartReadings.{PartReading}
use Rattle.al_decl.specs.Placing.{has_right_marks, head_duplicate, head_view, subprogram_after, subprogram_checked, subprogram_placed}
use Rattle.al_decl.specs.TypeNames.{literal_duplicates, type_begun, type_duplicate, type_name}
use Rattle.al_decl.specs.declared.env.Environment.{Environment}
use Rattle.al_decl_judged.specs.DefiningNames.{duplicate_at, names_of}
use Rattle.al_decl_judged.specs.Numbers.{numbers_declared}
use Rattle.al_decl_judged.specs.Objects.{new_objects, objects_declared}
use Rattle.al_decl_judged.specs.Progressing.{with_all_counted}
use Rattle.al_decl_judged.specs.Declaring.{DeclaredTree}
use Rattle.al_decl_judged.specs.StaticPieces.{static_of}
use Rattle.al_decl_judged.specs.Subprograms.{subprogram_declared}
use Rattle.al_decl_judged.specs.Subtypes.{subtype_declared}
use Rattle.al_decl_judged.specs.TypeKinds.{array_declared, enumeration_declared, integer_declared, private_declared, record_declared}
use Rattle.al_decl_judged.specs.declared.declaration.Declaration.{Declaration}
use Rattle.al_decl_judged.specs.declared.heading.Heading.{Heading}
use Rattle.al_decl_judged.specs.declared.heading.ReturnedPart.TheVariants.{Value}
use Rattle.al_decl_judged.specs.declared.names.DefiningName.{DefiningName}
use Rattle.al_decl_judged.specs.declared.names.TypeName.{TypeName}
use Rattle.al_decl_judged.specs.declared.new_object.NewObject.{NewObject}
use Rattle.al_decl_judged.specs.declared.new_object.ObjectType.{ObjectType}
use Rattle.al_decl_judged.specs.declared.progress.Progress.{Progress}
use Rattle.al_decl_judged.specs.declared.record.Part.{Part}
use Rattle.al_query.specs.Reads.{Table}
use Rattle.al_scope.specs.Places.{Place, with_declared}
use Rattle.al_scope.specs.Visible.{innermost}
use Rattle.al_tree_grammar.specs.Grammar.{Label, Lexeme}
use Rattle.al_tree_grammar.specs.Grammar as g
use Rattle.al_tree_syntax.specs.Symbols.{Symbol as symbols}
use Rattle.al_tree_syntax.specs.Words.{word}
use Rattle.al_tree_syntax.specs.DeclarationTrees.{after as tokens_after, array_tokens, component_tokens, components_tokens, compound_tokens, discrete_range_tokens, flag_tokens, identifier_token, formal_part_tokens, formal_tokens, identifiers_tokens, initial_tokens, object_form_tokens, object_tokens, object_type_tokens, specification_tokens, subtype_indication_tokens, subtype_tokens, type_definition_tokens, type_tokens}
use Rattle.al_tree_syntax.specs.DeclarationTrees.ComponentsTree.{NullComponents, SomeComponents}
use Rattle.al_tree_syntax.specs.DeclarationTrees.ObjectFormTree.{TypedObject, NamedNumber}
use Rattle.al_tree_syntax.specs.DeclarationTrees.ObjectTypeTree.{NamedType, AnonymousArray}
use Rattle.al_tree_syntax.specs.DeclarationTrees.SpecificationTree.{ProcedureSpecification, FunctionSpecification}
use Rattle.al_tree_syntax.specs.DeclarationTrees.TypeDefinitionTree.{IntegerDefinition, NullRecordDefinition, PrivateDefinition, EnumerationDefinition, ArrayDefinition, RecordDefinition}
use Rattle.al_tree_syntax.specs.DeclarationTrees.{ArrayTree, ComponentTree, ComponentsTree, CompoundNameTree, DiscreteRangeTree, FormalPartTree, FormalTree, IdentifiersTree, ObjectFormTree, ObjectTree, ObjectTypeTree, SpecificationTree, SubtypeIndicationTree, SubtypeTree, TypeDefinitionTree, TypeTree}
use Rattle.al_tree_syntax.specs.ExpressionTrees.{ExpressionTree, expression_tokens, simple_tokens}
use Rattle.al_view.specs.Homographs.{homographs, may_be_overloaded}
use Rattle.al_view.specs.declared.symbol.Symbol.{Symbol}
use Rattle.al_view.specs.declared.view.SubtypeView.{SubtypeView}
use Rattle.al_view.specs.declared.view.ViewKind.TheVariants.{OfComponent}
use Rattle.al_view.specs.declared.view.ViewKind.{ViewKind}
use Rattle.al_view_predefined.specs.Standard.{literal}
use Rattle.al_check_bound_laws.proofs.AllLemmas.{All, all-left, all-right}

abbrev pub Judged : Type 0 → Type 0
Judged A = Result A Fault

pub ap2 : {A B C : Type 0} (f : A → B → C) {a c : A} {b d : B} → a ≡ c → b ≡ d → f a b ≡ f c d
ap2 f {a} {c} {b} {d} e k = ap (λ x. f x b) e ∙ ap (f c) k

pub next-both : {A B : Type 0} (f h : A → Judged B) (j k : Judged A) → j ≡ k → ((x : A) → f x ≡ h x) → next j f ≡ next k h
next-both {A = A} f h j k e same = ap (λ i. next i f) e ∙ at k
  where
    at : (i : Judged A) → next i f ≡ next i h
    at (Ok x) = same x
    at (Err x) = refl

-- places of which something holds, whatever is declared in them
pub record Stays (P : Place → Type 0) : Type 0 where
  pub begun : (p : Place) (n : DefiningName) → P p → P (begun_one p n)
  pub declared : (p : Place) (name : List ℕ) (v : ViewKind) → P p → P (in_innermost (with_declared name v) p)
  pub region : (p : Place) → P p → P (in_region p)

-- the parts of declarations are read the same there
pub record SameParts (A B : PartReading) (P : Place → Type 0) (Q : Lexeme → Type 0) : Type 0 where
  pub mark : (p : Place) → P p → (m : CompoundNameTree) → All Q (compound_tokens m) → A.mark p m ≡ B.mark p m
  pub indication : (p : Place) → P p → (i : SubtypeIndicationTree) → All Q (subtype_indication_tokens i) → A.indication p i ≡ B.indication p i
  pub index : (p : Place) → P p → (d : DiscreteRangeTree) → All Q (discrete_range_tokens d) → A.index p d ≡ B.index p d
  pub value : (p : Place) → P p → (of : SubtypeView) (x : ExpressionTree) → All Q (expression_tokens x) → A.value p of x ≡ B.value p of x
  pub number : (p : Place) → P p → (x : ExpressionTree) → All Q (expression_tokens x) → A.number p x ≡ B.number p x
  pub bound : (p : Place) → P p → (x : ExpressionTree) → All Q (simple_tokens x) → A.bound p x ≡ B.bound p x
  pub priority : (p : Place) → P p → (x : ExpressionTree) → All Q (expression_tokens x) → A.priority p x ≡ B.priority p x

module _ (Q : Lexeme → Type 0) (MayName : List ℕ → Type 0) (identifier : (l : Label) → Q (identifier_token l) → MayName l.text) (A B : PartReading) (t s : Table) (P : Place → Type 0) (stays : Stays P)
    (inner : (name : List ℕ) → MayName name → (p : Place) → P p → innermost t p.mentioned name p.regions ≡ innermost s p.mentioned name p.regions) (parts : SameParts A B P Q) where
  abbrev pub NameOk : DefiningName → Type 0
  NameOk n = MayName n.name

  -- ---- names

  after-ok : (x : symbols) (ls : List Label) → All Q (tokens_after x ls) → All NameOk (map defined ls)
  after-ok x [] k = tt
  after-ok x (l ∷ ls) k = (identifier l k.1.0, after-ok x ls k.1.1)

  pub names-ok : (i : IdentifiersTree) → All Q (identifiers_tokens i) → All NameOk (defining_names i)
  names-ok i k = (identifier i.first k.0, after-ok symbols.Comma i.others k.1)

  last-in : (d : Label) (ls : List Label) → Q (identifier_token d) → All Q (tokens_after symbols.Dot ls) → (n : ℕ) → MayName (unwrap_or (slice_get ls n) d).text
  last-in d [] q k n = identifier d q
  last-in d (l ∷ ls) q k zero = identifier l k.1.0
  last-in d (l ∷ ls) q k (suc n) = last-in d ls q k.1.1 n

  pub compound-ok : (n : CompoundNameTree) → All Q (compound_tokens n) → NameOk (compound_defined n)
  compound-ok n k = last-in n.first n.selectors k.0 k.1 (length n.selectors - 1)

  -- ---- places

  pub begun-stays : (p : Place) (names : List DefiningName) → P p → P (begun p names)
  begun-stays p [] k = k
  begun-stays p (n ∷ ns) k = begun-stays (begun_one p n) ns (stays.begun p n k)

  pub visible-stays : (p : Place) (names : List DefiningName) → P p → P (made_visible p names)
  visible-stays p [] k = k
  visible-stays p (n ∷ ns) k = visible-stays (in_innermost (with_declared n.name OfComponent) p) ns (stays.declared p n.name OfComponent k)

  pub declarations-stay : (h : Environment) (ds : List Declaration) → P h.scope → P (with_declarations h ds).scope
  declarations-stay h [] k = k
  declarations-stay h (d ∷ ds) k = declarations-stay (with_declaration h d) ds (stays.declared h.scope d.name d.view k)

  type-begun-stays : (p : Place) (n : TypeName) → P p → P (type_begun p n)
  type-begun-stays p n k = at (is_some n.partial)
    where
      at : (b : Bool) → P (if b then p else begun_one p n.defining)
      at true = k
      at false = stays.begun p n.defining k

  -- what is right leaves such a place
  abbrev pub Leaves : {X : Type 0} → Judged (Environment × X) → Type 0
  Leaves (Ok x) = P x.0.scope
  Leaves (Err f) = ⊤

  pub finished-leaves : (h : Environment) (j : Judged (Progress × DeclaredTree)) → P h.scope → Leaves (finished h j)
  finished-leaves h (Ok d) k = declarations-stay (Rattle.al_decl.specs.Checking.with_progress h (Rattle.al_decl.specs.Effects.after_effect d.0 d.1.effect)) d.1.declarations k
  finished-leaves h (Err f) k = tt

  -- ---- homographs

  pub duplicate-same : (p : Place) → P p → (v : ViewKind) (n : DefiningName) → NameOk n → duplicate t p v n ≡ duplicate s p v n
  duplicate-same p k v n w = ap (λ vs. if list_any (homographs v) vs then Some (duplicate_at n) else None) (inner n.name w p k)

  pub overloaded-same : (p : Place) → P p → (n : DefiningName) → NameOk n → overloaded_duplicate t p n ≡ overloaded_duplicate s p n
  overloaded-same p k n w = ap (λ vs. if list_any (λ (v : ViewKind). not (may_be_overloaded v)) vs then Some (duplicate_at n) else None) (inner n.name w p k)

  fold-faults : (f h : DefiningName → Option Fault) → ((n : DefiningName) → NameOk n → f n ≡ h n) → (o : Option Fault) (ns : List DefiningName) → All NameOk ns
      → fold (λ (x : Option Fault) (n : DefiningName). earlier x (f n)) o ns ≡ fold (λ (x : Option Fault) (n : DefiningName). earlier x (h n)) o ns
  fold-faults f h e o [] k = refl
  fold-faults f h e o (n ∷ ns) k = ap (λ y. fold (λ (x : Option Fault) (m : DefiningName). earlier x (f m)) (earlier o y) ns) (e n k.0) ∙ fold-faults f h e (earlier o (h n)) ns k.1

  pub duplicates-same : (p : Place) → P p → (v : ViewKind) (ns : List DefiningName) → All NameOk ns → duplicates t p v ns ≡ duplicates s p v ns
  duplicates-same p k v ns w = fold-faults (duplicate t p v) (duplicate s p v) (λ n m. duplicate-same p k v n m) None ns w

  overloadeds-same : (p : Place) → P p → (ns : List DefiningName) → All NameOk ns → overloaded_duplicates t p ns ≡ overloaded_duplicates s p ns
  overloadeds-same p k ns w = fold-faults (overloaded_duplicate t p) (overloaded_duplicate s p) (λ n m. overloaded-same p k n m) None ns w

  type-duplicate-same : (p : Place) → P p → (n : TypeName) → NameOk n.defining → type_duplicate t p n ≡ type_duplicate s p n
  type-duplicate-same p k n w = ap (λ d. if is_some n.partial then None else d) (duplicate-same p k OfComponent n.defining w)

  literals-same : (p : Place) → P p → (o : Option Symbol) (ns : List DefiningName) → All NameOk ns → literal_duplicates t p o ns ≡ literal_duplicates s p o ns
  literals-same p k (Some x) ns w = duplicates-same p k (literal x [] 0) ns w
  literals-same p k None ns w = overloadeds-same p k ns w

  -- ---- objects, numbers, subtypes

  initial-ok : (x : ExpressionTree) → All Q (initial_tokens x) → All Q (expression_tokens x)
  initial-ok x k = k.1

  array-same : (p : Place) → P p → (a : ArrayTree) → All Q (array_tokens a) → (A.index p a.index ≡ B.index p a.index) × (A.indication p a.component ≡ B.indication p a.component)
  array-same p k a w =
      (parts.index p k a.index (all-left Q (discrete_range_tokens a.index) _ w.1.1), parts.indication p k a.component (all-right Q (discrete_range_tokens a.index) _ w.1.1).1.1)

  type-read-same : (p : Place) → P p → (o : ObjectTypeTree) → All Q (object_type_tokens o) → type_read A p o ≡ type_read B p o
  type-read-same p k (NamedType i) w = ap (λ j. map_ok Rattle.al_decl_judged.specs.declared.new_object.ObjectType.TheVariants.Marked j) (parts.indication p k i w)
  type-read-same p k (AnonymousArray a) w = let e = array-same p k a w in ap2 (λ x y. map_ok Rattle.al_decl.specs.Forms.anonymous_array (both x y)) e.0 e.1

  value-read-same : (p : Place) → P p → (j : Judged (List NewObject)) (o : Option ExpressionTree) → All Q (g.maybe initial_tokens o) → value_read A p j o ≡ value_read B p j o
  value-read-same p k j None w = refl
  value-read-same p k (Err f) (Some x) w = refl
  value-read-same p k (Ok []) (Some x) w = refl
  value-read-same p k (Ok (o ∷ os)) (Some x) w = ap (λ v. Some v) (parts.value p k o.subtype x w.1)

  objects-same : (h : Environment) → P h.scope → (line : ℕ) (ns : List DefiningName) → All NameOk ns → (c : Bool) (o : ObjectTypeTree) (i : Option ExpressionTree) → All Q (object_type_tokens o) → All Q (g.maybe initial_tokens i) → objects_checked A t h line ns c o i ≡ objects_checked B s h line ns c o i
  objects-same h k line ns w c o i wo wi =
      let p = begun h.scope ns in
      let kp = begun-stays h.scope ns k in
      let e : objects_read A h ns o ≡ objects_read B h ns o = ap (λ j. next j (λ (of : ObjectType). new_objects h.progress of ns)) (type-read-same p kp o wo) in
      let pr = with_all_counted h.progress (names_of ns) in
      ap (λ d. finished (inside h ns) (objects_declared pr line c d ns (objects_read A h ns o) (value_read A p (objects_read A h ns o) i))) (duplicates-same h.scope k OfComponent ns w)
      ∙ ap (λ j. finished (inside h ns) (objects_declared pr line c (duplicates s h.scope OfComponent ns) ns j (value_read A p j i))) e
      ∙ ap (λ v. finished (inside h ns) (objects_declared pr line c (duplicates s h.scope OfComponent ns) ns (objects_read B h ns o) v)) (value-read-same p kp (objects_read B h ns o) i wi)

  number-same : (h : Environment) → P h.scope → (ns : List DefiningName) → All NameOk ns → (x : ExpressionTree) → All Q (expression_tokens x) → number_checked A t h ns x ≡ number_checked B s h ns x
  number-same h k ns w x wx = ap2 (λ d v. finished (inside h ns) (numbers_declared h.progress ns d (next v static_of))) (duplicates-same h.scope k OfComponent ns w) (parts.number (begun h.scope ns) (begun-stays h.scope ns k) x wx)

  pub object-same : (h : Environment) → P h.scope → (o : ObjectTree) → All Q (object_tokens o) → (object_checked A t h o ≡ object_checked B s h o) × Leaves (object_checked A t h o)
  object-same h k o w =
      let ns = defining_names o.names in
      let wn = names-ok o.names (all-left Q (identifiers_tokens o.names) _ w) in
      at o.form ns wn (all-left Q (object_form_tokens o.form) _ (all-right Q (identifiers_tokens o.names) _ w).1)
    where
      at : (f : ObjectFormTree) (ns : List DefiningName) → All NameOk ns → All Q (object_form_tokens f) → (form_checked A t h o.names.first.line ns f ≡ form_checked B s h o.names.first.line ns f) × Leaves (form_checked A t h o.names.first.line ns f)
      at (TypedObject c ty i) ns wn wf =
          let rest = all-right Q (flag_tokens symbols.Constant c) _ wf in
          (objects-same h k o.names.first.line ns wn c ty i (all-left Q (object_type_tokens ty) _ rest) (all-right Q (object_type_tokens ty) _ rest), finished-leaves (inside h ns) _ (begun-stays h.scope ns k))
      at (NamedNumber x) ns wn wf = (number-same h k ns wn x wf.1.1, finished-leaves (inside h ns) _ (begun-stays h.scope ns k))

  pub subtype-same : (h : Environment) → P h.scope → (x : SubtypeTree) → All Q (subtype_tokens x) → (subtype_item_checked A t h x ≡ subtype_item_checked B s h x) × Leaves (subtype_item_checked A t h x)
  subtype-same h k x w =
      let n = defined x.name in (
        ap2 (λ d j. finished (inside_one h n) (subtype_declared h.progress n d j)) (duplicate-same h.scope k OfComponent n (identifier x.name w.1.0)) (parts.indication (begun_one h.scope n) (stays.begun h.scope n k) x.indication (all-left Q (subtype_indication_tokens x.indication) _ w.1.1.1)),
        finished-leaves (inside_one h n) _ (stays.begun h.scope n k),
      )

  -- ---- components of records

  named-parts-same : (p : Place) → P p → (c : ComponentTree) → All Q (component_tokens c) → component_parts A t p c ≡ component_parts B s p c
  named-parts-same p k c w =
      let ns = defining_names c.names in
      ap2 (λ d j. unless (earlier d (Rattle.al_decl_judged.specs.DefiningNames.repeated [] ns)) (map_ok (λ (of : SubtypeView). map (part of) ns) j)) (duplicates-same p k OfComponent ns (names-ok c.names (all-left Q (identifiers_tokens c.names) _ w)))
      (parts.indication (begun p ns) (begun-stays p ns k) c.subtype (all-left Q (subtype_indication_tokens c.subtype) _ (all-right Q (identifiers_tokens c.names) _ w).1))

  component-stays : (p : Place) (c : ComponentTree) → P p → P (after_component p c)
  component-stays p c k = visible-stays (begun p (defining_names c.names)) (defining_names c.names) (begun-stays p (defining_names c.names) k)

  parts-after-same : (p : Place) → P p → (j : Judged (List Part)) (cs : List ComponentTree) → All Q (g.each component_tokens cs) → parts_after A t p j cs ≡ parts_after B s p j cs
  parts-after-same p k j [] w = refl
  parts-after-same p k j (c ∷ cs) w =
      ap (λ x. parts_after A t (after_component p c) (parts_of_both j x) cs) (named-parts-same p k c (all-left Q (component_tokens c) _ w))
      ∙ parts-after-same (after_component p c) (component-stays p c k) (parts_of_both j (component_parts B s p c)) cs (all-right Q (component_tokens c) _ w)

  components-ok : (c : ComponentsTree) → All Q (components_tokens c) → All Q (g.each component_tokens (component_list c))
  components-ok NullComponents w = tt
  components-ok (SomeComponents c cs) w = w

  -- ---- types

  private-item-same : (h : Environment) → P h.scope → (n : TypeName) → NameOk n.defining → (o : Option ℕ) → private_item t h n o ≡ private_item s h n o
  private-item-same h k n w (Some words) = ap (λ d. finished (inside_type h n) (private_declared h.progress n d words)) (type-duplicate-same h.scope k n w)
  private-item-same h k n w None = ap (λ d. Err (refused d n.defining)) (duplicate-same h.scope k OfComponent n.defining w)

  definition-same : (h : Environment) → P h.scope → (o : Option ℕ) (n : TypeName) → NameOk n.defining → (d : TypeDefinitionTree) → All Q (type_definition_tokens d) → definition_checked A t h o n d ≡ definition_checked B s h o n d
  definition-same h k o n w (IntegerDefinition r) wd =
      let p = type_begun h.scope n in
      let kp = type-begun-stays h.scope n k in
      let e : range_read A p r ≡ range_read B p r = ap2 static_pair (parts.bound p kp r.low (all-left Q (simple_tokens r.low) _ wd.1)) (parts.bound p kp r.high (all-right Q (simple_tokens r.low) _ wd.1).1) in
      ap2 (λ d j. finished (inside_type h n) (integer_declared h.progress n d j)) (type-duplicate-same h.scope k n w) e
  definition-same h k o n w NullRecordDefinition wd = ap (λ d. finished (inside_type h n) (record_declared h.progress n d (Ok []))) (type-duplicate-same h.scope k n w)
  definition-same h k o n w (PrivateDefinition l) wd = private-item-same h k n w o
  definition-same h k o n w (EnumerationDefinition l i) wd =
      let ns = defining_names i in
      ap2 (λ x y. finished (inside_type h n) (enumeration_declared h.progress n (earlier x y) ns)) (type-duplicate-same h.scope k n w) (literals-same h.scope k n.partial ns (names-ok i (all-left Q (identifiers_tokens i) _ wd.1)))
  definition-same h k o n w (ArrayDefinition a) wd =
      let p = type_begun h.scope n in
      let e = array-same p (type-begun-stays h.scope n k) a wd in
      ap (λ d. finished (inside_type h n) (array_declared h.progress n d (A.index p a.index) (A.indication p a.component))) (type-duplicate-same h.scope k n w)
      ∙ ap2 (λ x y. finished (inside_type h n) (array_declared h.progress n (type_duplicate s h.scope n) x y)) e.0 e.1
  definition-same h k o n w (RecordDefinition c l) wd =
      let p = in_region (type_begun h.scope n) in
      ap2 (λ d j. finished (inside_type h n) (record_declared h.progress n d j)) (type-duplicate-same h.scope k n w)
      (parts-after-same p (stays.region (type_begun h.scope n) (type-begun-stays h.scope n k)) (Ok []) (component_list c) (components-ok c (all-left Q (components_tokens c) _ wd.1)))

  definition-leaves : (h : Environment) → P h.scope → (o : Option ℕ) (n : TypeName) (d : TypeDefinitionTree) → Leaves (definition_checked A t h o n d)
  definition-leaves h k o n (IntegerDefinition r) = finished-leaves (inside_type h n) _ (type-begun-stays h.scope n k)
  definition-leaves h k o n NullRecordDefinition = finished-leaves (inside_type h n) _ (type-begun-stays h.scope n k)
  definition-leaves h k (Some words) n (PrivateDefinition l) = finished-leaves (inside_type h n) _ (type-begun-stays h.scope n k)
  definition-leaves h k None n (PrivateDefinition l) = tt
  definition-leaves h k o n (EnumerationDefinition l i) = finished-leaves (inside_type h n) _ (type-begun-stays h.scope n k)
  definition-leaves h k o n (ArrayDefinition a) = finished-leaves (inside_type h n) _ (type-begun-stays h.scope n k)
  definition-leaves h k o n (RecordDefinition c l) = finished-leaves (inside_type h n) _ (type-begun-stays h.scope n k)

  pub type-same : (h : Environment) → P h.scope → (o : Option ℕ) (d : TypeTree) → All Q (type_tokens d) → (type_checked A t h o d ≡ type_checked B s h o d) × Leaves (type_checked A t h o d)
  type-same h k o d w =
      (definition-same h k o (type_name h (defined d.name)) (identifier d.name w.1.0) d.definition (all-left Q (type_definition_tokens d.definition) _ w.1.1.1), definition-leaves h k o (type_name h (defined d.name)) d.definition)

  -- ---- subprograms

  formal-stays : (p : Place) (f : FormalTree) → P p → P (after_formal p f)
  formal-stays p f k = visible-stays (begun p (defining_names f.names)) (defining_names f.names) (begun-stays p (defining_names f.names) k)

  pub formals-stay : (p : Place) (fs : List FormalTree) → P p → P (after_formals p fs)
  formals-stay p [] k = k
  formals-stay p (f ∷ fs) k = formals-stay (after_formal p f) fs (formal-stays p f k)

  formal-mark : (f : FormalTree) → All Q (formal_tokens f) → All Q (compound_tokens f.mark)
  formal-mark f w = all-right Q (flag_tokens symbols.Out f.is_out) _ (all-right Q (flag_tokens symbols.In f.is_in) _ (all-right Q (identifiers_tokens f.names) _ w).1)

  formals-same : (p : Place) → P p → (fs : List FormalTree) → All (λ (f : FormalTree). All Q (formal_tokens f)) fs → formals_read A p fs ≡ formals_read B p fs
  formals-same p k [] w = refl
  formals-same p k (f ∷ fs) w =
      let ns = defining_names f.names in
      ap2 (λ m l. map (formal_part (mode_of f.is_in f.is_out) m) ns ++ l) (parts.mark (begun p ns) (begun-stays p ns k) f.mark (formal-mark f w.0)) (formals-same (after_formal p f) (formal-stays p f k) fs w.1)

  others-ok : (fs : List FormalTree) → All Q (g.each (λ f. word symbols.Semicolon ∷ formal_tokens f) fs) → All (λ (f : FormalTree). All Q (formal_tokens f)) fs
  others-ok [] w = tt
  others-ok (f ∷ fs) w = (all-left Q (formal_tokens f) _ w.1, others-ok fs (all-right Q (formal_tokens f) _ w.1))

  part-ok : (o : Option FormalPartTree) → All Q (g.maybe formal_part_tokens o) → All (λ (f : FormalTree). All Q (formal_tokens f)) (formal_list o)
  part-ok None w = tt
  part-ok (Some p) w = (all-left Q (formal_tokens p.first) _ w.1, others-ok p.others (all-left Q (g.each (λ f. word symbols.Semicolon ∷ formal_tokens f) p.others) _ (all-right Q (formal_tokens p.first) _ w.1)))

  formals-ok : (x : SpecificationTree) → All Q (specification_tokens x) → All (λ (f : FormalTree). All Q (formal_tokens f)) (formals_of x)
  formals-ok (ProcedureSpecification l n f) w = part-ok f (all-right Q (compound_tokens n) _ w.1)
  formals-ok (FunctionSpecification l n f r m) w = part-ok f (all-left Q (g.maybe formal_part_tokens f) _ (all-right Q (compound_tokens n) _ w.1))

  returned-same : (p : Place) → P p → (x : SpecificationTree) → All Q (specification_tokens x) → returned_read A p x ≡ returned_read B p x
  returned-same p k (ProcedureSpecification l n f) w = refl
  returned-same p k (FunctionSpecification l n f r m) w = ap (λ j. Value j) (parts.mark p k m (all-right Q (g.maybe formal_part_tokens f) _ (all-right Q (compound_tokens n) _ w.1)).1)

  pub heading-same : (p : Place) → P p → (x : SpecificationTree) → All Q (specification_tokens x) → heading_read A p x ≡ heading_read B p x
  heading-same p k x w =
      let r = in_region p in
      let kr = stays.region p k in
      ap2 (λ fs v. record { name = compound_defined (name_of x); is_dotted = Rattle.al_decl.specs.Heads.is_dotted (name_of x); formals = fs; returned = v }) (formals-same r kr (formals_of x) (formals-ok x w)) (returned-same (after_formals r (formals_of x)) (formals-stay r (formals_of x) kr) x w)

  pub name-ok : (x : SpecificationTree) → All Q (specification_tokens x) → NameOk (compound_defined (name_of x))
  name-ok (ProcedureSpecification l n f) w = compound-ok n (all-left Q (compound_tokens n) _ w.1)
  name-ok (FunctionSpecification l n f r m) w = compound-ok n (all-left Q (compound_tokens n) _ w.1)

  pub head-duplicate-same : (h : Environment) → P h.scope → (head : Heading) → NameOk head.name → head_duplicate t h head ≡ head_duplicate s h head
  head-duplicate-same h k head w = ap2 (λ x y. if has_right_marks head then x else y) (duplicate-same h.scope k (head_view h head) head.name w) (overloaded-same h.scope k head.name w)

  pub subprogram-same : (h : Environment) → P h.scope → (line : ℕ) (x : SpecificationTree) → All Q (specification_tokens x) → (subprogram_checked A t h line x ≡ subprogram_checked B s h line x) × Leaves (subprogram_checked A t h line x)
  subprogram-same h k line x w = (
    ap (λ head. subprogram_placed t h line head) (heading-same h.scope k x w) ∙ ap (λ d. map_ok (subprogram_after h) (subprogram_declared h.progress h.uncompleted line d (heading_read B h.scope x))) (head-duplicate-same h k (heading_read B h.scope x) (name-ok x w)),
    leaves (subprogram_declared h.progress h.uncompleted line (head_duplicate t h (heading_read A h.scope x)) (heading_read A h.scope x)),
  )
    where
      leaves : (j : _) → Leaves (map_ok (subprogram_after h) j)
      leaves (Ok d) = declarations-stay _ d.1.declarations k
      leaves (Err f) = tt
