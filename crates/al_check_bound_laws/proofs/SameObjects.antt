-- Tasks and protected objects are the same under two tables (al_decl_protected).
use Rattle.std.proofs.Common.{◌≡◌, refl, ◌∙◌, ap, ℕ, List, [], ◌∷◌, Option, Some, None, Ok, Err, is_some, if◌then◌else◌}
use Rattle.std.specs.Bool.{⊤}
use Rattle.al_base_fault.specs.Faults.{earlier}
use Rattle.al_base_fault.specs.Judging.{both, map_ok, next, unless}
use Rattle.al_base_fault.specs.declared.fault.Fault.{Fault}
use Rattle.al_decl.specs.Checking.{inside_one, with_progress}
use Rattle.al_decl.specs.Declaring.{begun, begun_one}
use Rattle.al_decl.specs.Defining.{defined, defining_names}
use Rattle.al_decl.specs.Inner.{in_region}
use Rattle.al_decl.specs.PartReadings.{PartReading}
use Rattle.al_decl.specs.declared.env.Environment.{Environment}
use Rattle.al_decl_judged.specs.DefiningNames.{repeated}
use Rattle.al_decl_judged.specs.Headings.{heading_fault}
use Rattle.al_decl_judged.specs.Progressing.{symbol_of}
use Rattle.al_decl_judged.specs.declared.names.DefiningName.{DefiningName}
use Rattle.al_decl_protected.specs.Bodies.{body_by, lone_body, lone_fault, named_body, named_duplicate, first_named}
use Rattle.al_decl_judged.specs.declared.specification.BodyHead.{BodyHead}
use Rattle.al_decl_judged.specs.declared.specification.BodyHead.TheVariants as heads
use Rattle.al_decl_protected.specs.Components.{PrivateTree, after_component, component_checked, components_checked, initial_read, private_list, with_components}
use Rattle.al_decl_protected.specs.Levels.{is_priority, level_named, level_of, level_read, library_fault, wrong_aspect}
use Rattle.al_decl_protected.specs.Objects.{Inside, InsideTree, components_inside, inside_after, inside_checked, inside_of, nothing_inside, object_defined, object_ended, object_leveled, protected_checked}
use Rattle.al_decl_protected.specs.Operations.{Declared, bare_head, is_entry_tree, operation_added, operation_checked, operation_fault, operation_head, operation_headed, operations_checked, second_entry}
use Rattle.al_decl_protected.specs.Tasks.{task_checked, task_placed}
use Rattle.al_query.specs.Reads.{Table}
use Rattle.al_scope.specs.Places.{Place}
use Rattle.al_scope.specs.Visible.{innermost}
use Rattle.al_tree_grammar.specs.Grammar.{Label, Lexeme}
use Rattle.al_tree_grammar.specs.Grammar as g
use Rattle.al_tree_syntax.specs.DeclarationTrees.{AspectTree, ProtectedComponentTree, ProtectedOperationTree, ProtectedPrivateTree, ProtectedTree, TaskTree, aspect_tokens, identifier_token, identifiers_tokens, initial_tokens, protected_component_tokens, protected_operation_tokens, protected_private_tokens, protected_tokens, specification_tokens, subtype_indication_tokens, task_tokens}
use Rattle.al_tree_syntax.specs.DeclarationTrees.ProtectedOperationTree.{ProtectedSubprogram, EntryDeclaration}
use Rattle.al_tree_syntax.specs.ExpressionTrees.{ExpressionTree}
use Rattle.al_view.specs.declared.symbol.Symbol.{Symbol}
use Rattle.al_view.specs.declared.view.Operation.{Operation}
use Rattle.al_view.specs.declared.view.SubtypeView.{SubtypeView}
use Rattle.al_view.specs.declared.view.ViewKind.TheVariants.{OfComponent}
use Rattle.al_check_bound_laws.proofs.AllLemmas.{All, all-left, all-right}
use Rattle.al_check_bound_laws.proofs.SameDeclarations.{Judged, SameParts, Stays, ap2, begun-stays, duplicate-same, duplicates-same, head-duplicate-same, heading-same, name-ok, names-ok, next-both, visible-stays}

module _ (Q : Lexeme → Type 0) (MayName : List ℕ → Type 0) (identifier : (l : Label) → Q (identifier_token l) → MayName l.text) (A B : PartReading) (t s : Table) (P : Place → Type 0) (stays : Stays P)
    (inner : (name : List ℕ) → MayName name → (p : Place) → P p → innermost t p.mentioned name p.regions ≡ innermost s p.mentioned name p.regions) (parts : SameParts A B P Q) where
  abbrev pub Leaving : {X : Type 0} → Judged (Environment × X) → Type 0
  Leaving (Ok x) = P x.0.scope
  Leaving (Err f) = ⊤

  aspect-same : (p : Place) → P p → (usual : ℕ) (o : Option AspectTree) → All Q (g.maybe aspect_tokens o) → level_read A p usual o ≡ level_read B p usual o
  aspect-same p k usual None w = refl
  aspect-same p k usual (Some a) w = ap (λ j. if is_priority a then next j level_of else Err (wrong_aspect a)) (parts.priority p k a.value w.1.1.1)

  level-same : (h : Environment) → P h.scope → (n : DefiningName) → MayName n.name → (usual : ℕ) (o : Option AspectTree) → All Q (g.maybe aspect_tokens o) → level_named A t h n usual o ≡ level_named B s h n usual o
  level-same h k n m usual o w =
      ap2 (λ d j. unless (earlier d (library_fault h.progress n.place)) j) (duplicate-same Q MayName identifier A B t s P stays inner parts h.scope k OfComponent n m) (aspect-same (begun_one h.scope n) (stays.begun h.scope n k) usual o w)

  pub task-same : (h : Environment) → P h.scope → (x : TaskTree) → All Q (task_tokens x) → (task_checked A t h x ≡ task_checked B s h x) × Leaving (task_checked A t h x)
  task-same h k x w =
      let n = defined x.name in
      (ap (map_ok (task_placed (inside_one h n) x.opening.line n)) (level-same h k n (identifier x.name w.1.0) 15 x.aspect (all-left Q (g.maybe aspect_tokens x.aspect) _ w.1.1)), leaves (level_named A t h n 15 x.aspect))
    where
      leaves : (j : Judged ℕ) → Leaving (map_ok (task_placed (inside_one h (defined x.name)) x.opening.line (defined x.name)) j)
      leaves (Ok l) = stays.declared _ _ _ (stays.begun h.scope (defined x.name) k)
      leaves (Err f) = tt

  -- ---- operations

  head-same : (p : Place) → P p → (o : ProtectedOperationTree) → All Q (protected_operation_tokens o) → (operation_head A p o ≡ operation_head B p o) × MayName (operation_head B p o).name.name
  head-same p k (ProtectedSubprogram x) w =
      let ws = all-left Q (specification_tokens x) _ w in
      (heading-same Q MayName identifier A B t s P stays inner parts p k x ws, name-ok Q MayName identifier A B t s P stays inner parts x ws)
  head-same p k (EntryDeclaration l n) w = (refl, identifier n w.1.0)

  operation-same : (h : Environment) → P h.scope → (x : Symbol) (os : List Operation) (o : ProtectedOperationTree) → All Q (protected_operation_tokens o) → operation_checked A t h x os o ≡ operation_checked B s h x os o
  operation-same h k x os o w =
      let e = head-same h.scope k o w in
      let head = operation_head B h.scope o in
      ap (λ a. operation_headed t h x (is_entry_tree o) a os) e.0
      ∙ ap (λ d. unless (earlier (earlier d (second_entry (is_entry_tree o) head.name.place os)) (heading_fault head)) (Ok (operation_added h x (is_entry_tree o) head os))) (head-duplicate-same Q MayName identifier A B t s P stays inner parts h k head e.1)

  unless-leaves : {X : Type 0} (o : Option Fault) (j : Judged (Environment × X)) → Leaving j → Leaving (unless o j)
  unless-leaves None j k = k
  unless-leaves (Some f) (Ok x) k = tt
  unless-leaves (Some f) (Err e) k = tt

  operations-same : (h : Environment) → P h.scope → (x : Symbol) (os : List Operation) (l : List ProtectedOperationTree) → All Q (g.each protected_operation_tokens l) → (operations_checked A t h x os l ≡ operations_checked B s h x os l) × Leaving (operations_checked A t h x os l)
  operations-same h k x os [] w = (refl, k)
  operations-same h k x os (o ∷ l) w =
      let e = operation-same h k x os o (all-left Q (protected_operation_tokens o) _ w) in
      let r = at (operation_checked A t h x os o) (unless-leaves (operation_fault t h (is_entry_tree o) (operation_head A h.scope o) os) (Ok (operation_added h x (is_entry_tree o) (operation_head A h.scope o) os)) (stays.declared h.scope _ _ k)) (λ d m. operations-same d.0 m x d.1 l (all-right Q (protected_operation_tokens o) _ w)) in
      (r.0 ∙ ap (λ j. next j (λ (d : Declared). operations_checked B s d.0 x d.1 l)) e, r.1)
    where
      at : (j : Judged Declared) → Leaving j → ((d : Declared) → P d.0.scope → (operations_checked A t d.0 x d.1 l ≡ operations_checked B s d.0 x d.1 l) × Leaving (operations_checked A t d.0 x d.1 l))
          → (next j (λ (d : Declared). operations_checked A t d.0 x d.1 l) ≡ next j (λ (d : Declared). operations_checked B s d.0 x d.1 l)) × Leaving (next j (λ (d : Declared). operations_checked A t d.0 x d.1 l))
      at (Ok d) m f = f d m
      at (Err z) m f = (refl, tt)

  -- ---- components

  initial-same : (p : Place) → P p → (j : Judged SubtypeView) (o : Option ExpressionTree) → All Q (g.maybe initial_tokens o) → initial_read A p j o ≡ initial_read B p j o
  initial-same p k j None w = refl
  initial-same p k (Ok of) (Some x) w = ap (λ v. map_ok Some v) (parts.value p k of x w.1)
  initial-same p k (Err f) (Some x) w = refl

  component-same : (p : Place) → P p → (so_far : PrivateTree) (c : ProtectedComponentTree) → All Q (protected_component_tokens c) → component_checked A t p so_far c ≡ component_checked B s p so_far c
  component-same p k so_far c w =
      let ns = defining_names c.names in
      let q = begun p ns in
      let kq = begun-stays Q MayName identifier A B t s P stays inner parts p ns k in
      let rest = (all-right Q (identifiers_tokens c.names) _ w).1 in
      let ei = parts.indication q kq c.subtype (all-left Q (subtype_indication_tokens c.subtype) _ rest) in
      let ev = ap (λ j. both j (initial_read A q j c.initial)) ei ∙ ap (λ v. both (B.indication q c.subtype) v) (initial-same q kq (B.indication q c.subtype) c.initial (all-left Q (g.maybe initial_tokens c.initial) _ (all-right Q (subtype_indication_tokens c.subtype) _ rest))) in
      ap2 (λ d j. map_ok (with_components so_far ns) (unless (earlier d (repeated [] ns)) j)) (duplicates-same Q MayName identifier A B t s P stays inner parts p k OfComponent ns (names-ok Q MayName identifier A B t s P stays inner parts c.names (all-left Q (identifiers_tokens c.names) _ w))) ev

  components-same : (p : Place) → P p → (so_far : PrivateTree) (cs : List ProtectedComponentTree) → All Q (g.each protected_component_tokens cs) → components_checked A t p so_far cs ≡ components_checked B s p so_far cs
  components-same p k so_far [] w = refl
  components-same p k so_far (c ∷ cs) w =
      let ns = defining_names c.names in
      next-both _ _ _ _ (component-same p k so_far c (all-left Q (protected_component_tokens c) _ w))
      (λ (x : PrivateTree). components-same (after_component p c) (visible-stays Q MayName identifier A B t s P stays inner parts (begun p ns) ns (begun-stays Q MayName identifier A B t s P stays inner parts p ns k)) x cs (all-right Q (protected_component_tokens c) _ w))

  list-ok : (o : Option ProtectedPrivateTree) → All Q (g.maybe protected_private_tokens o) → All Q (g.each protected_component_tokens (private_list o))
  list-ok None w = tt
  list-ok (Some p) w = w.1

  -- ---- the object

  inside-same : (h : Environment) → P h.scope → (x : Symbol) (o : ProtectedTree) → All Q (g.each protected_operation_tokens o.operations) → All Q (g.maybe protected_private_tokens o.private_part) → inside_checked A t h x o ≡ inside_checked B s h x o
  inside-same h k x o wo wp =
      let e = operations-same (Rattle.al_decl.specs.Checking.with_scope h (in_region h.scope)) (stays.region h.scope k) x [] o.operations wo in
      at (operations_checked A t (Rattle.al_decl.specs.Checking.with_scope h (in_region h.scope)) x [] o.operations) e.1 ∙ ap (λ j. next j (components_inside B s nothing_inside.private_part o)) e.0
    where
      at : (j : Judged Declared) → Leaving j → next j (components_inside A t nothing_inside.private_part o) ≡ next j (components_inside B s nothing_inside.private_part o)
      at (Ok d) m = ap (map_ok (inside_of d)) (components-same d.0.scope m nothing_inside.private_part (private_list o.private_part) (list-ok o.private_part wp))
      at (Err f) m = refl

  pub protected-same : (h : Environment) → P h.scope → (line : ℕ) (o : ProtectedTree) → All Q (protected_tokens o) → (protected_checked A t h line o ≡ protected_checked B s h line o) × Leaving (protected_checked A t h line o)
  protected-same h k line o w =
      let n = defined o.name in
      let i = inside_one h n in
      let ki = stays.begun h.scope n k in
      let rest = (all-right Q (g.maybe aspect_tokens o.aspect) _ w.1).1 in
      let wo = all-left Q (g.each protected_operation_tokens o.operations) _ rest in
      let wp = all-left Q (g.maybe protected_private_tokens o.private_part) _ (all-right Q (g.each protected_operation_tokens o.operations) _ rest) in (
        next-both _ _ _ _ (level-same h k n (identifier o.name w.0) 30 o.aspect (all-left Q (g.maybe aspect_tokens o.aspect) _ w.1))
            (λ c. ap (λ j. next j (object_ended (with_progress i (Rattle.al_decl_judged.specs.Progressing.with_counted i.progress n.name)) line n (symbol_of i.progress n.name) c o)) (inside-same (with_progress i (Rattle.al_decl_judged.specs.Progressing.with_counted i.progress n.name)) ki (symbol_of i.progress n.name) o wo wp)),
        leaves-level (level_named A t h n 30 o.aspect),
      )
    where
      leaves-end : (u : Environment) (c : ℕ) (x : Symbol) → P u.scope → (j : Judged Inside) → Leaving (next j (object_ended u line (defined o.name) x c o))
      leaves-end u c x m (Err f) = tt
      leaves-end u c x m (Ok y) =
          unless-leaves (Rattle.al_decl_protected.specs.Objects.object_end (defined o.name) o.end_name) (Ok (Rattle.al_decl_protected.specs.Objects.object_placed (with_progress u y.0) line (defined o.name) x c y.1)) (stays.declared u.scope _ _ m)

      leaves-level : (j : Judged ℕ) → Leaving (next j (object_leveled A t (inside_one h (defined o.name)) line (defined o.name) o))
      leaves-level (Ok c) =
          let i = inside_one h (defined o.name) in
          let u = with_progress i (Rattle.al_decl_judged.specs.Progressing.with_counted i.progress o.name.text) in
          leaves-end u c (symbol_of i.progress o.name.text) (stays.begun h.scope (defined o.name) k) (inside_checked A t u (symbol_of i.progress o.name.text) o)
      leaves-level (Err f) = tt

  -- ---- bodies that have a name alone

  named-duplicate-same : (h : Environment) → P h.scope → (n : DefiningName) → MayName n.name → (b : BodyHead) → named_duplicate t h n b ≡ named_duplicate s h n b
  named-duplicate-same h k n m heads.Entry = head-duplicate-same Q MayName identifier A B t s P stays inner parts h k (bare_head n) m
  named-duplicate-same h k n m heads.«Task» = duplicate-same Q MayName identifier A B t s P stays inner parts h.scope k OfComponent n m
  named-duplicate-same h k n m (heads.Subprogram f) = duplicate-same Q MayName identifier A B t s P stays inner parts h.scope k OfComponent n m
  named-duplicate-same h k n m heads.Protected = duplicate-same Q MayName identifier A B t s P stays inner parts h.scope k OfComponent n m

  pub named-same : (h : Environment) → P h.scope → (line : ℕ) (n : DefiningName) → MayName n.name → (b : BodyHead) → (named_body t h line n b ≡ named_body s h line n b) × Leaving (named_body t h line n b)
  named-same h k line n m b =
      (ap (λ d. body_by h line (lone_fault n.place (is_some d)) (first_named 0 n.name b h.uncompleted)) (named-duplicate-same h k n m b), leaves (first_named 0 n.name b h.uncompleted))
    where
      leaves : (o : _) → Leaving (body_by h line (lone_body t h n b) o)
      leaves None = tt
      leaves (Some x) = k
