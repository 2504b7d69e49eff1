-- The reading of Ada texts is the same under two tables: at places of which something holds (P) that all steps keep, where the innermost region has the same,
-- names denote the same, and the ancestors' private parts give the same regions.
use Rattle.std.proofs.Common.{◌≡◌, refl, ◌∙◌, ap, ℕ, Bool, true, false, List, [], ◌∷◌, ◌++◌, fold, Option, Some, None, Ok, Err, is_some, not, if◌then◌else◌}
use Rattle.std.specs.Bool.{⊤}
use Rattle.al_base.specs.declared.unit_key.UnitKey.{UnitKey}
use Rattle.al_base_fault.specs.Judging.{map_ok, unless}
use Rattle.al_base_fault.specs.declared.fault.Fault.{Fault}
use Rattle.al_check_declared.specs.DeclarationsHere.{declared_here, faulty_here, nested_declared, no_place, open_declared, parts_here, pragma_settled, private_words, uses_read, uses_settled, with_regions}
use Rattle.al_check_declared.specs.EnteredHere.{body_here, nested_body, opened, read_entered, renewed_for, visible_heading, visible_result, whole_body}
use Rattle.al_check_declared.specs.HeadsHere.{body_at, head_of, head_settled, heading_here, nested_head, stub_here, stub_of, stub_settled, stub_wrong}
use Rattle.al_check_declared.specs.ObjectRegions.{has_form, region_entered, with_component, with_components, with_operation}
use Rattle.al_check_declared.specs.ObjectsHere.{entry_head, inner_head, named_at, named_settled, object_entered, object_settled, operation_at, operation_head, operation_of, operation_settled, task_head}
use Rattle.al_check_declared.specs.OpenObjects.{barrier_fault_here, entered_anew, is_of_object, object_left, opened_by, out_of_object, renewed, renewed_by, renewed_in}
use Rattle.al_check_declared.specs.WholeHere.{own_mentioned, own_settled, undotted, whole_declared, whole_head, whole_head_of, whole_of, whole_settled, with_own}
use Rattle.al_check_here.specs.BodiesHere.{out_of_body, out_of_one, right_formals}
use Rattle.al_check_here.specs.Faulty.{effect_settled, ended}
use Rattle.al_check_here.specs.PartsHere.{with_use, with_uses}
use Rattle.al_check_here.specs.RegionsHere.{out_of, out_of_block, region_left, with_found, with_parameter}
use Rattle.al_check_here.specs.Stacks.{innermost as last_of}
use Rattle.al_check_here.specs.Standings.{is_immediate, is_nowhere, is_operation, is_whole, with_here, word_of}
use Rattle.al_check_here.specs.declared.state.AnalyzedHeading.{AnalyzedHeading}
use Rattle.al_check_here.specs.declared.state.BodyRole.{BodyRole}
use Rattle.al_check_here.specs.declared.state.BodyRole.TheVariants as roles
use Rattle.al_check_here.specs.declared.state.CheckState.{CheckState}
use Rattle.al_check_here.specs.declared.state.OpenBody.{OpenBody}
use Rattle.al_check_here.specs.declared.state.OpenObject.{OpenObject}
use Rattle.al_check_reading.specs.Ada.{ada, head_here, subprogram_here, where_open}
use Rattle.al_check_reading.specs.ValuesHere.{range_read, result_from, result_of, selector_read, surroundings, with_range, worded}
use Rattle.al_decl.specs.Defining.{defined}
use Rattle.al_decl.specs.Placing.{body_after, body_placed, has_right_marks}
use Rattle.al_decl.specs.Regions.{in_regions, set_aside, subprogram_entered, with_formals_declared}
use Rattle.al_decl.specs.declared.env.Environment.{Environment}
use Rattle.al_decl_completes.specs.CompletingFound.{completing_found}
use Rattle.al_decl_judged.specs.Profiles.{specification_of}
use Rattle.al_decl_judged.specs.declared.declaration.Declaration.{Declaration}
use Rattle.al_decl_judged.specs.declared.heading.Heading.{Heading}
use Rattle.al_decl_judged.specs.declared.heading.ReturnedPart.{ReturnedPart}
use Rattle.al_decl_judged.specs.declared.heading.ReturnedPart.TheVariants.{NoValue, Value}
use Rattle.al_decl_judged.specs.declared.names.DefiningName.{DefiningName}
use Rattle.al_decl_judged.specs.declared.specification.BodyHead.{BodyHead}
use Rattle.al_decl_judged.specs.declared.specification.BodyHead.TheVariants as heads
use Rattle.al_decl_protected.specs.Bodies.{Named}
use Rattle.al_overload_lookup.specs.Lookups.{looked_up_all}
use Rattle.al_overload_lookup.specs.TextNames.{identifier_names}
use Rattle.al_overload_readings.specs.Operations.{protected_of}
use Rattle.al_overload_values.specs.TermsAt.{denotations_at}
use Rattle.al_query.specs.Reads.{Table}
use Rattle.al_query.specs.declared.answer.UseClause.{UseClause}
use Rattle.al_scope.specs.Places.{Place, entered_construct}
use Rattle.al_scope.specs.Seen.{subtype_seen_at}
use Rattle.al_scope.specs.UnitPlaces.{private_regions}
use Rattle.al_scope.specs.Visible.{innermost}
use Rattle.al_scope.specs.declared.own.OwnText.{OwnText}
use Rattle.al_scope.specs.declared.region.Region.{Region}
use Rattle.al_scope_context.specs.UsesAt.{used_in, uses_at}
use Rattle.al_stmts.specs.Readings.{Read}
use Rattle.al_stmts.specs.Walking.{first_line}
use Rattle.al_tree_grammar.specs.Grammar.{Label, Lexeme}
use Rattle.al_tree_syntax.specs.DeclarationTrees.{CommonTree, CompoundNameTree, SpecificationTree, UseTree, common_tokens, compound_tokens, identifier_token, specification_tokens, use_tokens}
use Rattle.al_tree_syntax.specs.DeclarationTrees.CommonTree.{ObjectDeclaration, TypeDeclaration, SubtypeDeclaration, UseClause as UseItem, PragmaItem}
use Rattle.al_tree_syntax.specs.ExpressionTrees.{ExpressionTree, expression_tokens, name_tokens, simple_tokens}
use Rattle.al_tree_syntax.specs.StatementTrees.{OperationBodiesTree}
use Rattle.al_view.specs.declared.symbol.Symbol.{Symbol}
use Rattle.al_view.specs.declared.types.Component.{Component}
use Rattle.al_view.specs.declared.view.Operation.{Operation}
use Rattle.al_view.specs.declared.view.ProtectedView.{ProtectedView}
use Rattle.al_view.specs.declared.view.SubtypeView.{SubtypeView}
use Rattle.al_view.specs.declared.view.ViewKind.{ViewKind}
use Rattle.al_view_typed.specs.DeclarationTrees.{DeclarationTree}
use Rattle.al_check_bound_laws.proofs.AllLemmas.{All, one_of}
use Rattle.al_check_bound_laws.proofs.SameDeclarations.{Judged, SameParts, Stays, declarations-stay, head-duplicate-same, heading-same, name-ok, object-same, subprogram-same, subtype-same, type-same}
use Rattle.al_check_bound_laws.proofs.SameObjects as objects
use Rattle.al_check_bound_laws.proofs.SameParts as parts
use Rattle.al_check_bound_laws.proofs.SameValues as values
use Rattle.al_check_bound_laws.proofs.SameWalk.{SameReading}

-- what else keeps such a place
pub record Moves (P : Place → Type 0) : Type 0 where
  pub construct : (p : Place) (x : Symbol) → P p → P (in_regions p (p.regions ++ entered_construct x [] p.regions ∷ []))
  pub left : (p : Place) → P p → P (region_left p)
  pub nowhere : P (record { mentioned = []; regions = [] })
  pub mentions : (p : Place) (m : _) → P p → P (record { mentioned = m; regions = p.regions })

module _ (Q : Lexeme → Type 0) (MayName : List ℕ → Type 0) (identifier : (l : Label) → Q (identifier_token l) → MayName l.text) (placed-ok : (x : ExpressionTree) → All Q (simple_tokens x) → All Q (expression_tokens x)) (name-placed : (x : ExpressionTree) → All Q (name_tokens x) → All Q (expression_tokens x))
    (t s : Table) (P : Place → Type 0) (KP : List UnitKey → Type 0) (KO : OwnText → Type 0) (stays : Stays P) (moves : Moves P)
    (inner : (name : List ℕ) → MayName name → (p : Place) → P p → innermost t p.mentioned name p.regions ≡ innermost s p.mentioned name p.regions)
    (denote : (ps : List UnitKey) → KP ps → (p : Place) → P p → (x : ExpressionTree) → All Q (expression_tokens x) → denotations_at t p ps x ≡ denotations_at s p ps x)
    (look : (ps : List UnitKey) → KP ps → (p : Place) → P p → (n : CompoundNameTree) → All Q (compound_tokens n) → looked_up_all t p ps (identifier_names n.first n.selectors) ≡ looked_up_all s p ps (identifier_names n.first n.selectors))
    (seen : (p : Place) → P p → (x : SubtypeView) → subtype_seen_at t p x ≡ subtype_seen_at s p x)
    (privates : (own : OwnText) → KO own → (p : Place) → P p → (private_regions t own p.regions ≡ private_regions s own p.regions) × P (in_regions p (private_regions t own p.regions)))
    (used : (ps : List UnitKey) → KP ps → (p : Place) → P p → (u : UseTree) → All Q (use_tokens u) → P (in_regions p (used_in (uses_at t p ps u) p.regions))) where
  abbrev pub I : CheckState → Type 0
  I h = P h.env.scope × (KP h.unit.packages × KO h.unit.own)

  abbrev Alike : {X : Type 0} → CheckState × X → CheckState × X → Type 0
  Alike a b = (a ≡ b) × I a.0

  parts-of : (h : CheckState) → I h → SameParts (parts_here t h) (parts_here s h) P Q
  parts-of h i = parts.parts-same Q t s P h.unit.packages (denote h.unit.packages i.1.0) placed-ok h.unit.labeller.predefined h.unit.labeller.own h.unit.own.unit

  result-same : (h : CheckState) → I h → (x : ExpressionTree) → All Q (expression_tokens x) → (o : Option SubtypeView) → result_from t h x (word_of h) o ≡ result_from s h x (word_of h) o
  result-same h i x w None = refl
  result-same h i x w (Some of) = values.results Q t s (surroundings h) (denote h.unit.packages i.1.0 h.env.scope i.0) placed-ok of x w (word_of h)

  -- ---- states

  ended-ok : (h : CheckState) → I h → I (ended h)
  ended-ok h i = (moves.nowhere, i.1)

  open-same : (h : CheckState) → I h → (a b : Read CheckState (List DeclarationTree)) → Alike a b → Alike (where_open h a) (where_open h b)
  open-same h i a b e = at (is_nowhere h)
    where
      at : (n : Bool) → Alike (if n then no_place h else a) (if n then no_place h else b)
      at true = (refl, ended-ok h i)
      at false = e

  settled : (h : CheckState) (i : I h) (j k : Judged (Environment × Option DeclarationTree)) → (j ≡ k) × objects.Leaving Q MayName identifier (parts_here t h) (parts_here s h) t s P stays inner (parts-of h i) j → Alike (effect_settled h j) (effect_settled h k)
  settled h i j k e = (ap (effect_settled h) e.0, at j e.1)
    where
      at : (j : Judged (Environment × Option DeclarationTree)) → objects.Leaving Q MayName identifier (parts_here t h) (parts_here s h) t s P stays inner (parts-of h i) j → I (effect_settled h j).0
      at (Ok x) m = (m, i.1)
      at (Err f) m = ended-ok h i

  -- ---- declarations

  uses-kept : (h : CheckState) → I h → (cs : List UseClause) → I (with_uses h cs)
  uses-kept h i cs = one_of I (is_immediate h) (fold with_use h cs) h (more h i cs) i
    where
      more : (h : CheckState) → I h → (cs : List UseClause) → I (fold with_use h cs)
      more h i [] = i
      more h i (c ∷ cs) = more (with_use h c) i cs

  open-declared : (h : CheckState) → I h → (c : CommonTree) → All Q (common_tokens c) → Alike (open_declared t h c) (open_declared s h c)
  open-declared h i (ObjectDeclaration o) w = settled h i _ _ (object-same Q MayName identifier (parts_here t h) (parts_here s h) t s P stays inner (parts-of h i) h.env i.0 o w)
  open-declared h i (TypeDeclaration d) w = settled h i _ _ (type-same Q MayName identifier (parts_here t h) (parts_here s h) t s P stays inner (parts-of h i) h.env i.0 (private_words h d.name.text) d w)
  open-declared h i (SubtypeDeclaration x) w = settled h i _ _ (subtype-same Q MayName identifier (parts_here t h) (parts_here s h) t s P stays inner (parts-of h i) h.env i.0 x w)
  open-declared h i (UseItem u) w =
      (ap (uses_read h) (parts.uses-same Q t s P h.unit.packages (denote h.unit.packages i.1.0) placed-ok (look h.unit.packages i.1.0) h.env.scope i.0 u w), at (uses_at t h.env.scope h.unit.packages u) (used h.unit.packages i.1.0 h.env.scope i.0 u w))
    where
      at : (j : Judged (List UseClause)) → P (in_regions h.env.scope (used_in j h.env.scope.regions)) → I (uses_read h j).0
      at (Ok cs) m = uses-kept (with_regions h (used_in (Ok cs) h.env.scope.regions)) (m, i.1) cs
      at (Err f) m = (moves.nowhere, i.1)
  open-declared h i (PragmaItem p) w = (refl, at (Rattle.al_scope_context.specs.Pragmas.pragma_fault (Rattle.al_check_declared.specs.DeclarationsHere.package_name h) p))
    where
      at : (o : Option Fault) → I (pragma_settled h o).0
      at None = i
      at (Some f) = ended-ok h i

  heading-at : (h : CheckState) → I h → (x : SpecificationTree) → All Q (specification_tokens x) → heading_here t h x ≡ heading_here s h x
  heading-at h i x w = heading-same Q MayName identifier (parts_here t h) (parts_here s h) t s P stays inner (parts-of h i) h.env.scope i.0 x w

  name-at : (h : CheckState) → I h → (x : SpecificationTree) → All Q (specification_tokens x) → MayName (heading_here s h x).name.name
  name-at h i x w = name-ok Q MayName identifier (parts_here t h) (parts_here s h) t s P stays inner (parts-of h i) x w

  whole-declared : (h : CheckState) → I h → (x : SpecificationTree) → All Q (specification_tokens x) → Alike (whole_declared t h x) (whole_declared s h x)
  whole-declared h i x w = (ap (λ k. whole_of h (first_line x) (undotted k)) (heading-at h i x w), at _)
    where
      at : (j : _) → I (own_settled h j).0
      at (Ok y) = i
      at (Err f) = ended-ok h i

  nested-declared : (h : CheckState) → I h → (x : SpecificationTree) → All Q (specification_tokens x) → Alike (nested_declared t h x) (nested_declared s h x)
  nested-declared h i x w = settled h i _ _ (subprogram-same Q MayName identifier (parts_here t h) (parts_here s h) t s P stays inner (parts-of h i) h.env i.0 (first_line x) x w)

  subprogram-here : (h : CheckState) → I h → (x : SpecificationTree) → All Q (specification_tokens x) → Alike (subprogram_here t h x) (subprogram_here s h x)
  subprogram-here h i x w = open-same h i _ _ (at (is_whole h))
    where
      at : (b : Bool) → Alike (if b then whole_declared t h x else nested_declared t h x) (if b then whole_declared s h x else nested_declared s h x)
      at true = whole-declared h i x w
      at false = nested-declared h i x w

  -- ---- heads and stubs

  abbrev Placed : Type 0
  Placed = Environment × (Option DeclarationTree × Symbol)

  abbrev Goes : Judged Placed → Type 0
  Goes (Ok x) = P x.0.scope
  Goes (Err f) = ⊤

  placed-goes : (h : CheckState) → I h → (j : _) → Goes (map_ok (body_after h.env) j)
  placed-goes h i (Ok d) = declarations-stay Q MayName identifier (parts_here t h) (parts_here s h) t s P stays inner (parts-of h i) _ d.1.0.declarations i.0
  placed-goes h i (Err f) = tt

  body-same : (h : CheckState) → I h → (line : ℕ) (o : Option Fault) (head : Heading) → MayName head.name.name → (body_at t h.env line o head ≡ body_at s h.env line o head) × Goes (body_at t h.env line o head)
  body-same h i line o head m =
      (ap (λ d. body_placed h.env line o head (completing_found h.env.uncompleted head.name (specification_of head) true (is_some d))) (head-duplicate-same Q MayName identifier (parts_here t h) (parts_here s h) t s P stays inner (parts-of h i) h.env i.0 head m), placed-goes h i _)

  stub-same : (h : CheckState) → I h → (x : SpecificationTree) → All Q (specification_tokens x) → Alike (stub_here t h x) (stub_here s h x)
  stub-same h i x w =
      let k = heading_here s h x in
      let e = body-same h i (first_line x) (stub_wrong h k) k (name-at h i x w) in
      (ap (stub_of t h (first_line x)) (heading-at h i x w) ∙ ap (stub_settled h k) e.0, at (heading_here t h x) (body_at t h.env (first_line x) (stub_wrong h (heading_here t h x)) (heading_here t h x)) (placed-goes h i _))
    where
      at : (head : Heading) (j : Judged Placed) → Goes j → I (stub_settled h head j).0
      at head (Ok y) m = (m, i.1)
      at head (Err f) m = ended-ok h i

  nested-head : (h : CheckState) → I h → (x : SpecificationTree) → All Q (specification_tokens x) → Alike (nested_head t h x) (nested_head s h x)
  nested-head h i x w =
      let k = heading_here s h x in
      let e = body-same h i (first_line x) None k (name-at h i x w) in
      (ap (head_of t h (first_line x)) (heading-at h i x w) ∙ ap (head_settled h k) e.0, at (heading_here t h x) (body_at t h.env (first_line x) None (heading_here t h x)) (placed-goes h i _))
    where
      at : (head : Heading) (j : Judged Placed) → Goes j → I (head_settled h head j).0
      at head (Ok y) m = (m, i.1)
      at head (Err f) m = ended-ok h i

  operation-head : (h : CheckState) → I h → (x : SpecificationTree) → All Q (specification_tokens x) → Alike (operation_head t h x) (operation_head s h x)
  operation-head h i x w =
      let k = heading_here s h x in (
        ap (operation_of t h (first_line x)) (heading-at h i x w)
            ∙ ap (λ d. operation_settled h k (body_placed h.env (first_line x) None k (completing_found h.env.uncompleted k.name (specification_of k) (not (has_right_marks k)) (is_some d)))) (head-duplicate-same Q MayName identifier (parts_here t h) (parts_here s h) t s P stays inner (parts-of h i) h.env i.0 k (name-at h i x w)),
        at (heading_here t h x) (operation_at t h.env (first_line x) (heading_here t h x)) (placed-goes h i _),
      )
    where
      at : (head : Heading) (j : Judged Placed) → Goes j → I (operation_settled h head j).0
      at head (Ok y) m = (m, i.1)
      at head (Err f) m = ended-ok h i

  own-goes : (unit : List ℕ) (p : Place) → P p → (ds : List Declaration) → P (with_own unit p ds)
  own-goes unit p k [] = k
  own-goes unit p k (d ∷ ds) = own-goes unit (own_mentioned unit p d) (moves.mentions p _ k) ds

  whole-head : (h : CheckState) → I h → (x : SpecificationTree) → All Q (specification_tokens x) → Alike (whole_head t h x) (whole_head s h x)
  whole-head h i x w = (ap (λ k. whole_head_of h (first_line x) (undotted k)) (heading-at h i x w), at (undotted (heading_here t h x)) _)
    where
      at : (head : Heading) (j : _) → I (whole_settled h head j).0
      at head (Ok y) = (own-goes h.unit.own.unit.name h.env.scope i.0 y.1.0.declarations, i.1)
      at head (Err f) = ended-ok h i

  head-same : (h : CheckState) → I h → (x : SpecificationTree) → All Q (specification_tokens x) → Alike (head_here t h x) (head_here s h x)
  head-same h i x w = open-same h i _ _ (at (is_whole h))
    where
      inside : (b : Bool) → Alike (if b then operation_head t h x else nested_head t h x) (if b then operation_head s h x else nested_head s h x)
      inside true = operation-head h i x w
      inside false = nested-head h i x w

      at : (b : Bool) → Alike (if b then whole_head t h x else inner_head t h x) (if b then whole_head s h x else inner_head s h x)
      at true = whole-head h i x w
      at false = inside (is_operation h)

  -- ---- named bodies

  abbrev GoesNamed : Judged Named → Type 0
  GoesNamed (Ok x) = P x.0.scope
  GoesNamed (Err f) = ⊤

  named-goes : (h : CheckState) → I h → (role : BodyRole) (n : DefiningName) (j : Judged Named) → GoesNamed j → I (named_settled h role n j).0
  named-goes h i role n (Ok x) m = (m, i.1)
  named-goes h i role n (Err f) m = ended-ok h i

  unless-goes : (o : Option Fault) (j : Judged Named) → GoesNamed j → GoesNamed (unless o j)
  unless-goes None j k = k
  unless-goes (Some f) (Ok x) k = tt
  unless-goes (Some f) (Err e) k = tt

  named-at-same : (h : CheckState) → I h → (line : ℕ) (n : DefiningName) → MayName n.name → (b : BodyHead) → (Rattle.al_decl_protected.specs.Bodies.named_body t h.env line n b ≡ Rattle.al_decl_protected.specs.Bodies.named_body s h.env line n b) × GoesNamed (Rattle.al_decl_protected.specs.Bodies.named_body t h.env line n b)
  named-at-same h i line n m b = let e = objects.named-same Q MayName identifier (parts_here t h) (parts_here s h) t s P stays inner (parts-of h i) h.env i.0 line n m b in (e.0, at (Rattle.al_decl_protected.specs.Bodies.named_body t h.env line n b) e.1)
    where
      at : (j : Judged Named) → objects.Leaving Q MayName identifier (parts_here t h) (parts_here s h) t s P stays inner (parts-of h i) j → GoesNamed j
      at (Ok x) m = m
      at (Err f) m = tt

  task-head : (h : CheckState) → I h → (n : Label) → Q (identifier_token n) → Alike (where_open h (task_head t h n)) (where_open h (task_head s h n))
  task-head h i n w =
      let e = named-at-same h i (defined n).place.line (defined n) (identifier n w) heads.«Task» in
      open-same h i _ _ (ap (named_settled h roles.Task (defined n)) e.0, named-goes h i roles.Task (defined n) (named_at t h (defined n) heads.«Task») e.1)

  entry-head : (h : CheckState) → I h → (n : Label) (b : ExpressionTree) → Q (identifier_token n) → Alike (where_open h (entry_head t h n b)) (where_open h (entry_head s h n b))
  entry-head h i n b w =
      let e = named-at-same h i (defined n).place.line (defined n) (identifier n w) heads.Entry in
      open-same h i _ _ (ap (λ j. named_settled h roles.Entry (defined n) (unless (barrier_fault_here h b) j)) e.0, named-goes h i roles.Entry (defined n) (unless (barrier_fault_here h b) (named_at t h (defined n) heads.Entry)) (unless-goes (barrier_fault_here h b) (named_at t h (defined n) heads.Entry) e.1))

  -- ---- regions of objects

  declared-goes : (env : Environment) (d : Declaration) → P env.scope → P (Rattle.al_decl.specs.Declaring.with_declaration env d).scope
  declared-goes env d k = stays.declared env.scope d.name d.view k

  operations-go : (env : Environment) (os : List Operation) → P env.scope → P (fold with_operation env os).scope
  operations-go env [] k = k
  operations-go env (o ∷ os) k = operations-go (with_operation env o) os (stays.declared env.scope _ _ k)

  components-go : (v : ProtectedView) (b : Bool) (x : Environment × ℕ) (cs : List Component) → P x.0.scope → P (fold (with_component v b) x cs).0.scope
  components-go v b x [] k = k
  components-go v b x (c ∷ cs) k = components-go v b (with_component v b x c) cs (stays.declared x.0.scope _ _ k)

  region-goes : (env : Environment) (v : ProtectedView) (b : Bool) → P env.scope → P (region_entered env v b).scope
  region-goes env v b k = components-go v b (fold with_operation (Rattle.al_check_declared.specs.ObjectRegions.entered_alone env v.symbol) v.operations, 0) v.components (operations-go _ v.operations (moves.construct env.scope v.symbol k))

  renewed-goes : (h : CheckState) → I h → (b : Bool) (o : Option OpenObject) → I (renewed_in h b o)
  renewed-goes h i b None = i
  renewed-goes h i b (Some o) = (at (protected_of o.view), i.1)
    where
      at : (v : Option ProtectedView) → P (renewed_by h.env b v).scope
      at None = i.0
      at (Some v) = one_of (λ (e : Environment). P e.scope) (has_form b v.components h.env.scope.regions) h.env (entered_anew h.env v b) i.0 (region-goes (record h.env { scope = region_left h.env.scope }) v b (moves.left h.env.scope i.0))

  object-entered : (h : CheckState) → I h → (line : ℕ) (n : Label) (os : OperationBodiesTree) → Q (identifier_token n) → Alike (where_open h (object_entered t h line n os)) (where_open h (object_entered s h line n os))
  object-entered h i line n os w =
      let e = named-at-same h i line (defined n) (identifier n w) heads.Protected in
      open-same h i _ _ (ap (object_settled h os) e.0, at (Rattle.al_decl_protected.specs.Bodies.named_body t h.env line (defined n) heads.Protected) e.1)
    where
      open-by : (g : CheckState) → I g → (v : ViewKind) (o : Option ProtectedView) → I (opened_by g v os o)
      open-by g k v None = k
      open-by g k v (Some o) = (region-goes (Rattle.al_decl.specs.Regions.set_aside g.env) o false k.0, k.1)

      at : (j : Judged Named) → GoesNamed j → I (object_settled h os j).0
      at (Ok x) m = open-by (with_here h x.0) (m, i.1) x.1.1 (protected_of x.1.1)
      at (Err f) m = ended-ok h i

  -- ---- bodies and private parts

  opened-same : (h : CheckState) → I h → (opened t h ≡ opened s h) × I (opened t h)
  opened-same h i = at (is_nowhere h)
    where
      at : (b : Bool) → ((if b then h else with_regions h (private_regions t h.unit.own h.env.scope.regions)) ≡ (if b then h else with_regions h (private_regions s h.unit.own h.env.scope.regions))) × I (if b then h else with_regions h (private_regions t h.unit.own h.env.scope.regions))
      at true = (refl, i)
      at false = let e = privates h.unit.own i.1.1 h.env.scope i.0 in (ap (with_regions h) e.0, (e.1, i.1))

  result-seen : (p : Place) → P p → (r : ReturnedPart) → visible_result t p r ≡ visible_result s p r
  result-seen p k NoValue = refl
  result-seen p k (Value (Ok of)) = ap (λ x. Value (Ok x)) (seen p k of)
  result-seen p k (Value (Err f)) = refl

  formals-go : (h : CheckState) → I h → (env : Environment) → P env.scope → (head : Heading) → P (with_formals_declared env (right_formals head)).scope
  formals-go h i env k head =
      declarations-stay Q MayName identifier (parts_here t h) (parts_here s h) t s P stays inner (parts-of h i) (record env { progress = Rattle.al_decl_judged.specs.Frames.with_formals env.progress (right_formals head) })
      (Rattle.al_decl_judged.specs.Frames.formal_declarations env.progress (right_formals head)) k

  whole-body : (h : CheckState) → I h → (read : AnalyzedHeading) → (whole_body t h read ≡ whole_body s h read) × I (whole_body t h read)
  whole-body h i read = at (is_nowhere h)
    where
      body : (x : Table) (rs : List Region) → CheckState
      body x rs = let g = with_regions h rs in Rattle.al_check_here.specs.BodiesHere.whole_entered g (visible_heading x g.env.scope read)

      at : (b : Bool) → ((if b then h else body t (private_regions t h.unit.own h.env.scope.regions)) ≡ (if b then h else body s (private_regions s h.unit.own h.env.scope.regions))) × I (if b then h else body t (private_regions t h.unit.own h.env.scope.regions))
      at true = (refl, i)
      at false =
          let e = privates h.unit.own i.1.1 h.env.scope i.0 in
          let g = with_regions h (private_regions t h.unit.own h.env.scope.regions) in (
            ap (λ r. Rattle.al_check_here.specs.BodiesHere.whole_entered g (record read { heading = record read.heading { returned = r } })) (result-seen g.env.scope e.1 read.heading.returned) ∙ ap (body s) e.0,
            (formals-go h i (set_aside (record g.env { progress = Rattle.al_decl_judged.specs.Frames.entered g.env.progress })) e.1 read.heading, i.1),
          )

  nested-body : (h : CheckState) → I h → (read : AnalyzedHeading) → I (nested_body h read)
  nested-body h i read =
      let k = one_of I (is_of_object read.role) (renewed h read) h (renewed-goes h i (Rattle.al_decl_judged.specs.Headings.is_function read.heading.returned) h.object) i in
      (formals-go h i (subprogram_entered (renewed_for h read).env read.symbol) (moves.construct (renewed_for h read).env.scope read.symbol k.0) read.heading, k.1)

  body-entered : (h : CheckState) → I h → (body_here t h ≡ body_here s h) × I (body_here t h)
  body-entered h i = at h.pending
    where
      by : (read : AnalyzedHeading) (b : Bool) → ((if b then whole_body t h read else nested_body h read) ≡ (if b then whole_body s h read else nested_body h read)) × I (if b then whole_body t h read else nested_body h read)
      by read true = whole-body h i read
      by read false = (refl, nested-body h i read)

      at : (o : Option AnalyzedHeading) → (read_entered t h o ≡ read_entered s h o) × I (read_entered t h o)
      at None = (refl, i)
      at (Some read) = by read (is_whole h)

  body-left : (h : CheckState) → I h → I (out_of_body h)
  body-left h i = at (last_of h.bodies)
    where
      at : (o : Option OpenBody) → I (out_of_one h o)
      at None = i
      at (Some b) = (one_of P _ h.env.scope (region_left h.env.scope) i.0 (moves.left h.env.scope i.0), i.1)

  block-left : (h : CheckState) → I h → I (out_of_block h)
  block-left h i = at (last_of h.blocks)
    where
      at : (o : _) → I (out_of h o)
      at None = i
      at (Some x) = (moves.left h.env.scope i.0, i.1)

  object-left-ok : (h : CheckState) → I h → I (object_left h)
  object-left-ok h i = at h.object
    where
      at : (o : Option OpenObject) → I (out_of_object h o)
      at None = i
      at (Some o) = (moves.left h.env.scope i.0, i.1)

  range-ok : (h : CheckState) → I h → (j : _) → I (with_range h j)
  range-ok h i (Ok f) = i
  range-ok h i (Err f) = i

  parameter-ok : (h : CheckState) → I h → (l : Label) (r : _) (ws : _) → I (with_parameter h l r ws)
  parameter-ok h i l r ws = one_of I (is_nowhere h) h (with_found h l (Rattle.al_stmts.specs.LoopForms.parameter_bounds r) ws.parameter h.parameter) i (at h.parameter)
    where
      at : (o : _) → I (with_found h l (Rattle.al_stmts.specs.LoopForms.parameter_bounds r) ws.parameter o)
      at None = i
      at (Some f) = (stays.declared h.env.scope _ _ i.0, i.1)

  -- ---- all of it

  pub ada-same : SameReading (ada t) (ada s) I Q
  unfolding ada
  ada-same = record {
    condition = λ h i x w. (ap (worded h) (values.all-values Q t s (surroundings h) (denote h.unit.packages i.1.0 h.env.scope i.0) placed-ok x w (word_of h)).0, i);
    moment = λ h i x w. (ap (worded h) (values.all-values Q t s (surroundings h) (denote h.unit.packages i.1.0 h.env.scope i.0) placed-ok x w (word_of h)).1, i);
    target = λ h i x w. (ap (worded h) (values.all-values Q t s (surroundings h) (denote h.unit.packages i.1.0 h.env.scope i.0) placed-ok x (name-placed x w) (word_of h)).2, i);
    source = λ h i n x wn wx. (ap (worded h) (values.sources Q t s (surroundings h) (denote h.unit.packages i.1.0 h.env.scope i.0) placed-ok n x wn (name-placed n) wx (word_of h)), i);
    call_effect = λ h i x w. (ap (worded h) (values.all-values Q t s (surroundings h) (denote h.unit.packages i.1.0 h.env.scope i.0) placed-ok x (name-placed x w) (word_of h)).3, i);
    result = λ h i x w. (ap (worded h) (result-same h i x w (result_of (last_of h.bodies))), i);
    selector = λ h i x w. (ap (selector_read h) (values.all-values Q t s (surroundings h) (denote h.unit.packages i.1.0 h.env.scope i.0) placed-ok x w (word_of h)).4, i);
    whole = λ h i x w. (values.all-values Q t s (surroundings h) (denote h.unit.packages i.1.0 h.env.scope i.0) placed-ok x w (word_of h)).5;
    choice = λ h i x c w v. values.choices Q t s (surroundings h) (denote h.unit.packages i.1.0 h.env.scope i.0) placed-ok x c w v;
    with_word = λ h i. i;
    loop_entered = λ h i l. (stays.begun _ (defined l) (stays.region h.env.scope i.0), i.1);
    loop_range = λ h i d w. (ap (range_read h) (values.loop-ranges Q t s (surroundings h) (denote h.unit.packages i.1.0 h.env.scope i.0) placed-ok d w (word_of h)), range-ok _ i _);
    with_parameter = parameter-ok;
    block_entered = λ h i. (stays.region h.env.scope i.0, i.1);
    left = block-left;
    declared = λ h i c w. open-same h i _ _ (open-declared h i c w);
    subprogram = subprogram-here;
    stub = λ h i x l w. open-same h i _ _ (stub-same h i x w);
    single_task = λ h i k w. open-same h i _ _ (settled h i _ _ (objects.task-same Q MayName identifier (parts_here t h) (parts_here s h) t s P stays inner (parts-of h i) h.env i.0 k w));
    single_object = λ h i l p w. open-same h i _ _ (settled h i _ _ (objects.protected-same Q MayName identifier (parts_here t h) (parts_here s h) t s P stays inner (parts-of h i) h.env i.0 l.line p w));
    head = head-same;
    task_head = task-head;
    entry_head = λ h i n b w v. entry-head h i n b w;
    body_entered = body-entered;
    body_left = body-left;
    object_entered = λ h i l n os w v. object-entered h i l.line n os w;
    object_left = object-left-ok;
    private_entered = λ h i. let e = opened-same h i in (ap Rattle.al_check_here.specs.PartsHere.private_begun e.0, e.1);
    statements_entered = λ h i. i;
  }
