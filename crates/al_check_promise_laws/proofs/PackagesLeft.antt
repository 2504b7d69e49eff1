-- A package in which nothing is completed by a body leaves nothing to one.
use Rattle.std.proofs.Common.{◌≡◌, refl, ◌∙◌, true≢false, ℕ, Bool, true, false, ◌||◌, List, [], ◌∷◌, ◌++◌, Option, Some, None, Ok, Err, fold, is_some}
use Rattle.std.specs.List.{list_any}
use Rattle.al_base_fault.specs.declared.fault.Fault.{Fault}
use Rattle.al_check_declared.specs.DeclarationsHere.{declared_here, no_place, open_declared, package_name, parts_here, pragma_settled, private_words, uses_settled, with_regions}
use Rattle.al_check_declared.specs.EnteredHere.{private_here}
use Rattle.al_check_here.specs.Faulty.{effect_settled}
use Rattle.al_check_here.specs.PartsHere.{private_begun, with_use}
use Rattle.al_check_here.specs.Standings.{is_immediate, is_nowhere}
use Rattle.al_check_here.specs.declared.state.CheckState.{CheckState}
use Rattle.al_check_reading.specs.Ada.{ada}
use Rattle.al_decl.specs.Checking.{finished, inside, inside_one, inside_type, with_progress}
use Rattle.al_decl.specs.Declaring.{with_declaration, with_declarations}
use Rattle.al_decl.specs.Defining.{defined, defining_names}
use Rattle.al_decl.specs.Effects.{after_effect}
use Rattle.al_decl.specs.Items.{definition_checked, form_checked, private_item, subtype_item_checked}
use Rattle.al_decl.specs.PartReadings.{PartReading}
use Rattle.al_decl.specs.TypeNames.{type_name}
use Rattle.al_decl.specs.declared.env.Environment.{Environment}
use Rattle.al_decl_judged.specs.Declaring.{DeclaredTree}
use Rattle.al_decl_judged.specs.declared.declaration.Declaration.{Declaration}
use Rattle.al_decl_judged.specs.declared.names.DefiningName.{DefiningName}
use Rattle.al_decl_judged.specs.declared.names.TypeName.{TypeName}
use Rattle.al_decl_judged.specs.declared.progress.Progress.{Progress}
use Rattle.al_query.specs.Reads.{Table}
use Rattle.al_query.specs.declared.answer.UseClause.{UseClause}
use Rattle.al_scope.specs.UnitPlaces.{private_regions}
use Rattle.al_scope_context.specs.Pragmas.{pragma_fault}
use Rattle.al_scope_context.specs.UsesAt.{used_in, uses_at}
use Rattle.al_stmts.specs.Steps.{Part, parts_joined}
use Rattle.al_stmts.specs.Units as units
use Rattle.al_tree_syntax.specs.DeclarationTrees.CommonTree.{ObjectDeclaration, TypeDeclaration, SubtypeDeclaration, UseClause as UseItem, PragmaItem}
use Rattle.al_tree_syntax.specs.DeclarationTrees.DeclarationTree.{CommonDeclaration, SubprogramDeclaration, TaskDeclaration, ProtectedDeclaration}
use Rattle.al_tree_syntax.specs.DeclarationTrees.ObjectFormTree.{TypedObject, NamedNumber}
use Rattle.al_tree_syntax.specs.DeclarationTrees.TypeDefinitionTree.{IntegerDefinition, NullRecordDefinition, PrivateDefinition, EnumerationDefinition, ArrayDefinition, RecordDefinition}
use Rattle.al_tree_syntax.specs.DeclarationTrees.{CommonTree, DeclarationTree, ObjectFormTree, SubtypeTree, TypeDefinitionTree}
use Rattle.al_tree_syntax.specs.UnitTrees.{PackageTree, PrivatePartTree}
use Rattle.al_unit_header.specs.Units.{declarations_of, is_completed_by_body, package_needs_body, has_elaborate_body, private_declarations}
use Rattle.al_view_typed.specs.DeclarationTrees.{DeclarationTree as Labelled}
use Rattle.al_check_promise_laws.proofs.AllLemmas.{one_of}
use Rattle.al_check_promise_laws.proofs.RightLemmas.{Judged, Right}

-- ---- what isn't completed by a body waits for none

abbrev Bare : CheckState × Judged (List Labelled) → Type 0
Bare p = p.0.env.uncompleted ≡ []

declared-same : (env : Environment) (ds : List Declaration) → (with_declarations env ds).uncompleted ≡ env.uncompleted
declared-same env [] = refl
declared-same env (d ∷ ds) = declared-same (with_declaration env d) ds

abbrev Leaves : Judged (Environment × Option Labelled) → Type 0
Leaves j = Right (λ (x : Environment × Option Labelled). x.0.uncompleted ≡ []) j

finished-bare : (env : Environment) (j : Judged (Progress × DeclaredTree)) → env.uncompleted ≡ [] → Leaves (finished env j)
finished-bare env (Ok d) e = declared-same (with_progress env (after_effect d.0 d.1.effect)) d.1.declarations ∙ e
finished-bare env (Err f) e = tt

settled-bare : (h : CheckState) (j : Judged (Environment × Option Labelled)) → Leaves j → Bare (effect_settled h j)
settled-bare h (Ok x) r = r
settled-bare h (Err f) r = refl

module _ (t : Table) (R : PartReading) (env : Environment) (e : env.uncompleted ≡ []) where
  form-bare : (line : ℕ) (names : List DefiningName) (f : ObjectFormTree) → Leaves (form_checked R t env line names f)
  form-bare line names (TypedObject constant type initial) = finished-bare (inside env names) _ e
  form-bare line names (NamedNumber value) = finished-bare (inside env names) _ e

  private-bare : (n : TypeName) (o : Option ℕ) → Leaves (private_item t env n o)
  private-bare n (Some words) = finished-bare (inside_type env n) _ e
  private-bare n None = tt

  definition-bare : (words : Option ℕ) (n : TypeName) (d : TypeDefinitionTree) → Leaves (definition_checked R t env words n d)
  definition-bare words n (IntegerDefinition range) = finished-bare (inside_type env n) _ e
  definition-bare words n NullRecordDefinition = finished-bare (inside_type env n) _ e
  definition-bare words n (PrivateDefinition place) = private-bare n words
  definition-bare words n (EnumerationDefinition opening literals) = finished-bare (inside_type env n) _ e
  definition-bare words n (ArrayDefinition array) = finished-bare (inside_type env n) _ e
  definition-bare words n (RecordDefinition components end) = finished-bare (inside_type env n) _ e

  subtype-bare : (s : SubtypeTree) → Leaves (subtype_item_checked R t env s)
  subtype-bare s = finished-bare (inside_one env (defined s.name)) _ e

uses-bare : (h : CheckState) (us : List UseClause) → (fold with_use h us).env.uncompleted ≡ h.env.uncompleted
uses-bare h [] = refl
uses-bare h (u ∷ us) = uses-bare (with_use h u) us

uses-settled-bare : (h : CheckState) (j : Judged (List UseClause)) → h.env.uncompleted ≡ [] → Bare (uses_settled h j)
uses-settled-bare h (Ok us) e = one_of (λ (g : CheckState). g.env.uncompleted ≡ []) (is_immediate h) (fold with_use h us) h (uses-bare h us ∙ e) e
uses-settled-bare h (Err f) e = refl

pragma-bare : (h : CheckState) (o : Option Fault) → h.env.uncompleted ≡ [] → Bare (pragma_settled h o)
pragma-bare h None e = e
pragma-bare h (Some f) e = refl

common-bare : (t : Table) (h : CheckState) (c : CommonTree) → h.env.uncompleted ≡ [] → Bare (declared_here t h c)
common-bare t h c e = one_of Bare (is_nowhere h) (no_place h) (open_declared t h c) refl (by c)
  where
    by : (c : CommonTree) → Bare (open_declared t h c)
    by (ObjectDeclaration o) = settled-bare h _ (form-bare t (parts_here t h) h.env e o.names.first.line (defining_names o.names) o.form)
    by (TypeDeclaration d) = settled-bare h _ (definition-bare t (parts_here t h) h.env e (private_words h d.name.text) (type_name h.env (defined d.name)) d.definition)
    by (SubtypeDeclaration s) = settled-bare h _ (subtype-bare t (parts_here t h) h.env e s)
    by (UseItem u) = let clauses = uses_at t h.env.scope h.unit.packages u in uses-settled-bare (with_regions h (used_in clauses h.env.scope.regions)) clauses e
    by (PragmaItem p) = pragma-bare h (pragma_fault (package_name h) p) e

-- ---- both parts of a package

neither : (a b : Bool) → (a || b) ≡ false → (a ≡ false) × (b ≡ false)
neither true b e = absurd (true≢false e)
neither false b e = (refl, e)

none-of-both : (xs ys : List DeclarationTree) → list_any is_completed_by_body (xs ++ ys) ≡ false → (list_any is_completed_by_body xs ≡ false) × (list_any is_completed_by_body ys ≡ false)
none-of-both [] ys e = (refl, e)
none-of-both (x ∷ xs) ys e = at (is_completed_by_body x) e (none-of-both xs ys)
  where
    at : (b : Bool) → (b || list_any is_completed_by_body (xs ++ ys)) ≡ false → (list_any is_completed_by_body (xs ++ ys) ≡ false → (list_any is_completed_by_body xs ≡ false) × (list_any is_completed_by_body ys ≡ false)) → ((b || list_any is_completed_by_body xs) ≡ false) × (list_any is_completed_by_body ys ≡ false)
    at true i more = absurd (true≢false i)
    at false i more = more i

module _ (t : Table) where
  abbrev After : CheckState × Part → Type 0
  After p = p.0.env.uncompleted ≡ []

  declaration-bare : (h : CheckState) (d : DeclarationTree) → is_completed_by_body d ≡ false → h.env.uncompleted ≡ [] → After (units.declaration_walked (ada t) h d)
  unfolding ada
  declaration-bare h (CommonDeclaration c) n e = common-bare t h c e
  declaration-bare h (SubprogramDeclaration s) n e = absurd (true≢false n)
  declaration-bare h (TaskDeclaration k) n e = absurd (true≢false n)
  declaration-bare h (ProtectedDeclaration l p) n e = absurd (true≢false n)

  declarations-bare : (h : CheckState) (ds : List DeclarationTree) → list_any is_completed_by_body ds ≡ false → h.env.uncompleted ≡ [] → After (units.declarations_walked (ada t) h ds)
  declarations-bare h [] n e = e
  declarations-bare h (d ∷ ds) n e =
      let m = neither (is_completed_by_body d) (list_any is_completed_by_body ds) n in
      let one = units.declaration_walked (ada t) h d in
      let rest = units.declarations_walked (ada t) one.0 ds in
      let a = declaration-bare h d m.0 e in
      one_of After (is_some one.1.faults.end) one (rest.0, parts_joined one.1 rest.1) a (declarations-bare one.0 ds m.1 a)

  private-bare-walked : (h : CheckState) (o : Option PrivatePartTree) → list_any is_completed_by_body (private_declarations o) ≡ false → h.env.uncompleted ≡ [] → After (units.private_walked (ada t) h o)
  unfolding ada
  private-bare-walked h None n e = e
  private-bare-walked h (Some p) n e = declarations-bare (private_here t h) p.declarations n (one_of (λ (g : CheckState). (private_begun g).env.uncompleted ≡ []) (is_nowhere h) h (with_regions h (private_regions t h.unit.own h.env.scope.regions)) e e)

  pub package-bare : (h : CheckState) (k : PackageTree) → package_needs_body k ≡ false → h.env.uncompleted ≡ [] → (units.package_walked (ada t) h k).0.env.uncompleted ≡ []
  package-bare h k n e =
      let m = none-of-both k.visible (private_declarations k.private_part) (neither (list_any is_completed_by_body (declarations_of k)) (has_elaborate_body k) n).0 in
      let one = units.declarations_walked (ada t) h k.visible in
      let two = units.private_walked (ada t) one.0 k.private_part in
      let a = declarations-bare h k.visible m.0 e in
      one_of After (is_some one.1.faults.end) one (two.0, parts_joined one.1 two.1) a (private-bare-walked one.0 k.private_part m.1 a)
