-- What the declarations of a unit have taken lies in the unit's words, as long as these haven't run out.
use Rattle.std.proofs.Common.{◌≡◌, ◌⊎◌, inl, inr, arith, refl, sym, subst, ℕ, ◌+◌, ◌≤◌, ◌<◌, List, [], ◌∷◌, ◌++◌, Option, Some, None, Ok, Err, is_some}
use Rattle.std.specs.Bool.{⊤}
use Rattle.std.specs.Prelude.{min}
use Rattle.std.proofs.lemmas.Bool.{cases_lt}
use Rattle.al_base_fault.specs.Faults.{earlier}
use Rattle.al_base_fault.specs.Judging.{map_ok, unless}
use Rattle.al_base_fault.specs.declared.fault.Fault.{Fault}
use Rattle.al_decl.specs.Checking.{after, finished, inside, inside_one, inside_type, with_progress, with_scope}
use Rattle.al_decl.specs.Declaring.{with_declaration, with_declarations}
use Rattle.al_decl.specs.Defining.{defined, defining_names}
use Rattle.al_decl.specs.Effects.{after_effect}
use Rattle.al_decl.specs.Heads.{heading_read}
use Rattle.al_decl.specs.Inner.{in_region}
use Rattle.al_decl.specs.Items.{definition_checked, form_checked, private_item, subtype_item_checked}
use Rattle.al_decl.specs.PartReadings.{PartReading}
use Rattle.al_decl.specs.Placing.{head_duplicate, subprogram_after, subprogram_checked, with_awaiting}
use Rattle.al_decl.specs.declared.env.Environment.{Environment}
use Rattle.al_decl_judged.specs.Declaring.{DeclaredTree}
use Rattle.al_decl_judged.specs.Headings.{heading_fault}
use Rattle.al_decl_judged.specs.Objects.{with_object, with_objects}
use Rattle.al_decl_judged.specs.Progressing.{symbol_of, with_all_counted, after_flag, after_object, after_protected, is_library_level, next_data, next_region, type_counted, with_counted, with_region}
use Rattle.al_decl_judged.specs.Subprograms.{right_subprogram}
use Rattle.al_decl_judged.specs.TypeKinds.{with_type}
use Rattle.al_decl_judged.specs.DefiningNames.{names_of}
use Rattle.al_decl_judged.specs.Uncompleted.{with_declared}
use Rattle.al_decl_judged.specs.WordCounts.{after_frame, place_after}
use Rattle.al_decl_judged.specs.declared.declaration.Declaration.{Declaration}
use Rattle.al_decl_judged.specs.declared.heading.Heading.{Heading}
use Rattle.al_decl_judged.specs.declared.names.DefiningName.{DefiningName}
use Rattle.al_decl_judged.specs.declared.names.TypeName.{TypeName}
use Rattle.al_decl_judged.specs.declared.new_object.NewObject.{NewObject}
use Rattle.al_decl_judged.specs.declared.progress.Progress.{Progress}
use Rattle.al_decl_protected.specs.Components.{PrivateTree, components_checked, no_components, private_list}
use Rattle.al_decl_protected.specs.Levels.{level_named}
use Rattle.al_decl_protected.specs.Objects.{Inside as Within, object_effect, object_view, components_inside, inside_checked, inside_of, object_defined, object_end, object_ended, object_leveled, object_placed, protected_checked}
use Rattle.al_decl_protected.specs.Placing.{declares_one, placed}
use Rattle.al_decl_protected.specs.Operations.{Declared, is_entry_tree, operation_added, operation_checked, operation_fault, operations_checked}
use Rattle.al_decl_protected.specs.Operations as operations
use Rattle.al_decl_protected.specs.Tasks.{task_checked, task_effect, task_placed, task_view}
use Rattle.al_query.specs.Reads.{Table}
use Rattle.al_tree_syntax.specs.DeclarationTrees.ObjectFormTree.{TypedObject, NamedNumber}
use Rattle.al_tree_syntax.specs.DeclarationTrees.TypeDefinitionTree.{IntegerDefinition, NullRecordDefinition, PrivateDefinition, EnumerationDefinition, ArrayDefinition, RecordDefinition}
use Rattle.al_tree_syntax.specs.DeclarationTrees.{ObjectFormTree, ProtectedOperationTree, ProtectedTree, SpecificationTree, SubtypeTree, TaskTree, TypeDefinitionTree}
use Rattle.al_view.specs.declared.symbol.Symbol.{Symbol}
use Rattle.al_view.specs.declared.types.TypeView.{TypeView}
use Rattle.al_view.specs.declared.view.Operation.{Operation}
use Rattle.al_view.specs.declared.view.ViewKind.{ViewKind}
use Rattle.al_view_typed.specs.DeclarationTrees.{DeclarationTree as Labelled}
use Rattle.al_view_typed.specs.declared.unit.DataPlace.{DataPlace}
use Rattle.al_view_typed.specs.declared.unit.ProtectedWords.{ProtectedWords}
use Rattle.al_check_promise_laws.proofs.AllLemmas.{All, all-append, one_of}
use Rattle.al_check_promise_laws.proofs.RightLemmas.{Judged, Right, right-next, right-seen, right-unless}

-- ---- what lies in so many words

abbrev pub Begins : ℕ → DataPlace → Type 0
Begins n d = d.word ≤ n

abbrev pub Lies : ℕ → DataPlace → Type 0
Lies n d = d.word + 1 ≤ n

abbrev pub Holds : ℕ → ProtectedWords → Type 0
Holds n r = r.word + r.words ≤ n

abbrev pub Fits : ℕ → Progress → Type 0
Fits n p = All (Begins n) p.objects × All (Lies n) p.flags × All (Holds n) p.protected_objects

-- all lies in the unit's words, or there are no more words
abbrev pub InWords : Progress → Type 0
InWords p = (4294967295 ≤ p.words.data) ⊎ Fits p.words.data p

-- ---- on numbers

wider : (a m n : ℕ) → a ≤ m → m ≤ n → a ≤ n
wider a m n e less = omega (arith, e, less)

grows : (a w b : ℕ) → b ≡ a + w → a ≤ b
grows a w b e = omega (arith, e)

reaches : (b c : ℕ) → b ≡ c → c ≤ b
reaches b c e = omega (arith, e)

past : (taken words : ℕ) → 4294967295 ≤ taken → 4294967295 ≤ min (taken + words) 4294967295
past taken words e = omega (arith, e)

room : (taken words : ℕ) → taken + words < 4294967295 → min (taken + words) 4294967295 ≡ taken + words
room taken words l = omega (arith, l)

no-room : (taken words : ℕ) → 4294967295 ≤ taken + words → 4294967295 ≤ min (taken + words) 4294967295
no-room taken words l = omega (arith, l)

-- ---- more words

module _ (m n : ℕ) (less : m ≤ n) where
  more-begin : (ds : List DataPlace) → All (Begins m) ds → All (Begins n) ds
  more-begin [] a = tt
  more-begin (d ∷ ds) a = (wider d.word m n a.0 less, more-begin ds a.1)

  more-lie : (ds : List DataPlace) → All (Lies m) ds → All (Lies n) ds
  more-lie [] a = tt
  more-lie (d ∷ ds) a = (wider (d.word + 1) m n a.0 less, more-lie ds a.1)

  more-hold : (rs : List ProtectedWords) → All (Holds m) rs → All (Holds n) rs
  more-hold [] a = tt
  more-hold (r ∷ rs) a = (wider (r.word + r.words) m n a.0 less, more-hold rs a.1)

  more-fit : (p : Progress) → Fits m p → Fits n p
  more-fit p f = (more-begin p.objects f.0, more-lie p.flags f.1, more-hold p.protected_objects f.2)

full : (taken words : ℕ) → 4294967295 ≤ taken → 4294967295 ≤ place_after taken words
full taken words e = past taken words e

-- so many words more
abbrev Longer : ℕ → ℕ → Type 0
Longer taken words = (4294967295 ≤ place_after taken words) ⊎ (place_after taken words ≡ taken + words)

longer : (taken words : ℕ) → Longer taken words
longer taken words = at (cases_lt (taken + words) 4294967295)
  where
    at : (taken + words < 4294967295) ⊎ (4294967295 ≤ taken + words) → Longer taken words
    at (inl l) = inr (room taken words l)
    at (inr l) = inl (no-room taken words l)

object-words : (p : Progress) (s : Symbol) (words : ℕ) → InWords p → InWords (after_object p s words)
object-words p s words i =
    one_of InWords (is_library_level p) (record p { words = record p.words { «data» = place_after p.words.data words }; objects = p.objects ++ next_data p s ∷ [] }) (record p { words = after_frame p.words words }) (by i (longer p.words.data words)) i
  where
    by : InWords p → Longer p.words.data words → InWords (record p { words = record p.words { «data» = place_after p.words.data words }; objects = p.objects ++ next_data p s ∷ [] })
    by (inl e) l = inl (full p.words.data words e)
    by (inr f) (inl l) = inl l
    by (inr f) (inr l) =
        let less = grows p.words.data words (place_after p.words.data words) l in
        let m = more-fit p.words.data (place_after p.words.data words) less p f in
        inr (all-append (Begins (place_after p.words.data words)) p.objects (next_data p s ∷ []) m.0 (less, tt), m.1, m.2)

pub flag-words : (p : Progress) (s : Symbol) → InWords p → InWords (after_flag p s)
flag-words p s i = one_of InWords (is_library_level p) (record p { words = record p.words { «data» = place_after p.words.data 1 }; flags = p.flags ++ next_data p s ∷ [] }) (record p { words = after_frame p.words 1 }) (by i (longer p.words.data 1)) i
  where
    by : InWords p → Longer p.words.data 1 → InWords (record p { words = record p.words { «data» = place_after p.words.data 1 }; flags = p.flags ++ next_data p s ∷ [] })
    by (inl e) l = inl (full p.words.data 1 e)
    by (inr f) (inl l) = inl l
    by (inr f) (inr l) =
        let less = grows p.words.data 1 (place_after p.words.data 1) l in
        let m = more-fit p.words.data (place_after p.words.data 1) less p f in
        inr (m.0, all-append (Lies (place_after p.words.data 1)) p.flags (next_data p s ∷ []) m.1 (reaches (place_after p.words.data 1) (p.words.data + 1) l, tt), m.2)

region-words : (p : Progress) (s : Symbol) (words ceiling : ℕ) → InWords p → InWords (with_region p s words ceiling)
region-words p s words ceiling (inl e) = inl (full p.words.data words e)
region-words p s words ceiling (inr f) = by (longer p.words.data words)
  where
    by : Longer p.words.data words → InWords (with_region p s words ceiling)
    by (inl l) = inl l
    by (inr l) =
        let less = grows p.words.data words (place_after p.words.data words) l in
        let m = more-fit p.words.data (place_after p.words.data words) less p f in
        inr (m.0, m.1, all-append (Holds (place_after p.words.data words)) p.protected_objects (next_region p s words ceiling ∷ []) m.2 (reaches (place_after p.words.data words) (p.words.data + words) l, tt))

protected-words : (p : Progress) (s : Symbol) (words ceiling : ℕ) → InWords p → InWords (after_protected p s words ceiling)
protected-words p s words ceiling i = region-words (after_flag p s) s words ceiling (flag-words p s i)

objects-words : (p : Progress) (os : List NewObject) → InWords p → InWords (with_objects p os)
objects-words p [] i = i
objects-words p (o ∷ os) i = objects-words (with_object p o) os (object-words p o.symbol _ i)

type-words : (p : Progress) (n : TypeName) → InWords p → InWords (type_counted p n)
type-words p n i = one_of InWords (is_some n.partial) p (with_counted p n.defining.name) i i

-- ---- declarations

any-right : {X : Type 0} (j : Judged X) → Right (λ (x : X). ⊤) j
any-right (Ok x) = tt
any-right (Err f) = tt

abbrev pub Words : Judged (Environment × Option Labelled) → Type 0
Words j = Right (λ (x : Environment × Option Labelled). InWords x.0.progress) j

declared-same : (env : Environment) (ds : List Declaration) → (with_declarations env ds).progress ≡ env.progress
declared-same env [] = refl
declared-same env (d ∷ ds) = declared-same (with_declaration env d) ds

pub after-words : (env : Environment) (d : Progress × DeclaredTree) → InWords d.0 → InWords (after env d).0.progress
after-words env d i = subst InWords (sym (declared-same (with_progress env (after_effect d.0 d.1.effect)) d.1.declarations)) i

finished-words : (env : Environment) (j : Judged (Progress × DeclaredTree)) → Right (λ (d : Progress × DeclaredTree). InWords d.0) j → Words (finished env j)
finished-words env j r = right-seen (λ (d : Progress × DeclaredTree). InWords d.0) (λ (x : Environment × Option Labelled). InWords x.0.progress) (after env) j r (λ d i. after-words env d i)

-- what is seen of anything
seen-words : {X : Type 0} (see : X → Progress × DeclaredTree) (j : Judged X) → ((x : X) → InWords (see x).0) → Right (λ (d : Progress × DeclaredTree). InWords d.0) (map_ok see j)
seen-words see (Ok x) f = f x
seen-words see (Err e) f = tt

placed-words : (env : Environment) (name : List ℕ) (view : ViewKind) (effect : Labelled) → InWords env.progress → InWords (placed env name view effect).0.progress
placed-words env name view effect i = after-words (with_awaiting env (with_declared env.uncompleted name view)) (env.progress, declares_one name view effect) i

module _ (t : Table) (R : PartReading) (env : Environment) (i : InWords env.progress) where
  pub form-words : (line : ℕ) (names : List DefiningName) (f : ObjectFormTree) → Words (form_checked R t env line names f)
  form-words line names (TypedObject constant type initial) = finished-words (inside env names) _ (seen-words _ _ (λ o. objects-words (with_all_counted env.progress (names_of names)) o.0 i))
  form-words line names (NamedNumber value) = finished-words (inside env names) _ (seen-words _ _ (λ v. i))

  typed-words : (n : TypeName) (literals : List (List ℕ)) (j : Judged (List TypeView)) (e : Environment) → Words (finished e (map_ok (with_type (type_counted env.progress n) n literals) j))
  typed-words n literals j e = finished-words e _ (seen-words (with_type (type_counted env.progress n) n literals) j (λ ts. type-words env.progress n i))

  private-words : (n : TypeName) (o : Option ℕ) → Words (private_item t env n o)
  private-words n (Some words) = typed-words n [] _ (inside_type env n)
  private-words n None = tt

  pub definition-words : (words : Option ℕ) (n : TypeName) (d : TypeDefinitionTree) → Words (definition_checked R t env words n d)
  definition-words words n (IntegerDefinition range) = typed-words n [] _ (inside_type env n)
  definition-words words n NullRecordDefinition = typed-words n [] _ (inside_type env n)
  definition-words words n (PrivateDefinition place) = private-words n words
  definition-words words n (EnumerationDefinition opening literals) = typed-words n (names_of (defining_names literals)) _ (inside_type env n)
  definition-words words n (ArrayDefinition array) = typed-words n [] _ (inside_type env n)
  definition-words words n (RecordDefinition components end) = typed-words n [] _ (inside_type env n)

  pub subtype-words : (s : SubtypeTree) → Words (subtype_item_checked R t env s)
  subtype-words s = finished-words (inside_one env (defined s.name)) _ (seen-words _ _ (λ v. i))

  pub subprogram-words : (line : ℕ) (s : SpecificationTree) → Words (subprogram_checked R t env line s)
  subprogram-words line s = by (heading_read R env.scope s) (earlier (head_duplicate t env (heading_read R env.scope s)) (heading_fault (heading_read R env.scope s)))
    where
      by : (head : Heading) (f : Option Fault) → Words (map_ok (subprogram_after env) (unless f (Ok (right_subprogram env.progress env.uncompleted line head))))
      by head None =
          let d = right_subprogram env.progress env.uncompleted line head in
          after-words (with_awaiting env d.0.1) (d.0.0, d.1) (flag-words (with_counted env.progress head.name.name) (symbol_of env.progress head.name.name) i)
      by head (Some f) = tt

  pub task-words : (k : TaskTree) → Words (task_checked R t env k)
  task-words k = at (level_named R t env (defined k.name) 15 k.aspect)
    where
      at : (j : Judged ℕ) → Words (map_ok (task_placed (inside_one env (defined k.name)) k.opening.line (defined k.name)) j)
      at (Ok level) =
          let n = defined k.name in
          let symbol = symbol_of env.progress n.name in
          let inner = inside_one env n in
          placed-words (with_progress inner (with_counted env.progress n.name)) n.name (task_view symbol level) (task_effect k.opening.line symbol level) i
      at (Err f) = tt

-- the operations of a protected object are counted, and take no words
operation-words : (t : Table) (R : PartReading) (env : Environment) → InWords env.progress → (object : Symbol) (os : List Operation) (o : ProtectedOperationTree) → Right (λ (d : Declared). InWords d.0.progress) (operation_checked R t env object os o)
operation-words t R env i object os o =
    right-unless (λ (d : Declared). InWords d.0.progress) (operation_fault t env (is_entry_tree o) (operations.operation_head R env.scope o) os) (Ok (operation_added env object (is_entry_tree o) (operations.operation_head R env.scope o) os)) i

operations-words : (t : Table) (R : PartReading) (env : Environment) → InWords env.progress → (object : Symbol) (os : List Operation) (more : List ProtectedOperationTree) → Right (λ (d : Declared). InWords d.0.progress) (operations_checked R t env object os more)
operations-words t R env i object os [] = i
operations-words t R env i object os (o ∷ more) =
    right-next (λ (d : Declared). InWords d.0.progress) (λ (d : Declared). InWords d.0.progress) (operation_checked R t env object os o) _ (operation-words t R env i object os o) (λ d k. operations-words t R d.0 k object d.1 more)

module _ (t : Table) (R : PartReading) where
  object-words-in : (env : Environment) → InWords env.progress → (line : ℕ) (n : DefiningName) (symbol : Symbol) (o : ProtectedTree) (ceiling : ℕ) → Words (object_defined R t env line n symbol o ceiling)
  object-words-in env i line n symbol o ceiling =
      right-next (λ (x : Within). InWords x.0) (λ (x : Environment × Option Labelled). InWords x.0.progress) (inside_checked R t env symbol o) (object_ended env line n symbol ceiling o)
      (right-next (λ (d : Declared). InWords d.0.progress) (λ (x : Within). InWords x.0) (operations_checked R t (with_scope env (in_region env.scope)) symbol [] o.operations) (components_inside R t no_components o) (operations-words t R (with_scope env (in_region env.scope)) i symbol [] o.operations)
      (λ d k. within d k (components_checked R t d.0.scope no_components (private_list o.private_part))))
      (λ x k. right-unless (λ (y : Environment × Option Labelled). InWords y.0.progress) (object_end n o.end_name) (Ok (object_placed (with_progress env x.0) line n symbol ceiling x.1))
      (placed-words (with_progress env (after_protected x.0 symbol x.1.private_part.words ceiling)) n.name (object_view symbol ceiling x.1) (object_effect line symbol x.1) (protected-words x.0 symbol x.1.private_part.words ceiling k)))
    where
      within : (d : Declared) → InWords d.0.progress → (j : Judged PrivateTree) → Right (λ (x : Within). InWords x.0) (map_ok (inside_of d) j)
      within d k (Ok c) = k
      within d k (Err f) = tt

  pub protected-words-in : (env : Environment) → InWords env.progress → (line : ℕ) (o : ProtectedTree) → Words (protected_checked R t env line o)
  protected-words-in env i line o =
      let n = defined o.name in
      right-next (λ (x : ℕ). ⊤) (λ (x : Environment × Option Labelled). InWords x.0.progress) (level_named R t env n 30 o.aspect) (object_leveled R t (inside_one env n) line n o) (any-right (level_named R t env n 30 o.aspect))
      (λ level k. object-words-in (with_progress (inside_one env n) (with_counted env.progress n.name)) i line n (symbol_of env.progress n.name) o level)
