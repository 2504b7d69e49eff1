-- How the check of a unit begins is the same under two tables that answer alike of the units that its start asks.
use Rattle.std.proofs.Common.{◌≡◌, refl, ◌∙◌, ap, ℕ, Bool, true, false, ◌&&◌, ◌||◌, List, [], ◌∷◌, ◌++◌, length, map, Option, Some, None, if◌then◌else◌}
use Rattle.std.specs.Bool.{⊤}
use Rattle.std.specs.List.{flat_map}
use Rattle.std.specs.Prelude.{Result, suc, zero}
use Rattle.al_base.specs.declared.unit_key.UnitKey.{UnitKey}
use Rattle.al_base.specs.declared.unit_key.UnitKind.{UnitKind}
use Rattle.al_base.specs.declared.unit_key.UnitKind.TheVariants.{Decl, Body, Sub}
use Rattle.al_base_fault.specs.Faults.{fault_at}
use Rattle.al_base_fault.specs.declared.check_rule.CheckRule.TheVariants.{Duplicate}
use Rattle.al_check_start.specs.Subunits.{next_body, stubs_in}
use Rattle.al_check_start.specs.UnitsAt.{completed_at, declares, has_views, hidden_at, hidden_of, name_fault, named_in, of_library, of_subunit, own_text, own_view, place_at, private_names_of, progress_at, depth_of, start_with, taken_in, waiting}
use Rattle.al_check_start.specs.declared.completed.Completed.{Completed}
use Rattle.al_check_start.specs.declared.unit.UnitStart.{UnitStart}
use Rattle.al_query.specs.Answers.{completions_of, declaration, names_told, own_view_of, parent_of, views_of}
use Rattle.al_query.specs.Known.{body}
use Rattle.al_query.specs.Reads.{Table}
use Rattle.al_query.specs.declared.answer.Completion.{Completion}
use Rattle.al_query.specs.declared.query.Property.{Property}
use Rattle.al_query.specs.declared.query.Property.TheVariants.{Completions, Context as context_property, Kind, Parent}
use Rattle.al_query.specs.declared.query.Query.TheVariants.{Named, Of}
use Rattle.al_query_outcome.specs.Left.{body_named, first_view, last_of, separate}
use Rattle.al_query_outcome.specs.ReadsLaw.{subunit}
use Rattle.al_scope.specs.Places.{Place}
use Rattle.al_scope.specs.Seen.{completions_seen_at, seen_at}
use Rattle.al_scope.specs.UnitPlaces.{ancestor_units, is_subunit, mentioned_names, part_of, standard_unit, unit_regions}
use Rattle.al_scope.specs.declared.own.OwnText.{OwnText}
use Rattle.al_scope.specs.declared.region.UnitPart.{UnitPart}
use Rattle.al_scope.specs.declared.seen_hiding.PrivateName.{PrivateName}
use Rattle.al_scope_context.specs.ContextPragmas.{full_name}
use Rattle.al_scope_context.specs.Contexts.{all_mentioned, mentioned, packaged}
use Rattle.al_scope_context.specs.declared.context.Context.{Context}
use Rattle.al_tree_syntax.specs.UnitTrees.{LibraryItemTree}
use Rattle.al_tree_syntax.specs.UnitTrees.LibraryItemTree.{LibrarySubprogram, LibraryPackage, LibraryBody, LibraryPackageBody, Subunit}
use Rattle.al_unit_graph.specs.Names as names
use Rattle.al_unit_header.specs.Units.{item_name, last_identifier, place_of}
use Rattle.al_view.specs.declared.part.Part.TheVariants as part
use Rattle.al_view.specs.declared.view.ViewKind.{ViewKind}
use Rattle.al_check_bound_laws.proofs.AllLemmas.{All}
use Rattle.al_check_bound_laws.proofs.SameDeclarations.{ap2}
use Rattle.al_check_bound_laws.proofs.SamePlaces.{flat-same}
use Rattle.al_check_bound_laws.proofs.SameStarts as starts

module _ (MayName : List ℕ → Type 0) (Known : UnitKey → Type 0) (t s : Table)
    (alike : (u : UnitKey) (p : Property) → starts.is_plain p ≡ true → Known u → t (Of u p) ≡ s (Of u p))
    (named : (p : UnitPart) (name : List ℕ) → Known p.unit → MayName name → t (Named p.unit p.part name) ≡ s (Named p.unit p.part name))
    (Fit : Place → Type 0) (seen : (p : Place) → Fit p → (v : ViewKind) → seen_at t p v ≡ seen_at s p v) where
  -- ---- what it completes

  pub body-named-same : (name : List ℕ) → Known (body name) → body_named t name ≡ body_named s name
  body-named-same name k = ap (λ a. if Rattle.std.specs.Prelude.is_some (own_view_of a) then body name else subunit name) (alike (body name) Kind refl k)

  -- the bodies round a subunit are known, so many at most
  abbrev pub ChainKnown : ℕ → Option UnitKey → Type 0
  ChainKnown zero o = ⊤
  ChainKnown (suc n) None = ⊤
  ChainKnown (suc n) (Some u) = Known u × ChainKnown n (next_body s u)

  next-same : (u : UnitKey) → Known u → next_body t u ≡ next_body s u
  next-same u k = ap (λ a. if is_subunit u then parent_of a else None) (alike u Parent refl k)

  chain-same : (n : ℕ) (name : List ℕ) (o : Option UnitKey) → ChainKnown n o → stubs_in t n name o ≡ stubs_in s n name o
  chain-same zero name o k = refl
  chain-same (suc n) name None k = refl
  chain-same (suc n) name (Some u) k =
      ap (λ x. stubs_in t n u.name x ++ part_of u (part.Stub (last_of name)) ∷ []) (next-same u k.0)
      ∙ ap (λ l. l ++ part_of u (part.Stub (last_of name)) ∷ []) (chain-same n u.name (next_body s u) k.1)

  pub record ParentKnown (name parent : List ℕ) : Type 0 where
    pub library : Known (body parent)
    pub body_is : Known (body_named s parent)
    pub chain : ChainKnown (length name) (Some (body_named s parent))

  subunit-same : (unit : UnitKey) (parent : List ℕ) → MayName separate → ParentKnown unit.name parent → of_subunit t unit parent ≡ of_subunit s unit parent
  subunit-same unit parent w k =
      let make : UnitKey → Table → List UnitPart → Completed = λ b x stubs. record { view = first_view (views_of (x (Named b (part.Stub (last_of unit.name)) separate))); parent = Some b; stubs = stubs } in
      ap (λ b. make b t (stubs_in t (length unit.name) unit.name (Some b))) (body-named-same parent k.library)
      ∙ ap2 {C = Completed} (λ a l. record { view = first_view (views_of a); parent = Some (body_named s parent); stubs = l }) (named (part_of (body_named s parent) (part.Stub (last_of unit.name))) separate k.body_is w) (chain-same (length unit.name) unit.name (Some (body_named s parent)) k.chain)

  -- what the item of a unit completes is asked of known units
  abbrev pub CompletesKnown : UnitKey → LibraryItemTree → Type 0
  CompletesKnown unit (LibrarySubprogram p x) = ⊤
  CompletesKnown unit (LibraryPackage p l k) = ⊤
  CompletesKnown unit (LibraryBody x b) = Known (declaration unit.name)
  CompletesKnown unit (LibraryPackageBody l k) = Known (declaration unit.name)
  CompletesKnown unit (Subunit l o n x b) = MayName separate × ParentKnown unit.name (full_name n)

  pub completed-same : (unit : UnitKey) (item : LibraryItemTree) → CompletesKnown unit item → completed_at t unit item ≡ completed_at s unit item
  completed-same unit (LibrarySubprogram p x) k = refl
  completed-same unit (LibraryPackage p l b) k = refl
  completed-same unit (LibraryBody x b) k = ap (λ a. of_library (LibraryBody x b) (own_view_of a)) (alike (declaration unit.name) Kind refl k)
  completed-same unit (LibraryPackageBody l b) k = ap (λ a. of_library (LibraryPackageBody l b) (own_view_of a)) (alike (declaration unit.name) Kind refl k)
  completed-same unit (Subunit l o n x b) k = subunit-same unit (full_name n) k.0 k.1

  -- ---- its place, what waits there, what it hides, its name

  pub place-same : (own : OwnText) (v : Option ViewKind) → starts.RoundKnown Known t s alike own → All (starts.MayMentionIn Known t s alike own.unit) (mentioned_names s own) → place_at t own v ≡ place_at s own v
  place-same own v k m =
      let begin = λ (rs : _) (x : Table) (ns : List (List ℕ)). all_mentioned x own.unit (mentioned v own.unit.name (record { mentioned = []; regions = rs })) (packaged v own.unit.name []) ns in
      ap2 (λ rs ns. begin rs t ns) (starts.regions-same Known t s alike own [] k) (starts.names-same Known t s alike own k)
      ∙ starts.mentioned-same Known t s alike own.unit (mentioned v own.unit.name (record { mentioned = []; regions = unit_regions s own [] }), packaged v own.unit.name []) (mentioned_names s own) m

  -- what its declaration leaves to a package body is the same
  abbrev pub CompletionsSame : UnitKey → LibraryItemTree → Type 0
  CompletionsSame unit (LibrarySubprogram p x) = ⊤
  CompletionsSame unit (LibraryPackage p l b) = ⊤
  CompletionsSame unit (LibraryBody x b) = ⊤
  CompletionsSame unit (LibraryPackageBody l b) = t (Of (declaration unit.name) Completions) ≡ s (Of (declaration unit.name) Completions)
  CompletionsSame unit (Subunit l o n x b) = ⊤

  waiting-same : (unit : UnitKey) (item : LibraryItemTree) (v : Option ViewKind) → CompletionsSame unit item → waiting t unit item v ≡ waiting s unit item v
  waiting-same unit (LibrarySubprogram p x) v k = refl
  waiting-same unit (LibraryPackage p l b) v k = refl
  waiting-same unit (LibraryBody x b) v k = refl
  waiting-same unit (LibraryPackageBody l b) v k = ap completions_of k
  waiting-same unit (Subunit l o n x b) v k = refl

  completions-same : (p : Place) → Fit p → (cs : List Completion) → completions_seen_at t p cs ≡ completions_seen_at s p cs
  completions-same p f [] = refl
  completions-same p f (c ∷ cs) = ap2 (λ v l. record { name = c.name; view = v } ∷ l) (seen p f c.view) (completions-same p f cs)

  hidden-same : (kind : UnitKind) (name : List ℕ) → (kind ≡ Decl → All Known (ancestor_units name)) → hidden_of t kind name ≡ hidden_of s kind name
  hidden-same Decl name k = flat-same Known (private_names_of t) (private_names_of s) (λ u m. ap (λ a. map (named_in u) (names_told a)) (alike u context_property refl m)) (ancestor_units name) (k refl)
  hidden-same Body name k = refl
  hidden-same Sub name k = refl

  abbrev pub ParentOf : Option (List ℕ) → Type 0
  ParentOf None = Known standard_unit
  ParentOf (Some p) = Known (declaration p)

  taken-same : (name : List ℕ) → MayName name → (o : Option (List ℕ)) → ParentOf o → taken_in t name o ≡ taken_in s name o
  taken-same name w None k = ap (λ a. has_views (views_of a)) (named (part_of standard_unit part.Visible) name k w)
  taken-same name w (Some p) k = ap2 (λ a b. has_views (views_of a) || has_views (views_of b)) (named (part_of (declaration p) part.Visible) name k w) (named (part_of (declaration p) part.Private) name k w)

  -- of a declaration, or a body that acts as one, its name is asked of its parent
  pub name-same : (unit : UnitKey) (item : LibraryItemTree) (v : Option ViewKind) → (declares item v ≡ true → MayName (last_identifier (item_name item)).text × ParentOf (names.parent_of unit.name)) → name_fault t unit item v ≡ name_fault s unit item v
  name-same unit item v k = at (declares item v) k
    where
      at : (b : Bool) → (b ≡ true → MayName (last_identifier (item_name item)).text × ParentOf (names.parent_of unit.name)) → (if b && taken_in t (last_identifier (item_name item)).text (names.parent_of unit.name) then Some (fault_at (place_of (item_name item)) Duplicate) else None) ≡ (if b && taken_in s (last_identifier (item_name item)).text (names.parent_of unit.name) then Some (fault_at (place_of (item_name item)) Duplicate) else None)
      at true m = let n = m refl in ap (λ b. if b then Some (fault_at (place_of (item_name item)) Duplicate) else None) (taken-same (last_identifier (item_name item)).text n.0 (names.parent_of unit.name) n.1)
      at false m = refl

  -- ---- all of it, for what the unit completes

  pub record WithKnown (unit : UnitKey) (item : LibraryItemTree) (c : Context) (done : Completed) : Type 0 where
    pub completions : CompletionsSame unit item
    pub round : starts.RoundKnown Known t s alike (own_text unit item c done.view done.stubs)
    pub mentions : All (starts.MayMentionIn Known t s alike unit) (mentioned_names s (own_text unit item c done.view done.stubs))
    pub fits : Fit (place_at s (own_text unit item c done.view done.stubs) (own_view unit item)).0
    pub hides : unit.kind ≡ Decl → All Known (ancestor_units unit.name)

  pub with-same : (unit : UnitKey) (item : LibraryItemTree) (c : Context) (done : Completed) → WithKnown unit item c done → start_with t unit item c done ≡ start_with s unit item c done
  with-same unit item c done k =
      let own = own_text unit item c done.view done.stubs in
      let made : Place × List UnitKey → List Completion → List PrivateName → UnitStart = λ pl w h. record { own = own; scope = pl.0; packages = pl.1; progress = progress_at unit item (depth_of item done.view); uncompleted = w; parent = done.parent; view = done.view; hidden = h } in
      ap (λ pl. made pl (completions_seen_at t pl.0 (waiting t unit item done.view)) (hidden_at t own)) (place-same own (own_view unit item) k.round k.mentions)
      ∙ ap2 (λ w h. made (place_at s own (own_view unit item)) w h) (completions-same (place_at s own (own_view unit item)).0 k.fits (waiting t unit item done.view) ∙ ap (completions_seen_at s (place_at s own (own_view unit item)).0) (waiting-same unit item done.view k.completions)) (hidden-same unit.kind unit.name k.hides)
