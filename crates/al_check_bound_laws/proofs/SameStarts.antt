-- The regions at the start of a unit's text, and the units that are mentioned there, are the same under two tables that answer alike of the units round it;
-- and these regions continue parts of these units alone, and open packages that the use clauses told by them name.
use Rattle.std.proofs.Common.{◌≡◌, refl, ◌∙◌, ap, ℕ, Bool, true, false, ◌&&◌, ◌||◌, List, [], ◌∷◌, ◌++◌, Option, Some, if◌then◌else◌}
use Rattle.std.specs.List.{flat_map}
use Rattle.al_base.specs.declared.unit_key.UnitKey.{UnitKey}
use Rattle.al_query.specs.Answers.{context_of, declaration, is_private_of, names_told, own_view_of}
use Rattle.al_base.specs.declared.unit_key.UnitKind.TheVariants.{Body, Decl}
use Rattle.al_view.specs.Symbols.{same_unit}
use Rattle.al_query.specs.Known.{body}
use Rattle.al_query.specs.Reads.{Table}
use Rattle.al_query.specs.declared.query.Property.{Property}
use Rattle.al_query.specs.declared.query.Property.TheVariants.{Completions, Context, IsPrivate, Kind}
use Rattle.al_query.specs.declared.query.Query.TheVariants.{Of}
use Rattle.al_scope.specs.Places.{Place, in_last, with_private_types}
use Rattle.al_scope.specs.UnitPlaces.{ancestor_units, asked_units, at_stub, at_stubs, continued, declaration_parts, entered_as, inward, is_package_view, lineages, library_name, mentioned_names, opened, outward_opened, own_declaration, own_parts, own_uses, part_of, part_uses, private_regions, sees_all, sees_at, some_private, standard_parts, standard_symbol, stub_units, symbol_at, told_types, unit_regions, uses_if_told, view_at, view_symbol, with_clause, with_clauses, with_part_of, withs_of}
use Rattle.al_scope.specs.UseClauses.{package_unit}
use Rattle.al_scope.specs.declared.own.OwnText.{OwnText}
use Rattle.al_scope.specs.declared.region.Region.{Region}
use Rattle.al_scope.specs.declared.region.UnitPart.{UnitPart}
use Rattle.al_scope_context.specs.Contexts.{all_mentioned, is_nothing, library_view, mentioned, packaged, with_mention}
use Rattle.al_view.specs.declared.part.Part.TheVariants as part
use Rattle.al_view.specs.declared.symbol.Symbol.{Symbol}
use Rattle.al_view.specs.declared.view.ViewKind.{ViewKind}
use Rattle.al_check_bound_laws.proofs.AllLemmas.{All, all-append, all-left, all-right}
use Rattle.al_check_bound_laws.proofs.SamePlaces.{flat-same}
use Rattle.al_check_bound_laws.proofs.SameNames.{fold-same}

-- what must be completed is asked of a unit's own declaration alone; any other property of each unit that may be asked
abbrev pub is_plain : Property → Bool
is_plain Completions = false
is_plain _ = true

-- units that may be asked for their properties
module _ (Known : UnitKey → Type 0) (t s : Table) (alike : (u : UnitKey) (p : Property) → is_plain p ≡ true → Known u → t (Of u p) ≡ s (Of u p)) where
  abbrev pub OfKnown : UnitPart → Type 0
  OfKnown p = Known p.unit

  pub part-uses-same : (p : UnitPart) → OfKnown p → part_uses t p ≡ part_uses s p
  part-uses-same p k = ap (λ a. uses_if_told (context_of a) p.part) (alike p.unit Context refl k)

  told-types-same : (p : UnitPart) → OfKnown p → told_types t p ≡ told_types s p
  told-types-same p k = ap names_told (alike p.unit Context refl k)

  pub continued-same : (c : Option Symbol) (ps us : List UnitPart) (rs : List Region) → All OfKnown us → continued t c ps us rs ≡ continued s c ps us rs
  continued-same c ps us rs k =
      let enter = λ (names : List (List ℕ)). in_last (with_private_types names) (rs ++ entered_as c ps rs ∷ []) in
      ap (λ cs. with_clauses cs (enter (flat_map (told_types t) us))) (flat-same OfKnown (part_uses t) (part_uses s) part-uses-same us k)
      ∙ ap (λ names. with_clauses (flat_map (part_uses s) us) (enter names)) (flat-same OfKnown (told_types t) (told_types s) told-types-same us k)

  pub private-same : (us : List UnitKey) → All Known us → some_private t us ≡ some_private s us
  private-same [] k = refl
  private-same (u ∷ us) k =
      ap (λ a. is_private_of a || some_private t us) (alike u IsPrivate refl k.0) ∙ ap (λ b. is_private_of (s (Of u IsPrivate)) || b) (private-same us k.1)

  pub declaration-known : (u : UnitKey) (b : Bool) → Known u → All OfKnown (declaration_parts u b)
  declaration-known u true k = (k, (k, tt))
  declaration-known u false k = (k, tt)

  pub inward-same : (b : Bool) (us : List UnitKey) (rs : List Region) → All Known us → inward t b us rs ≡ inward s b us rs
  inward-same b [] rs k = refl
  inward-same b (a ∷ nearer) rs k =
      let one = λ (x : Bool) (c : Option Symbol). inward t b nearer (continued t c (declaration_parts a (b || x)) (declaration_parts a (b || x)) rs) in
      let ps = declaration_parts a (b || some_private s nearer) in
      ap (λ x. one x (symbol_at t a)) (private-same nearer k.1)
      ∙ ap (λ x. one (some_private s nearer) (view_symbol (own_view_of x))) (alike a Kind refl k.0)
      ∙ ap (inward t b nearer) (continued-same (symbol_at s a) ps ps rs (declaration-known a (b || some_private s nearer) k.0))
      ∙ inward-same b nearer (continued s (symbol_at s a) ps ps rs) k.1

  pub own-parts-known : (u : UnitKey) (b : Bool) → All Known (own_declaration u) → All OfKnown (own_parts u b)
  own-parts-known u b k = at (Rattle.al_scope.specs.UnitPlaces.is_body u) b k
    where
      at : (x y : Bool) → All Known (if x then package_unit u.name ∷ [] else []) → All OfKnown (if x && y then declaration_parts (package_unit u.name) true else [])
      at true true k = (k.0, (k.0, tt))
      at true false k = tt
      at false y k = tt

  pub own-uses-known : (u : UnitKey) (b : Bool) → All Known (own_declaration u) → All OfKnown (own_uses u b)
  own-uses-known u b k = at (Rattle.al_scope.specs.UnitPlaces.is_body u) k
    where
      at : (x : Bool) → All Known (if x then package_unit u.name ∷ [] else []) → All OfKnown (if x then declaration_parts (package_unit u.name) b else [])
      at true k = declaration-known (package_unit u.name) b k.0
      at false k = tt

  abbrev pub StubKnown : UnitPart → Type 0
  StubKnown p = All Known (stub_units p)

  at-stub-same : (p : UnitPart) (v : Option ViewKind) (rs : List Region) → StubKnown p → at_stub t p v rs ≡ at_stub s p v rs
  at-stub-same p v rs k =
      let b = is_package_view v in
      continued-same (view_symbol v) (own_parts p.unit b ++ p ∷ []) (own_uses p.unit b ++ p ∷ []) rs
      (all-append OfKnown (own_uses p.unit b) (p ∷ []) (own-uses-known p.unit b (all-left Known (own_declaration p.unit) (p.unit ∷ []) k)) ((all-right Known (own_declaration p.unit) (p.unit ∷ []) k).0, tt))

  pub at-stubs-same : (ps : List UnitPart) (rs : List Region) → All StubKnown ps → at_stubs t ps rs ≡ at_stubs s ps rs
  at-stubs-same [] rs k = refl
  at-stubs-same (p ∷ ps) rs k =
      ap (λ a. at_stubs t ps (at_stub t p (own_view_of a) rs)) (alike p.unit Kind refl (all-right Known (own_declaration p.unit) (p.unit ∷ []) k.0).0)
      ∙ ap (at_stubs t ps) (at-stub-same p (view_at s p.unit) rs k.0)
      ∙ at-stubs-same ps (at_stub s p (view_at s p.unit) rs) k.1

  -- the units that the place of a text is told by
  pub record RoundKnown (own : OwnText) : Type 0 where
    pub ancestors : All Known (ancestor_units (library_name own))
    pub stubs : All StubKnown own.stubs
    pub declaration : All Known (own_declaration own.unit)

  pub sees-same : (own : OwnText) → RoundKnown own → sees_at t own ≡ sees_at s own
  sees-same own k = ap (λ b. sees_all own || b) (private-same (own_declaration own.unit) k.declaration)

  -- the regions at the start are the same
  pub regions-same : (own : OwnText) (rs : List Region) → RoundKnown own → unit_regions t own rs ≡ unit_regions s own rs
  regions-same own rs k =
      let start = rs ++ entered_as (Some standard_symbol) standard_parts rs ∷ [] in
      let up = ancestor_units (library_name own) in
      let whole = λ (x : List Region). with_clauses own.uses (continued t (Some own.symbol) (own_parts own.unit own.is_package) (own_uses own.unit own.is_package) x) in
      ap (λ b. whole (at_stubs t own.stubs (inward t b up start))) (sees-same own k)
      ∙ ap (λ x. whole (at_stubs t own.stubs x)) (inward-same (sees_at s own) up start k.ancestors)
      ∙ ap whole (at-stubs-same own.stubs (inward s (sees_at s own) up start) k.stubs)
      ∙ ap (with_clauses own.uses) (continued-same (Some own.symbol) (own_parts own.unit own.is_package) (own_uses own.unit own.is_package) (at_stubs s own.stubs (inward s (sees_at s own) up start)) (own-uses-known own.unit own.is_package k.declaration))

  -- and so are those where the ancestors' private parts are seen
  opened-same : (a : UnitKey) (rs : List Region) → Known a → opened t a rs ≡ opened s a rs
  opened-same a rs k =
      ap (λ x. with_clauses (part_uses t (part_of a part.Private)) (with_part_of (view_symbol (own_view_of x)) (part_of a part.Private) rs)) (alike a Kind refl k)
      ∙ ap (λ cs. with_clauses cs (with_part_of (symbol_at s a) (part_of a part.Private) rs)) (part-uses-same (part_of a part.Private) k)

  outward-same : (b : Bool) (us : List UnitKey) (rs : List Region) → All Known us → outward_opened t b us rs ≡ outward_opened s b us rs
  outward-same b [] rs k = refl
  outward-same b (a ∷ nearer) rs k =
      ap (λ x. outward_opened t b nearer (if b || x then rs else opened t a rs)) (private-same nearer k.1)
      ∙ ap (λ x. outward_opened t b nearer (if b || some_private s nearer then rs else x)) (opened-same a rs k.0)
      ∙ outward-same b nearer (if b || some_private s nearer then rs else opened s a rs) k.1

  pub private-regions-same : (own : OwnText) (rs : List Region) → RoundKnown own → private_regions t own rs ≡ private_regions s own rs
  private-regions-same own rs k =
      ap (λ b. outward_opened t b (ancestor_units (library_name own)) rs) (sees-same own k) ∙ outward-same (sees_at s own) (ancestor_units (library_name own)) rs k.ancestors

  -- ---- units that are mentioned

  stub-units-known : (ps : List UnitPart) → All StubKnown ps → All Known (flat_map stub_units ps)
  stub-units-known [] k = tt
  stub-units-known (p ∷ ps) k = all-append Known (stub_units p) (flat_map stub_units ps) k.0 (stub-units-known ps k.1)

  pub names-same : (own : OwnText) → RoundKnown own → mentioned_names t own ≡ mentioned_names s own
  names-same own k =
      let up = ancestor_units (library_name own) in
      let stubs = flat_map stub_units own.stubs in
      ap (λ l. (Rattle.al_unit_graph.specs.Names.lineage (library_name own) ++ lineages own.withs) ++ l)
      (flat-same Known (λ u. lineages (withs_of t u)) (λ u. lineages (withs_of s u)) (λ u m. ap (λ a. lineages (Rattle.al_scope.specs.UnitPlaces.withs_if_told (context_of a))) (alike u Context refl m)) (asked_units own)
      (all-append Known (up ++ stubs) (own_declaration own.unit) (all-append Known up stubs k.ancestors (stub-units-known own.stubs k.stubs)) k.declaration))

  -- of a unit that is mentioned its declaration may be asked, and its body if there is none
  abbrev pub MayMention : List ℕ → Type 0
  MayMention name = Known (declaration name) × (is_nothing (s (Of (declaration name) Kind)) ≡ true → Known (body name))

  pub library-view-same : (name : List ℕ) → MayMention name → library_view t name ≡ library_view s name
  library-view-same name k =
      ap (λ a. own_view_of (t (Of (record { name = name; kind = if is_nothing a then Body else Decl }) Kind))) (alike (declaration name) Kind refl k.0)
      ∙ at (is_nothing (s (Of (declaration name) Kind))) k.1
    where
      at : (b : Bool) → (b ≡ true → Known (body name)) → own_view_of (t (Of (record { name = name; kind = if b then Body else Decl }) Kind)) ≡ own_view_of (s (Of (record { name = name; kind = if b then Body else Decl }) Kind))
      at true m = ap own_view_of (alike (body name) Kind refl (m refl))
      at false m = ap own_view_of (alike (declaration name) Kind refl k.0)

  -- a declaration isn't asked what it is itself
  abbrev pub MayMentionIn : UnitKey → List ℕ → Type 0
  MayMentionIn own name = same_unit own (declaration name) ≡ false → MayMention name

  with-mention-same : (own : UnitKey) (m : Place × List UnitKey) (name : List ℕ) → MayMentionIn own name → with_mention t own m name ≡ with_mention s own m name
  with-mention-same own m name k = at (same_unit own (declaration name)) k
    where
      at : (b : Bool) → (b ≡ false → MayMention name)
          → (if b then m else (mentioned (library_view t name) name m.0, packaged (library_view t name) name m.1)) ≡ (if b then m else (mentioned (library_view s name) name m.0, packaged (library_view s name) name m.1))
      at true f = refl
      at false f = ap (λ (v : Option ViewKind). (mentioned v name m.0, packaged v name m.1)) (library-view-same name (f refl))

  pub mentioned-same : (own : UnitKey) (p : Place × List UnitKey) (names : List (List ℕ)) → All (MayMentionIn own) names → all_mentioned t own p.0 p.1 names ≡ all_mentioned s own p.0 p.1 names
  mentioned-same own p names k = fold-same (MayMentionIn own) (with_mention t own) (with_mention s own) (with-mention-same own) p names k
