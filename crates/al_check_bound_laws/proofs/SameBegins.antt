-- How the check of a unit begins, and the walk over its item, are the same within the bounds and under all other units' answers.
use Rattle.std.proofs.Common.{◌≡◌, refl, sym, subst, ◌∙◌, ap, true≢false, ℕ, zero, suc, Bool, true, false, ◌&&◌, ◌||◌, not, List, [], ◌∷◌, ◌++◌, codes, filter, fold, length, map, Option, Some, None, Ok, Err, inl, inr, is_some, if◌then◌else◌}
use Rattle.std.specs.Bool.{⊤}
use Rattle.std.specs.List.{flat_map, last_or, list_all, list_any}
use Rattle.std.specs.Option.{option_map_or, unwrap_or}
use Rattle.std.specs.Prelude.{Result, ◌⊎◌}
use Rattle.std.specs.Str.{bytes_eq}
use Rattle.al_base.specs.declared.unit_key.UnitKey.{UnitKey}
use Rattle.al_base.specs.declared.unit_key.UnitKind.{UnitKind}
use Rattle.al_base.specs.declared.unit_key.UnitKind.TheVariants.{Decl, Sub}
use Rattle.al_base_fault.specs.Judging.{next, unless}
use Rattle.al_base_fault.specs.declared.fault.Fault.{Fault}
use Rattle.al_check.specs.Ada.{standing_of}
use Rattle.al_check_here.specs.declared.state.CheckState.{CheckState}
use Rattle.al_check_reading.specs.Ada.{ada}
use Rattle.al_check_start.specs.Around.{all_open, around, is_in_body, is_surrounded, not_surrounded, opens_mentioned, opens_one_of}
use Rattle.al_check_start.specs.PrivateNames.{names_known}
use Rattle.al_overload_lookup.specs.Lookups.{looked_up_all}
use Rattle.al_overload_lookup.specs.TextNames.{identifier_names}
use Rattle.al_overload_values.specs.TermsAt.{denotations_at}
use Rattle.al_query.specs.declared.answer.AnswerKind.{AnswerKind}
use Rattle.al_query.specs.declared.answer.AnswerKind.TheVariants as answers
use Rattle.al_query.specs.declared.query.Property.{Property}
use Rattle.al_scope.specs.Seen.{seen_at}
use Rattle.al_tree_syntax.specs.ExpressionTrees.{ExpressionTree, expression_tokens, simple_tokens}
use Rattle.al_check_start.specs.Starts.{asked_of, declarations, key, outward, own_mentions, round}
use Rattle.al_check_start.specs.UnitsAt.{completed_at, declares, name_fault, own_text, own_view, place_at, start_after, start_with, unit_at}
use Rattle.al_check_start.specs.declared.completed.Completed.{Completed}
use Rattle.al_check_start.specs.declared.unit.UnitStart.{UnitStart}
use Rattle.al_query.specs.Answers.{context_of, declaration, own_view_of, parent_of}
use Rattle.al_query.specs.Known.{body, has_unit, predefined_units}
use Rattle.al_query.specs.Reads.{Table}
use Rattle.al_query.specs.declared.answer.ContextView.{ContextView}
use Rattle.al_query.specs.declared.answer.UseClause.{UseClause}
use Rattle.al_query.specs.declared.answer.UseClause.TheVariants.{Package, «Type», Operators}
use Rattle.al_query.specs.declared.answer.UseInPart.{UseInPart}
use Rattle.al_query.specs.declared.query.Property.TheVariants.{Context as context_property, Kind, Parent}
use Rattle.al_query.specs.declared.query.Query.TheVariants.{Of}
use Rattle.al_query.proofs.KnownLemmas.{has_unit-first, has_unit-left, has_unit-right}
use Rattle.al_query_outcome.specs.Left.{body_named}
use Rattle.al_query_outcome.specs.ReadsLaw.{own_names, subunit}
use Rattle.al_scope.specs.Places.{Place, encloses}
use Rattle.al_scope.specs.UnitPlaces.{ancestor_units, asked_units, inside as inside_part, is_subunit, lineages, mentioned_names, outermost, part_uses, stands_in, standard_unit, unit_regions, uses_if_told}
use Rattle.al_scope.specs.UseClauses.{package_unit}
use Rattle.al_scope.specs.declared.own.OwnText.{OwnText}
use Rattle.al_scope.specs.declared.region.Region.{Region}
use Rattle.al_scope.specs.declared.region.UnitPart.{UnitPart}
use Rattle.al_scope_context.specs.ContextPragmas.{full_name}
use Rattle.al_scope_context.specs.Contexts.{context_at, library_view, mentioned, packaged, with_mention}
use Rattle.al_scope_context.specs.UsesAt.{all_names}
use Rattle.al_scope_context.specs.declared.context.Context.{Context}
use Rattle.al_stmts.specs.Units.{unit_walked}
use Rattle.al_tree_grammar.specs.Grammar.{Label, Lexeme}
use Rattle.al_tree_grammar.specs.Grammar as g
use Rattle.al_tree_syntax.specs.DeclarationTrees.{CompoundNameTree, SpecificationTree, after as tokens_after, compound_tokens, identifier_token, specification_tokens}
use Rattle.al_tree_syntax.specs.DeclarationTrees.SpecificationTree.{FunctionSpecification, ProcedureSpecification}
use Rattle.al_tree_syntax.specs.Symbols.{Symbol as symbols}
use Rattle.al_tree_syntax.specs.UnitTrees.{CompilationUnitTree, ContextTree, LibraryItemTree, context_tokens, library_item_tokens, private_tokens, tokens_of}
use Rattle.al_tree_syntax.specs.UnitTrees.ContextTree.{WithClause, ContextUse, ContextPragma}
use Rattle.al_tree_syntax.specs.UnitTrees.LibraryItemTree.{LibrarySubprogram, LibraryPackage, LibraryBody, LibraryPackageBody, Subunit}
use Rattle.al_tree_syntax.specs.Words.{labelled}
use Rattle.al_unit_graph.specs.Headers.{Header, Mention, kind_of}
use Rattle.al_unit_graph.specs.Names.{is_without_file, lineage}
use Rattle.al_unit_graph.specs.Names as unit_names
use Rattle.al_unit_header.specs.Units.{context_mentions, designator, form_of, header_of, item_name, last_identifier, mention_of}
use Rattle.al_view.specs.Named.{Declarations}
use Rattle.al_view.specs.Symbols.{same_kind, same_part, same_unit}
use Rattle.al_view.specs.declared.part.Part.TheVariants as part
use Rattle.al_view.specs.declared.view.ViewKind.{ViewKind}
use Rattle.al_view.proofs.SymbolLemmas.{both, same_unit-one}
use Rattle.al_check_bound_laws.proofs.AllLemmas.{All, all-append, all-filter, all-flat, all-left, all-map, all-right}
use Rattle.al_check_bound_laws.proofs.Members.{Among, all-among, has-all}
use Rattle.al_check_bound_laws.proofs.SameBounds as bounds
use Rattle.al_check_bound_laws.proofs.SameContext as contexts
use Rattle.al_check_bound_laws.proofs.SameDeclarations.{ap2}
use Rattle.al_check_bound_laws.proofs.SameNames as names
use Rattle.al_check_bound_laws.proofs.SamePlaces as places
use Rattle.al_check_bound_laws.proofs.SameStart as begins
use Rattle.al_check_bound_laws.proofs.SameStarts as starts
use Rattle.al_check_bound_laws.proofs.SameUnit as units
use Rattle.al_check_bound_laws.proofs.SameUses as uses
use Rattle.al_check_bound_laws.proofs.Spelt.{Spells}

-- two choices by tests that are the same, where what is chosen is
chosen : {X : Type 0} (F : X → Type 0) (x y y' z z' : Bool) (a b e : X) → y ≡ y' → (x ≡ true → y' ≡ true → z ≡ z') → (x ≡ true → y' ≡ true → z' ≡ true → (a ≡ b) × F b) → F e
    → ((if x && (y && z) then a else e) ≡ (if x && (y' && z') then b else e)) × F (if x && (y' && z') then b else e)
chosen F x y y' z z' a b e p q r f = by x y' z' refl refl refl
  where
    whole : (u v w : Bool) → u ≡ x → v ≡ y' → w ≡ z' → ((if u && (v && w) then a else e) ≡ (if u && (v && w) then b else e)) × F (if u && (v && w) then b else e)
    whole true true true i j k = r (sym i) (sym j) (sym k)
    whole true true false i j k = (refl, f)
    whole true false w i j k = (refl, f)
    whole false v w i j k = (refl, f)

    first : (u v : Bool) → u ≡ x → v ≡ y' → (if u && (v && z) then a else e) ≡ (if u && (v && z') then a else e)
    first true true i j = ap (λ w. if w then a else e) (q (sym i) (sym j))
    first true false i j = refl
    first false v i j = refl

    by : (u v w : Bool) → x ≡ u → y' ≡ v → z' ≡ w → ((if x && (y && z) then a else e) ≡ (if x && (y' && z') then b else e)) × F (if x && (y' && z') then b else e)
    by u v w i j k =
        let t = whole x y' z' refl refl refl in
        (ap (λ c. if x && (c && z) then a else e) p ∙ first x y' refl refl ∙ t.0, t.1)

-- what is declared round neither of two places
nowhere : (c d d' : Bool) (K : Type 0) → d ≡ false → ((c || d) ≡ true) ⊎ K → (c || d') ≡ false → K
nowhere true d d' K f k e = absurd (true≢false e)
nowhere false d d' K f (inl i) e = absurd (true≢false (sym i ∙ f))
nowhere false d d' K f (inr k) e = k

all-same : (f f' : UnitKey → Bool) (us : List UnitKey) → All (λ u. f u ≡ f' u) us → list_all f us ≡ list_all f' us
all-same f f' [] a = refl
all-same f f' (u ∷ us) a = ap (λ c. c && list_all f us) a.0 ∙ ap (λ c. f' u && c) (all-same f f' us a.1)

all-tested : {X : Type 0} (F : X → Type 0) (f : X → Bool) → ((x : X) → f x ≡ true → F x) → (xs : List X) → list_all f xs ≡ true → All F xs
all-tested F f g [] h = tt
all-tested F f g (x ∷ xs) h = let k = both (f x) (list_all f xs) h in (g x k.0, all-tested F f g xs k.1)

module _ (T : Table) (unit : UnitKey) (tree : CompilationUnitTree) (ns : List (List ℕ)) (Q : Lexeme → Type 0)
    (spells : Spells Q (bounds.MayName T unit (header_of tree) ns))
    (separate_may : (x : Label) → Q (labelled symbols.Separate x) → bounds.MayName T unit (header_of tree) ns (codes "separate"))
    (told : (n : List ℕ) → list_any (bytes_eq n) (names_known T unit (header_of tree)) ≡ true → bounds.MayName T unit (header_of tree) ns n)
    (spelt : All Q (tokens_of tree)) where
  abbrev h : Header
  h = header_of tree

  abbrev pub t : Table
  t = bounds.t T unit h ns

  abbrev pub s : Table
  s = bounds.s T unit h ns

  abbrev Known : UnitKey → Type 0
  Known u = bounds.Known T unit h ns u

  abbrev MayName : List ℕ → Type 0
  MayName n = bounds.MayName T unit h ns n

  abbrev P : Place → Type 0
  P p = units.P Q MayName spells Known t s (bounds.alike T unit h ns) (bounds.named T unit h ns) p

  abbrev Always : UseClause → Type 0
  Always c = units.Always Q MayName spells Known t s (bounds.alike T unit h ns) (bounds.named T unit h ns) c

  abbrev KP : List UnitKey → Type 0
  KP ps = (u : UnitKey) → has_unit ps u ≡ true → Known u × Known (package_unit u.name)

  item-spelt : All Q (library_item_tokens tree.item)
  unfolding tokens_of
  item-spelt = all-right Q (g.each context_tokens tree.context) (library_item_tokens tree.item) spelt

  context-spelt : All Q (g.each context_tokens tree.context)
  unfolding tokens_of
  context-spelt = all-left Q (g.each context_tokens tree.context) (library_item_tokens tree.item) spelt

  predefined : (name : List ℕ) → is_without_file name ≡ true → Known (package_unit name)
  predefined name e = among (map' name e)
    where
      among : Among predefined_units (package_unit name) → Known (package_unit name)
      among k = bounds.predefined-known T unit h ns (package_unit name) k

      map' : (n : List ℕ) → is_without_file n ≡ true → Among predefined_units (package_unit n)
      map' n i = places.told-name (λ m. Among predefined_units (package_unit m)) n (codes "standard" ∷ codes "ada" ∷ codes "ada.real_time" ∷ codes "ada.text_io" ∷ []) (refl, (refl, (refl, (refl, tt)))) i

  standard-known : Known standard_unit
  standard-known = bounds.predefined-known T unit h ns standard_unit refl

  -- ---- the source is the unit's own

  module _ (same : same_unit unit (key h.name (kind_of h.form)) ≡ true) (apart : has_unit (own_mentions h) unit ≡ false) where
    is-unit : unit ≡ key h.name (kind_of h.form)
    is-unit = same_unit-one unit (key h.name (kind_of h.form)) same

    -- a unit that is mentioned isn't the unit itself
    other-than : (u : UnitKey) → Among (own_mentions h) u → same_unit unit u ≡ false
    other-than u k = at (same_unit unit u) refl
      where
        at : (c : Bool) → same_unit unit u ≡ c → c ≡ false
        at true e = absurd (true≢false (sym (subst (λ (v : UnitKey). Among (own_mentions h) v) (sym (same_unit-one unit u e)) k) ∙ apart))
        at false e = refl

    -- ---- the context clause

    abbrev May : List ℕ → Type 0
    May name = starts.MayMention Known t s (bounds.alike T unit h ns) name

    may-own : (name : List ℕ) → Among (own_mentions h) (declaration name) → May name
    may-own name k = bounds.may-own T unit h ns name k (other-than (declaration name) k)

    lineage-may : (names : List (List ℕ)) → ((u : UnitKey) → Among (map declaration names) u → Among (own_mentions h) u) → All May names
    lineage-may [] f = tt
    lineage-may (n ∷ names) f = (may-own n (f (declaration n) (has_unit-first (declaration n) (map declaration names))), lineage-may names (λ u k. f u (has_unit-right (declaration n ∷ []) (map declaration names) u k)))

    abbrev WithOk : CompoundNameTree → Type 0
    WithOk n = All May (lineage (full_name n))

    abbrev units_of : List Mention → List UnitKey
    units_of ms = flat_map (λ m. declarations m.name) ms

    -- the names of a with clause, before the others
    withs-ok : (names rest : List CompoundNameTree) → ((u : UnitKey) → Among (units_of (map mention_of (names ++ rest))) u → Among (own_mentions h) u)
        → All WithOk names × ((u : UnitKey) → Among (units_of (map mention_of rest)) u → Among (own_mentions h) u)
    withs-ok [] rest f = (tt, f)
    withs-ok (n ∷ names) rest f =
        let more = withs-ok names rest (λ u k. f u (has_unit-right (declarations (full_name n)) (units_of (map mention_of (names ++ rest))) u k)) in
        ((lineage-may (lineage (full_name n)) (λ u k. f u (has_unit-left (declarations (full_name n)) (units_of (map mention_of (names ++ rest))) u k)), more.0), more.1)

    abbrev ItemOk : ContextTree → Type 0
    ItemOk (WithClause n) = All WithOk (all_names n)
    ItemOk (ContextUse u) = ⊤
    ItemOk (ContextPragma p) = ⊤

    items-ok : (is : List ContextTree) → ((u : UnitKey) → Among (units_of (map mention_of (flat_map context_mentions is))) u → Among (own_mentions h) u) → All ItemOk is
    items-ok [] f = tt
    items-ok (WithClause n ∷ is) f = let w = withs-ok (all_names n) (flat_map context_mentions is) f in (w.0, items-ok is w.1)
    items-ok (ContextUse u ∷ is) f = (tt, items-ok is f)
    items-ok (ContextPragma p ∷ is) f = (tt, items-ok is f)

    among-own : (u : UnitKey) → Among (units_of (map mention_of (flat_map context_mentions tree.context))) u → Among (own_mentions h) u
    unfolding header_of
    among-own u k = k

    context-ok : All ItemOk tree.context
    context-ok = items-ok tree.context among-own

    abbrev RegionFits : Region → Type 0
    RegionFits r = units.RegionOk Q MayName spells Known t s (bounds.alike T unit h ns) (bounds.named T unit h ns) r

    bare : (p : Place) → All contexts.Bare p.regions → P p
    bare p a = each p.regions a
      where
        each : (rs : List Region) → All contexts.Bare rs → All RegionFits rs
        each [] k = tt
        each (r ∷ rs) k = ((subst (All (λ (p : UnitPart). Known p.unit)) (sym k.0.parts) tt, (subst (All (places.UseOk (λ (p : UnitPart). Known p.unit) MayName t s (bounds.named T unit h ns))) (sym k.0.uses) tt, subst (All MayName) (sym k.0.private_types) tt)), each rs k.1)

    -- what is opened among regions of no unit opens what may be asked anywhere
    always : (rs : List Region) → All contexts.Bare rs → (c : UseClause) → uses.Opened Known predefined rs c → Always c
    always rs a (Package u) k = λ rs' e. k
    always rs a («Type» x) k =
        λ rs' e. nowhere (not (same_kind x.unit.kind Decl)) (encloses x.unit rs) (encloses x.unit rs') (Known (package_unit x.unit.name)) (contexts.encloses-none x.unit rs a) k e
    always rs a (Operators x types) k = λ rs'. tt

    denotes : (ps : List UnitKey) → KP ps → (p : Place) → P p → (x : ExpressionTree) → All Q (expression_tokens x) → denotations_at t p ps x ≡ denotations_at s p ps x
    denotes = units.denote Q MayName spells Known t s (bounds.alike T unit h ns) (bounds.named T unit h ns)

    looks : (ps : List UnitKey) → KP ps → (p : Place) → P p → (n : CompoundNameTree) → All Q (compound_tokens n) → looked_up_all t p ps (identifier_names n.first n.selectors) ≡ looked_up_all s p ps (identifier_names n.first n.selectors)
    looks = units.look Q MayName spells Known t s (bounds.alike T unit h ns) (bounds.named T unit h ns)

    places-ok : (x : ExpressionTree) → All Q (simple_tokens x) → All Q (expression_tokens x)
    places-ok = units.simple-ok Q MayName spells Known t s (bounds.alike T unit h ns) (bounds.named T unit h ns)

    abbrev C : Context → Type 0
    C c = contexts.C Q Known t s (bounds.alike T unit h ns) P bare same_unit-one predefined Always always c

    -- ---- what the item completes, its name, and what it shows of itself

    abbrev headed : LibraryItemTree → Header
    headed item = header_of (record { context = tree.context; item = item })

    abbrev NamedKnown : LibraryItemTree → Type 0
    NamedKnown item = (u : UnitKey) → Among (own_names (headed item) (headed item).parent_body) u → Known u

    named-known : NamedKnown tree.item
    named-known = bounds.own-names-known T unit h ns

    kind-is : unit.kind ≡ kind_of (form_of tree.item)
    unfolding header_of
    kind-is = ap (λ (u : UnitKey). u.kind) is-unit

    name-is : unit.name ≡ h.name
    name-is = ap (λ (u : UnitKey). u.name) is-unit

    seen : (p : Place) → P p → (v : ViewKind) → seen_at t p v ≡ seen_at s p v
    seen p a v = names.seen-same (λ (q : UnitPart). Known q.unit) MayName t s (bounds.named T unit h ns) p a v

    abbrev ChainKnown : ℕ → Option UnitKey → Type 0
    ChainKnown n o = begins.ChainKnown MayName Known t s (bounds.alike T unit h ns) (bounds.named T unit h ns) P seen n o

    others-asked : (u : UnitKey) (p : Property) → s (Of u p) ≡ asked_of s unit u p
    others-asked u p = at (same_unit unit u)
      where
        at : (c : Bool) → (let a : AnswerKind = if c then answers.Nothing else T (Of u p) in a) ≡ (if c then answers.Nothing else (if c then answers.Nothing else T (Of u p)))
        at true = refl
        at false = refl

    chain : (n : ℕ) (o : Option UnitKey) → All Known (outward s unit n o) → ChainKnown n o
    chain zero o k = tt
    chain (suc n) None k = tt
    chain (suc n) (Some u) k = (k.0, at (is_subunit u) (λ i. chain n (parent_of (s (Of u Parent))) (subst (λ a. All Known (outward s unit n (parent_of a))) (sym (others-asked u Parent)) k.1)))
      where
        none : (m : ℕ) → ChainKnown m None
        none zero = tt
        none (suc m) = tt

        at : (c : Bool) → (c ≡ true → ChainKnown n (parent_of (s (Of u Parent)))) → ChainKnown n (if c then parent_of (s (Of u Parent)) else None)
        at true f = f refl
        at false f = none n

    body-known : (parent : List ℕ) → Known (body parent) → Known (subunit parent) → Known (body_named s parent)
    body-known parent k l = at (is_some (own_view_of (s (Of (body parent) Kind))))
      where
        at : (c : Bool) → Known (if c then body parent else subunit parent)
        at true = k
        at false = l

    abbrev CompletesKnown : LibraryItemTree → Type 0
    CompletesKnown item = begins.CompletesKnown MayName Known t s (bounds.alike T unit h ns) (bounds.named T unit h ns) P seen unit item

    completes-by : (item : LibraryItemTree) → unit.name ≡ (headed item).name → NamedKnown item → All Known (round s unit (headed item) (headed item).parent_body) → All Q (library_item_tokens item) → CompletesKnown item
    unfolding header_of
    completes-by (LibrarySubprogram p x) n f r w = tt
    completes-by (LibraryPackage p l k) n f r w = tt
    completes-by (LibraryBody x b) n f r w =
        let m = (headed (LibraryBody x b)).name in
        subst (λ (m : List ℕ). Known (declaration m)) (sym n) (f (declaration m) (has_unit-first (declaration m) (option_map_or (λ p. declaration p ∷ []) (unit_names.parent_of m) [])))
    completes-by (LibraryPackageBody l k) n f r w =
        let m = (headed (LibraryPackageBody l k)).name in
        subst (λ (m : List ℕ). Known (declaration m)) (sym n) (f (declaration m) (has_unit-first (declaration m) (option_map_or (λ p. declaration p ∷ []) (unit_names.parent_of m) [])))
    completes-by (Subunit l o m x b) n f r w =
        let first = f (body (full_name m)) (has_unit-first (body (full_name m)) (subunit (full_name m) ∷ [])) in
        let second = f (subunit (full_name m)) (has_unit-right (body (full_name m) ∷ []) (subunit (full_name m) ∷ []) (subunit (full_name m)) (has_unit-first (subunit (full_name m)) [])) in (
          separate_may l w.0,
          record {
            library = first;
            body_is = body-known (full_name m) first second;
            chain = subst (λ (k : List ℕ). ChainKnown (length k) (Some (body_named s (full_name m)))) (sym n)
                (chain (length (headed (Subunit l o m x b)).name) (Some (body_named s (full_name m)))
                (subst (λ a. All Known (outward s unit (length (headed (Subunit l o m x b)).name) (Some (if is_some (own_view_of a) then body (full_name m) else subunit (full_name m))))) (sym (others-asked (body (full_name m)) Kind)) r));
          },
        )

    completes : CompletesKnown tree.item
    completes = completes-by tree.item name-is named-known (bounds.round-known T unit h ns) item-spelt

    abbrev CompletionsSame : LibraryItemTree → Type 0
    CompletionsSame item = begins.CompletionsSame MayName Known t s (bounds.alike T unit h ns) (bounds.named T unit h ns) P seen unit item

    completions-by : (item : LibraryItemTree) → CompletesKnown item → CompletionsSame item
    completions-by (LibrarySubprogram p x) k = tt
    completions-by (LibraryPackage p l b) k = tt
    completions-by (LibraryBody x b) k = tt
    completions-by (LibraryPackageBody l b) k = bounds.completions T unit h ns k
    completions-by (Subunit l o m x b) k = tt

    -- a package is mentioned in itself
    own-packages : (item : LibraryItemTree) → unit.kind ≡ kind_of (form_of item) → KP (packaged (own_view unit item) unit.name [])
    own-packages (LibrarySubprogram p x) e = λ u i. absurd (true≢false (sym i))
    own-packages (LibraryPackage p l k) e =
        contexts.packaged-known Q Known t s (bounds.alike T unit h ns) P bare same_unit-one predefined Always always (own_view unit (LibraryPackage p l k)) unit.name []
        (subst Known (ap (λ (j : UnitKind). key unit.name j) e) (bounds.own-known T unit h ns)) (λ u i. absurd (true≢false (sym i)))
    own-packages (LibraryBody x b) e = λ u i. absurd (true≢false (sym i))
    own-packages (LibraryPackageBody l k) e = λ u i. absurd (true≢false (sym i))
    own-packages (Subunit l o m x b) e = λ u i. absurd (true≢false (sym i))

    -- the last identifier of a name is one of its lexemes
    last-later : (ls : List Label) (l m : Label) → Q (identifier_token m) → All Q (tokens_after symbols.Dot ls) → MayName (unwrap_or (last_or (Some m) ls) l).text
    last-later [] l m q w = spells.identifier m q
    last-later (k ∷ ls) l m q w = last-later ls l k w.1.0 w.1.1

    last-by : (ls : List Label) (l : Label) → Q (identifier_token l) → All Q (tokens_after symbols.Dot ls) → MayName (unwrap_or (last_or None ls) l).text
    last-by [] l q w = spells.identifier l q
    last-by (k ∷ ls) l q w = last-later ls l k w.1.0 w.1.1

    last-may : (n : CompoundNameTree) → All Q (compound_tokens n) → MayName (last_identifier n).text
    last-may n w = last-by n.selectors n.first w.0 w.1

    specified-may : (x : SpecificationTree) → All Q (specification_tokens x) → MayName (last_identifier (designator x)).text
    specified-may (ProcedureSpecification l n f) w = last-may n (all-left Q (compound_tokens n) _ w.1)
    specified-may (FunctionSpecification l n f r m) w = last-may n (all-left Q (compound_tokens n) _ w.1)

    abbrev ParentOf : Option (List ℕ) → Type 0
    ParentOf o = begins.ParentOf MayName Known t s (bounds.alike T unit h ns) (bounds.named T unit h ns) P seen o

    -- the parent that the name of a library unit has
    parent-by : (decl : List UnitKey) (o : Option (List ℕ)) → ((u : UnitKey) → Among (decl ++ option_map_or (λ p. declaration p ∷ []) o []) u → Known u) → ParentOf o
    parent-by decl None f = standard-known
    parent-by decl (Some p) f = f (declaration p) (has_unit-right decl (declaration p ∷ []) (declaration p) (has_unit-first (declaration p) []))

    name-by : (item : LibraryItemTree) (v : Option ViewKind) → unit.name ≡ (headed item).name → NamedKnown item → All Q (library_item_tokens item) → declares item v ≡ true
        → MayName (last_identifier (item_name item)).text × ParentOf (unit_names.parent_of unit.name)
    unfolding header_of
    name-by (LibrarySubprogram p x) v n f w d =
        (specified-may x (all-left Q (specification_tokens x) _ (all-right Q (private_tokens p) _ w)), subst (λ (m : List ℕ). ParentOf (unit_names.parent_of m)) (sym n) (parent-by [] (unit_names.parent_of (headed (LibrarySubprogram p x)).name) f))
    name-by (LibraryPackage p l k) v n f w d =
        (last-may k.name (all-left Q (compound_tokens k.name) _ (all-right Q (private_tokens p) _ w).1), subst (λ (m : List ℕ). ParentOf (unit_names.parent_of m)) (sym n) (parent-by [] (unit_names.parent_of (headed (LibraryPackage p l k)).name) f))
    name-by (LibraryBody x b) v n f w d =
        (specified-may x (all-left Q (specification_tokens x) _ w), subst (λ (m : List ℕ). ParentOf (unit_names.parent_of m)) (sym n) (parent-by (declaration (headed (LibraryBody x b)).name ∷ []) (unit_names.parent_of (headed (LibraryBody x b)).name) f))
    name-by (LibraryPackageBody l k) v n f w d = absurd (true≢false (sym d))
    name-by (Subunit l o m x b) v n f w d = absurd (true≢false (sym d))

    -- the declaration of a library unit is in the regions of that unit's ancestors
    hides-by : (item : LibraryItemTree) → unit.kind ≡ kind_of (form_of item) → unit.kind ≡ Decl → (completed_at s unit item).stubs ≡ []
    hides-by (LibrarySubprogram p x) e d = refl
    hides-by (LibraryPackage p l k) e d = refl
    hides-by (LibraryBody x b) e d = refl
    hides-by (LibraryPackageBody l k) e d = refl
    hides-by (Subunit l o m x b) e d = absurd (sub-decl (sym e ∙ d))
      where
        sub-decl : Sub ≡ Decl → ⊥
        sub-decl i = cc

    -- ---- after the context clause

    -- the walk over the item is the same from a start
    abbrev Walks : Result UnitStart Fault → Type 0
    Walks (Ok x) = (d : Declarations) → unit_walked (ada t) (standing_of d tree x) tree.item ≡ unit_walked (ada s) (standing_of d tree x) tree.item
    Walks (Err f) = ⊤

    abbrev Alike : Result UnitStart Fault → Result UnitStart Fault → Type 0
    Alike a b = (a ≡ b) × Walks b

    module _ (c : Context) (fine : C c) where
      abbrev done : Completed
      done = completed_at s unit tree.item

      abbrev own : OwnText
      own = own_text unit tree.item c done.view done.stubs

      abbrev asked : List UnitKey
      asked = asked_units own

      abbrev start : Table → UnitStart
      start x = start_with x unit tree.item c done

      -- where it is in a body, and each unit that encloses it is there
      module _ (inside : is_in_body own.unit own.stubs ≡ true) (there : list_all (has_unit (around s unit h)) asked ≡ true) where
        abbrev MayIn : List ℕ → Type 0
        MayIn n = starts.MayMentionIn Known t s (bounds.alike T unit h ns) own.unit n

        withs-in : All MayIn (lineages own.withs)
        withs-in = by own.withs fine.1.1.1
          where
            weaken : (names : List (List ℕ)) → All May names → All MayIn names
            weaken [] a = tt
            weaken (n ∷ names) a = ((λ e. a.0), weaken names a.1)

            by : (us : List UnitKey) → All (contexts.WithMay Q Known t s (bounds.alike T unit h ns) P bare same_unit-one predefined Always always) us → All MayIn (lineages us)
            by us a = all-flat (contexts.WithMay Q Known t s (bounds.alike T unit h ns) P bare same_unit-one predefined Always always) MayIn (λ u. lineage u.name) (λ u k. weaken (lineage u.name) k) us a

        may-in : All MayIn (mentioned_names s own)
        may-in = bounds.mentions-known T unit h ns own refl inside there withs-in

        place-is : place_at t own (own_view unit tree.item) ≡ place_at s own (own_view unit tree.item)
        place-is = begins.place-same MayName Known t s (bounds.alike T unit h ns) (bounds.named T unit h ns) P seen own (own_view unit tree.item) (bounds.round-all T unit h ns own refl inside there) may-in

        abbrev placed : Place × List UnitKey
        placed = place_at s own (own_view unit tree.item)

        -- the packages that are mentioned there may be asked
        mentioned-packages : (names : List (List ℕ)) → All MayIn names → (m : Place × List UnitKey) → KP m.1 → KP (fold (with_mention s own.unit) m names).1
        mentioned-packages [] a m k = k
        mentioned-packages (n ∷ names) a m k = mentioned-packages names a.1 (with_mention s own.unit m n) (at (same_unit own.unit (declaration n)) a.0)
          where
            at : (b : Bool) → (b ≡ false → starts.MayMention Known t s (bounds.alike T unit h ns) n) → KP (if b then m else (mentioned (library_view s n) n m.0, packaged (library_view s n) n m.1)).1
            at true f = k
            at false f = contexts.packaged-known Q Known t s (bounds.alike T unit h ns) P bare same_unit-one predefined Always always (library_view s n) n m.1 (f refl).0 k

        packages-known : KP placed.1
        packages-known = mentioned-packages (mentioned_names s own) may-in _ (own-packages tree.item kind-is)

        -- and mentions change no region
        mentioned-regions : (names : List (List ℕ)) (m : Place × List UnitKey) → (fold (with_mention s own.unit) m names).0.regions ≡ m.0.regions
        mentioned-regions [] m = refl
        mentioned-regions (n ∷ names) m = mentioned-regions names (with_mention s own.unit m n) ∙ at (same_unit own.unit (declaration n)) (library_view s n)
          where
            at : (b : Bool) (v : Option ViewKind) → (if b then m else (mentioned v n m.0, packaged v n m.1)).0.regions ≡ m.0.regions
            at true v = refl
            at false None = refl
            at false (Some v) = refl

        own-regions : (v : Option ViewKind) (p : Place) → (mentioned v unit.name p).regions ≡ p.regions
        own-regions None p = refl
        own-regions (Some v) p = refl

        placed-regions : placed.0.regions ≡ unit_regions s own []
        placed-regions = mentioned-regions (mentioned_names s own) _ ∙ own-regions (own_view unit tree.item) (record { mentioned = []; regions = unit_regions s own [] })

        open-same : list_all (opens_mentioned t (start t).packages) asked ≡ list_all (opens_mentioned s (start s).packages) asked
        open-same =
            ap (λ (pl : Place × List UnitKey). list_all (opens_mentioned t pl.1) asked) place-is
            ∙ all-same (opens_mentioned t placed.1) (opens_mentioned s placed.1) asked (each asked (all-among asked asked (λ u k. k)))
          where
            each : (us : List UnitKey) → All (Among asked) us → All (λ u. opens_mentioned t placed.1 u ≡ opens_mentioned s placed.1 u) us
            each [] k = tt
            each (u ∷ us) k = (ap (λ a. all_open placed.1 (context_of a)) (bounds.near-alike T unit h ns own refl inside there u context_property refl k.0), each us k.1)

        -- and where what their use clauses open is mentioned
        module _ (mentioned-all : list_all (opens_mentioned s placed.1) asked ≡ true) where
          abbrev Near : UnitKey → Type 0
          Near u = Among asked u

          opened-always : (d : UseClause) → opens_one_of placed.1 d ≡ true → Always d
          opened-always (Package u) e = λ rs i. (packages-known u e).1
          opened-always («Type» x) e = λ rs i. by (same_kind x.unit.kind Decl) (has_unit placed.1 x.unit) (encloses x.unit rs) (λ k. (packages-known x.unit k).1) e i
            where
              by : (b k r : Bool) → (k ≡ true → Known (package_unit x.unit.name)) → (not b || (k || is_without_file x.unit.name)) ≡ true → (not b || r) ≡ false → Known (package_unit x.unit.name)
              by true true r f e i = f refl
              by true false r f e i = predefined x.unit.name e
              by false k r f e i = absurd (true≢false i)
          opened-always (Operators x types) e = λ rs. tt

          told-always : (p : UnitPart) → Near p.unit → All Always (part_uses t p)
          told-always p k =
              subst (λ a. All Always (uses_if_told (context_of a) p.part)) (sym (bounds.near-alike T unit h ns own refl inside there p.unit context_property refl k))
              (by (context_of (s (Of p.unit context_property))) (has-all (opens_mentioned s placed.1) asked p.unit mentioned-all k))
            where
              by : (o : Option ContextView) → all_open placed.1 o ≡ true → All Always (uses_if_told o p.part)
              by None e = tt
              by (Some d) e =
                  let two = both (list_all (opens_one_of placed.1) d.uses) (list_all (λ u. opens_one_of placed.1 u.clause) d.uses_inside) e in
                  all-append Always (if same_part p.part part.Private then [] else d.uses) (inside_of d.uses_inside)
                  (at (same_part p.part part.Private) (all-tested Always (opens_one_of placed.1) opened-always d.uses two.0))
                  (all-map (λ (u : UseInPart). Always u.clause) Always (λ u. u.clause) (λ u m. m) (filter (stands_in p.part) d.uses_inside)
                  (all-filter (λ (u : UseInPart). Always u.clause) (stands_in p.part) d.uses_inside (all-tested (λ (u : UseInPart). Always u.clause) (λ u. opens_one_of placed.1 u.clause) (λ u m. opened-always u.clause m) d.uses_inside two.1)))
                where
                  inside_of : List UseInPart → List UseClause
                  inside_of us = inside_part us p.part

                  at : (b : Bool) → All Always d.uses → All Always (if b then [] else d.uses)
                  at true a = tt
                  at false a = a

          abbrev U-fits : CheckState → Type 0
          U-fits x = units.Fits Q MayName spells Known t s (bounds.alike T unit h ns) (bounds.named T unit h ns) Near (bounds.near T unit h ns own refl inside there) told-always (bounds.types-told T unit h ns own refl inside there told) predefined x

          place-fits : P placed.0
          place-fits =
              subst (All (λ (r : Region). units.RegionOk Q MayName spells Known t s (bounds.alike T unit h ns) (bounds.named T unit h ns) r))
              (starts.regions-same Known t s (bounds.alike T unit h ns) own [] (bounds.round-all T unit h ns own refl inside there) ∙ sym placed-regions)
              (units.start-fits Q MayName spells Known t s (bounds.alike T unit h ns) (bounds.named T unit h ns) Near (bounds.near T unit h ns own refl inside there) told-always (bounds.types-told T unit h ns own refl inside there told) own (bounds.round-near T unit h ns own refl inside there) standard-known fine.1.1.0)

          start-is : start t ≡ start s
          start-is = begins.with-same MayName Known t s (bounds.alike T unit h ns) (bounds.named T unit h ns) P seen unit tree.item c done (record {
            completions = completions-by tree.item completes;
            round = bounds.round-all T unit h ns own refl inside there;
            mentions = may-in;
            fits = place-fits;
            hides = λ d. subst (λ (ps : List UnitPart). All Known (ancestor_units (outermost unit.name ps))) (hides-by tree.item kind-is d) (bounds.round-all T unit h ns own refl inside there).ancestors;
          })

          -- the walk doesn't look at the units of its with clauses
          round-walked : (d : Declarations) → units.KO Q MayName spells Known t s (bounds.alike T unit h ns) (bounds.named T unit h ns) Near (bounds.near T unit h ns own refl inside there) told-always (bounds.types-told T unit h ns own refl inside there told) (standing_of d tree (start s)).unit.own
          round-walked d =
              let k = bounds.round-near T unit h ns own refl inside there in
              record { ancestors = k.ancestors; stubs = k.stubs; declaration = k.declaration }

          walks : Walks (Ok (start s))
          walks d = units.walked-same Q MayName spells Known t s (bounds.alike T unit h ns) (bounds.named T unit h ns) Near (bounds.near T unit h ns own refl inside there) told-always (bounds.types-told T unit h ns own refl inside there told) predefined
              (standing_of d tree (start s)) (place-fits, (packages-known, round-walked d)) tree.item item-spelt

          name-is-same : name_fault t unit tree.item done.view ≡ name_fault s unit tree.item done.view
          name-is-same = begins.name-same MayName Known t s (bounds.alike T unit h ns) (bounds.named T unit h ns) P seen unit tree.item done.view (name-by tree.item done.view name-is named-known item-spelt)

          unless-walks : (o : Option Fault) → Walks (unless o (Ok (start s)))
          unless-walks None = walks
          unless-walks (Some f) = tt

          begun : Alike (unless (name_fault t unit tree.item done.view) (Ok (start t))) (unless (name_fault s unit tree.item done.view) (Ok (start s)))
          begun = (ap2 (λ f x. unless f (Ok x)) name-is-same start-is, unless-walks (name_fault s unit tree.item done.view))

      after : Alike (start_after t unit h tree c) (start_after s unit h tree c)
      after =
          let body = λ (x : Table) (k : Completed). start_judged x k in
          let most = chosen Walks (is_in_body own.unit own.stubs) (list_all (has_unit (around t unit h)) asked) (list_all (has_unit (around s unit h)) asked)
          (list_all (opens_mentioned t (start t).packages) asked) (list_all (opens_mentioned s (start s).packages) asked)
          (unless (name_fault t unit tree.item done.view) (Ok (start t))) (unless (name_fault s unit tree.item done.view) (Ok (start s))) (Err (not_surrounded tree))
          (ap (λ (us : List UnitKey). list_all (has_unit us) asked) (bounds.around-alike T unit h ns))
          (λ i j. open-same i j) (λ i j k. begun i j k) tt in
          (ap (body t) (begins.completed-same MayName Known t s (bounds.alike T unit h ns) (bounds.named T unit h ns) P seen unit tree.item completes) ∙ most.0, most.1)
        where
          start_judged : Table → Completed → Result UnitStart Fault
          start_judged x k =
              let y = start_with x unit tree.item c k in
              if is_surrounded x unit h y.own y.packages then unless (name_fault x unit tree.item k.view) (Ok y) else Err (not_surrounded tree)

    abbrev CRight : Result Context Fault → Type 0
    CRight r = contexts.COk Q Known t s (bounds.alike T unit h ns) P bare same_unit-one predefined Always always denotes looks places-ok r

    headed-own : Alike (next (context_at t tree.context) (start_after t unit h tree)) (next (context_at s tree.context) (start_after s unit h tree))
    headed-own =
        let c = contexts.context-same Q Known t s (bounds.alike T unit h ns) P bare same_unit-one predefined Always always denotes looks places-ok tree.context context-spelt context-ok in
        by (context_at t tree.context) (context_at s tree.context) c.0 c.1
      where
        by : (r r' : Result Context Fault) → r ≡ r' → CRight r → Alike (next r (start_after t unit h tree)) (next r' (start_after s unit h tree))
        by r r' e k = subst (λ x. Alike (next r (start_after t unit h tree)) (next x (start_after s unit h tree))) e (at r k)
          where
            at : (r : Result Context Fault) → CRight r → Alike (next r (start_after t unit h tree)) (next r (start_after s unit h tree))
            at (Ok c) k = after c k
            at (Err f) k = (refl, tt)

  -- ---- all of it

  abbrev pub Walked : Result UnitStart Fault → Type 0
  Walked (Ok x) = (d : Declarations) → unit_walked (ada t) (standing_of d tree x) tree.item ≡ unit_walked (ada s) (standing_of d tree x) tree.item
  Walked (Err f) = ⊤

  pub unit-same : (unit_at t unit tree ≡ unit_at s unit tree) × Walked (unit_at s unit tree)
  unfolding unit_at
  unit-same = by (same_unit unit (key h.name (kind_of h.form))) refl (has_unit (own_mentions h) unit) refl
    where
      by : (a : Bool) → same_unit unit (key h.name (kind_of h.form)) ≡ a → (b : Bool) → has_unit (own_mentions h) unit ≡ b
          → (let x : Result UnitStart Fault = if a && not b then next (context_at t tree.context) (start_after t unit h tree) else Err (not_surrounded tree) in
          let y : Result UnitStart Fault = if a && not b then next (context_at s tree.context) (start_after s unit h tree) else Err (not_surrounded tree) in (x ≡ y) × Walked y)
      by true e true f = (refl, tt)
      by true e false f = headed-own e f
      by false e b f = (refl, tt)
