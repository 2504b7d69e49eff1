-- What is asked of a unit's start is asked of units that are known, so that the start is the same within the bounds and under all other units' answers.
use Rattle.std.proofs.Common.{◌≡◌, refl, sym, subst, ◌∙◌, ap, true≢false, ℕ, Bool, true, false, ◌&&◌, ◌||◌, not, List, [], ◌∷◌, ◌++◌, map, Option, Some, None, inl, inr, if◌then◌else◌}
use Rattle.std.specs.Bool.{⊤}
use Rattle.std.specs.List.{flat_map, list_all, list_any}
use Rattle.std.specs.Option.{option_map}
use Rattle.std.specs.Prelude.{◌⊎◌}
use Rattle.std.specs.Str.{bytes_eq}
use Rattle.al_base.specs.declared.unit_key.UnitKey.{UnitKey}
use Rattle.al_base.specs.declared.unit_key.UnitKind.{UnitKind}
use Rattle.al_base.specs.declared.unit_key.UnitKind.TheVariants.{Body, Decl, Sub}
use Rattle.al_check_bounded.specs.Bounding.{bounded}
use Rattle.al_check_bounded.specs.declared.bounds.Bounds.{Bounds}
use Rattle.al_check_start.specs.Around.{around, is_in_body}
use Rattle.al_check_start.specs.PrivateNames.{names_known, names_of}
use Rattle.al_check_start.specs.Starts.{as_list, asked_of, context_mentions, declarations, half_kind, half_of, key, mentions_of, own_mentions, round, units_known, with_mentions}
use Rattle.al_query.specs.Answers.{context_of, declaration, names_told}
use Rattle.al_query.specs.Known.{body, has_unit, predefined_units}
use Rattle.al_query.specs.Reads.{Table}
use Rattle.al_query.specs.declared.answer.AnswerKind.{AnswerKind}
use Rattle.al_query.specs.declared.answer.AnswerKind.TheVariants as answers
use Rattle.al_query.specs.declared.query.Property.{Property}
use Rattle.al_query.specs.declared.query.Property.TheVariants.{Completions, Context, IsPrivate, Kind, NeedsBody, Parent}
use Rattle.al_query.specs.declared.query.Query.TheVariants.{Named, Of}
use Rattle.al_query.proofs.KnownLemmas.{has_unit-cases, has_unit-first, has_unit-left, has_unit-right}
use Rattle.al_query.specs.Queries.{unit_of}
use Rattle.al_query.specs.declared.query.Query.{Query}
use Rattle.al_query_outcome.specs.ReadsLaw.{is_by_names, named_by, own_names, subunit}
use Rattle.al_query_outcome.specs.Tables.{no_answer}
use Rattle.al_scope.specs.UnitPlaces.{ancestor_units, asked_units, library_name, lineages, mentioned_names, own_declaration, stub_units, told_types, withs_if_told, withs_of}
use Rattle.al_scope.specs.UseClauses.{package_unit}
use Rattle.al_scope.specs.declared.own.OwnText.{OwnText}
use Rattle.al_scope.specs.declared.region.UnitPart.{UnitPart}
use Rattle.al_scope_context.specs.Contexts.{is_nothing}
use Rattle.al_unit_graph.specs.Headers.{Header, Mention}
use Rattle.al_unit_graph.specs.Names.{ancestors, lineage}
use Rattle.al_query.specs.declared.answer.ContextView.{ContextView}
use Rattle.al_view.specs.Symbols.{same_kind, same_unit}
use Rattle.al_view.proofs.SymbolLemmas.{same_unit-one, same_unit-self}
use Rattle.al_check_bound_laws.proofs.AllLemmas.{All, Maybe, all-append}
use Rattle.al_check_bound_laws.proofs.Members.{Among, all-among, all-names, any-flat, flat-has, has-all, has-flat}
use Rattle.al_check_bound_laws.proofs.SameAround as arounds
use Rattle.al_check_bound_laws.proofs.SameStarts as starts
use Rattle.al_check_bound_laws.specs.Others.{others}

-- within the bounds both answer alike: of units that are known, or of the unit itself, by names that may be asked for
pub bounded-others : (b : Bounds) (t : Table) (q : Query) → (has_unit b.known (unit_of q) || same_unit b.unit (unit_of q)) ≡ true → is_by_names b.unit b.names q ≡ true → bounded b t q ≡ others b.unit t q
bounded-others b t q = at (has_unit b.known (unit_of q)) (same_unit b.unit (unit_of q)) (is_by_names b.unit b.names q)
  where
    at : (k o n : Bool) → (k || o) ≡ true → n ≡ true → (if k && (not o && n) then t q else no_answer q) ≡ (if o then no_answer q else t q)
    at true true n e f = refl
    at true false true e f = refl
    at true false false e f = absurd (cc)
    at false true n e f = refl
    at false false n e f = absurd (cc)

or-one : (a b : Bool) → (a ≡ true) ⊎ (b ≡ true) → (a || b) ≡ true
or-one true b k = refl
or-one false b (inl e) = absurd (true≢false (sym e))
or-one false b (inr e) = e

module _ (T : Table) (unit : UnitKey) (h : Header) (names : List (List ℕ)) where
  abbrev pub known : List UnitKey
  known = units_known T unit h

  abbrev pub b : Bounds
  b = record { unit = unit; known = known; names = names }

  abbrev pub t : Table
  t = bounded b T

  abbrev pub s : Table
  s = others unit T

  -- a unit that may be asked, or the unit itself, of which both tables answer nothing
  abbrev pub Known : UnitKey → Type 0
  Known u = (has_unit known u || same_unit unit u) ≡ true

  abbrev pub MayName : List ℕ → Type 0
  MayName name = list_any (bytes_eq name) names ≡ true

  pub alike : (u : UnitKey) (p : Property) → starts.is_plain p ≡ true → Known u → t (Of u p) ≡ s (Of u p)
  alike u Kind q k = bounded-others b T (Of u Kind) k refl
  alike u Parent q k = bounded-others b T (Of u Parent) k refl
  alike u IsPrivate q k = bounded-others b T (Of u IsPrivate) k refl
  alike u Context q k = bounded-others b T (Of u Context) k refl
  alike u NeedsBody q k = bounded-others b T (Of u NeedsBody) k refl
  alike u Completions q k = absurd (true≢false (sym q))

  pub named : (p : UnitPart) (name : List ℕ) → Known p.unit → MayName name → t (Named p.unit p.part name) ≡ s (Named p.unit p.part name)
  named p name k w = bounded-others b T (Named p.unit p.part name) k w

  pub completions : Known (declaration unit.name) → t (Of (declaration unit.name) Completions) ≡ s (Of (declaration unit.name) Completions)
  completions k = bounded-others b T (Of (declaration unit.name) Completions) k (same_unit-self (declaration unit.name))

  pub own-known : Known unit
  own-known = or-one (has_unit known unit) (same_unit unit unit) (inr (same_unit-self unit))

  among-known : (u : UnitKey) → Among known u → Known u
  among-known u k = or-one (has_unit known u) (same_unit unit u) (inl k)

  -- ---- the parts of the list

  abbrev enclosing : List UnitKey
  enclosing = around T unit h

  abbrev mentioned : List UnitKey
  mentioned = flat_map (mentions_of T unit) enclosing

  pub named-known : (u : UnitKey) → Among (named_by h) u → Known u
  unfolding units_known
  named-known u k = among-known u (has_unit-left (named_by h) (with_mentions T unit h enclosing) u k)

  -- the units that its source names without a clause, those of its with clauses, and the predefined ones
  pub own-names-known : (u : UnitKey) → Among (own_names h h.parent_body) u → Known u
  unfolding named_by
  own-names-known u k =
      named-known u (has_unit-right predefined_units (own_names h h.parent_body ++ own_mentions h) u (has_unit-left (own_names h h.parent_body) (own_mentions h) u k))

  pub predefined-known : (u : UnitKey) → Among predefined_units u → Known u
  unfolding named_by
  predefined-known u k = named-known u (has_unit-left predefined_units (own_names h h.parent_body ++ own_mentions h) u k)

  rest-known : (u : UnitKey) → Among (with_mentions T unit h enclosing) u → Known u
  unfolding units_known
  rest-known u k = among-known u (has_unit-right (named_by h) (with_mentions T unit h enclosing) u k)

  abbrev halves : List UnitKey
  halves = flat_map (half_of T unit) (own_mentions h) ++ flat_map (half_of T unit) mentioned

  pub around-known : (u : UnitKey) → Among enclosing u → Known u
  around-known u k = rest-known u (has_unit-left enclosing (mentioned ++ halves) u k)

  mentioned-known : (u : UnitKey) → Among mentioned u → Known u
  mentioned-known u k = rest-known u (has_unit-right enclosing (mentioned ++ halves) u (has_unit-left mentioned halves u k))

  own-halves-known : (u : UnitKey) → Among (flat_map (half_of T unit) (own_mentions h)) u → Known u
  own-halves-known u k =
      rest-known u (has_unit-right enclosing (mentioned ++ halves) u (has_unit-right mentioned halves u (has_unit-left (flat_map (half_of T unit) (own_mentions h)) (flat_map (half_of T unit) mentioned) u k)))

  halves-known : (u : UnitKey) → Among (flat_map (half_of T unit) mentioned) u → Known u
  halves-known u k =
      rest-known u (has_unit-right enclosing (mentioned ++ halves) u (has_unit-right mentioned halves u (has_unit-right (flat_map (half_of T unit) (own_mentions h)) (flat_map (half_of T unit) mentioned) u k)))

  -- ---- the units that enclose it, by either table

  asked-others : (u : UnitKey) (p : Property) → asked_of s unit u p ≡ asked_of T unit u p
  asked-others u p = at (same_unit unit u)
    where
      at : (c : Bool) → (let a : AnswerKind = if c then answers.Nothing else (if c then answers.Nothing else T (Of u p)) in a) ≡ (if c then answers.Nothing else T (Of u p))
      at true = refl
      at false = refl

  any : (us : List UnitKey) → All (λ (u : UnitKey). ⊤) us
  any [] = tt
  any (u ∷ us) = (tt, any us)

  maybe-any : (o : Option Mention) → Maybe (λ (m : Mention). ⊤) o
  maybe-any None = tt
  maybe-any (Some m) = tt

  around-others : around s unit h ≡ enclosing
  around-others = arounds.around-same (λ u. ⊤) s T unit (λ u p q k. asked-others u p) h (maybe-any h.parent_body) (any (round T unit h h.parent_body))

  round-others : round s unit h h.parent_body ≡ round T unit h h.parent_body
  round-others = arounds.round-same (λ u. ⊤) s T unit (λ u p q k. asked-others u p) h h.parent_body (maybe-any h.parent_body) (any (round T unit h h.parent_body))

  asked-alike : (u : UnitKey) (p : Property) → starts.is_plain p ≡ true → Known u → asked_of t unit u p ≡ asked_of s unit u p
  asked-alike u p q k = ap (λ a. if same_unit unit u then answers.Nothing else a) (alike u p q k)

  parent-known : (o : Option Mention) → h.parent_body ≡ o → Maybe (λ (m : Mention). Known (body m.name)) o
  parent-known None e = tt
  parent-known (Some m) e = own-names-known (body m.name) (subst (λ (o : Option Mention). Among (own_names h o) (body m.name)) (sym e) (has_unit-first (body m.name) (subunit m.name ∷ [])))

  pub round-known : All Known (round s unit h h.parent_body)
  round-known = subst (All Known) (sym round-others) (each (round T unit h h.parent_body) (λ u k. around-known u (has_unit-left (round T unit h h.parent_body) (flat_map (half_of T unit) (round T unit h h.parent_body)) u k)))
    where
      each : (us : List UnitKey) → ((u : UnitKey) → Among us u → Known u) → All Known us
      each us f = go us (all-among us us (λ u k. k))
        where
          go : (vs : List UnitKey) → All (Among us) vs → All Known vs
          go [] a = tt
          go (v ∷ vs) a = (f v a.0, go vs a.1)

  pub around-alike : around t unit h ≡ around s unit h
  around-alike = arounds.around-same Known t s unit asked-alike h (parent-known h.parent_body refl) round-known

  pub near-known : (u : UnitKey) → Among (around s unit h) u → Known u
  near-known u k = around-known u (subst (λ (us : List UnitKey). Among us u) around-others k)

  -- ---- units that are mentioned, with the bodies that act as their declarations

  abbrev MayMention : List ℕ → Type 0
  MayMention name = starts.MayMention Known t s alike name

  -- the half that acts as a declaration that isn't there
  acting : (name : List ℕ) → same_unit unit (declaration name) ≡ false → is_nothing (s (Of (declaration name) Kind)) ≡ true → half_of T unit (declaration name) ≡ body name ∷ []
  acting name apart none = at (same_unit unit (declaration name)) apart (T (Of (declaration name) Kind)) none
    where
      at : (c : Bool) → c ≡ false → (a : AnswerKind) → is_nothing (if c then answers.Nothing else a) ≡ true → (if c then [] else as_list (option_map (key name) (half_kind Decl a))) ≡ body name ∷ []
      at true e a n = absurd (true≢false e)
      at false e answers.Nothing n = refl
      at false e _ n = absurd (true≢false (sym n))

  -- of a declaration in one of these lists whose halves are known too
  may-by : (us : List UnitKey) → ((u : UnitKey) → Among us u → Known u) → ((u : UnitKey) → Among (flat_map (half_of T unit) us) u → Known u) → (name : List ℕ) → Among us (declaration name) → same_unit unit (declaration name) ≡ false → MayMention name
  may-by us one half name k apart =
      (one (declaration name) k, λ none. half (body name) (has-flat (half_of T unit) us (declaration name) (body name) k (subst (λ (l : List UnitKey). Among l (body name)) (sym (acting name apart none)) (has_unit-first (body name) []))))

  mention-named : (u : UnitKey) → Among (own_mentions h) u → Among (named_by h) u
  unfolding named_by
  mention-named u k =
      has_unit-right predefined_units (own_names h h.parent_body ++ own_mentions h) u (has_unit-right (own_names h h.parent_body) (own_mentions h) u k)

  pub may-own : (name : List ℕ) → Among (own_mentions h) (declaration name) → same_unit unit (declaration name) ≡ false → MayMention name
  may-own = may-by (own_mentions h) (λ u k. named-known u (mention-named u k)) own-halves-known

  pub may-mentioned : (name : List ℕ) → Among mentioned (declaration name) → same_unit unit (declaration name) ≡ false → MayMention name
  may-mentioned = may-by mentioned mentioned-known halves-known

  -- of a declaration that encloses the unit: it is one of those that were told, or the half of a body that was
  pub may-around : (name : List ℕ) → Among enclosing (declaration name) → same_unit unit (declaration name) ≡ false → MayMention name
  may-around name k apart = by (has_unit-cases told (flat_map (half_of T unit) told) (declaration name) k)
    where
      told : List UnitKey
      told = round T unit h h.parent_body

      in-told : (u : UnitKey) → Among told u → Known u
      in-told u m = around-known u (has_unit-left told (flat_map (half_of T unit) told) u m)

      in-halves : (u : UnitKey) → Among (flat_map (half_of T unit) told) u → Known u
      in-halves u m = around-known u (has_unit-right told (flat_map (half_of T unit) told) u m)

      -- a declaration that is a half is that of a body with its name
      of-body : (u : UnitKey) → Among (half_of T unit u) (declaration name) → u ≡ body name
      of-body u m = at (same_unit unit u) u.kind refl (T (Of u Kind)) m
        where
          alone : (c : Bool) → (c || false) ≡ true → c ≡ true
          alone true i = refl
          alone false i = absurd (true≢false (sym i))

          same : Among (key u.name Decl ∷ []) (declaration name) → u.kind ≡ Body → u ≡ body name
          same i e =
              let n = ap (λ (v : UnitKey). v.name) (same_unit-one (declaration name) (key u.name Decl) (alone (same_unit (declaration name) (key u.name Decl)) i)) in
              ap (λ (k : UnitKind). key u.name k) e ∙ ap (λ (m : List ℕ). key m Body) (sym n)

          at : (c : Bool) (k : UnitKind) → u.kind ≡ k → (a : AnswerKind) → Among (if c then [] else as_list (option_map (key u.name) (half_kind k a))) (declaration name) → u ≡ body name
          at true k e a i = absurd (true≢false (sym i))
          at false Decl e answers.Nothing i = absurd (true≢false (sym i))
          at false Decl e _ i = absurd (true≢false (sym i))
          at false Body e (answers.Kind v) i = same i e
          at false Body e _ i = absurd (true≢false (sym i))
          at false Sub e a i = absurd (true≢false (sym i))

      by : (Among told (declaration name) ⊎ Among (flat_map (half_of T unit) told) (declaration name)) → MayMention name
      by (inl m) = may-by told in-told in-halves name m apart
      by (inr m) = (around-known (declaration name) k, λ none. flat-has (half_of T unit) (Among told) (declaration name) (Known (body name)) told (all-among told told (λ u i. i)) (λ u i j. subst Known (of-body u j) (in-told u i)) m)

  -- ---- the place at the start, where each unit that encloses it was told

  module _ (own : OwnText) (is_own_unit : own.unit ≡ unit) (inside : is_in_body own.unit own.stubs ≡ true) (there : list_all (has_unit (around s unit h)) (asked_units own) ≡ true) where
    abbrev pub Near : UnitKey → Type 0
    Near u = Among (asked_units own) u

    near-around : (u : UnitKey) → Near u → Among enclosing u
    near-around u k = subst (λ (us : List UnitKey). Among us u) around-others (has-all (has_unit (around s unit h)) (asked_units own) u there k)

    pub near : (u : UnitKey) → Near u → Known u
    near u k = around-known u (near-around u k)

    abbrev up : List UnitKey
    up = ancestor_units (library_name own)

    abbrev round-stubs : List UnitKey
    round-stubs = flat_map stub_units own.stubs

    up-near : (u : UnitKey) → Among up u → Near u
    up-near u k = has_unit-left (up ++ round-stubs) (own_declaration own.unit) u (has_unit-left up round-stubs u k)

    stubs-near : (u : UnitKey) → Among round-stubs u → Near u
    stubs-near u k = has_unit-left (up ++ round-stubs) (own_declaration own.unit) u (has_unit-right up round-stubs u k)

    pub declaration-near : (u : UnitKey) → Among (own_declaration own.unit) u → Near u
    declaration-near u k = has_unit-right (up ++ round-stubs) (own_declaration own.unit) u k

    abbrev pub near-alike : (u : UnitKey) (p : Property) → starts.is_plain p ≡ true → Near u → t (Of u p) ≡ s (Of u p)
    near-alike u p q k = alike u p q (near u k)

    each-stub : (ps : List UnitPart) → ((u : UnitKey) → Among (flat_map stub_units ps) u → Near u) → All (starts.StubKnown Near t s near-alike) ps
    each-stub [] f = tt
    each-stub (p ∷ ps) f =
        (all-among (stub_units p) (asked_units own) (λ u k. f u (has_unit-left (stub_units p) (flat_map stub_units ps) u k)), each-stub ps (λ u k. f u (has_unit-right (stub_units p) (flat_map stub_units ps) u k)))

    pub round-near : starts.RoundKnown Near t s near-alike own
    round-near = record {
      ancestors = all-among up (asked_units own) up-near;
      stubs = each-stub own.stubs stubs-near;
      declaration = all-among (own_declaration own.unit) (asked_units own) declaration-near;
    }

    each-known : (us : List UnitKey) → All Near us → All Known us
    each-known [] k = tt
    each-known (u ∷ us) k = (near u k.0, each-known us k.1)

    each-stub-known : (ps : List UnitPart) → All (starts.StubKnown Near t s near-alike) ps → All (starts.StubKnown Known t s alike) ps
    each-stub-known [] k = tt
    each-stub-known (p ∷ ps) k = (each-known (stub_units p) k.0, each-stub-known ps k.1)

    pub round-all : starts.RoundKnown Known t s alike own
    round-all = record {
      ancestors = each-known up round-near.ancestors;
      stubs = each-stub-known own.stubs round-near.stubs;
      declaration = each-known (own_declaration own.unit) round-near.declaration;
    }

    -- ---- the units that are mentioned there

    abbrev pub MayIn : List ℕ → Type 0
    MayIn name = starts.MayMentionIn Known t s alike own.unit name

    apart-unit : (name : List ℕ) → same_unit own.unit (declaration name) ≡ false → same_unit unit (declaration name) ≡ false
    apart-unit name e = subst (λ (u : UnitKey). same_unit u (declaration name) ≡ false) is_own_unit e

    may-near : (name : List ℕ) → Near (declaration name) → MayIn name
    may-near name k e = may-around name (near-around (declaration name) k) (apart-unit name e)

    names-near : (ns : List (List ℕ)) → ((u : UnitKey) → Among (map package_unit ns) u → Near u) → All MayIn ns
    names-near [] f = tt
    names-near (n ∷ ns) f = (may-near n (f (declaration n) (has_unit-first (declaration n) (map package_unit ns))), names-near ns (λ u k. f u (has_unit-right (declaration n ∷ []) (map package_unit ns) u k)))

    -- the library unit itself is the unit, or its declaration was told
    may-library : MayIn (library_name own)
    may-library = by own.stubs own.unit.kind refl refl inside
      where
        of-body : (p : UnitPart) (ps : List UnitPart) → own.stubs ≡ p ∷ ps → (k : UnitKind) → p.unit.kind ≡ k → same_kind k Body ≡ true → MayIn p.unit.name
        of-body p ps e Body i m =
            may-near p.unit.name (stubs-near (declaration p.unit.name) (subst (λ (l : List UnitPart). Among (flat_map stub_units l) (declaration p.unit.name)) (sym e)
            (has_unit-left (stub_units p) (flat_map stub_units ps) (declaration p.unit.name) (subst (λ (k : UnitKind). Among ((if same_kind k Body then package_unit p.unit.name ∷ [] else []) ++ p.unit ∷ []) (declaration p.unit.name)) (sym i) (has_unit-first (declaration p.unit.name) (p.unit ∷ []))))))
        of-body p ps e Decl i m = absurd (true≢false (sym m))
        of-body p ps e Sub i m = absurd (true≢false (sym m))

        by : (ps : List UnitPart) (k : UnitKind) → own.stubs ≡ ps → own.unit.kind ≡ k → is_in_body own.unit ps ≡ true → MayIn (Rattle.al_scope.specs.UnitPlaces.outermost own.unit.name ps)
        by (p ∷ ps) k e i m = of-body p ps e p.unit.kind refl m
        by [] Decl e i m = λ apart. absurd (true≢false (sym (same_unit-self own.unit) ∙ ap (λ (k : UnitKind). same_unit own.unit (key own.unit.name k)) i ∙ apart))
        by [] Body e i m = may-near own.unit.name (declaration-near (declaration own.unit.name) (subst (λ (k : UnitKind). Among (if same_kind k Body then package_unit own.unit.name ∷ [] else []) (declaration own.unit.name)) (sym i) (has_unit-first (declaration own.unit.name) [])))
        by [] Sub e i m = absurd (true≢false (sym m ∙ ap (λ (k : UnitKind). not (same_kind k Sub)) i))

    -- each name of those that with clauses of these units mention
    names-mentioned : (ns : List (List ℕ)) → ((u : UnitKey) → Among (map declaration ns) u → Among mentioned u) → All MayIn ns
    names-mentioned [] f = tt
    names-mentioned (n ∷ ns) f =
        ((λ e. may-mentioned n (f (declaration n) (has_unit-first (declaration n) (map declaration ns))) (apart-unit n e)), names-mentioned ns (λ u k. f u (has_unit-right (declaration n ∷ []) (map declaration ns) u k)))

    withs-mentioned : (ws : List UnitKey) → ((u : UnitKey) → Among (flat_map (λ w. declarations w.name) ws) u → Among mentioned u) → All MayIn (lineages ws)
    withs-mentioned [] f = tt
    withs-mentioned (w ∷ ws) f =
        all-append MayIn (lineage w.name) (lineages ws) (names-mentioned (lineage w.name) (λ u k. f u (has_unit-left (declarations w.name) (flat_map (λ v. declarations v.name) ws) u k)))
        (withs-mentioned ws (λ u k. f u (has_unit-right (declarations w.name) (flat_map (λ v. declarations v.name) ws) u k)))

    others-asked : (u : UnitKey) → s (Of u Context) ≡ asked_of T unit u Context
    others-asked u = refl

    context-mentioned : (u : UnitKey) → Near u → All MayIn (lineages (withs_of s u))
    context-mentioned u k = by (context_of (s (Of u Context))) (ap context_of (others-asked u))
      where
        by : (o : Option ContextView) → o ≡ context_of (asked_of T unit u Context) → All MayIn (lineages (withs_if_told o))
        by None e = tt
        by (Some c) e = withs-mentioned c.withs (λ v m. has-flat (mentions_of T unit) enclosing u v (near-around u k) (subst (λ (o : Option ContextView). Among (context_mentions o) v) e m))

    contexts-mentioned : (us : List UnitKey) → All Near us → All MayIn (flat_map (λ u. lineages (withs_of s u)) us)
    contexts-mentioned [] a = tt
    contexts-mentioned (u ∷ us) a = all-append MayIn (lineages (withs_of s u)) (flat_map (λ v. lineages (withs_of s v)) us) (context-mentioned u a.0) (contexts-mentioned us a.1)

    -- all names that are mentioned at the start, where the units of the unit's own with clauses may be
    pub mentions-known : All MayIn (lineages own.withs) → All MayIn (mentioned_names s own)
    mentions-known w =
        let ups = ancestors (library_name own) in
        let near_up = names-near ups up-near in
        all-append MayIn (lineage (library_name own) ++ lineages own.withs) (flat_map (λ u. lineages (withs_of s u)) (asked_units own))
        (all-append MayIn (lineage (library_name own)) (lineages own.withs) (all-append MayIn ups (library_name own ∷ []) near_up (may-library, tt)) w)
        (contexts-mentioned (asked_units own) (all-among (asked_units own) (asked_units own) (λ u k. k)))

    -- ---- private types that they name

    in-known : (n : List ℕ) → list_any (bytes_eq n) (flat_map (names_of T unit) enclosing) ≡ true → list_any (bytes_eq n) (names_known T unit h) ≡ true
    unfolding names_known
    in-known n k = k

    pub types-told : ((n : List ℕ) → list_any (bytes_eq n) (names_known T unit h) ≡ true → MayName n) → (p : UnitPart) → Near p.unit → All MayName (told_types t p)
    types-told may p k =
        subst (All MayName) (sym (ap names_told (near-alike p.unit Context refl k ∙ others-asked p.unit)))
        (all-names MayName (names_of T unit p.unit) (λ n m. may n (in-known n (any-flat n (names_of T unit) enclosing p.unit (near-around p.unit k) m))))
