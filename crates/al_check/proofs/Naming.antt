-- A unit's parent and the units of its with clauses are named by its source.
use Rattle.std.proofs.Common.{◌≡◌, Bool, true, false, ◌&&◌, ℕ, List, [], ◌∷◌, ◌++◌, append-nil, append_assoc, fold, map, Option, Some, None, Result, Ok, Err, is_some, refl, sym, ap, subst, ◌∙◌, if◌then◌else◌}
use Rattle.std.specs.Prelude.{⊤}
use Rattle.std.specs.List.{Contains, flat_map, list_all}
use Rattle.std.specs.Option.{option_map, option_map_or}
use Rattle.std.proofs.lemmas.List.Elements.{Contains-append_left, Contains-append_right}
use Rattle.al_base.specs.declared.diagnostic.Diagnostic.{Diagnostic}
use Rattle.al_base.specs.declared.unit_key.UnitKey.{UnitKey}
use Rattle.al_base_fault.specs.Judging.{map_ok, next, unless}
use Rattle.al_base_fault.specs.declared.fault.Fault.{Fault}
use Rattle.al_tree_syntax.specs.DeclarationTrees.{CompoundNameTree}
use Rattle.al_tree_syntax.specs.UnitTrees.{CompilationUnitTree, ContextTree, LibraryItemTree}
use Rattle.al_tree_syntax.specs.UnitTrees.ContextTree.{WithClause, ContextUse, ContextPragma}
use Rattle.al_tree_syntax.specs.UnitTrees.LibraryItemTree.{LibrarySubprogram, LibraryPackage, LibraryBody, LibraryPackageBody, Subunit}
use Rattle.al_unit_graph.specs.Headers.{Mention}
use Rattle.al_unit_graph.specs.Names.{lineage, parent_of}
use Rattle.al_unit_header.specs.Units.{context_mentions, dotted, header_of, item_name, mention_of, mentions, parent_body_name}
use Rattle.al_view.specs.declared.view.ViewKind.{ViewKind}
use Rattle.al_query.specs.Answers.{context_units, declaration, own_view_of, units_named}
use Rattle.al_query.specs.Known.{body, has_unit, predefined_units}
use Rattle.al_query.specs.Reads.{Table}
use Rattle.al_query.specs.declared.answer.AnswerKind.TheVariants as answers
use Rattle.al_query.specs.declared.answer.UseClause.{UseClause}
use Rattle.al_query.specs.declared.query.Property.TheVariants.{Kind}
use Rattle.al_query.specs.declared.query.Query.TheVariants.{Of}
use Rattle.al_scope_context.specs.ContextPragmas.{context_pragma_fault, full_name}
use Rattle.al_scope_context.specs.Contexts.{context_at, context_start, unit_mentioned, with_item, with_items, with_uses, withed}
use Rattle.al_scope_context.specs.declared.context.Context.{Context}
use Rattle.al_scope_context.specs.UsesAt.{uses_at}
use Rattle.al_query_outcome.specs.ReadsLaw.{named_by, outcome_units, own_names, property_answers, subunit}
use Rattle.al_query_outcome.specs.Tables.{interface_of}
use Rattle.al_query_outcome.specs.declared.interface.Parts.{Parts}
use Rattle.al_query_outcome.specs.declared.interface.Properties.{Properties}
use Rattle.al_query_outcome.proofs.Members.{Each, contains-has, each-append}
use Rattle.al_base_graph.proofs.Members as member
use Rattle.al_stmts.specs.Steps.{Inside}
use Rattle.al_check_bounded.specs.Verdicts.{NamesWithin, Verdict}
use Rattle.al_check_here.specs.Ends.{ends_told}
use Rattle.al_check_start.specs.Around.{is_own, is_surrounded, not_surrounded}
use Rattle.al_check_start.specs.UnitsAt.{completed_at, name_fault, start_after, start_with, unit_at}
use Rattle.al_check_start.specs.declared.unit.UnitStart.{UnitStart}
use Rattle.al_check_bounded.specs.Ended.{ended, right_at, viewed}
use Rattle.al_check_bounded.specs.Made.{faults_in, unless_wrong}
use Rattle.al_check_bounded.specs.Said.{own_view, said}
use Rattle.al_check_bounded.specs.declared.after.EndedText.{EndedText}
use Rattle.al_check_bounded.specs.declared.after.UnitFacts.{UnitFacts}
use Rattle.al_check.specs.Ada.{ended_text, item_walked, round_of, verdict_from}

-- ---- the units of with clauses

abbrev withed_unit : CompoundNameTree → UnitKey
withed_unit n = declaration (full_name n)

-- that ancestors are mentioned adds none
mentioned_none : (t : Table) (c : Context) (names : List (List ℕ)) → (fold (unit_mentioned t) c names).withs ≡ c.withs
mentioned_none t c [] = refl
mentioned_none t c (n ∷ names) = mentioned_none t (unit_mentioned t c n) names

withed_one : (t : Table) (c : Context) (n : CompoundNameTree) → (withed t c n).withs ≡ c.withs ++ withed_unit n ∷ []
withed_one t c n = ap (λ (us : List UnitKey). us ++ withed_unit n ∷ []) (mentioned_none t c (lineage (full_name n)))

withed_all : (t : Table) (c : Context) (ns : List CompoundNameTree) → (fold (withed t) c ns).withs ≡ c.withs ++ map withed_unit ns
withed_all t c [] = sym (append-nil c.withs)
withed_all t c (n ∷ ns) =
    withed_all t (withed t c n) ns ∙ ap (λ (us : List UnitKey). us ++ map withed_unit ns) (withed_one t c n) ∙ append_assoc c.withs (withed_unit n ∷ []) (map withed_unit ns)

-- a context clause that is right has these after those before it
abbrev Withs : List UnitKey → Result Context Fault → Type 0
Withs us (Ok c) = c.withs ≡ us
Withs us (Err f) = ⊤

used_withs : (c : Context) (found : Result (List UseClause) Fault) → Withs (c.withs ++ []) (map_ok (with_uses c) found)
used_withs c (Ok us) = sym (append-nil c.withs)
used_withs c (Err f) = tt

pragma_withs : (c : Context) (fault : Option Fault) → Withs (c.withs ++ []) (unless fault (Ok c))
pragma_withs c None = sym (append-nil c.withs)
pragma_withs c (Some f) = tt

item_withs : (t : Table) (c : Context) (i : ContextTree) → Withs (c.withs ++ map withed_unit (context_mentions i)) (with_item t c i)
unfolding with_item
item_withs t c (WithClause n) = withed_all t c (n.first ∷ n.others)
item_withs t c (ContextUse u) = used_withs c (uses_at t c.scope c.packages u)
item_withs t c (ContextPragma p) = pragma_withs c (context_pragma_fault c.withs p)

map_both : {X Y : Type 0} (f : X → Y) (xs ys : List X) → map f (xs ++ ys) ≡ map f xs ++ map f ys
map_both f [] ys = refl
map_both f (x ∷ xs) ys = ap (λ zs. f x ∷ zs) (map_both f xs ys)

items_withs : (t : Table) (c : Context) (is : List ContextTree) → Withs (c.withs ++ map withed_unit (flat_map context_mentions is)) (with_items t c is)
items_withs t c [] = sym (append-nil c.withs)
items_withs t c (i ∷ is) = by (with_item t c i) (item_withs t c i) (λ d. items_withs t d is)
  where
    whole : (d : Context) → d.withs ≡ c.withs ++ map withed_unit (context_mentions i) → d.withs ++ map withed_unit (flat_map context_mentions is) ≡ c.withs ++ map withed_unit (context_mentions i ++ flat_map context_mentions is)
    whole d h =
        ap (λ (us : List UnitKey). us ++ map withed_unit (flat_map context_mentions is)) h
        ∙ append_assoc c.withs (map withed_unit (context_mentions i)) (map withed_unit (flat_map context_mentions is))
        ∙ ap (λ (us : List UnitKey). c.withs ++ us) (sym (map_both withed_unit (context_mentions i) (flat_map context_mentions is)))

    by : (r : Result Context Fault) → Withs (c.withs ++ map withed_unit (context_mentions i)) r
        → ((d : Context) → Withs (d.withs ++ map withed_unit (flat_map context_mentions is)) (with_items t d is))
        → Withs (c.withs ++ map withed_unit (context_mentions i ++ flat_map context_mentions is)) (next r (λ d. with_items t d is))
    by (Ok d) h rest = subst (λ (us : List UnitKey). Withs us (with_items t d is)) (whole d h) (rest d)
    by (Err f) h rest = tt

-- with their ancestors they are the units that the header mentions
abbrev units_of : List Mention → List UnitKey
units_of ms = flat_map (λ m. map declaration (lineage m.name)) ms

withed_mentioned : (ns : List CompoundNameTree) → flat_map (λ u. map declaration (lineage u.name)) (map withed_unit ns) ≡ units_of (map mention_of ns)
withed_mentioned [] = refl
withed_mentioned (n ∷ ns) = ap (λ (us : List UnitKey). map declaration (lineage (full_name n)) ++ us) (withed_mentioned ns)

-- ---- the parent

abbrev parent_units : Option UnitKey → List UnitKey
parent_units (Some unit) = unit ∷ []
parent_units None = []

above_named : (decl : List UnitKey) (parent : Option (List ℕ)) (u : UnitKey) → Contains (parent_units (option_map declaration parent)) u → Contains (decl ++ option_map_or (λ p. declaration p ∷ []) parent []) u
above_named decl None u c = absurd (member.nowhere u c)
above_named decl (Some p) u c = Contains-append_right decl (declaration p ∷ []) u c

body_or_subunit : (name : List ℕ) (b : Bool) (u : UnitKey) → Contains ((if b then body name else subunit name) ∷ []) u → Contains (body name ∷ subunit name ∷ []) u
body_or_subunit name true u c = Contains-append_left (body name ∷ []) (subunit name ∷ []) u c
body_or_subunit name false u c = Contains-append_right (body name ∷ []) (subunit name ∷ []) u c

parent_named : (t : Table) (unit : UnitKey) (tree : CompilationUnitTree) (u : UnitKey) → Contains (parent_units (completed_at t unit tree.item).parent) u → Contains (own_names (header_of tree) (header_of tree).parent_body) u
unfolding header_of
parent_named t unit tree u c = at tree.item c
  where
    at : (item : LibraryItemTree) → Contains (parent_units (completed_at t unit item).parent) u
        → Contains (own_names (header_of (record { context = tree.context; item = item })) (option_map mention_of (parent_body_name item))) u
    at (LibrarySubprogram p s) c = above_named [] (parent_of (dotted (item_name (LibrarySubprogram p s)))) u c
    at (LibraryPackage p l k) c = above_named [] (parent_of (dotted k.name)) u c
    at (LibraryBody s b) c = above_named (declaration (dotted (item_name (LibraryBody s b))) ∷ []) (parent_of (dotted (item_name (LibraryBody s b)))) u c
    at (LibraryPackageBody l k) c = above_named (declaration (dotted k.name) ∷ []) (parent_of (dotted k.name)) u c
    at (Subunit l o n s b) c = body_or_subunit (full_name n) (is_some (own_view_of (t (Of (body (full_name n)) Kind)))) u c

-- ---- a unit that is right

-- the parent, and the units of the with clauses with their ancestors
abbrev Named : List UnitKey → Option UnitKey → List UnitKey → Type 0
Named units parent withs = Each (λ u. has_unit units u ≡ true) (parent_units parent ++ flat_map (λ u. map declaration (lineage u.name)) withs)

abbrev StartNamed : List UnitKey → Result UnitStart Fault → Type 0
StartNamed units (Ok s) = Named units s.parent s.own.withs
StartNamed units (Err f) = ⊤

module _ (t : Table) (unit : UnitKey) (tree : CompilationUnitTree) where
  abbrev named : List UnitKey
  named = named_by (header_of tree)

  own_known : (u : UnitKey) → Contains (own_names (header_of tree) (header_of tree).parent_body) u → has_unit named u ≡ true
  unfolding named_by
  own_known u c =
      let own = own_names (header_of tree) (header_of tree).parent_body in
      contains-has named u (Contains-append_left (predefined_units ++ own) (units_of (header_of tree).mentions) u (Contains-append_right predefined_units own u c))

  mention_known : (u : UnitKey) → Contains (units_of (header_of tree).mentions) u → has_unit named u ≡ true
  unfolding named_by
  mention_known u c =
      let own = own_names (header_of tree) (header_of tree).parent_body in
      contains-has named u (Contains-append_right (predefined_units ++ own) (units_of (header_of tree).mentions) u c)

  all_mentioned : (c : Context) → c.withs ≡ map withed_unit (mentions tree) → flat_map (λ u. map declaration (lineage u.name)) c.withs ≡ units_of (header_of tree).mentions
  unfolding header_of
  all_mentioned c is = ap (λ (us : List UnitKey). flat_map (λ u. map declaration (lineage u.name)) us) is ∙ withed_mentioned (mentions tree)

  known : (c : Context) → c.withs ≡ map withed_unit (mentions tree) → Named named (completed_at t unit tree.item).parent c.withs
  known c is =
      each-append (λ u. has_unit named u ≡ true) (parent_units (completed_at t unit tree.item).parent) (flat_map (λ u. map declaration (lineage u.name)) c.withs)
      (λ u k. own_known u (parent_named t unit tree u k))
      (λ u k. mention_known u (subst (λ (us : List UnitKey). Contains us u) (all_mentioned c is) k))

  started : (c : Context) → c.withs ≡ map withed_unit (mentions tree) → StartNamed named (start_after t unit (header_of tree) tree c)
  started c is = by (is_surrounded t unit (header_of tree) start.own start.packages) (name_fault t unit tree.item (completed_at t unit tree.item).view)
    where
      start : UnitStart
      start = start_with t unit tree.item c (completed_at t unit tree.item)

      by : (b : Bool) (fault : Option Fault) → StartNamed named (if b then unless fault (Ok start) else Err (not_surrounded tree))
      by true None = known c is
      by true (Some f) = tt
      by false fault = tt

  start_named : StartNamed named (unit_at t unit tree)
  unfolding unit_at
  start_named = by (is_own unit (header_of tree)) (context_at t tree.context) (items_withs t context_start tree.context)
    where
      by : (own : Bool) (r : Result Context Fault) → Withs (map withed_unit (mentions tree)) r → StartNamed named (if own then next r (start_after t unit (header_of tree) tree) else Err (not_surrounded tree))
      by true (Ok c) is = started c is
      by true (Err f) is = tt
      by false r is = tt

-- ---- what is found

all_known : (units us : List UnitKey) → Each (λ u. has_unit units u ≡ true) us → list_all (has_unit units) us ≡ true
all_known units [] h = refl
all_known units (u ∷ us) h = ap (λ b. b && list_all (has_unit units) us) (h u (member.first u us)) ∙ all_known units us (λ x c. h x (member.later u us x c))

property_named : (q : Properties) (parts : Parts) → flat_map units_named (property_answers (interface_of q parts)) ≡ parent_units q.parent ++ context_units q.context
unfolding units_named
property_named q parts =
    ap (λ (us : List UnitKey). units_named (answers.Parent q.parent) ++ us) (append-nil (context_units q.context))
    ∙ ap (λ (us : List UnitKey). us ++ context_units q.context) (parent q.parent)
  where
    parent : (o : Option UnitKey) → units_named (answers.Parent o) ≡ parent_units o
    parent (Some u) = refl
    parent None = refl

module _ (units : List UnitKey) (r : UnitFacts) (e : EndedText) (x : Inside) (h : Named units r.parent r.withs) where
  abbrev said_of : ViewKind → Properties
  said_of kind = said (record { own = e.own; kind = kind; parent = r.parent; needs_body = r.needs_body; withs = r.withs; uses_inside = e.uses; private_types = r.private_types; completions = e.completions })

  right_named : (kind : ViewKind) → NamesWithin units (right_at r kind e x)
  unfolding outcome_units
  right_named kind = ap (list_all (has_unit units)) (property_named (said_of kind) e.parts) ∙ all_known units (parent_units r.parent ++ flat_map (λ u. map declaration (lineage u.name)) r.withs) h

  unless_named : (wrong : List Diagnostic) (v : Verdict) → NamesWithin units v → NamesWithin units (unless_wrong wrong v)
  unless_named [] v n = n
  unless_named (d ∷ wrong) v n = tt

  viewed_named : (view : Option ViewKind) → NamesWithin units (viewed r view e x)
  viewed_named None = tt
  viewed_named (Some kind) = unless_named (faults_in r.unit x.faults) (right_at r kind e x) (right_named kind)

  ended_named : NamesWithin units (ended r e x)
  unfolding ended
  ended_named = viewed_named (own_view e.own e.declared r.view)

-- a unit without errors names its parent and the units of its with clauses, as its source does
pub verdict_named : (t : Table) (unit : UnitKey) (tree : CompilationUnitTree) → NamesWithin (named_by (header_of tree)) (verdict_from t unit tree (unit_at t unit tree))
verdict_named t unit tree = by (unit_at t unit tree) (start_named t unit tree)
  where
    by : (start : Result UnitStart Fault) → StartNamed (named_by (header_of tree)) start → NamesWithin (named_by (header_of tree)) (verdict_from t unit tree start)
    by (Ok s) h = ended_named (named_by (header_of tree)) (round_of tree s) (ended_text (ends_told (item_walked t tree s).0)) (item_walked t tree s).1 h
    by (Err f) h = tt
