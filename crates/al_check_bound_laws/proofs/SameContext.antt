-- What a context clause says is the same under two tables that answer alike of the units that it mentions; and the packages that are mentioned after it are known.
use Rattle.std.proofs.Common.{◌≡◌, refl, sym, subst, ◌∙◌, ap, ℕ, Bool, true, false, ◌||◌, List, [], ◌∷◌, ◌++◌, fold, Option, Some, None, Ok, Err, if◌then◌else◌}
use Rattle.std.specs.Bool.{⊤}
use Rattle.std.specs.List.{flat_map}
use Rattle.std.specs.Prelude.{Result}
use Rattle.al_base.specs.declared.unit_key.UnitKey.{UnitKey}
use Rattle.al_base_fault.specs.Judging.{map_ok, next, unless}
use Rattle.al_base_fault.specs.declared.fault.Fault.{Fault}
use Rattle.al_overload_lookup.specs.Lookups.{looked_up_all}
use Rattle.al_overload_lookup.specs.TextNames.{identifier_names}
use Rattle.al_overload_values.specs.TermsAt.{denotations_at}
use Rattle.al_query.specs.Answers.{declaration}
use Rattle.al_query.specs.Known.{has_unit}
use Rattle.al_query.specs.Reads.{Table}
use Rattle.al_query.specs.declared.answer.UseClause.{UseClause}
use Rattle.al_query.specs.declared.query.Property.{Property}
use Rattle.al_query.specs.declared.query.Query.TheVariants.{Of}
use Rattle.std.specs.Option.{option_map_or}
use Rattle.al_scope.specs.Places.{Place, encloses, in_last, with_declared}
use Rattle.al_scope.specs.UseClauses.{package_unit}
use Rattle.al_unit_graph.specs.Names.{is_without_file}
use Rattle.al_scope.specs.PartialViews.{without_partial}
use Rattle.al_scope.specs.UnitPlaces.{is_package_view}
use Rattle.al_scope.specs.Visible.{declared_by, innermost}
use Rattle.al_scope.specs.declared.region.Region.{Region}
use Rattle.al_scope_context.specs.ContextPragmas.{context_pragma_fault, full_name}
use Rattle.al_scope_context.specs.Contexts.{context_at, context_start, declared_if, is_new_root, library_view, mentioned, packaged, unit_mentioned, with_item, with_items, with_named, with_unit, with_uses, withed}
use Rattle.al_scope_context.specs.UsesAt.{all_names, uses_at}
use Rattle.al_scope_context.specs.declared.context.Context.{Context}
use Rattle.al_tree_grammar.specs.Grammar.{Lexeme}
use Rattle.al_tree_grammar.specs.Grammar as g
use Rattle.al_tree_syntax.specs.DeclarationTrees.{CompoundNameTree, compound_tokens}
use Rattle.al_tree_syntax.specs.ExpressionTrees.{ExpressionTree, expression_tokens, simple_tokens}
use Rattle.al_tree_syntax.specs.UnitTrees.{ContextTree, context_tokens}
use Rattle.al_tree_syntax.specs.UnitTrees.ContextTree.{WithClause, ContextUse, ContextPragma}
use Rattle.al_unit_graph.specs.Names.{lineage}
use Rattle.al_view.specs.Interfaces as interface
use Rattle.al_view.specs.Named.{Declarations}
use Rattle.al_view.specs.Symbols.{same_unit}
use Rattle.al_view.specs.declared.view.ViewKind.{ViewKind}
use Rattle.al_check_bound_laws.proofs.AllLemmas.{All, all-append, all-left, all-right}
use Rattle.al_check_bound_laws.proofs.SameUses as uses
use Rattle.al_check_bound_laws.proofs.SameParts as parts
use Rattle.al_check_bound_laws.proofs.SameStarts as starts

-- regions of no construct, that continue nothing and in which nothing is opened
pub record Bare (r : Region) : Type 0 where
  pub construct : r.construct ≡ None
  pub parts : r.parts ≡ []
  pub uses : r.uses ≡ []
  pub private_types : r.private_types ≡ []

-- they are no unit's
pub encloses-none : (u : UnitKey) (rs : List Region) → All Bare rs → encloses u rs ≡ false
encloses-none u [] a = refl
encloses-none u (r ∷ rs) a = ap (λ o. option_map_or (λ x. same_unit u x.unit) o false || encloses u rs) a.0.construct ∙ encloses-none u rs a.1

module _ (Q : Lexeme → Type 0) (Known : UnitKey → Type 0) (t s : Table) (alike : (u : UnitKey) (p : Property) → starts.is_plain p ≡ true → Known u → t (Of u p) ≡ s (Of u p)) (P : Place → Type 0) (bare : (p : Place) → All Bare p.regions → P p)
    (one : (a b : UnitKey) → same_unit a b ≡ true → a ≡ b) (predefined : (name : List ℕ) → is_without_file name ≡ true → Known (package_unit name))
    (Always : UseClause → Type 0) (always : (rs : List Region) → All Bare rs → (c : UseClause) → uses.Opened Known predefined rs c → Always c) where
  abbrev pub KP : List UnitKey → Type 0
  KP ps = (u : UnitKey) → has_unit ps u ≡ true → Known u × Known (package_unit u.name)

  abbrev pub May : List ℕ → Type 0
  May name = starts.MayMention Known t s alike name

  abbrev Both : UnitKey → Type 0
  Both u = Known u × Known (package_unit u.name)

  more-known : (ps : List UnitKey) (u : UnitKey) → Both u → (v : UnitKey) → (has_unit ps v ≡ true → Both v) → has_unit (ps ++ u ∷ []) v ≡ true → Both v
  more-known [] u k v f e = at (same_unit v u) refl e
    where
      at : (b : Bool) → same_unit v u ≡ b → (b || false) ≡ true → Both v
      at true i m = subst Both (sym (one v u i)) k
      at false i m = absurd (cc)
  more-known (p ∷ ps) u k v f e = at (same_unit v p) f (more-known ps u k v) e
    where
      at : (b : Bool) → ((b || has_unit ps v) ≡ true → Both v) → ((has_unit ps v ≡ true → Both v) → has_unit (ps ++ u ∷ []) v ≡ true → Both v) → (b || has_unit (ps ++ u ∷ []) v) ≡ true → Both v
      at true h more m = h refl
      at false h more m = more h m

  pub packaged-known : (v : Option ViewKind) (name : List ℕ) (ps : List UnitKey) → Known (declaration name) → KP ps → KP (packaged v name ps)
  packaged-known v name ps k f = at (is_package_view v) (has_unit ps (declaration name))
    where
      at : (a b : Bool) → KP (if a then (if b then ps else ps ++ declaration name ∷ []) else ps)
      at true true = f
      at true false = λ u e. more-known ps (declaration name) (k, k) u (f u) e
      at false b = f

  bare-last : (change : Region → Region) → ((r : Region) → Bare r → Bare (change r)) → (rs : List Region) → All Bare rs → All Bare (in_last change rs)
  bare-last change h [] a = tt
  bare-last change h (r ∷ []) a = (h r a.0, tt)
  bare-last change h (r ∷ q ∷ rs) a = (a.0, bare-last change h (q ∷ rs) a.1)

  innermost-same : (m : Declarations) (name : List ℕ) (rs : List Region) → All Bare rs → innermost t m name rs ≡ innermost s m name rs
  innermost-same m name [] a = refl
  innermost-same m name (r ∷ []) a =
      ap (λ l. without_partial (l ++ interface.views_of r.declared name)) (ap (flat_map (declared_by t m name)) a.0.parts ∙ sym (ap (flat_map (declared_by s m name)) a.0.parts))
  innermost-same m name (r ∷ q ∷ rs) a = innermost-same m name (q ∷ rs) a.1

  -- a unit that a with clause names may be asked, and so may its ancestors
  abbrev pub WithMay : UnitKey → Type 0
  WithMay u = All May (lineage u.name)

  abbrev pub C : Context → Type 0
  C c = All Bare c.scope.regions × (KP c.packages × (All Always c.uses × All WithMay c.withs))

  abbrev Same : Context → Context → Type 0
  Same a b = (a ≡ b) × C a

  declared-bare : (b : Bool) (v : Option ViewKind) (name : List ℕ) (p : Place) → All Bare p.regions → All Bare (declared_if b v name p).regions
  declared-bare b None name p a = a
  declared-bare true (Some v) name p a = bare-last (with_declared name v) (λ r k. record { construct = k.construct; parts = k.parts; uses = k.uses; private_types = k.private_types }) p.regions a
  declared-bare false (Some v) name p a = a

  mentioned-bare : (v : Option ViewKind) (name : List ℕ) (p : Place) → All Bare p.regions → All Bare (mentioned v name p).regions
  mentioned-bare None name p a = a
  mentioned-bare (Some v) name p a = a

  unit-same : (c : Context) → C c → (name : List ℕ) → May name → Same (unit_mentioned t c name) (unit_mentioned s c name)
  unit-same c k name m =
      let p = mentioned (library_view s name) name c.scope in
      let v = library_view t name in (
        ap (λ x. with_unit t x name c) (starts.library-view-same Known t s alike name m)
            ∙ ap (λ vs. record c { scope = declared_if (is_new_root name vs) (library_view s name) name p; packages = packaged (library_view s name) name c.packages }) (innermost-same p.mentioned name p.regions (mentioned-bare (library_view s name) name c.scope k.0)),
        (declared-bare (is_new_root name (innermost t (mentioned v name c.scope).mentioned name (mentioned v name c.scope).regions)) v name (mentioned v name c.scope) (mentioned-bare v name c.scope k.0), (packaged-known v name c.packages m.0 k.1.0, k.1.1)),
      )

  units-same : (c : Context) → C c → (names : List (List ℕ)) → All May names → Same (fold (unit_mentioned t) c names) (fold (unit_mentioned s) c names)
  units-same c k [] m = (refl, k)
  units-same c k (n ∷ ns) m =
      let e = unit-same c k n m.0 in
      let r = units-same (unit_mentioned t c n) e.1 ns m.1 in
      (r.0 ∙ ap (λ d. fold (unit_mentioned s) d ns) e.0, r.1)

  abbrev WithOk : CompoundNameTree → Type 0
  WithOk n = All May (lineage (full_name n))

  withs-same : (c : Context) → C c → (ns : List CompoundNameTree) → All WithOk ns → Same (fold (withed t) c ns) (fold (withed s) c ns)
  withs-same c k [] m = (refl, k)
  withs-same c k (n ∷ ns) m =
      let e = units-same c k (lineage (full_name n)) m.0 in
      let one_more : C (withed t c n) = (e.1.0, (e.1.1.0, (e.1.1.1.0, all-append WithMay (fold (unit_mentioned t) c (lineage (full_name n))).withs (declaration (full_name n) ∷ []) e.1.1.1.1 (m.0, tt)))) in
      let r = withs-same (withed t c n) one_more ns m.1 in
      (r.0 ∙ ap (λ d. fold (withed s) (with_named d (full_name n)) ns) e.0, r.1)

  -- the units that its with clauses mention may be asked
  abbrev pub ItemOk : ContextTree → Type 0
  ItemOk (WithClause n) = All WithOk (all_names n)
  ItemOk (ContextUse u) = ⊤
  ItemOk (ContextPragma p) = ⊤

  module _ (denote : (ps : List UnitKey) → KP ps → (p : Place) → P p → (x : ExpressionTree) → All Q (expression_tokens x) → denotations_at t p ps x ≡ denotations_at s p ps x)
      (look : (ps : List UnitKey) → KP ps → (p : Place) → P p → (n : CompoundNameTree) → All Q (compound_tokens n) → looked_up_all t p ps (identifier_names n.first n.selectors) ≡ looked_up_all s p ps (identifier_names n.first n.selectors))
      (placed-ok : (x : ExpressionTree) → All Q (simple_tokens x) → All Q (expression_tokens x)) where
    abbrev pub COk : Result Context Fault → Type 0
    COk (Ok c) = C c
    COk (Err f) = ⊤

    item-same : (c : Context) → C c → (i : ContextTree) → All Q (context_tokens i) → ItemOk i → (with_item t c i ≡ with_item s c i) × COk (with_item t c i)
    unfolding with_item
    item-same c k (WithClause n) w m = let e = withs-same c k (all_names n) m in (ap (λ d. Ok d) e.0, e.1)
    item-same c k (ContextUse u) w m = (ap (map_ok (with_uses c)) (parts.uses-same Q t s P c.packages (denote c.packages k.1.0) placed-ok (look c.packages k.1.0) c.scope (bare c.scope k.0) u w), at (uses_at t c.scope c.packages u) (uses.uses-opened Known predefined t c.packages k.1.0 c.scope u))
      where
        each : (cs : List UseClause) → All (uses.Opened Known predefined c.scope.regions) cs → All Always cs
        each [] m = tt
        each (d ∷ ds) m = (always c.scope.regions k.0 d m.0, each ds m.1)

        at : (j : Result (List UseClause) Fault) → uses.IfRight (All (uses.Opened Known predefined c.scope.regions)) j → COk (map_ok (with_uses c) j)
        at (Ok cs) m = (k.0, (k.1.0, (all-append Always c.uses cs k.1.1.0 (each cs m), k.1.1.1)))
        at (Err f) m = tt
    item-same c k (ContextPragma p) w m = (refl, at (context_pragma_fault c.withs p))
      where
        at : (o : Option Fault) → COk (unless o (Ok c))
        at None = k
        at (Some f) = tt

    items-same : (c : Context) → C c → (is : List ContextTree) → All Q (g.each context_tokens is) → All ItemOk is → (with_items t c is ≡ with_items s c is) × COk (with_items t c is)
    items-same c k [] w m = (refl, k)
    items-same c k (i ∷ is) w m =
        let e = item-same c k i (all-left Q (context_tokens i) _ w) m.0 in
        let r = at (with_item t c i) e.1 (λ d l. items-same d l is (all-right Q (context_tokens i) _ w) m.1) in
        (r.0 ∙ ap (λ j. next j (λ d. with_items s d is)) e.0, r.1)
      where
        at : (j : Result Context Fault) → COk j → ((d : Context) → C d → (with_items t d is ≡ with_items s d is) × COk (with_items t d is)) → (next j (λ d. with_items t d is) ≡ next j (λ d. with_items s d is)) × COk (next j (λ d. with_items t d is))
        at (Ok d) l f = f d l
        at (Err x) l f = (refl, tt)

    -- a context clause, with the packages that are mentioned after it
    pub context-same : (is : List ContextTree) → All Q (g.each context_tokens is) → All ItemOk is → (context_at t is ≡ context_at s is) × COk (context_at t is)
    context-same is w m = items-same context_start ((record { construct = refl; parts = refl; uses = refl; private_types = refl }, tt), ((λ u e. absurd (cc)), (tt, tt))) is w m
