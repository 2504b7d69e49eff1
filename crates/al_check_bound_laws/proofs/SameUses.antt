-- What use clauses of a text open may be asked, if the packages that are mentioned may be: by a table, whatever it answers.
use Rattle.std.proofs.Common.{◌≡◌, refl, ℕ, Bool, true, false, ◌||◌, List, [], ◌∷◌, ◌++◌, Ok, Err, inl, inr, if◌then◌else◌}
use Rattle.std.specs.Bool.{⊤}
use Rattle.std.specs.Prelude.{Result, ◌⊎◌}
use Rattle.al_base.specs.declared.place.Place.{Place as TextPlace}
use Rattle.al_base.specs.declared.unit_key.UnitKey.{UnitKey}
use Rattle.al_base_fault.specs.Judging.{map_ok, next}
use Rattle.al_base_fault.specs.declared.fault.Fault.{Fault}
use Rattle.al_overload_lookup.specs.Keys.{Denotations, is_none, not_visible}
use Rattle.al_overload_lookup.specs.Places.{place_of}
use Rattle.al_overload_readings.specs.Readings.{wrong_kind}
use Rattle.al_overload_values.specs.CompoundNames.{name_text}
use Rattle.al_overload_values.specs.TermsAt.{mark_at}
use Rattle.al_query.specs.Known.{has_unit}
use Rattle.al_query.specs.Reads.{Table}
use Rattle.al_query.specs.declared.answer.UseClause.{UseClause}
use Rattle.al_query.specs.declared.answer.UseClause.TheVariants.{Package, «Type», Operators}
use Rattle.al_scope.specs.Places.{Place, is_declared_round}
use Rattle.al_scope.specs.UseClauses.{package_unit}
use Rattle.al_scope.specs.declared.region.Region.{Region}
use Rattle.al_scope_context.specs.UsesAt.{all_names, denoted_package, names_denoted, opened_at, opened_from, package_at, package_opened, package_under, type_opened, uses_at, visible_key}
use Rattle.al_tree_syntax.specs.DeclarationTrees.{CompoundNameTree, UseTree}
use Rattle.al_unit_graph.specs.Names.{is_without_file}
use Rattle.al_view.specs.declared.view.SubtypeView.{SubtypeView}
use Rattle.al_view.specs.declared.view.ViewKind.{ViewKind}
use Rattle.al_view.specs.declared.view.ViewKind.TheVariants as views
use Rattle.al_check_bound_laws.proofs.AllLemmas.{All, all-append}

-- of what is right
abbrev pub IfRight : {X : Type 0} → (X → Type 0) → Result X Fault → Type 0
IfRight F (Ok x) = F x
IfRight F (Err f) = ⊤

pub next-right : {X Y : Type 0} (F : Y → Type 0) (r : Result X Fault) (f : X → Result Y Fault) → ((x : X) → IfRight F (f x)) → IfRight F (next r f)
next-right F (Ok x) f h = h x
next-right F (Err e) f h = tt

map-right : {X Y : Type 0} (F : X → Type 0) (G : Y → Type 0) (f : X → Y) → ((x : X) → F x → G (f x)) → (r : Result X Fault) → IfRight F r → IfRight G (map_ok f r)
map-right F G f h (Ok x) k = h x k
map-right F G f h (Err e) k = tt

any-right : {X : Type 0} (r : Result X Fault) → IfRight (λ (x : X). ⊤) r
any-right (Ok x) = tt
any-right (Err e) = tt

module _ (Known : UnitKey → Type 0) (predefined : (name : List ℕ) → is_without_file name ≡ true → Known (package_unit name)) where
  -- what a use clause among these regions opens
  abbrev pub Opened : List Region → UseClause → Type 0
  Opened rs (Package u) = Known (package_unit u.name)
  Opened rs («Type» x) = (is_declared_round x rs ≡ true) ⊎ Known (package_unit x.unit.name)
  Opened rs (Operators x types) = ⊤

  module _ (t : Table) (ps : List UnitKey) (k : (u : UnitKey) → has_unit ps u ≡ true → Known u × Known (package_unit u.name)) (place : Place) where
    type-opened : (v : SubtypeView) → Opened place.regions (type_opened place ps v)
    type-opened v = at (has_unit ps v.subtype.base.unit) refl (is_without_file v.subtype.base.unit.name) refl (is_declared_round v.subtype.base place.regions) refl
      where
        at : (a : Bool) → has_unit ps v.subtype.base.unit ≡ a → (b : Bool) → is_without_file v.subtype.base.unit.name ≡ b → (c : Bool) → is_declared_round v.subtype.base place.regions ≡ c
            → Opened place.regions (if (a || b) || c then «Type» v.subtype.base else Operators v.subtype.base v.types)
        at true i b j c l = inr (k v.subtype.base.unit i).1
        at false i true j c l = inr (predefined v.subtype.base.unit.name j)
        at false i false j true l = inl l
        at false i false j false l = tt

    abbrev IsKnown : UnitKey → Type 0
    IsKnown u = Known (package_unit u.name)

    under : (p : TextPlace) (vs : List ViewKind) → IfRight IsKnown (package_under ps p vs)
    under p [] = tt
    under p (views.OfPackage s ∷ vs) = at (has_unit ps s.unit) (λ e. (k s.unit e).1)
      where
        at : (b : Bool) → (b ≡ true → IsKnown s.unit) → IfRight IsKnown (if b then Ok s.unit else Err (wrong_kind p))
        at true h = h refl
        at false h = tt
    under p (views.OfSubprogram v ∷ vs) = tt
    under p (views.OfTask v ∷ vs) = tt
    under p (views.OfProtected v ∷ vs) = tt
    under p (views.OfType v ∷ vs) = tt
    under p (views.OfSubtype v ∷ vs) = tt
    under p (views.OfObject v ∷ vs) = tt
    under p (views.OfComponent ∷ vs) = tt
    under p (views.OfNumber v ∷ vs) = tt
    under p (views.OfLiteral v ∷ vs) = tt

    denoted : (d : Denotations) (n : CompoundNameTree) → IfRight IsKnown (denoted_package ps d n)
    denoted d n = at (is_none (d.visible n.first.text))
      where
        at : (b : Bool) → IfRight IsKnown (if b then Err (not_visible n.first) else next (visible_key d (place_of n.first) n.first.text n.selectors) (λ key. package_under ps (place_of n.first) (d.visible key)))
        at true = tt
        at false = next-right IsKnown (visible_key d (place_of n.first) n.first.text n.selectors) (λ key. package_under ps (place_of n.first) (d.visible key)) (λ key. under (place_of n.first) (d.visible key))

    package-known : (n : CompoundNameTree) → IfRight IsKnown (package_at t place ps n)
    unfolding package_at
    package-known n = denoted (names_denoted t place ps n) n

    opened : (b : Bool) (n : CompoundNameTree) → IfRight (Opened place.regions) (opened_at t place ps b n)
    opened true n = map-right (λ (v : SubtypeView). ⊤) (Opened place.regions) (type_opened place ps) (λ v h. type-opened v) (mark_at t place ps (name_text n)) (any-right (mark_at t place ps (name_text n)))
    opened false n = map-right IsKnown (Opened place.regions) package_opened (λ u h. h) (package_at t place ps n) (package-known n)

    opened-each : (b : Bool) (done : List UseClause) → All (Opened place.regions) done → (ns : List CompoundNameTree) → IfRight (All (Opened place.regions)) (opened_from t place ps b done ns)
    opened-each b done a [] = a
    opened-each b done a (n ∷ ns) = at (opened_at t place ps b n) (opened b n) (λ c h. opened-each b (done ++ c ∷ []) (all-append (Opened place.regions) done (c ∷ []) a (h, tt)) ns)
      where
        at : (r : Result UseClause Fault) → IfRight (Opened place.regions) r → ((c : UseClause) → Opened place.regions c → IfRight (All (Opened place.regions)) (opened_from t place ps b (done ++ c ∷ []) ns))
            → IfRight (All (Opened place.regions)) (next r (λ c. opened_from t place ps b (done ++ c ∷ []) ns))
        at (Ok c) h more = more c h
        at (Err e) h more = tt

    -- what a use clause opens
    pub uses-opened : (u : UseTree) → IfRight (All (Opened place.regions)) (uses_at t place ps u)
    unfolding uses_at
    uses-opened u = opened-each u.of_type [] tt (all_names u.names)
