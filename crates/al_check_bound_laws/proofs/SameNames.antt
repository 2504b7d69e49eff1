-- What the names of a text denote is the same under two tables that answer alike where it asks.
use Rattle.std.proofs.Common.{◌≡◌, refl, ◌∙◌, ap, ℕ, Bool, true, false, List, [], ◌∷◌, ◌++◌, Option, Some, None, fold, map, if◌then◌else◌}
use Rattle.std.specs.Bool.{⊤}
use Rattle.std.specs.List.{flat_map}
use Rattle.std.specs.Option.{option_map}
use Rattle.al_base.specs.declared.unit_key.UnitKey.{UnitKey}
use Rattle.al_overload_lookup.specs.Keys.{dotted}
use Rattle.al_overload_lookup.specs.declared.denoted.Names.{Names}
use Rattle.al_overload_lookup.specs.Lookups.{asked_name, construct_of, found, is_new, looked_up, looked_up_all, names_at, nothing_found, package_in, selected_by, selected_in, with_selected, with_views}
use Rattle.al_overload_lookup.specs.TextNames.{names_in}
use Rattle.al_overload_lookup.specs.declared.name.TextName.{TextName}
use Rattle.al_overload_lookup.specs.declared.name.TextName.TheVariants.{Simple, Selected}
use Rattle.al_query.specs.Known.{has_unit}
use Rattle.al_query.specs.Reads.{Table}
use Rattle.al_query.specs.declared.query.Query.TheVariants.{Named}
use Rattle.al_scope.specs.Expanded.{part_of, selected_at, within}
use Rattle.al_scope.specs.PartialViews.{is_private}
use Rattle.al_scope.specs.Places.{Place}
use Rattle.al_scope.specs.Recasts.{recast, view_types}
use Rattle.al_scope.specs.Seen.{all_seen_at, full_if_private, full_in, full_of, full_views, recast_by, seen_at}
use Rattle.al_scope.specs.Visible.{visible_at}
use Rattle.al_scope.specs.declared.region.UnitPart.{UnitPart}
use Rattle.al_tree_syntax.specs.ExpressionTrees.{ExpressionTree}
use Rattle.al_view.specs.Interfaces.{views_of}
use Rattle.al_view.specs.declared.symbol.Symbol.{Symbol}
use Rattle.al_view.specs.declared.types.TypeView.{TypeView}
use Rattle.al_view.specs.declared.view.ViewKind.{ViewKind}
use Rattle.al_view.specs.declared.view.ViewKind.TheVariants as views
use Rattle.al_check_bound_laws.proofs.AllLemmas.{All}
use Rattle.al_check_bound_laws.proofs.SamePlaces.{PlaceOk, selected-same, visible-same, within-same, within-unit-same}

-- two folds over equal steps
pub fold-same : {X Y : Type 0} (P : X → Type 0) (f g : Y → X → Y) → ((y : Y) (x : X) → P x → f y x ≡ g y x) → (y : Y) (xs : List X) → All P xs → fold f y xs ≡ fold g y xs
fold-same P f g h y [] a = refl
fold-same P f g h y (x ∷ xs) a = ap (λ z. fold f z xs) (h y x a.0) ∙ fold-same P f g h (g y x) xs a.1

every-map : {X Y : Type 0} (f g : X → Y) → ((x : X) → f x ≡ g x) → (xs : List X) → map f xs ≡ map g xs
every-map f g h [] = refl
every-map f g h (x ∷ xs) = ap (λ y. y ∷ map f xs) (h x) ∙ ap (λ l. g x ∷ l) (every-map f g h xs)

every-flat : {X Y : Type 0} (f g : X → List Y) → ((x : X) → f x ≡ g x) → (xs : List X) → flat_map f xs ≡ flat_map g xs
every-flat f g h [] = refl
every-flat f g h (x ∷ xs) = ap (λ y. y ++ flat_map f xs) (h x) ∙ ap (λ l. g x ++ l) (every-flat f g h xs)

every-fold : {X Y : Type 0} (f g : Y → X → Y) → ((y : Y) (x : X) → f y x ≡ g y x) → (y : Y) (xs : List X) → fold f y xs ≡ fold g y xs
every-fold f g h y [] = refl
every-fold f g h y (x ∷ xs) = ap (λ z. fold f z xs) (h y x) ∙ every-fold f g h (g y x) xs

module _ (MayPart : UnitPart → Type 0) (MayName : List ℕ → Type 0) (t s : Table) (alike : (p : UnitPart) (name : List ℕ) → MayPart p → MayName name → t (Named p.unit p.part name) ≡ s (Named p.unit p.part name)) where
  module _ (place : Place) (ok : PlaceOk MayPart MayName t s alike place) where
    full-same : (x : Symbol) → full_of t place x ≡ full_of s place x
    full-same x = ap (λ vs. recast_by (full_in vs x)) (within-unit-same MayPart MayName t s alike x.name x.unit place ok)

    full-if-same : (of : TypeView) → full_if_private t place of ≡ full_if_private s place of
    full-if-same of = at (is_private of.definition)
      where
        at : (b : Bool) → (if b then full_of t place of.symbol else []) ≡ (if b then full_of s place of.symbol else [])
        at true = full-same of.symbol
        at false = refl

    pub views-same : (types : List TypeView) → full_views t place types ≡ full_views s place types
    views-same types = every-flat (full_if_private t place) (full_if_private s place) full-if-same types

    pub seen-same : (v : ViewKind) → seen_at t place v ≡ seen_at s place v
    unfolding seen_at
    seen-same v = ap (λ r. recast r v) (views-same (view_types v))

    pub all-seen-same : (vs : List ViewKind) → all_seen_at t place vs ≡ all_seen_at s place vs
    all-seen-same vs = every-map (seen_at t place) (seen_at s place) seen-same vs

    -- ---- names that are looked up

    module _ (packages : List UnitKey) (mentioned : (x : Symbol) → has_unit packages x.unit ≡ true → MayPart (part_of x)) where
      abbrev IsMentioned : Option Symbol → Type 0
      IsMentioned None = ⊤
      IsMentioned (Some x) = MayPart (part_of x)

      package-ok : (v : ViewKind) → IsMentioned (package_in packages v)
      package-ok (views.OfPackage x) = at (has_unit packages x.unit) (mentioned x)
        where
          at : (b : Bool) → (b ≡ true → MayPart (part_of x)) → IsMentioned (if b then Some x else None)
          at true k = k refl
          at false k = tt
      package-ok (views.OfSubprogram v) = tt
      package-ok (views.OfTask k) = tt
      package-ok (views.OfProtected p) = tt
      package-ok (views.OfType k) = tt
      package-ok (views.OfSubtype k) = tt
      package-ok (views.OfObject o) = tt
      package-ok views.OfComponent = tt
      package-ok (views.OfNumber n) = tt
      package-ok (views.OfLiteral x) = tt

      selected-by-same : (name : List ℕ) → MayName name → (x c : Option Symbol) → IsMentioned x → selected_by t place name x c ≡ selected_by s place name x c
      selected-by-same name w (Some x) c k =
          ap (λ vs. Some (all_seen_at t place vs)) (selected-same MayPart MayName t s alike name w x place ok k) ∙ ap (λ l. Some l) (all-seen-same (selected_at s name x place))
      selected-by-same name w None (Some c) k =
          ap (option_map (all_seen_at t place)) (within-same MayPart MayName t s alike place.mentioned name w c place.regions ok) ∙ at (within s place.mentioned name c place.regions)
        where
          at : (o : Option (List ViewKind)) → option_map (all_seen_at t place) o ≡ option_map (all_seen_at s place) o
          at None = refl
          at (Some vs) = ap (λ l. Some l) (all-seen-same vs)
      selected-by-same name w None None k = refl

      selected-in-same : (name : List ℕ) → MayName name → (v : ViewKind) → selected_in t place packages name v ≡ selected_in s place packages name v
      unfolding selected_in
      selected-in-same name w v = selected-by-same name w (package_in packages v) (construct_of v) (package-ok v)

      found-same : (names : Names) (x : TextName) → MayName (asked_name x) → found t place packages names x ≡ found s place packages names x
      found-same names (Simple name) w =
          ap (λ vs. record { visible = with_views names.visible name (all_seen_at t place vs); prefixes = names.prefixes }) (visible-same MayPart MayName t s alike name w place ok)
          ∙ ap (λ l. record { visible = with_views names.visible name l; prefixes = names.prefixes }) (all-seen-same (visible_at s name place))
      found-same names (Selected prefix name) w =
          every-fold _ _ (λ (n : Names) (v : ViewKind). ap (with_selected (dotted prefix name) v n) (selected-in-same name w v)) names (views_of names.visible prefix)

      looked-up-same : (names : Names) (x : TextName) → MayName (asked_name x) → looked_up t place packages names x ≡ looked_up s place packages names x
      unfolding looked_up
      looked-up-same names x w = at (is_new names x)
        where
          at : (b : Bool) → (if b then found t place packages names x else names) ≡ (if b then found s place packages names x else names)
          at true = found-same names x w
          at false = refl

      pub all-looked-up-same : (xs : List TextName) → All (λ (x : TextName). MayName (asked_name x)) xs → looked_up_all t place packages xs ≡ looked_up_all s place packages xs
      all-looked-up-same xs a = fold-same (λ (x : TextName). MayName (asked_name x)) (looked_up t place packages) (looked_up s place packages) looked-up-same nothing_found xs a

      -- what the names of a text denote
      pub names-same : (x : ExpressionTree) → All (λ (y : TextName). MayName (asked_name y)) (names_in x) → names_at t place packages x ≡ names_at s place packages x
      names-same x a = all-looked-up-same (names_in x) a
