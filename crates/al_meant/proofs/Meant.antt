-- The look-up of a name finds what the name may mean, and nothing else.
use Rattle.std.proofs.Common.{◌≡◌, ◌↔◌, ℕ, ◌<◌, List, [], ◌∷◌, ◌++◌, if◌then◌else◌, length, map, Option, Some, None, refl, sym, ap, ◌∙◌, subst, arith, inl, inr, fold}
use Rattle.std.proofs.lemmas.List.Sums.{fold-append}
use Rattle.std.specs.List.{flat_map}
use Rattle.std.specs.Option.{option_map_or}
use Rattle.std.specs.Prelude.{option_map, unwrap_or}
use Rattle.al_base.specs.declared.unit_key.UnitKey.{UnitKey}
use Rattle.al_overload_lookup.proofs.Fronts.{IsFront, each-other, views-other}
use Rattle.al_overload_lookup.specs.Keys.{dotted, is_none, key_of}
use Rattle.al_overload_lookup.specs.declared.denoted.Names.{Names}
use Rattle.al_overload_lookup.specs.declared.name.TextName.TheVariants.{Simple, Selected}
use Rattle.al_overload_lookup.specs.Lookups.{found, looked_up, names_at, nothing_found, selected_in, with_each}
use Rattle.al_overload_lookup.specs.TextNames.{names_in, selected_names}
use Rattle.al_meant.proofs.Listed.{apart, each-same, longer, picked, prefixes-other, views-same}
use Rattle.al_meant.specs.Found.{found_under}
use Rattle.al_meant.specs.Meanings.{AreMeant, IsAmong, Means}
use Rattle.al_query.specs.Reads.{Table}
use Rattle.al_scope.proofs.VisibleLemmas.{has-flat, has-join, visible-exactly}
use Rattle.al_scope.specs.Places.{Place}
use Rattle.al_scope.specs.Seen.{all_seen_at, seen_at}
use Rattle.al_scope.specs.Visible.{visible_at}
use Rattle.al_scope.specs.VisibleSet.{Has}
use Rattle.al_tree_grammar.specs.Grammar.{Label}
use Rattle.al_tree_syntax.specs.ExpressionTrees.{ExpressionTree, ExpressionTree as e, PartTree, PartTree as part}
use Rattle.al_view.specs.Interfaces.{views_of}
use Rattle.al_view.specs.declared.view.ViewKind.{ViewKind}

-- ---- what a name may mean, as a list

abbrev after : Table → Place → List UnitKey → List ViewKind → PartTree → List ViewKind
after t place packages before (part.Selector l) = flat_map (picked t place packages l.text) before
after t place packages before (part.Arguments l first others) = []
after t place packages before (part.Attribute l) = []
after t place packages before part.RangeAttribute = []
after t place packages before (part.Operand g) = []

abbrev meant : Table → Place → List UnitKey → ExpressionTree → List ViewKind
meant t place packages (e.Name l) = all_seen_at t place (visible_at t l.text place)
meant t place packages (e.Longer before p) = after t place packages (meant t place packages before) p
meant t place packages (e.Number l) = []
meant t place packages (e.Text l) = []
meant t place packages (e.Prefixed operator operand) = []
meant t place packages (e.Infix left operator right) = []
meant t place packages (e.InMark left n mark) = []
meant t place packages (e.InRange left n low high) = []
meant t place packages (e.Group group) = []

-- ---- the look-up gives this list

-- nothing is known of a name that is longer than this one
record IsLast (names : Names) (key : List ℕ) : Type 0 where
  visible : IsFront names key
  prefixes : (q : List ℕ) → length key < length q → views_of names.prefixes q ≡ []

-- a selector in what is visible under the name before it
opened : (t : Table) (place : Place) (packages : List UnitKey) (names : Names) (key name : List ℕ) → IsLast names key → looked_up t place packages names (Selected key name) ≡ with_each t place packages (dotted key name) name names (views_of names.visible key)
unfolding looked_up
opened t place packages names key name last = ap (λ (vs : List ViewKind). if is_none vs then found t place packages names (Selected key name) else names) (last.prefixes (dotted key name) (longer key name))

next_last : (t : Table) (place : Place) (packages : List UnitKey) (names : Names) (key name : List ℕ) (vs : List ViewKind) → IsLast names key → IsLast (with_each t place packages (dotted key name) name names vs) (dotted key name)
next_last t place packages names key name vs last = record { visible = visible; prefixes = prefixes }
  where
    visible : (q : List ℕ) → length (dotted key name) < length q → views_of (with_each t place packages (dotted key name) name names vs).visible q ≡ []
    visible q h = each-other t place packages (dotted key name) name q names vs (apart q (dotted key name) h) ∙ last.visible q (omega (arith, longer key name, h))

    prefixes : (q : List ℕ) → length (dotted key name) < length q → views_of (with_each t place packages (dotted key name) name names vs).prefixes q ≡ []
    prefixes q h = prefixes-other t place packages (dotted key name) name q names vs (apart q (dotted key name) h) ∙ last.prefixes q (omega (arith, longer key name, h))

-- all of a name is looked up
record IsDone (names : Names) (key : List ℕ) (views : List ViewKind) : Type 0 where
  last : IsLast names key
  has : views_of names.visible key ≡ views

first_done : (t : Table) (place : Place) (packages : List UnitKey) (text : List ℕ) → IsDone (looked_up t place packages nothing_found (Simple text)) text (all_seen_at t place (visible_at t text place))
unfolding looked_up
first_done t place packages text = record {
  last = record {
    visible = λ q h. views-other [] text q (all_seen_at t place (visible_at t text place)) (apart q text h);
    prefixes = λ q h. refl;
  };
  has = views-same [] text (all_seen_at t place (visible_at t text place));
}

next_done : (t : Table) (place : Place) (packages : List UnitKey) (names : Names) (key name : List ℕ) (views : List ViewKind) → IsDone names key views → IsDone (looked_up t place packages names (Selected key name)) (dotted key name) (flat_map (picked t place packages name) views)
next_done t place packages names key name views done =
    let next : Names = with_each t place packages (dotted key name) name names (views_of names.visible key) in
    let same : views_of next.visible (dotted key name) ≡ flat_map (picked t place packages name) views =
    each-same t place packages (dotted key name) name names (views_of names.visible key)
    ∙ ap (λ (vs : List ViewKind). vs ++ flat_map (picked t place packages name) (views_of names.visible key)) (done.last.visible (dotted key name) (longer key name))
    ∙ ap (flat_map (picked t place packages name)) done.has in
    let whole : IsDone next (dotted key name) (flat_map (picked t place packages name) views) = record {
      last = next_last t place packages names key name (views_of names.visible key) done.last;
      has = same;
    } in
    subst (λ (n : Names). IsDone n (dotted key name) (flat_map (picked t place packages name) views)) (sym (opened t place packages names key name done.last)) whole

selector_done : (t : Table) (place : Place) (packages : List UnitKey) (before : ExpressionTree) (l : Label) (k : List ℕ) → key_of before ≡ Some k → IsDone (names_at t place packages before) k (meant t place packages before)
    → IsDone (names_at t place packages (e.Longer before (part.Selector l))) (dotted k l.text) (meant t place packages (e.Longer before (part.Selector l)))
unfolding names_in
selector_done t place packages before l k is done =
    let all : names_at t place packages (e.Longer before (part.Selector l)) ≡ looked_up t place packages (names_at t place packages before) (Selected k l.text) =
    ap (λ (o : Option (List ℕ)). fold (looked_up t place packages) nothing_found (names_in before ++ selected_names o l.text)) is
    ∙ fold-append (looked_up t place packages) nothing_found (names_in before) (Selected k l.text ∷ []) in
    subst (λ (n : Names). IsDone n (dotted k l.text) (meant t place packages (e.Longer before (part.Selector l)))) (sym all)
    (next_done t place packages (names_at t place packages before) k l.text (meant t place packages before) done)

name_done : (t : Table) (place : Place) (packages : List UnitKey) (l : Label) → IsDone (names_at t place packages (e.Name l)) l.text (meant t place packages (e.Name l))
unfolding names_in
name_done t place packages l = first_done t place packages l.text

some_is : {X : Type 0} (x y : X) → Some x ≡ Some y → x ≡ y
some_is x y h = cc

done : (t : Table) (place : Place) (packages : List UnitKey) (x : ExpressionTree) (key : List ℕ) → key_of x ≡ Some key → IsDone (names_at t place packages x) key (meant t place packages x)
done t place packages (e.Name l) key is = subst (λ (k : List ℕ). IsDone (names_at t place packages (e.Name l)) k (meant t place packages (e.Name l))) (some_is l.text key is) (name_done t place packages l)
done t place packages (e.Longer before (part.Selector l)) key is = at (key_of before) refl is (done t place packages before)
  where
    at : (o : Option (List ℕ)) → key_of before ≡ o → option_map (λ k. dotted k l.text) o ≡ Some key
        → ((k : List ℕ) → key_of before ≡ Some k → IsDone (names_at t place packages before) k (meant t place packages before))
        → IsDone (names_at t place packages (e.Longer before (part.Selector l))) key (meant t place packages (e.Longer before (part.Selector l)))
    at None i h more = absurd (cc)
    at (Some k) i h more = subst (λ (q : List ℕ). IsDone (names_at t place packages (e.Longer before (part.Selector l))) q (meant t place packages (e.Longer before (part.Selector l)))) (some_is (dotted k l.text) key h) (selector_done t place packages before l k i (more k i))
done t place packages (e.Longer before (part.Arguments l first others)) key is = absurd (cc)
done t place packages (e.Longer before (part.Attribute l)) key is = absurd (cc)
done t place packages (e.Longer before part.RangeAttribute) key is = absurd (cc)
done t place packages (e.Longer before (part.Operand g)) key is = absurd (cc)
done t place packages (e.Number l) key is = absurd (cc)
done t place packages (e.Text l) key is = absurd (cc)
done t place packages (e.Prefixed operator operand) key is = absurd (cc)
done t place packages (e.Infix left operator right) key is = absurd (cc)
done t place packages (e.InMark left n mark) key is = absurd (cc)
done t place packages (e.InRange left n low high) key is = absurd (cc)
done t place packages (e.Group group) key is = absurd (cc)

-- ---- this list is all that the name may mean

has-map : {X Y : Type 0} (f : X → Y) (xs : List X) (y : Y) → Has (map f xs) y → (x : X) × Has xs x × (f x ≡ y)
has-map f [] y h = absurd h
has-map f (x ∷ xs) y (inl is) = (x, inl refl, is)
has-map f (x ∷ xs) y (inr h) = let more = has-map f xs y h in (more.0, inr more.1, more.2)

map-has : {X Y : Type 0} (f : X → Y) (xs : List X) (x : X) (y : Y) → Has xs x → f x ≡ y → Has (map f xs) y
map-has f [] x y h is = absurd h
map-has f (first ∷ xs) x y (inl same) is = inl (ap f same ∙ is)
map-has f (first ∷ xs) x y (inr h) is = inr (map-has f xs x y h is)

flat-has : {X : Type 0} (f : X → List ViewKind) (xs : List X) (x : X) (v : ViewKind) → Has xs x → Has (f x) v → Has (flat_map f xs) v
flat-has f [] x v h k = absurd h
flat-has f (first ∷ xs) x v (inl same) k = has-join (f first) (flat_map f xs) v (inl (subst (λ y. Has (f y) v) (sym same) k))
flat-has f (first ∷ xs) x v (inr h) k = has-join (f first) (flat_map f xs) v (inr (flat-has f xs x v h k))

among : (o : Option (List ViewKind)) (v : ViewKind) → Has (unwrap_or o []) v ↔ IsAmong o v
among (Some views) v = (λ h. h, λ h. h)
among None v = (λ h. h, λ h. h)

-- under a selector, if that is so before it
selector_exactly : (t : Table) (place : Place) (packages : List UnitKey) (before : ExpressionTree) (l : Label)
    → ((d : ViewKind) → Has (meant t place packages before) d ↔ Means t place packages before d)
    → (v : ViewKind) → Has (flat_map (picked t place packages l.text) (meant t place packages before)) v ↔ Means t place packages (e.Longer before (part.Selector l)) v
selector_exactly t place packages before l known v = (to, from)
  where
    to : Has (flat_map (picked t place packages l.text) (meant t place packages before)) v → Means t place packages (e.Longer before (part.Selector l)) v
    to h =
        let one = has-flat (picked t place packages l.text) (meant t place packages before) v h in
        (one.0, (known one.0).0 one.1, (among (selected_in t place packages l.text one.0) v).0 one.2)

    from : Means t place packages (e.Longer before (part.Selector l)) v → Has (flat_map (picked t place packages l.text) (meant t place packages before)) v
    from m = flat-has (picked t place packages l.text) (meant t place packages before) m.0 v ((known m.0).1 m.1) ((among (selected_in t place packages l.text m.0) v).1 m.2)

exactly : (t : Table) (place : Place) (packages : List UnitKey) (x : ExpressionTree) (v : ViewKind) → Has (meant t place packages x) v ↔ Means t place packages x v
exactly t place packages (e.Name l) v = (to, from)
  where
    to : Has (all_seen_at t place (visible_at t l.text place)) v → Means t place packages (e.Name l) v
    to h = let one = has-map (seen_at t place) (visible_at t l.text place) v h in (one.0, (visible-exactly t l.text place one.0).0 one.1, one.2)

    from : Means t place packages (e.Name l) v → Has (all_seen_at t place (visible_at t l.text place)) v
    from m = map-has (seen_at t place) (visible_at t l.text place) m.0 v ((visible-exactly t l.text place m.0).1 m.1) m.2
exactly t place packages (e.Longer before (part.Selector l)) v = selector_exactly t place packages before l (exactly t place packages before) v
exactly t place packages (e.Longer before (part.Arguments l first others)) v = (λ h. h, λ h. h)
exactly t place packages (e.Longer before (part.Attribute l)) v = (λ h. h, λ h. h)
exactly t place packages (e.Longer before part.RangeAttribute) v = (λ h. h, λ h. h)
exactly t place packages (e.Longer before (part.Operand g)) v = (λ h. h, λ h. h)
exactly t place packages (e.Number l) v = (λ h. h, λ h. h)
exactly t place packages (e.Text l) v = (λ h. h, λ h. h)
exactly t place packages (e.Prefixed operator operand) v = (λ h. h, λ h. h)
exactly t place packages (e.Infix left operator right) v = (λ h. h, λ h. h)
exactly t place packages (e.InMark left n mark) v = (λ h. h, λ h. h)
exactly t place packages (e.InRange left n low high) v = (λ h. h, λ h. h)
exactly t place packages (e.Group group) v = (λ h. h, λ h. h)

-- what is no name of identifiers means nothing
nameless : (t : Table) (place : Place) (packages : List UnitKey) (x : ExpressionTree) (v : ViewKind) → key_of x ≡ None → Means t place packages x v → ⊥
nameless t place packages (e.Name l) v is m = absurd (cc)
nameless t place packages (e.Longer before (part.Selector l)) v is m = at (key_of before) refl is (λ none. nameless t place packages before m.0 none m.1)
  where
    at : (o : Option (List ℕ)) → key_of before ≡ o → option_map (λ k. dotted k l.text) o ≡ None → (key_of before ≡ None → ⊥) → ⊥
    at None i h more = more i
    at (Some k) i h more = absurd (cc)
nameless t place packages (e.Longer before (part.Arguments l first others)) v is m = m
nameless t place packages (e.Longer before (part.Attribute l)) v is m = m
nameless t place packages (e.Longer before part.RangeAttribute) v is m = m
nameless t place packages (e.Longer before (part.Operand g)) v is m = m
nameless t place packages (e.Number l) v is m = m
nameless t place packages (e.Text l) v is m = m
nameless t place packages (e.Prefixed operator operand) v is m = m
nameless t place packages (e.Infix left operator right) v is m = m
nameless t place packages (e.InMark left n mark) v is m = m
nameless t place packages (e.InRange left n low high) v is m = m
nameless t place packages (e.Group group) v is m = m

-- ---- both

-- what is found under this name, if it is one
abbrev under : Names → Option (List ℕ) → List ViewKind
under names o = option_map_or (views_of names.visible) o []

meant_under : (t : Table) (place : Place) (packages : List UnitKey) (x : ExpressionTree) (o : Option (List ℕ)) → key_of x ≡ o → AreMeant t place packages x (under (names_at t place packages x) o)
meant_under t place packages x None is v = (λ h. absurd h, nameless t place packages x v is)
meant_under t place packages x (Some key) is v = subst (λ (views : List ViewKind). Has views v ↔ Means t place packages x v) (sym (done t place packages x key is).has) (exactly t place packages x v)

pub all_meant : (t : Table) (place : Place) (packages : List UnitKey) (x : ExpressionTree) → AreMeant t place packages x (found_under (names_at t place packages x) x)
all_meant t place packages x = meant_under t place packages x (key_of x) refl
