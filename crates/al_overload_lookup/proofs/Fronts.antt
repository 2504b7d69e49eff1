-- A name of identifiers: if nothing is visible under a prefix of it, nothing is selected after that prefix.
use Rattle.std.proofs.Common.{◌≡◌, ℕ, suc, ◌+◌, ◌<◌, List, [], ◌∷◌, ◌++◌, Bool, true, false, cond, if◌then◌else◌, length, drop, drop-cons, add-one, get_or, map, Option, Some, None, refl, sym, ap, ◌∙◌, subst, arith}
use Rattle.std.proofs.lemmas.List.{length-append}
use Rattle.std.proofs.lemmas.Slice.Eq.{bytes_eq-Decides}
use Rattle.std.specs.Map.{lookup}
use Rattle.std.specs.Prelude.{fold, unwrap_or}
use Rattle.std.specs.Str.{bytes_eq}
use Rattle.al_base.specs.declared.unit_key.UnitKey.{UnitKey}
use Rattle.al_overload_lookup.specs.Keys.{dotted, is_none}
use Rattle.al_overload_lookup.specs.declared.denoted.Names.{Names}
use Rattle.al_overload_lookup.specs.Lookups.{found, is_new, looked_up, looked_up_all, nothing_found, selected_in, with_each, with_selected, with_views}
use Rattle.al_overload_lookup.specs.TextNames.{identifier_names, selector_names}
use Rattle.al_tree_grammar.specs.Grammar.{Label}
use Rattle.al_overload_lookup.specs.declared.name.TextName.TheVariants.{Simple, Selected}
use Rattle.al_query.specs.Reads.{Table}
use Rattle.al_scope.specs.Places.{Place}
use Rattle.al_scope.specs.Visible.{visible_at}
use Rattle.al_scope.specs.Seen.{all_seen_at}
use Rattle.al_tree.specs.Lexemes.{identifier_label}
use Rattle.al_tree.specs.declared.names.Identifier.{Identifier}
use Rattle.al_view.specs.Interfaces.{views_of, with_view}
use Rattle.al_view.specs.Named.{Declarations}
use Rattle.al_view.specs.declared.view.ViewKind.{ViewKind}

same-front : (b : Bool) (here : List ViewKind) (one two : Option (List ViewKind)) → unwrap_or one [] ≡ unwrap_or two [] → unwrap_or (cond b (Some here) one) [] ≡ unwrap_or (cond b (Some here) two) []
same-front true here one two h = refl
same-front false here one two h = h

-- the next item is before the rest
left : {X : Type 0} (xs : List X) (i : ℕ) (x : X) → i < length xs → x ≡ get_or xs i x → drop i xs ≡ x ∷ drop (i + 1) xs
left xs i x inside is = rw add-one (drop-cons xs i x inside ∙ ap (λ y. y ∷ drop (suc i) xs) (sym is))

-- the views of another name stay
with_view-other : (d : Declarations) (name other : List ℕ) (v : ViewKind) → bytes_eq other name ≡ false → views_of (with_view d name v) other ≡ views_of d other
with_view-other [] name other v h = ap (λ b. unwrap_or (cond b (Some (v ∷ [])) None) []) h
with_view-other (e ∷ es) name other v h = at (bytes_eq name e.0) refl (with_view-other es name other v h)
  where
    at : (b : Bool) → bytes_eq name e.0 ≡ b → views_of (with_view es name v) other ≡ views_of es other → views_of (cond b ((e.0, e.1 ++ v ∷ []) ∷ es) (e ∷ with_view es name v)) other ≡ views_of (e ∷ es) other
    at true i more =
        let same : name ≡ e.0 = (bytes_eq-Decides name e.0).0 i in
        let apart : bytes_eq other e.0 ≡ false = subst (λ (k : List ℕ). bytes_eq other k ≡ false) same h in
        ap (λ b. unwrap_or (cond b (Some (e.1 ++ v ∷ [])) (lookup (bytes_eq other) es)) []) apart
        ∙ sym (ap (λ b. unwrap_or (cond b (Some e.1) (lookup (bytes_eq other) es)) []) apart)
    at false i more = same-front (bytes_eq other e.0) e.1 (lookup (bytes_eq other) (with_view es name v)) (lookup (bytes_eq other) es) more

pub views-other : (d : Declarations) (name other : List ℕ) (vs : List ViewKind) → bytes_eq other name ≡ false → views_of (with_views d name vs) other ≡ views_of d other
views-other d name other [] h = refl
views-other d name other (v ∷ vs) h = views-other (with_view d name v) name other vs h ∙ with_view-other d name other v h

-- a name is none that is longer
apart : (other name : List ℕ) → length name < length other → bytes_eq other name ≡ false
apart other name h = at (bytes_eq other name) refl
  where
    at : (b : Bool) → bytes_eq other name ≡ b → b ≡ false
    at true i = let same : other ≡ name = (bytes_eq-Decides other name).0 i in absurd (omega (arith, ap length same))
    at false i = refl

selected-other : (key other : List ℕ) (v : ViewKind) (names : Names) (o : Option (List ViewKind)) → bytes_eq other key ≡ false → views_of (with_selected key v names o).visible other ≡ views_of names.visible other
selected-other key other v names (Some found) h = views-other names.visible key other found h
selected-other key other v names None h = refl

pub each-other : (t : Table) (place : Place) (packages : List UnitKey) (key name other : List ℕ) (names : Names) (vs : List ViewKind) → bytes_eq other key ≡ false → views_of (with_each t place packages key name names vs).visible other ≡ views_of names.visible other
each-other t place packages key name other names [] h = refl
each-other t place packages key name other names (v ∷ vs) h =
    each-other t place packages key name other (with_selected key v names (selected_in t place packages name v)) vs h
    ∙ selected-other key other v names (selected_in t place packages name v) h

longer : (key name : List ℕ) → length key < length (dotted key name)
longer key name = omega (arith, length-append key (46 ∷ name))

-- nothing is visible under a name that is longer than this prefix
abbrev pub IsFront : Names → List ℕ → Type 0
IsFront names key = (q : List ℕ) → length key < length q → views_of names.visible q ≡ []

first_front : (t : Table) (place : Place) (packages : List UnitKey) (text : List ℕ) → IsFront (looked_up t place packages nothing_found (Simple text)) text
unfolding looked_up
first_front t place packages text q h = views-other [] text q (all_seen_at t place (visible_at t text place)) (apart q text h)

next_front : (t : Table) (place : Place) (packages : List UnitKey) (names : Names) (key name : List ℕ) → IsFront names key → IsFront (looked_up t place packages names (Selected key name)) (dotted key name)
unfolding looked_up
next_front t place packages names key name front q h = at (is_new names (Selected key name))
  where
    more : length key < length q
    more = omega (arith, longer key name, h)

    at : (b : Bool) → views_of (if b then found t place packages names (Selected key name) else names).visible q ≡ []
    at true = each-other t place packages (dotted key name) name q names (views_of names.visible key) (apart q (dotted key name) h) ∙ front q more
    at false = front q more

-- a selector after a prefix under which nothing is visible
pub stays : (t : Table) (place : Place) (packages : List UnitKey) (names : Names) (key name : List ℕ) → views_of names.visible key ≡ [] → looked_up t place packages names (Selected key name) ≡ names
unfolding looked_up
stays t place packages names key name none = at (is_new names (Selected key name))
  where
    at : (b : Bool) → (if b then found t place packages names (Selected key name) else names) ≡ names
    at true = ap (λ (vs : List ViewKind). with_each t place packages (dotted key name) name names vs) none
    at false = refl

-- and all that follow
all_stay : (t : Table) (place : Place) (packages : List UnitKey) (names : Names) (key : List ℕ) (ls : List Label) → views_of names.visible key ≡ [] → IsFront names key → fold (looked_up t place packages) names (selector_names key ls) ≡ names
all_stay t place packages names key [] none front = refl
all_stay t place packages names key (l ∷ ls) none front =
    ap (λ (n : Names). fold (looked_up t place packages) n (selector_names (dotted key l.text) ls)) (stays t place packages names key l.text none)
    ∙ all_stay t place packages names (dotted key l.text) ls (front (dotted key l.text) (longer key l.text)) (λ q h. front q (omega (arith, longer key l.text, h)))

pub none_there : (vs : List ViewKind) → is_none vs ≡ true → vs ≡ []
none_there [] h = refl
none_there (v ∷ vs) h = absurd (cc)

-- ---- the loop over the selectors

-- with what is left to look up
abbrev pub with_rest : Table → Place → List UnitKey → Names → List ℕ → List Identifier → Names
with_rest t place packages names key selectors = fold (looked_up t place packages) names (selector_names key (map identifier_label selectors))

pub rest_more : (t : Table) (place : Place) (packages : List UnitKey) (names next : Names) (key more : List ℕ) (xs : List Identifier) (i : ℕ) (x : Identifier) → i < length xs → x ≡ get_or xs i x
    → next ≡ looked_up t place packages names (Selected key (identifier_label x).text)
    → more ≡ dotted key (identifier_label x).text
    → with_rest t place packages names key (drop i xs) ≡ with_rest t place packages next more (drop (i + 1) xs)
rest_more t place packages names next key more xs i x h here is key_is =
    ap (λ (ys : List Identifier). with_rest t place packages names key ys) (left xs i x h here)
    ∙ ap (λ (n : Names). with_rest t place packages n (dotted key (identifier_label x).text) (drop (i + 1) xs)) (sym is)
    ∙ ap (λ (k : List ℕ). with_rest t place packages next k (drop (i + 1) xs)) (sym key_is)

pub front_more : (t : Table) (place : Place) (packages : List UnitKey) (names next : Names) (key more text : List ℕ) → IsFront names key
    → next ≡ looked_up t place packages names (Selected key text)
    → more ≡ dotted key text
    → IsFront next more
front_more t place packages names next key more text front is key_is =
    subst (λ (k : List ℕ). IsFront next k) (sym key_is) (subst (λ (n : Names). IsFront n (dotted key text)) (sym is) (next_front t place packages names key text front))

-- where the first identifier is looked up
pub started : (t : Table) (place : Place) (packages : List UnitKey) (names : Names) (first : Label) (key : List ℕ) (xs : List Identifier)
    → names ≡ looked_up t place packages nothing_found (Simple first.text)
    → key ≡ first.text
    → (with_rest t place packages names key xs ≡ looked_up_all t place packages (identifier_names first (map identifier_label xs))) × IsFront names key
started t place packages names first key xs is key_is = (
  ap (λ (n : Names). with_rest t place packages n key xs) is ∙ ap (λ (k : List ℕ). with_rest t place packages (looked_up t place packages nothing_found (Simple first.text)) k xs) key_is,
  subst (λ (k : List ℕ). IsFront names k) (sym key_is) (subst (λ (n : Names). IsFront n first.text) (sym is) (first_front t place packages first.text)),
)

-- if nothing is visible under a prefix
pub rest_stays : (t : Table) (place : Place) (packages : List UnitKey) (names : Names) (key : List ℕ) (xs : List Identifier) → is_none (views_of names.visible key) ≡ true → IsFront names key → with_rest t place packages names key xs ≡ names
rest_stays t place packages names key xs none front = all_stay t place packages names key (map identifier_label xs) (none_there (views_of names.visible key) none) front
