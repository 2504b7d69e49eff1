-- Lists of keys that grow until they are closed.
use Rattle.std.proofs.Common.{◌≡◌, ℕ, zero, suc, ◌<◌, ◌≤◌, ◌+◌, Bool, true, false, ◌⊎◌, inl, inr, ◌↔◌, List, [], ◌∷◌, ◌++◌, length, get_or, Option, Some, None, if◌then◌else◌, map, refl, ap, subst, sym, ◌∙◌, arith}
use Rattle.std.specs.Option.{option_map_or}
use Rattle.std.specs.Str.{bytes_eq}
use Rattle.std.specs.List.{Contains, list_any}
use Rattle.std.proofs.lemmas.Grind.{common_steps}
use Rattle.std.proofs.lemmas.List.{get_or_append_left}
use Rattle.std.proofs.lemmas.List.Elements.{Contains-append_left, Contains-append_right, Contains-append_cases, Contains-push, Contains-push_cases}
use Rattle.std.proofs.lemmas.Bool.{cases_lt}
use Rattle.std.proofs.lemmas.Slice.Eq.{bytes_eq-Decides}
use Rattle.al_base.specs.Batch.{Key}
use Rattle.al_base.specs.declared.unit_key.UnitKind.{UnitKind}
use Rattle.al_base.specs.declared.unit_key.UnitKind.TheVariants.{Decl, Body, Sub}
use Rattle.al_unit_graph.specs.Headers.{Header, Library}
use Rattle.al_unit_graph.specs.Library.{unit_at, is_kind, declaration_of}
use Rattle.al_unit_graph.specs.Dependence.{direct, listed, DependsOn}
use Rattle.al_unit_graph.specs.Dependence.DependsOn.{directly, through}
use Rattle.al_base_graph.specs.Closing.{Reached}
use Rattle.al_base_graph.specs.Closing.Reached.{start, further}
use Rattle.al_unit_graph.specs.Closures.{next, is_same_key, with_item, with_items}
use Rattle.al_unit_graph.specs.Needed.{body_of, subunits_of, Needed}
use Rattle.al_unit_graph.specs.Needed.Needed.{main_unit, dependence, body, subunit}
use Rattle.al_unit_graph.specs.declared.closure.Step.TheVariants.{Dependence, Need}
use Rattle.al_unit_graph.proofs.BoolLemmas.{both}
use Rattle.al_base_graph.proofs.Members.{nowhere, the_one, one, first, later, first_or_later}

same_kind : (a b : UnitKind) → is_kind a b ≡ true → a ≡ b
same_kind Decl Decl is = refl
same_kind Body Body is = refl
same_kind Sub Sub is = refl
same_kind Decl Body is = absurd (cc)
same_kind Decl Sub is = absurd (cc)
same_kind Body Decl is = absurd (cc)
same_kind Body Sub is = absurd (cc)
same_kind Sub Decl is = absurd (cc)
same_kind Sub Body is = absurd (cc)

pub same_key : (a b : Key) → is_same_key a b ≡ true → a ≡ b
same_key a b is =
    let parts = both (bytes_eq a.0 b.0) (is_kind a.1 b.1) is in
    let name = (bytes_eq-Decides a.0 b.0).0 parts.0 in
    let kind = same_kind a.1 b.1 parts.1 in
    let P : List ℕ → Key = λ n. (n, a.1) in
    let Q : UnitKind → Key = λ k. (b.0, k) in
    ap P name ∙ ap Q kind

-- a test that holds of an item holds of one
pub any_at : {X Y : Type 0} (p : Y → Bool) (f : X → Y) (xs : List X) (i : ℕ) (d : X) → i < length xs → p (f (get_or xs i d)) ≡ true → list_any p (map f xs) ≡ true
any_at p f [] i d within is = absurd (omega (arith, within))
any_at p f (x ∷ xs) zero d within is = grind (arith, is)
any_at p f (x ∷ xs) (suc i) d within is =
    let rest = any_at p f xs i d (omega (arith, within)) is in
    grind (arith, common_steps, rest)

module _ {X : Type 0} (is_same : X → X → Bool) (same : (a b : X) → is_same a b ≡ true → a ≡ b) where
  found_by : (x : X) (xs : List X) (y : X) (b : Bool) → is_same x y ≡ b → (list_any (λ j. is_same j y) xs ≡ true → Contains xs y) → list_any (λ j. is_same j y) (x ∷ xs) ≡ true → Contains (x ∷ xs) y
  found_by x xs y true is rest any = subst (λ v. Contains (x ∷ xs) v) (same x y is) (first x xs)
  found_by x xs y false is rest any = later x xs y (rest (grind (arith, is, any)))

  pub found : (xs : List X) (y : X) → list_any (λ j. is_same j y) xs ≡ true → Contains xs y
  found [] y any = absurd (cc)
  found (x ∷ xs) y any = found_by x xs y (is_same x y) refl (found xs y) any

  -- one item more
  module _ (keys : List X) (key : X) where
    abbrev by : Bool → List X
    by b = if b then keys else keys ++ key ∷ []

    by-from : (b : Bool) (y : X) → Contains (by b) y → Contains keys y ⊎ (key ≡ y)
    by-from true y c = inl c
    by-from false y c = Contains-push_cases keys key y c

    by-old : (b : Bool) (y : X) → Contains keys y → Contains (by b) y
    by-old true y c = c
    by-old false y c = Contains-append_left keys (key ∷ []) y c

    by-new : (b : Bool) → list_any (λ k. is_same k key) keys ≡ b → Contains (by b) key
    by-new true is = found keys key is
    by-new false is = Contains-push keys key

    by-length : (b : Bool) → length keys ≤ length (by b)
    by-length true = omega arith
    by-length false = grind (arith, common_steps)

    by-get : (b : Bool) (i : ℕ) (d : X) → i < length keys → get_or (by b) i d ≡ get_or keys i d
    by-get true i d within = refl
    by-get false i d within = get_or_append_left keys (key ∷ []) d i within

  abbrev with_one : List X → X → List X
  with_one keys k = with_item is_same keys k

  abbrev with_all : List X → List X → List X
  with_all keys ks = with_items is_same keys ks

  with-from : (keys ks : List X) (y : X) → Contains (with_all keys ks) y → Contains keys y ⊎ Contains ks y
  with-from keys [] y c = inl c
  with-from keys (k ∷ ks) y c =
      elim (with-from (with_one keys k) ks y c) [
        | inr h ↦ inr (later k ks y h)
        | inl h ↦
            elim (by-from keys k (list_any (λ j. is_same j k) keys) y h) [
              | inl old ↦ inl old
              | inr e ↦ inr (subst (λ v. Contains (k ∷ ks) v) e (first k ks))
            ]
      ]

  with-old : (keys ks : List X) (y : X) → Contains keys y → Contains (with_all keys ks) y
  with-old keys [] y c = c
  with-old keys (k ∷ ks) y c = with-old (with_one keys k) ks y (by-old keys k (list_any (λ j. is_same j k) keys) y c)

  with-new : (keys ks : List X) (y : X) → Contains ks y → Contains (with_all keys ks) y
  with-new keys [] y c = absurd (nowhere y c)
  with-new keys (k ∷ ks) y c =
      elim (first_or_later k ks y c) [
        | inl e ↦
            let here = by-new keys k (list_any (λ j. is_same j k) keys) refl in
            with-old (with_one keys k) ks y (subst (λ v. Contains (with_one keys k) v) e here)
        | inr h ↦ with-new (with_one keys k) ks y h
      ]

  with-length : (keys ks : List X) → length keys ≤ length (with_all keys ks)
  with-length keys [] = omega arith
  with-length keys (k ∷ ks) =
      let one_more = by-length keys k (list_any (λ j. is_same j k) keys) in
      let rest = with-length (with_one keys k) ks in
      omega (arith, one_more, rest)

  with-get : (keys ks : List X) (i : ℕ) (d : X) → i < length keys → get_or (with_all keys ks) i d ≡ get_or keys i d
  with-get keys [] i d within = refl
  with-get keys (k ∷ ks) i d within =
      let b = list_any (λ j. is_same j k) keys in
      let longer = by-length keys k b in
      with-get (with_one keys k) ks i d (omega (arith, within, longer)) ∙ by-get keys k b i d within

pub with_items-push : {X : Type 0} (is_same : X → X → Bool) (keys ks : List X) (k : X) → with_items is_same keys (ks ++ k ∷ []) ≡ with_item is_same (with_items is_same keys ks) k
with_items-push is_same keys [] k = refl
with_items-push is_same keys (j ∷ ks) k = with_items-push is_same (with_item is_same keys j) ks k

-- an item goes by its number alone, where that is within the list
get_alike : {X : Type 0} (keys : List X) (k : ℕ) (d e : X) → k < length keys → get_or keys k d ≡ get_or keys k e
get_alike [] k d e within = absurd (omega (arith, within))
get_alike (x ∷ xs) zero d e within = refl
get_alike (x ∷ xs) (suc k) d e within = get_alike xs k d e (omega (arith, within))

at_or_before : (k i : ℕ) → k < i + 1 → (k < i) ⊎ (k ≡ i)
at_or_before k i less = elim (cases_lt k i) [ inl h ↦ inl h | inr h ↦ inr (omega (arith, h, less)) ]

-- the items are reached, and the first so many have all that they lead to
pub record IsClosedTo {X : Type 0} (next : X → List X) (start : List X) (keys : List X) (i : ℕ) : Type 0 where
  pub sound : (y : X) → Contains keys y → Reached next start y
  pub begun : (y : X) → Contains start y → Contains keys y
  pub closed : (k : ℕ) (d y : X) → k < i → k < length keys → Contains (next (get_or keys k d)) y → Contains keys y

module _ {X : Type 0} (is_same : X → X → Bool) (same : (a b : X) → is_same a b ≡ true → a ≡ b) (next : X → List X) (from : List X) where
  abbrev with_more : List X → List X → List X
  with_more keys ks = with_items is_same keys ks

  pub closed_at_start : IsClosedTo next from (with_more [] from) 0
  closed_at_start = record {
    sound = λ y c. elim (with-from is_same same [] from y c) [ inl h ↦ absurd (nowhere y h) | inr h ↦ start h ];
    begun = λ y c. with-new is_same same [] from y c;
    closed = λ k d y less within c. absurd (omega (arith, less));
  }

  closed_by : (keys : List X) (i : ℕ) (d : X) → IsClosedTo next from keys i → i < length keys → (k : ℕ) (e y : X) → (k < i) ⊎ (k ≡ i) → Contains (next (get_or (with_more keys (next (get_or keys i d))) k e)) y → Contains (with_more keys (next (get_or keys i d))) y
  closed_by keys i d so_far within k e y (inl less) c =
      let more = next (get_or keys i d) in
      let is = with-get is_same same keys more k e (omega (arith, less, within)) in
      with-old is_same same keys more y (so_far.closed k e y less (omega (arith, less, within)) (subst (λ v. Contains (next v) y) is c))
  closed_by keys i d so_far within k e y (inr here) c =
      let more = next (get_or keys i d) in
      let is = with-get is_same same keys more k e (omega (arith, here, within)) ∙ ap (λ n. get_or keys n e) here ∙ get_alike keys i e d within in
      with-new is_same same keys more y (subst (λ v. Contains (next v) y) is c)

  pub closed_further : (keys : List X) (i : ℕ) (d : X) → IsClosedTo next from keys i → i < length keys → IsClosedTo next from (with_more keys (next (get_or keys i d))) (i + 1)
  closed_further keys i d so_far within =
      let more = next (get_or keys i d) in
      let here : Contains keys (get_or keys i d) = (i, within, get_alike keys i (get_or keys i d) d within) in
      record {
        sound = λ y c. elim (with-from is_same same keys more y c) [ inl h ↦ so_far.sound y h | inr h ↦ further (so_far.sound (get_or keys i d) here) h ];
        begun = λ y c. with-old is_same same keys more y (so_far.begun y c);
        closed = λ k e y less longer c. closed_by keys i d so_far within k e y (at_or_before k i less) c;
      }

module _ {X : Type 0} (next : X → List X) (from : List X) where
  in_closed : (keys : List X) (i : ℕ) → IsClosedTo next from keys i → length keys ≤ i → (y : X) → Reached next from y → Contains keys y
  in_closed keys i so_far ended y (start c) = so_far.begun y c
  in_closed keys i so_far ended y (further {x = x} r c) =
      let at = in_closed keys i so_far ended x r in
      so_far.closed at.0 x y (omega (arith, at.1, ended)) at.1 (subst (λ v. Contains (next v) y) (sym at.2) c)

  pub closed_at_end : (keys : List X) (i : ℕ) → IsClosedTo next from keys i → length keys ≤ i → (y : X) → Contains keys y ↔ Reached next from y
  closed_at_end keys i so_far ended y = (so_far.sound y, in_closed keys i so_far ended y)

module _ (lib : Library) where
  -- what is reached from units that are depended on is depended on
  onwards : (x y : Key) → Reached (next lib Dependence) (direct lib x) y → DependsOn lib x y
  onwards x y (start c) = directly c
  onwards x y (further {x = z} r c) = through (onwards x z r) (directly c)

  -- a unit that is reached leads to all on which it depends
  leads : (from : List Key) (x y : Key) → DependsOn lib x y → Reached (next lib Dependence) from x → Reached (next lib Dependence) from y
  leads from x y (directly c) r = further r c
  leads from x y (through {y = z} d e) r = leads from z y e (leads from x z d r)

  backwards : (x y : Key) → DependsOn lib x y → Reached (next lib Dependence) (direct lib x) y
  backwards x y (directly c) = start c
  backwards x y (through {y = z} d e) = leads (direct lib x) z y e (backwards x z d)

  pub depends_reached : (x y : Key) → Reached (next lib Dependence) (direct lib x) y ↔ DependsOn lib x y
  depends_reached x y = (onwards x y, backwards x y)

  itself_or : (x y : Key) → Reached (next lib Dependence) (x ∷ []) y → (x ≡ y) ⊎ DependsOn lib x y
  itself_or x y (start c) = inl (the_one x y c)
  itself_or x y (further {x = z} r c) =
      elim (itself_or x z r) [
        | inl same ↦ inr (directly (subst (λ v. Contains (direct lib v) y) (sym same) c))
        | inr d ↦ inr (through d (directly c))
      ]

  from_itself : (x y : Key) → (x ≡ y) ⊎ DependsOn lib x y → Reached (next lib Dependence) (x ∷ []) y
  from_itself x y (inl same) = start (subst (λ v. Contains (x ∷ []) v) same (one x))
  from_itself x y (inr d) = leads (x ∷ []) x y d (start (one x))

  pub closure_reached : (x y : Key) → Reached (next lib Dependence) (x ∷ []) y ↔ ((x ≡ y) ⊎ DependsOn lib x y)
  closure_reached x y = (itself_or x y, from_itself x y)

  from_listed : (o : Option Key) (y : Key) → Contains (listed o) y → o ≡ Some y
  from_listed None y c = absurd (nowhere y c)
  from_listed (Some x) y c = ap (λ k. Some k) (the_one x y c)

  subunits_at : (x y : Key) (o : Option Header) → unit_at lib x ≡ o → Contains (option_map_or (subunits_of lib x.0) o []) y → (h : Header) × (unit_at lib x ≡ Some h) × Contains (subunits_of lib x.0 h) y
  subunits_at x y None is c = absurd (nowhere y c)
  subunits_at x y (Some h) is c = (h, is, c)

  into_need : (main : List ℕ) (y : Key) → Reached (next lib Need) (listed (declaration_of lib main)) y → Needed lib main y
  into_need main y (start c) = main_unit (from_listed (declaration_of lib main) y c)
  into_need main y (further {x = x} r c) =
      let n = into_need main x r in
      let subs = option_map_or (subunits_of lib x.0) (unit_at lib x) [] in
      elim (Contains-append_cases (direct lib x ++ body_of lib x) subs y c) [
        | inl h ↦ elim (Contains-append_cases (direct lib x) (body_of lib x) y h) [ inl d ↦ dependence n d | inr b ↦ body n b ]
        | inr s ↦ let t = subunits_at x y (unit_at lib x) refl s in subunit n t.1 t.2
      ]

  from_need : (main : List ℕ) (y : Key) → Needed lib main y → Reached (next lib Need) (listed (declaration_of lib main)) y
  from_need main y (main_unit is) = start (subst (λ o. Contains (listed o) y) (sym is) (one y))
  from_need main y (dependence {x = x} n c) =
      further (from_need main x n) (Contains-append_left (direct lib x ++ body_of lib x) (option_map_or (subunits_of lib x.0) (unit_at lib x) []) y (Contains-append_left (direct lib x) (body_of lib x) y c))
  from_need main y (body {x = x} n c) =
      further (from_need main x n) (Contains-append_left (direct lib x ++ body_of lib x) (option_map_or (subunits_of lib x.0) (unit_at lib x) []) y (Contains-append_right (direct lib x) (body_of lib x) y c))
  from_need main y (subunit {x = x} n is c) =
      further (from_need main x n) (Contains-append_right (direct lib x ++ body_of lib x) (option_map_or (subunits_of lib x.0) (unit_at lib x) []) y (subst (λ o. Contains (option_map_or (subunits_of lib x.0) o []) y) (sym is) c))

  pub needed_reached : (main : List ℕ) (y : Key) → Reached (next lib Need) (listed (declaration_of lib main)) y ↔ Needed lib main y
  needed_reached main y = (into_need main y, from_need main y)
