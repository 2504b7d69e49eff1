-- Lists that take an item once, beside a set that has the same items.
use Rattle.std.proofs.Common.{◌≡◌, ℕ, Bool, true, false, not, ◌&&◌, ◌||◌, List, [], ◌∷◌, ◌++◌, Vec, map, refl, sym, ap, subst, ◌∙◌, if◌then◌else◌}
use Rattle.std.specs.List.{list_any}
use Rattle.std.specs.Ordering.{is_eq, match_ordering, ordering_then, nat_cmp}
use Rattle.std.specs.declared.cmp.Ordering.{Ordering}
use Rattle.std.specs.declared.cmp.Ordering.TheVariants.{Less, Equal, Greater}
use Rattle.std.specs.Cmp.Lexicographic.{slice_cmp}
use Rattle.std.specs.Str.{bytes_eq}
use Rattle.std.specs.BTreeMap.{is_at}
use Rattle.std.specs.BTreeSet.{insert_key}
use Rattle.std.proofs.lemmas.List.Folds.{list_any-append}
use Rattle.std.proofs.lemmas.Map.Text.{is_eq-slice_cmp}
use Rattle.std.proofs.lemmas.Slice.Eq.{bytes_eq-Decides}
use Rattle.al_base.specs.Batch.{Key}
use Rattle.al_base.specs.declared.unit_key.UnitKind.{UnitKind}
use Rattle.al_base.specs.declared.unit_key.UnitKind.TheVariants.{Decl, Body, Sub}
use Rattle.al_unit_graph.specs.Library.{is_kind}
use Rattle.al_unit_graph.specs.Closures.{is_same_key, with_item, AreAlike}
use Rattle.al_unit_graph.proofs.ClosureLemmas.{same_key}
use Rattle.al_unit_graph.proofs.MeetLemmas.{same_name}

absorbed : (a r : Bool) → (a || r) ≡ (a || (a || r))
absorbed true r = refl
absorbed false r = refl

swapped : (a b r : Bool) → (a || (b || r)) ≡ (b || (a || r))
swapped true true r = refl
swapped true false r = refl
swapped false b r = refl

last : (r a : Bool) → (r || (a || false)) ≡ (a || r)
last true true = refl
last true false = refl
last false true = refl
last false false = refl

module _ {S X : Type 0} (R : S → S → Ordering) (view : S → X) (is_same : X → X → Bool) (same : (a b : X) → is_same a b ≡ true → a ≡ b) (itself : (a : X) → is_same a a ≡ true) (tells : (a b : S) → is_at (R a) b ≡ is_same (view b) (view a)) where
  abbrev has : List X → X → Bool
  has xs x = list_any (λ y. is_same y x) xs

  -- the set's own test
  in_set : (ks : List S) (k : S) → list_any (is_at (R k)) ks ≡ has (map view ks) (view k)
  in_set [] k = refl
  in_set (j ∷ js) k = ap (λ b. b || list_any (is_at (R k)) js) (tells k j) ∙ ap (λ b. is_same (view j) (view k) || b) (in_set js k)

  insert_by : (j : S) (js : List S) (k : S) (x : X) (o : Ordering) → R k j ≡ o → has (map view (insert_key R js k)) x ≡ (is_same (view k) x || has (map view js) x) → has (map view (match_ordering o (k ∷ j ∷ js) (j ∷ js) (j ∷ insert_key R js k))) x ≡ (is_same (view k) x || has (map view (j ∷ js)) x)
  insert_by j js k x Less is rest = refl
  insert_by j js k x Equal is rest =
      let at : is_at (R k) j ≡ true = ap is_eq is in
      let e : view j ≡ view k = same (view j) (view k) (sym (tells k j) ∙ at) in
      absorbed (is_same (view j) x) (has (map view js) x) ∙ ap (λ v. is_same v x || (is_same (view j) x || has (map view js) x)) e
  insert_by j js k x Greater is rest =
      ap (λ b. is_same (view j) x || b) rest ∙ swapped (is_same (view j) x) (is_same (view k) x) (has (map view js) x)

  with_inserted : (ks : List S) (k : S) (x : X) → has (map view (insert_key R ks k)) x ≡ (is_same (view k) x || has (map view ks) x)
  with_inserted [] k x = refl
  with_inserted (j ∷ js) k x = insert_by j js k x (R k j) refl (with_inserted js k x)

  there_by : (xs : List X) (y x : X) (b : Bool) → has xs y ≡ true → is_same y x ≡ b → has xs x ≡ (b || has xs x)
  there_by xs y x true is alike = subst (λ v. has xs v ≡ true) (same y x alike) is
  there_by xs y x false is alike = refl

  item_by : (b : Bool) (xs : List X) (y x : X) → has xs y ≡ b → has (if b then xs else xs ++ y ∷ []) x ≡ (is_same y x || has xs x)
  item_by true xs y x is = there_by xs y x (is_same y x) is refl
  item_by false xs y x is = list_any-append (λ z. is_same z x) xs (y ∷ []) ∙ last (has xs x) (is_same y x)

  module _ (ks : List S) (k : S) (xs : List X) (so_far : AreAlike is_same (map view ks) xs) where
    pub one_model : AreAlike is_same (map view (insert_key R ks k)) (with_item is_same xs (view k))
    one_model = record {
      alike = λ x. with_inserted ks k x ∙ ap (λ b. is_same (view k) x || b) (so_far.alike x) ∙ sym (item_by (has xs (view k)) xs (view k) x refl);
    }

    asked : (b : Bool) → b ≡ not (list_any (is_at (R k)) ks) → has xs (view k) ≡ not b
    asked b is = sym (so_far.alike (view k)) ∙ sym (in_set ks k) ∙ by (list_any (is_at (R k)) ks) is where
      by : (c : Bool) → b ≡ not c → c ≡ not b
      by true e = rw e refl
      by false e = rw e refl

    pub one_old : (b : Bool) → b ≡ not (list_any (is_at (R k)) ks) → b ≡ false → with_item is_same xs (view k) ≡ xs
    one_old b is old = ap (λ c. if c then xs else xs ++ view k ∷ []) (asked b is ∙ ap not old)

    pub one_new : (b : Bool) → b ≡ not (list_any (is_at (R k)) ks) → b ≡ true → with_item is_same xs (view k) ≡ xs ++ view k ∷ []
    one_new b is new = ap (λ c. if c then xs else xs ++ view k ∷ []) (asked b is ∙ ap not new)

-- names
pub itself_name : (a : List ℕ) → bytes_eq a a ≡ true
itself_name a = (bytes_eq-Decides a a).1 refl

same_both : (a b : List ℕ) (c d : Bool) → bytes_eq a b ≡ c → bytes_eq b a ≡ d → c ≡ d
same_both a b true true e f = refl
same_both a b false false e f = refl
same_both a b true false e f = let g = sym (subst (λ v. bytes_eq v a ≡ true) (same_name a b e) (itself_name a)) ∙ f in absurd (cc)
same_both a b false true e f = let g = sym (subst (λ v. bytes_eq v b ≡ true) (same_name b a f) (itself_name b)) ∙ e in absurd (cc)

turned : (a b : List ℕ) → bytes_eq a b ≡ bytes_eq b a
turned a b = same_both a b (bytes_eq a b) (bytes_eq b a) refl refl

pub tells_name : {Y : Type 0} (a b : Vec ℕ Y) → is_at (λ (k : Vec ℕ Y). slice_cmp nat_cmp a.items k.items) b ≡ bytes_eq b.items a.items
tells_name a b = is_eq-slice_cmp a.items b.items ∙ turned a.items b.items

-- keys
kind_itself : (a : UnitKind) → is_kind a a ≡ true
kind_itself Decl = refl
kind_itself Body = refl
kind_itself Sub = refl

pub itself_key : (a : Key) → is_same_key a a ≡ true
itself_key a = rw (itself_name a.0, kind_itself a.1) refl

eq_then : (o p : Ordering) → is_eq (ordering_then o p) ≡ (is_eq o && is_eq p)
eq_then Less p = refl
eq_then Equal p = refl
eq_then Greater p = refl

module _ {Y : Type 0} (R : Vec ℕ Y × UnitKind → Vec ℕ Y × UnitKind → Ordering) where
  abbrev Then : Vec ℕ Y → Vec ℕ Y → UnitKind → UnitKind → Ordering → Type 0
  Then n m a b o = R (n, a) (m, b) ≡ ordering_then (slice_cmp nat_cmp n.items m.items) o

  -- the order of the set is by the names, and of one name by the kinds
  abbrev pub IsByKinds : Type 0
  IsByKinds = (n m : Vec ℕ Y) → Then n m Decl Decl Equal × Then n m Decl Body Less × Then n m Decl Sub Less × Then n m Body Decl Greater × Then n m Body Body Equal × Then n m Body Sub Less × Then n m Sub Decl Greater × Then n m Sub Body Greater × Then n m Sub Sub Equal

  module _ (kinds : IsByKinds) where
    at_key : (n m : Vec ℕ Y) (a b : UnitKind) → is_eq (R (n, a) (m, b)) ≡ (is_eq (slice_cmp nat_cmp n.items m.items) && is_kind b a)
    at_key n m Decl Decl = ap is_eq (kinds n m).0 ∙ eq_then (slice_cmp nat_cmp n.items m.items) Equal
    at_key n m Decl Body = ap is_eq (kinds n m).1 ∙ eq_then (slice_cmp nat_cmp n.items m.items) Less
    at_key n m Decl Sub = ap is_eq (kinds n m).2 ∙ eq_then (slice_cmp nat_cmp n.items m.items) Less
    at_key n m Body Decl = ap is_eq (kinds n m).3 ∙ eq_then (slice_cmp nat_cmp n.items m.items) Greater
    at_key n m Body Body = ap is_eq (kinds n m).4 ∙ eq_then (slice_cmp nat_cmp n.items m.items) Equal
    at_key n m Body Sub = ap is_eq (kinds n m).5 ∙ eq_then (slice_cmp nat_cmp n.items m.items) Less
    at_key n m Sub Decl = ap is_eq (kinds n m).6 ∙ eq_then (slice_cmp nat_cmp n.items m.items) Greater
    at_key n m Sub Body = ap is_eq (kinds n m).7 ∙ eq_then (slice_cmp nat_cmp n.items m.items) Greater
    at_key n m Sub Sub = ap is_eq (kinds n m).8 ∙ eq_then (slice_cmp nat_cmp n.items m.items) Equal

    pub tells_key : (a b : Vec ℕ Y × UnitKind) → is_at (R a) b ≡ is_same_key (b.0.items, b.1) (a.0.items, a.1)
    tells_key a b =
        at_key a.0 b.0 a.1 b.1
        ∙ ap (λ c. c && is_kind b.1 a.1) (is_eq-slice_cmp a.0.items b.0.items ∙ turned a.0.items b.0.items)

-- one more item, and whether it was new
pub record IsAdded {X : Type 0} (is_same : X → X → Bool) (seen items : List X) (item : X) (is_new : Bool) : Type 0 where
  pub alike : AreAlike is_same seen (with_item is_same items item)
  pub old : is_new ≡ false → with_item is_same items item ≡ items
  pub new : is_new ≡ true → with_item is_same items item ≡ items ++ item ∷ []

pub key_added : {Y : Type 0} (R : Vec ℕ Y × UnitKind → Vec ℕ Y × UnitKind → Ordering) (now ks : List (Vec ℕ Y × UnitKind)) (k : Vec ℕ Y × UnitKind) (keys : List Key) (b : Bool) → now ≡ insert_key R ks k → b ≡ not (list_any (is_at (R k)) ks) → IsByKinds R → AreAlike is_same_key (map (λ s. (s.0.items, s.1)) ks) keys → IsAdded is_same_key (map (λ s. (s.0.items, s.1)) now) keys (k.0.items, k.1) b
key_added {Y} R now ks k keys b is asked kinds so_far =
    let view : Vec ℕ Y × UnitKind → Key = λ s. (s.0.items, s.1) in
    let P : List (Vec ℕ Y × UnitKind) → Type 0 = λ ns. AreAlike is_same_key (map view ns) (with_item is_same_key keys (view k)) in
    record {
      alike = subst P (sym is) (one_model R view is_same_key same_key itself_key (tells_key R kinds) ks k keys so_far);
      old = one_old R view is_same_key same_key itself_key (tells_key R kinds) ks k keys so_far b asked;
      new = one_new R view is_same_key same_key itself_key (tells_key R kinds) ks k keys so_far b asked;
    }

pub name_added : {Y : Type 0} (now ks : List (Vec ℕ Y)) (k : Vec ℕ Y) (names : List (List ℕ)) (b : Bool) → now ≡ insert_key (λ (x y : Vec ℕ Y). slice_cmp nat_cmp x.items y.items) ks k → b ≡ not (list_any (is_at (λ (y : Vec ℕ Y). slice_cmp nat_cmp k.items y.items)) ks) → AreAlike bytes_eq (map (λ s. s.items) ks) names → IsAdded bytes_eq (map (λ s. s.items) now) names k.items b
name_added {Y} now ks k names b is asked so_far =
    let view : Vec ℕ Y → List ℕ = λ s. s.items in
    let R : Vec ℕ Y → Vec ℕ Y → Ordering = λ x y. slice_cmp nat_cmp x.items y.items in
    let P : List (Vec ℕ Y) → Type 0 = λ ns. AreAlike bytes_eq (map view ns) (with_item bytes_eq names (view k)) in
    record {
      alike = subst P (sym is) (one_model R view bytes_eq same_name itself_name tells_name ks k names so_far);
      old = one_old R view bytes_eq same_name itself_name tells_name ks k names so_far b asked;
      new = one_new R view bytes_eq same_name itself_name tells_name ks k names so_far b asked;
    }
