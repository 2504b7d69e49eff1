-- Where names stand among names with their views, and what a view more changes of that.
use Rattle.std.proofs.Common.{◌≡◌, ℕ, zero, suc, ◌<◌, ◌++◌, List, [], ◌∷◌, Bool, true, false, cond, length, Option, Some, None, Vec, get_or, refl, sym, ◌∙◌, ap, arith}
use Rattle.std.specs.Prelude.{slice_get, slice_set}
use Rattle.std.specs.Map.{IsKeyTest, AreApart, KeepsOthers, lookup}
use Rattle.std.specs.Option.{option_map}
use Rattle.std.specs.Str.{bytes_eq}
use Rattle.std.proofs.lemmas.Bool.{true≢false}
use Rattle.std.proofs.lemmas.Slice.Eq.{bytes_eq-Decides}
use Rattle.al_view.specs.declared.view.ViewKind.{ViewKind}
use Rattle.al_view.specs.Named.{Declarations, named_of}
use Rattle.al_view.specs.Interfaces.{views_of, with_view}
use Rattle.al_view.specs.Places.{ArePlaces, place_of}

some-later : (o : Option ℕ) (k : ℕ) → option_map (λ k. suc k) o ≡ Some (suc k) → o ≡ Some k
some-later None k h = absurd (cc)
some-later (Some j) k h = let same : j ≡ k = cc in ap (λ (i : ℕ). Some i) same

none-later : (o : Option ℕ) → option_map (λ k. suc k) o ≡ None → o ≡ None
none-later None h = refl
none-later (Some j) h = absurd (cc)

not-first : (o : Option ℕ) → option_map (λ k. suc k) o ≡ Some 0 → ⊥
not-first None h = absurd (cc)
not-first (Some j) h = absurd (cc)

-- a name that has a place stands there
pub within : (ds : Declarations) (name : List ℕ) (k : ℕ) → place_of name ds ≡ Some k → k < length ds
within [] name k h = absurd (cc)
within (e ∷ es) name k h = at (bytes_eq name e.0) k h (within es name)
  where
    at : (b : Bool) (k : ℕ) → cond b (Some 0) (option_map (λ j. suc j) (place_of name es)) ≡ Some k → ((j : ℕ) → place_of name es ≡ Some j → j < length es) → k < length (e ∷ es)
    at true zero h rest = omega arith
    at true (suc j) h rest = absurd (cc)
    at false zero h rest = absurd (not-first (place_of name es) h)
    at false (suc j) h rest = let less = rest j (some-later (place_of name es) j h) in omega (arith, less)

pub nothing-there : (ds : Declarations) (name : List ℕ) (k : ℕ) → place_of name ds ≡ Some k → slice_get ds k ≡ None → ⊥
nothing-there [] name k h n = absurd (cc)
nothing-there (e ∷ es) name k h n = at (bytes_eq name e.0) k h n (nothing-there es name)
  where
    at : (b : Bool) (k : ℕ) → cond b (Some 0) (option_map (λ j. suc j) (place_of name es)) ≡ Some k → slice_get (e ∷ es) k ≡ None → ((j : ℕ) → place_of name es ≡ Some j → slice_get es j ≡ None → ⊥) → ⊥
    at b zero h n rest = absurd (cc)
    at true (suc j) h n rest = absurd (cc)
    at false (suc j) h n rest = rest j (some-later (place_of name es) j h) n

pub views-there : (ds : Declarations) (name : List ℕ) (k : ℕ) (x : List ℕ × List ViewKind) → place_of name ds ≡ Some k → slice_get ds k ≡ Some x → views_of ds name ≡ x.1
views-there [] name k x h s = absurd (cc)
views-there (e ∷ es) name k x h s = at (bytes_eq name e.0) refl k h s (λ j. views-there es name j x)
  where
    at : (b : Bool) → bytes_eq name e.0 ≡ b → (k : ℕ) → cond b (Some 0) (option_map (λ j. suc j) (place_of name es)) ≡ Some k → slice_get (e ∷ es) k ≡ Some x → ((j : ℕ) → place_of name es ≡ Some j → slice_get es j ≡ Some x → views_of es name ≡ x.1) → views_of (e ∷ es) name ≡ x.1
    at true is zero h s rest = let same : e ≡ x = cc in rw is (ap (λ (y : List ℕ × List ViewKind). y.1) same)
    at true is (suc j) h s rest = absurd (cc)
    at false is zero h s rest = absurd (not-first (place_of name es) h)
    at false is (suc j) h s rest = rw is (rest j (some-later (place_of name es) j h) s)

pub views-none : (ds : Declarations) (name : List ℕ) → place_of name ds ≡ None → views_of ds name ≡ []
views-none [] name h = refl
views-none (e ∷ es) name h = at (bytes_eq name e.0) refl h (views-none es name)
  where
    at : (b : Bool) → bytes_eq name e.0 ≡ b → cond b (Some 0) (option_map (λ j. suc j) (place_of name es)) ≡ None → (place_of name es ≡ None → views_of es name ≡ []) → views_of (e ∷ es) name ≡ []
    at true is h rest = absurd (cc)
    at false is h rest = rw is (rest (none-later (place_of name es) h))

-- a view more of a name that is there moves no name
pub place-kept : (ds : Declarations) (name n : List ℕ) (k : ℕ) (view : ViewKind) → place_of name ds ≡ Some k → place_of n (with_view ds name view) ≡ place_of n ds
place-kept [] name n k view h = absurd (cc)
place-kept (e ∷ es) name n k view h = at (bytes_eq name e.0) k h (λ j. place-kept es name n j view)
  where
    at : (b : Bool) (k : ℕ) → cond b (Some 0) (option_map (λ j. suc j) (place_of name es)) ≡ Some k → ((j : ℕ) → place_of name es ≡ Some j → place_of n (with_view es name view) ≡ place_of n es) → place_of n (cond b ((e.0, e.1 ++ view ∷ []) ∷ es) (e ∷ with_view es name view)) ≡ place_of n (e ∷ es)
    at true k h rest = refl
    at false zero h rest = absurd (not-first (place_of name es) h)
    at false (suc j) h rest = ap (λ (o : Option ℕ). cond (bytes_eq n e.0) (Some 0) (option_map (λ i. suc i) o)) (rest j (some-later (place_of name es) j h))

-- a new name goes last
pub last-view : (ds : Declarations) (name : List ℕ) (view : ViewKind) → place_of name ds ≡ None → with_view ds name view ≡ ds ++ (name, view ∷ []) ∷ []
last-view [] name view h = refl
last-view (e ∷ es) name view h = at (bytes_eq name e.0) h (last-view es name view)
  where
    at : (b : Bool) → cond b (Some 0) (option_map (λ j. suc j) (place_of name es)) ≡ None → (place_of name es ≡ None → with_view es name view ≡ es ++ (name, view ∷ []) ∷ []) → cond b ((e.0, e.1 ++ view ∷ []) ∷ es) (e ∷ with_view es name view) ≡ e ∷ (es ++ (name, view ∷ []) ∷ [])
    at true h rest = absurd (cc)
    at false h rest = ap (λ (l : Declarations). e ∷ l) (rest (none-later (place_of name es) h))

pub place-last : (ds : Declarations) (name n : List ℕ) (vs : List ViewKind) → place_of name ds ≡ None → place_of n (ds ++ (name, vs) ∷ []) ≡ cond (bytes_eq n name) (Some (length ds)) (place_of n ds)
place-last [] name n vs h = refl
place-last (e ∷ es) name n vs h = at (bytes_eq n e.0) refl (bytes_eq n name) refl (bytes_eq name e.0) refl h (place-last es name n vs)
  where
    at : (b : Bool) → bytes_eq n e.0 ≡ b → (c : Bool) → bytes_eq n name ≡ c → (d : Bool) → bytes_eq name e.0 ≡ d → cond d (Some 0) (option_map (λ j. suc j) (place_of name es)) ≡ None → (place_of name es ≡ None → place_of n (es ++ (name, vs) ∷ []) ≡ cond (bytes_eq n name) (Some (length es)) (place_of n es))
        → cond b (Some 0) (option_map (λ j. suc j) (place_of n (es ++ (name, vs) ∷ []))) ≡ cond c (Some (suc (length es))) (cond b (Some 0) (option_map (λ j. suc j) (place_of n es)))
    at b is c other true first h rest = absurd (cc)
    at true is true other false first h rest =
        let same : n ≡ name = (bytes_eq-Decides n name).0 other in
        absurd (true≢false (sym is ∙ ap (λ (m : List ℕ). bytes_eq m e.0) same ∙ first))
    at true is false other false first h rest = refl
    at false is true other false first h rest =
        ap (λ (o : Option ℕ). option_map (λ j. suc j) o) (rest (none-later (place_of name es) h))
        ∙ ap (λ (c : Bool). option_map (λ j. suc j) (cond c (Some (length es)) (place_of n es))) other
    at false is false other false first h rest =
        ap (λ (o : Option ℕ). option_map (λ j. suc j) o) (rest (none-later (place_of name es) h))
        ∙ ap (λ (c : Bool). option_map (λ j. suc j) (cond c (Some (length es)) (place_of n es))) other

module _ {Y : Type 0} where
  -- how many names there are
  pub as-many : (items : List (Vec ℕ Y × List ViewKind)) → length (named_of items) ≡ length items
  as-many [] = refl
  as-many (y ∷ ys) = ap (λ (n : ℕ). suc n) (as-many ys)

  -- a view more at the place of a name
  pub named-set : (items : List (Vec ℕ Y × List ViewKind)) (name : List ℕ) (k : ℕ) (view : ViewKind) (x : Vec ℕ Y × List ViewKind) (views : List ViewKind) → place_of name (named_of items) ≡ Some k → x ≡ get_or items k x → views ≡ x.1 ++ view ∷ [] → named_of (slice_set items k (x.0, views)) ≡ with_view (named_of items) name view
  named-set [] name k view x views h e is = absurd (cc)
  named-set (y ∷ ys) name k view x views h e is = at (bytes_eq name y.0.items) k h e (λ j g d. named-set ys name j view x views g d is)
    where
      at : (b : Bool) (k : ℕ) → cond b (Some 0) (option_map (λ j. suc j) (place_of name (named_of ys))) ≡ Some k → x ≡ get_or (y ∷ ys) k x → ((j : ℕ) → place_of name (named_of ys) ≡ Some j → x ≡ get_or ys j x → named_of (slice_set ys j (x.0, views)) ≡ with_view (named_of ys) name view) → named_of (slice_set (y ∷ ys) k (x.0, views)) ≡ cond b ((y.0.items, y.1 ++ view ∷ []) ∷ named_of ys) ((y.0.items, y.1) ∷ with_view (named_of ys) name view)
      at true zero h e rest =
          ap (λ (v : List ViewKind). (x.0.items, v) ∷ named_of ys) is
          ∙ ap (λ (z : Vec ℕ Y × List ViewKind). (z.0.items, z.1 ++ view ∷ []) ∷ named_of ys) e
      at true (suc j) h e rest = absurd (cc)
      at false zero h e rest = absurd (not-first (place_of name (named_of ys)) h)
      at false (suc j) h e rest = ap (λ (l : Declarations). (y.0.items, y.1) ∷ l) (rest j (some-later (place_of name (named_of ys)) j h) e)

  -- the same views at the place
  pub named-same : (items : List (Vec ℕ Y × List ViewKind)) (k : ℕ) (x : Vec ℕ Y × List ViewKind) (views : List ViewKind) → x ≡ get_or items k x → views ≡ x.1 → named_of (slice_set items k (x.0, views)) ≡ named_of items
  named-same [] k x views e is = refl
  named-same (y ∷ ys) zero x views e is =
      ap (λ (v : List ViewKind). (x.0.items, v) ∷ named_of ys) is ∙ ap (λ (z : Vec ℕ Y × List ViewKind). (z.0.items, z.1) ∷ named_of ys) e
  named-same (y ∷ ys) (suc j) x views e is = ap (λ (l : Declarations). (y.0.items, y.1) ∷ l) (named-same ys j x views e is)

  -- one name more at the end
  pub named-last : (items : List (Vec ℕ Y × List ViewKind)) (x : Vec ℕ Y × List ViewKind) → named_of (items ++ x ∷ []) ≡ named_of items ++ (x.0.items, x.1) ∷ []
  named-last [] x = refl
  named-last (y ∷ ys) x = ap (λ (l : Declarations). (y.0.items, y.1) ∷ l) (named-last ys x)

  -- the places stay those of names that stand where they stood
  pub places-kept : (places : List (Vec ℕ Y × ℕ)) (ds : Declarations) (name : List ℕ) (k : ℕ) (view : ViewKind) → ArePlaces places ds → place_of name ds ≡ Some k → ArePlaces places (with_view ds name view)
  places-kept places ds name k view are h n = are n ∙ sym (place-kept ds name n k view h)

  -- a new name has the last place
  pub places-last : (old new : List (Vec ℕ Y × ℕ)) (ds : Declarations) (name : List ℕ) (vs : List ViewKind) → ArePlaces old ds → place_of name ds ≡ None → ((n : List ℕ) → lookup (λ k. bytes_eq n k.items) new ≡ cond (bytes_eq n name) (Some (length ds)) (lookup (λ k. bytes_eq n k.items) old)) → ArePlaces new (ds ++ (name, vs) ∷ [])
  places-last old new ds name vs are h put n =
      put n ∙ ap (λ (o : Option ℕ). cond (bytes_eq n name) (Some (length ds)) o) (are n) ∙ sym (place-last ds name n vs h)

  -- what is found under each name once a key has a place
  pub found-put : (old new : List (Vec ℕ Y × ℕ)) (key : Vec ℕ Y) (name : List ℕ) (place : ℕ) → key.items ≡ name → lookup (λ k. bytes_eq key.items k.items) new ≡ Some place → KeepsOthers (λ x y. bytes_eq x.items y.items) (λ k. bytes_eq key.items k.items) old new
      → (n : List ℕ) → lookup (λ k. bytes_eq n k.items) new ≡ cond (bytes_eq n name) (Some place) (lookup (λ k. bytes_eq n k.items) old)
  unfolding KeepsOthers
  found-put old new key name place is put others n = at (bytes_eq n name) refl
    where
      at : (b : Bool) → bytes_eq n name ≡ b → lookup (λ k. bytes_eq n k.items) new ≡ cond b (Some place) (lookup (λ k. bytes_eq n k.items) old)
      at true e =
          let same : n ≡ key.items = (bytes_eq-Decides n name).0 e ∙ sym is in
          ap (λ (m : List ℕ). lookup (λ k. bytes_eq m k.items) new) same ∙ put
      at false e = others (λ k. bytes_eq n k.items) test apart
        where
          test : IsKeyTest {K = Vec ℕ Y} (λ x y. bytes_eq x.items y.items) (λ k. bytes_eq n k.items)
          test x y h = ap (λ (m : List ℕ). bytes_eq m y.items) ((bytes_eq-Decides n x.items).0 h)

          apart : AreApart {K = Vec ℕ Y} (λ k. bytes_eq key.items k.items) (λ k. bytes_eq n k.items)
          apart k h = ap (λ (m : List ℕ). bytes_eq n m) (sym ((bytes_eq-Decides key.items k.items).0 h) ∙ is) ∙ e
