-- Maps by the bytes of names.
use Rattle.std.proofs.Common.{◌≡◌, ◌≢◌, ℕ, Bool, true, false, cond, List, [], ◌∷◌, map, Option, Some, None, Vec, is_some, ◌||◌, refl, sym, ap, subst, ◌∙◌}
use mathlib.Core.Logic.{⊎_elim}
use Rattle.std.specs.Ordering.{is_eq, nat_cmp, eq_by_cmp}
use Rattle.std.specs.Cmp.{eq_by_cmp_equiv}
use Rattle.std.specs.Cmp.Lexicographic.{slice_cmp, bytes_decides, nat_list_cmp_total, nat_list_eq_equiv}
use Rattle.std.specs.Str.{bytes_eq}
use Rattle.std.specs.List.{list_any}
use Rattle.std.specs.BTreeMap.{BTreeMap, is_at, UpdatesBy}
use Rattle.std.specs.Map.{lookup, update, keys_of, KeepsOthers, IsKeyTest, AreApart}
use Rattle.std.proofs.lemmas.Bool.{cases_Bool, cond-true, cond-false}
use Rattle.std.proofs.lemmas.Map.Text.{is_eq-slice_cmp}
use Rattle.al_lsp_served.specs.Named.{held, with_held}

-- the same bytes are the same name
pub same_name : (a b : List ℕ) → bytes_eq a b ≡ true → a ≡ b
same_name a b = (bytes_decides a b).0

apart : (a b k : List ℕ) → bytes_eq a b ≡ false → is_eq (slice_cmp nat_cmp a k) ≡ true → is_eq (slice_cmp nat_cmp b k) ≡ false
apart a b k n y = is_eq-slice_cmp b k ∙ nat_list_eq_equiv.symm b k ∙ sym (nat_list_eq_equiv.congr a k b (sym (is_eq-slice_cmp a k) ∙ y)) ∙ n

others : {K X : Type 0} (eq : K → K → Bool) (test : K → Bool) (old new : List (K × X)) → KeepsOthers eq test old new → (other : K → Bool) → IsKeyTest eq other → AreApart test other → lookup other new ≡ lookup other old
unfolding KeepsOthers
others eq test old new h = h

-- g is w at the name, and f at others
by_name : {W : Type 0} (f g : List ℕ → W) (name : List ℕ) (w : W) → g name ≡ w → ((other : List ℕ) → bytes_eq name other ≡ false → g other ≡ f other) → (other : List ℕ) → g other ≡ cond (bytes_eq name other) w (f other)
by_name f g name w here there other =
    ⊎_elim
    (λ y. subst (λ l. g l ≡ w) (same_name name other y) here ∙ sym (cond-true (bytes_eq name other) w (f other) y))
    (λ n. there other n ∙ sym (cond-false (bytes_eq name other) w (f other) n))
    (cases_Bool (bytes_eq name other))

-- what a change under one name leaves under each
pub held_after : {Y X : Type 0} (m n : BTreeMap (Vec ℕ Y) X) (name : List ℕ) (w : Option X) → UpdatesBy (λ x y. slice_cmp nat_cmp x.items y.items) (λ k. slice_cmp nat_cmp name k.items) m n w → (other : List ℕ) → held n other ≡ with_held (held m) name w other
held_after m n name w h = by_name (held m) (held n) name w h.1 (λ other e. others _ _ _ _ h.3 _ (λ x y. (eq_by_cmp_equiv nat_list_cmp_total).congr other x.items y.items) (λ k. apart name other k.items e))

-- whether a name is among those of a map
pub any_held : {Y X : Type 0} (es : List (Vec ℕ Y × X)) (name : List ℕ) → list_any (λ k. bytes_eq k name) (map (λ k. k.items) (keys_of es)) ≡ is_some (lookup (is_at (λ k. slice_cmp nat_cmp name k.items)) es)
any_held [] name = refl
any_held (e ∷ es) name =
    let test : is_eq (slice_cmp nat_cmp name e.0.items) ≡ bytes_eq e.0.items name = is_eq-slice_cmp name e.0.items ∙ nat_list_eq_equiv.symm name e.0.items in
    let rest = any_held es name in
    step (bytes_eq e.0.items name) (is_eq (slice_cmp nat_cmp name e.0.items)) test rest
  where
    step : (a b : Bool) → b ≡ a → list_any (λ k. bytes_eq k name) (map (λ k. k.items) (keys_of es)) ≡ is_some (lookup (is_at (λ k. slice_cmp nat_cmp name k.items)) es) → (a || list_any (λ k. bytes_eq k name) (map (λ k. k.items) (keys_of es))) ≡ is_some (cond b (Some e.1) (lookup (is_at (λ k. slice_cmp nat_cmp name k.items)) es))
    step true true is rest = refl
    step false false is rest = rest
    step true false is rest = cc
    step false true is rest = cc
