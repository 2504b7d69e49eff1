-- The order of units tells the same units as the test does.
use Rattle.std.proofs.Common.{◌≡◌, ℕ, Bool, true, false, ◌&&◌, List, [], ◌∷◌, Option, Some, refl, sym, ◌∙◌, ap, cond, if◌then◌else◌}
use Rattle.std.specs.Ordering.{is_eq, ordering_then, nat_cmp}
use Rattle.std.specs.declared.cmp.Ordering.{Ordering}
use Rattle.std.specs.declared.cmp.Ordering.TheVariants.{Less, Equal, Greater}
use Rattle.std.specs.Cmp.Lexicographic.{slice_cmp}
use Rattle.std.specs.Map.{lookup}
use Rattle.std.specs.BTreeMap.{is_at}
use Rattle.std.specs.Str.{bytes_eq}
use Rattle.std.proofs.lemmas.Map.Text.{is_eq-slice_cmp}
use Rattle.al_base.specs.declared.unit_key.UnitKey.{UnitKey}
use Rattle.al_base.specs.declared.unit_key.UnitKind.{UnitKind}
use Rattle.al_base.specs.declared.unit_key.UnitKind.TheVariants.{Decl, Body, Sub}
use Rattle.al_view.specs.Symbols.{same_kind, same_unit}

-- a name, and then another order
first_then : (o k : Ordering) (b c : Bool) → is_eq o ≡ b → is_eq k ≡ c → is_eq (ordering_then o k) ≡ (c && b)
first_then Less k true c h j = absurd (cc)
first_then Less k false true h j = refl
first_then Less k false false h j = refl
first_then Greater k true c h j = absurd (cc)
first_then Greater k false true h j = refl
first_then Greater k false false h j = refl
first_then Equal k true true h j = j
first_then Equal k true false h j = j
first_then Equal k false c h j = absurd (cc)

module _ (R : UnitKey → UnitKey → Ordering) where
  abbrev Is : List ℕ → List ℕ → UnitKind → UnitKind → Ordering → Type 0
  Is n m k l o = R (record { name = n; kind = k }) (record { name = m; kind = l }) ≡ ordering_then (slice_cmp nat_cmp n m) o

  -- the order is by the names, and of one name by the kinds
  abbrev pub IsByName : Type 0
  IsByName = (n m : List ℕ) → Is n m Decl Decl Equal × Is n m Decl Body Less × Is n m Decl Sub Less × Is n m Body Decl Greater × Is n m Body Body Equal × Is n m Body Sub Less × Is n m Sub Decl Greater × Is n m Sub Body Greater × Is n m Sub Sub Equal

  module _ (by_name : IsByName) where
    one : (n m : List ℕ) (k l : UnitKind) (o : Ordering) (b : Bool) → Is n m k l o → is_eq o ≡ b → is_eq (R (record { name = n; kind = k }) (record { name = m; kind = l })) ≡ (b && bytes_eq n m)
    one n m k l o b is same = ap is_eq is ∙ first_then (slice_cmp nat_cmp n m) o (bytes_eq n m) b (is_eq-slice_cmp n m) same

    kinds : (n m : List ℕ) (k l : UnitKind) → is_eq (R (record { name = n; kind = k }) (record { name = m; kind = l })) ≡ (same_kind k l && bytes_eq n m)
    kinds n m Decl Decl = one n m Decl Decl Equal true (by_name n m).0 refl
    kinds n m Decl Body = one n m Decl Body Less false (by_name n m).1 refl
    kinds n m Decl Sub = one n m Decl Sub Less false (by_name n m).2 refl
    kinds n m Body Decl = one n m Body Decl Greater false (by_name n m).3 refl
    kinds n m Body Body = one n m Body Body Equal true (by_name n m).4 refl
    kinds n m Body Sub = one n m Body Sub Less false (by_name n m).5 refl
    kinds n m Sub Decl = one n m Sub Decl Greater false (by_name n m).6 refl
    kinds n m Sub Body = one n m Sub Body Greater false (by_name n m).7 refl
    kinds n m Sub Sub = one n m Sub Sub Equal true (by_name n m).8 refl

    pub tells : (a b : UnitKey) → is_eq (R a b) ≡ same_unit a b
    tells a b = kinds a.name b.name a.kind b.kind

    -- so what the map finds is what the list has
    pub found : {X : Type 0} (u : UnitKey) (es : List (UnitKey × X)) → lookup (is_at (R u)) es ≡ lookup (same_unit u) es
    found u [] = refl
    found u (e ∷ es) = ap (λ b. cond b (Some e.1) (lookup (is_at (R u)) es)) (tells u e.0) ∙ ap (λ o. cond (same_unit u e.0) (Some e.1) o) (found u es)

    pub changed : {X : Type 0} (old new : List (UnitKey × X)) (k : UnitKey) (w : Option X) → ((q : UnitKey) → lookup (is_at (R q)) new ≡ cond (is_at (R k) q) w (lookup (is_at (R q)) old)) → (u : UnitKey) → lookup (same_unit u) new ≡ (if same_unit k u then w else lookup (same_unit u) old)
    changed old new k w h u = sym (found u new) ∙ h u ∙ ap (λ b. cond b w (lookup (is_at (R u)) old)) (tells k u) ∙ ap (λ o. cond (same_unit k u) w o) (found u old)
