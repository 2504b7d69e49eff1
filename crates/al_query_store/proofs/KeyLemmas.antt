-- Keys of units, where one has a value more or one less.
use Rattle.std.proofs.Common.{◌≡◌, ℕ, Bool, true, false, Option, Some, None, refl, sym, ◌∙◌, ap, subst, nat_eq, if◌then◌else◌}
use Rattle.std.proofs.lemmas.Bool.{eqb-true, eq-eqb}
use Rattle.al_base.specs.declared.unit_key.UnitKey.{UnitKey}
use Rattle.al_view.specs.Symbols.{same_unit}
use Rattle.al_view.proofs.SymbolLemmas.{same_unit-one, same_unit-self}
use Rattle.al_query_store.specs.Keyed.{IsKeyed}

one_key : (x y : ℕ) → Some x ≡ Some y → x ≡ y
one_key x y e = cc

module _ {H : Type 0} where
  some_not_none : (h : H) → Some h ≡ None → ⊥
  some_not_none h e = cc

  -- keys and values that are the same
  pub keyed-same : (keys new : UnitKey → Option ℕ) (at to : ℕ → Option H) → ((u : UnitKey) → new u ≡ keys u) → ((k : ℕ) → to k ≡ at k) → IsKeyed keys at → IsKeyed new to
  keyed-same keys new at to same_keys same is = record {
    found = λ u k a none. is.found u k (sym (same_keys u) ∙ a) (sym (same k) ∙ none);
    apart = λ u v k a b. is.apart u v k (sym (same_keys u) ∙ a) (sym (same_keys v) ∙ b);
    whole = λ k h a. let w = is.whole k h (sym (same k) ∙ a) in (w.0, same_keys w.0 ∙ w.1);
  }

  module _ (keys new : UnitKey → Option ℕ) (at to : ℕ → Option H) (unit : UnitKey) (k : ℕ) (is : IsKeyed keys at) where
    -- one more
    pub keyed-more : (h : H) → keys unit ≡ None → at k ≡ None → ((u : UnitKey) → new u ≡ (if same_unit unit u then Some k else keys u)) → ((x : ℕ) → to x ≡ (if nat_eq k x then Some h else at x)) → IsKeyed new to
    keyed-more h without vacant keyed put = record {
      found = λ u x a none. found u x (same_unit unit u) refl a none;
      apart = λ u v x a b. apart u v x (same_unit unit u) (same_unit unit v) refl refl a b;
      whole = λ x g a. whole x g (nat_eq k x) refl a;
    }
      where
        is_new : (u : UnitKey) (x : ℕ) → same_unit unit u ≡ true → new u ≡ Some x → k ≡ x
        is_new u x e a = one_key k x (sym (keyed u ∙ ap (λ (b : Bool). if b then Some k else keys u) e) ∙ a)

        was : (u : UnitKey) (x : ℕ) → same_unit unit u ≡ false → new u ≡ Some x → keys u ≡ Some x
        was u x e a = sym (keyed u ∙ ap (λ (b : Bool). if b then Some k else keys u) e) ∙ a

        not_new : (u : UnitKey) (x : ℕ) → keys u ≡ Some x → (b : Bool) → nat_eq k x ≡ b → (if b then Some h else at x) ≡ at x
        not_new u x a false e = refl
        not_new u x a true e = absurd (is.found u x a (subst (λ (y : ℕ). at y ≡ None) (eqb-true k x e) vacant))

        found : (u : UnitKey) (x : ℕ) (b : Bool) → same_unit unit u ≡ b → new u ≡ Some x → to x ≡ None → ⊥
        found u x true e a none = some_not_none h (sym (put x ∙ ap (λ (b : Bool). if b then Some h else at x) (eq-eqb k x (is_new u x e a))) ∙ none)
        found u x false e a none = is.found u x (was u x e a) (sym (put x ∙ not_new u x (was u x e a) (nat_eq k x) refl) ∙ none)

        apart : (u v : UnitKey) (x : ℕ) (b c : Bool) → same_unit unit u ≡ b → same_unit unit v ≡ c → new u ≡ Some x → new v ≡ Some x → u ≡ v
        apart u v x true true d e a b = sym (same_unit-one unit u d) ∙ same_unit-one unit v e
        apart u v x true false d e a b = absurd (is.found v x (was v x e b) (subst (λ (y : ℕ). at y ≡ None) (is_new u x d a) vacant))
        apart u v x false true d e a b = absurd (is.found u x (was u x d a) (subst (λ (y : ℕ). at y ≡ None) (is_new v x e b) vacant))
        apart u v x false false d e a b = is.apart u v x (was u x d a) (was v x e b)

        whole : (x : ℕ) (g : H) (b : Bool) → nat_eq k x ≡ b → to x ≡ Some g → (u : UnitKey) × (new u ≡ Some x)
        whole x g true e a = (unit, keyed unit ∙ ap (λ (b : Bool). if b then Some k else keys unit) (same_unit-self unit) ∙ ap (λ (y : ℕ). Some y) (eqb-true k x e))
        whole x g false e a =
            let w = is.whole x g (sym (put x ∙ ap (λ (b : Bool). if b then Some h else at x) e) ∙ a) in
            (w.0, keyed w.0 ∙ other w.0 w.1 (same_unit unit w.0) refl)
          where
            other : (u : UnitKey) → keys u ≡ Some x → (b : Bool) → same_unit unit u ≡ b → (if b then Some k else keys u) ≡ Some x
            other u a false f = a
            other u a true f =
                let none : keys u ≡ None = subst (λ (y : UnitKey). keys y ≡ None) (same_unit-one unit u f) without in
                absurd (cc)

    -- one less
    pub keyed-less : keys unit ≡ Some k → ((u : UnitKey) → new u ≡ (if same_unit unit u then None else keys u)) → ((x : ℕ) → to x ≡ (if nat_eq k x then None else at x)) → IsKeyed new to
    keyed-less there keyed put = record {
      found = λ u x a none. found u x (same_unit unit u) refl a none;
      apart = λ u v x a b. is.apart u v x (was u x (same_unit unit u) refl a) (was v x (same_unit unit v) refl b);
      whole = λ x g a. whole x g (nat_eq k x) refl a;
    }
      where
        was : (u : UnitKey) (x : ℕ) (b : Bool) → same_unit unit u ≡ b → new u ≡ Some x → keys u ≡ Some x
        was u x true e a =
            let none : new u ≡ None = keyed u ∙ ap (λ (b : Bool). if b then None else keys u) e in
            absurd (cc)
        was u x false e a = sym (keyed u ∙ ap (λ (b : Bool). if b then None else keys u) e) ∙ a

        stays : (u : UnitKey) (x : ℕ) → keys u ≡ Some x → same_unit unit u ≡ false → (b : Bool) → nat_eq k x ≡ b → (if b then None else at x) ≡ at x
        stays u x a other false e = refl
        stays u x a other true e =
            let one : unit ≡ u = is.apart unit u x (there ∙ ap (λ (y : ℕ). Some y) (eqb-true k x e)) a in
            let yes : same_unit unit u ≡ true = subst (λ (y : UnitKey). same_unit unit y ≡ true) one (same_unit-self unit) in
            absurd (cc)

        found : (u : UnitKey) (x : ℕ) (b : Bool) → same_unit unit u ≡ b → new u ≡ Some x → to x ≡ None → ⊥
        found u x true e a none =
            let no : new u ≡ None = keyed u ∙ ap (λ (b : Bool). if b then None else keys u) e in
            absurd (cc)
        found u x false e a none =
            let there_x = was u x false e a in
            is.found u x there_x (sym (put x ∙ stays u x there_x e (nat_eq k x) refl) ∙ none)

        whole : (x : ℕ) (g : H) (b : Bool) → nat_eq k x ≡ b → to x ≡ Some g → (u : UnitKey) × (new u ≡ Some x)
        whole x g true e a =
            let none : to x ≡ None = put x ∙ ap (λ (b : Bool). if b then None else at x) e in
            absurd (cc)
        whole x g false e a =
            let w = is.whole x g (sym (put x ∙ ap (λ (b : Bool). if b then None else at x) e) ∙ a) in
            (w.0, keyed w.0 ∙ other w.0 w.1 (same_unit unit w.0) refl)
          where
            other : (u : UnitKey) → keys u ≡ Some x → (b : Bool) → same_unit unit u ≡ b → (if b then None else keys u) ≡ Some x
            other u a false f = a
            other u a true f =
                let key : keys unit ≡ Some x = subst (λ (y : UnitKey). keys y ≡ Some x) (sym (same_unit-one unit u f)) a in
                let same : k ≡ x = one_key k x (sym there ∙ key) in
                let yes : nat_eq k x ≡ true = eq-eqb k x same in
                absurd (cc)
