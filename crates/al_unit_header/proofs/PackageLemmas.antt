-- The declarations of a package, in its two parts.
use Rattle.std.proofs.Common.{◌≡◌, ℕ, ◌<◌, ◌+◌, Bool, true, false, cond, ◌||◌, ◌&&◌, List, [], ◌∷◌, ◌++◌, length, map, drop, get_or, refl, sym, ap, ◌∙◌, Option, None, Some, drop-cons, arith, suc, zero, ◌≤◌, ◌-◌, unwrap_or}
use Rattle.std.specs.List.{last_or, list_all, list_any, take_while}
use Rattle.std.proofs.Math.Bool.{or_assoc}
use Rattle.std.proofs.lemmas.List.Sums.{take_while-cons}
use Rattle.std.proofs.lemmas.List.Folds.{list_any-append}
use Rattle.al_tree_syntax.specs.DeclarationTrees.{DeclarationTree}
use Rattle.al_tree_syntax.specs.UnitTrees.{PackageTree}
use Rattle.al_unit_header.specs.Units.{asks_for_body, declares_nothing, has_elaborate_body, is_completed_by_body, last_identifier, package_needs_body, private_declarations}
use Rattle.al_tree.specs.DeclarationViews.{compound_model}
use Rattle.al_tree.specs.Lexemes.{identifier_label}
use Rattle.al_tree.specs.declared.names.CompoundName.{CompoundName}
use Rattle.al_tree.specs.declared.names.Identifier.{Identifier}

-- ---- in one list and then in another

module _ {X : Type 0} (p q : X → Bool) where
  step : (b : Bool) (xs : List X) (x : X) → list_any q (cond b (x ∷ xs) []) ≡ (b && (q x || list_any q xs))
  step true xs x = refl
  step false xs x = refl

  pub in_front-cons : (x : X) (xs : List X) → list_any q (take_while p (x ∷ xs)) ≡ (p x && (q x || list_any q (take_while p xs)))
  in_front-cons x xs = ap (list_any q) (take_while-cons p x xs) ∙ step (p x) (take_while p xs) x

  joined : (a b c d e : Bool) → (a && (b || (c || (d && e)))) ≡ ((a && (b || c)) || ((a && d) && e))
  joined true true c d e = refl
  joined true false c d e = refl
  joined false b c d e = refl

  pub in_front-append : (xs ys : List X) → list_any q (take_while p (xs ++ ys)) ≡ (list_any q (take_while p xs) || (list_all p xs && list_any q (take_while p ys)))
  in_front-append [] ys = refl
  in_front-append (x ∷ xs) ys =
      in_front-cons x (xs ++ ys)
      ∙ ap (λ b. p x && (q x || b)) (in_front-append xs ys)
      ∙ joined (p x) (q x) (list_any q (take_while p xs)) (list_all p xs) (list_any q (take_while p ys))
      ∙ ap (λ b. b || ((p x && list_all p xs) && list_any q (take_while p ys))) (sym (in_front-cons x xs))

  -- the first of the rest decides, or what is after it
  pub in_front_step : {A : Type 0} (f : A → X) (xs : List A) (i : ℕ) (x : A) → i < length xs → x ≡ get_or xs i x → p (f x) ≡ true →
      list_any q (take_while p (map f (drop i xs))) ≡ (q (f x) || list_any q (take_while p (map f (drop (i + 1) xs))))
  in_front_step f xs i x less is holds =
      let next : suc i ≡ i + 1 = omega arith in
      ap (λ ys. list_any q (take_while p (map f ys))) (drop-cons xs i x less ∙ ap (λ y. y ∷ drop (suc i) xs) (sym is))
      ∙ in_front-cons (f x) (map f (drop (suc i) xs))
      ∙ ap (λ b. b && (q (f x) || list_any q (take_while p (map f (drop (suc i) xs))))) holds
      ∙ ap (λ j. q (f x) || list_any q (take_while p (map f (drop j xs)))) next

-- ---- in the parts of a package

pub completed_in_parts : (k : PackageTree) → package_needs_body k ≡ (list_any is_completed_by_body k.visible || (list_any is_completed_by_body (private_declarations k.private_part) || has_elaborate_body k))
completed_in_parts k =
    ap (λ b. b || has_elaborate_body k) (list_any-append is_completed_by_body k.visible (private_declarations k.private_part))
    ∙ or_assoc (list_any is_completed_by_body k.visible) (list_any is_completed_by_body (private_declarations k.private_part)) (has_elaborate_body k)

pub asked_in_parts : (k : PackageTree) → has_elaborate_body k ≡ (list_any (asks_for_body k.name) (take_while declares_nothing k.visible) || (list_all declares_nothing k.visible && list_any (asks_for_body k.name) (take_while declares_nothing (private_declarations k.private_part))))
asked_in_parts k = in_front-append declares_nothing (asks_for_body k.name) k.visible (private_declarations k.private_part)

module _ (k : PackageTree) (visible hidden : List DeclarationTree) (is_visible : visible ≡ k.visible) (is_hidden : hidden ≡ private_declarations k.private_part) where
  abbrev asks : List DeclarationTree → Bool
  asks ds = list_any (asks_for_body k.name) (take_while declares_nothing ds)

  asked : has_elaborate_body k ≡ (asks visible || (list_all declares_nothing visible && asks hidden))
  asked = asked_in_parts k ∙ ap (λ ds. asks ds || (list_all declares_nothing ds && asks (private_declarations k.private_part))) (sym is_visible) ∙ ap (λ ds. asks visible || (list_all declares_nothing visible && asks ds)) (sym is_hidden)

  module _ (a : Bool) (is_a : a ≡ asks visible) where
    pub asked_visibly : a ≡ true → a ≡ has_elaborate_body k
    asked_visibly holds = holds ∙ sym (asked ∙ ap (λ b. b || (list_all declares_nothing visible && asks hidden)) (sym is_a ∙ holds))

    module _ (fails : a ≡ false) (b : Bool) (is_b : b ≡ list_all declares_nothing visible) where
      later : has_elaborate_body k ≡ (b && asks hidden)
      later = asked ∙ ap (λ c. c || (list_all declares_nothing visible && asks hidden)) (sym is_a ∙ fails) ∙ ap (λ c. c && asks hidden) (sym is_b)

      pub asked_privately : b ≡ true → (c : Bool) → c ≡ asks hidden → c ≡ has_elaborate_body k
      asked_privately holds c is_c = is_c ∙ sym (later ∙ ap (λ d. d && asks hidden) holds)

      pub not_asked : b ≡ false → b ≡ has_elaborate_body k
      not_asked none = none ∙ sym (later ∙ ap (λ d. d && asks hidden) none)

-- ---- names

last_of : {A X : Type 0} (f : A → X) (xs : List A) (i : ℕ) (d : A) (o : Option X) (e : X) → i + 1 ≡ length xs → unwrap_or (last_or o (map f xs)) e ≡ f (get_or xs i d)
last_of f [] i d o e is = absurd (omega arith)
last_of f (x ∷ []) zero d o e is = refl
last_of f (x ∷ []) (suc i) d o e is = absurd (omega arith)
last_of f (x ∷ y ∷ ys) zero d o e is = absurd (omega arith)
last_of f (x ∷ y ∷ ys) (suc i) d o e is = last_of f (y ∷ ys) i d (Some (f x)) e (omega arith)

pub last_label : (n : CompoundName) (xs : List Identifier) (d : Identifier) → xs ≡ n.selectors.items → 1 ≤ length xs → d ≡ get_or xs (length xs - 1) d → identifier_label d ≡ last_identifier (compound_model n)
last_label n xs d is some last =
    ap identifier_label last
    ∙ sym (last_of identifier_label xs (length xs - 1) d None (identifier_label n.first) (omega arith))
    ∙ ap (λ ys. unwrap_or (last_or None (map identifier_label ys)) (identifier_label n.first)) is
