-- A sentence has no misplaced lexeme, so it counts no more than its length.
use Rattle.std.proofs.Common.{Bool, List, None, Option, Some, [], ap, arith, eqb-true, false, if◌then◌else◌, inl, inr, length, length-append, not, refl, suc, true, zero, ℕ, ◌&&◌, ◌++◌, ◌==◌, ◌∷◌, ◌≡◌, ◌≤◌}
use Rattle.al_tree_grammar.specs.Grammar.{Construct as Deep, Lexeme, Layer, Rule, Tree, construct_lexemes, each, has_room, layer_lexemes, lexemes_of, marked, maybe}
use Rattle.al_tree_grammar.specs.Grammar.Lexeme.{Fixed, Named}
use Rattle.al_tree_grammar.specs.Grammar.Rule.{Alt, Any, Begun, Many, Marked, Nest, One, Opt, Room, RoomOr, Seq}
use Rattle.al_tree_grammar.specs.Uses.{uses}
use Rattle.al_tree_syntax.specs.Constructs.{construct_at}
use Rattle.al_tree_syntax.specs.Laws.{has_label}
use Rattle.al_tree_syntax.specs.Rules.{grammar}
use Rattle.al_tree_syntax.specs.Units.{unit_rule}
use Rattle.al_tree_syntax.proofs.Heavy.{heavy, heavy_append, weigh}
use Rattle.al_tree_syntax.proofs.Labels.{lexemes_labelled}

both : (p q : Bool) → (p && q) ≡ true → (p ≡ true) × (q ≡ true)
both true q h = (refl, h)
both false q h = absurd (cc)

negated : (p : Bool) → not p ≡ true → p ≡ false
negated true h = absurd (cc)
negated false h = refl

word_light : (w k : ℕ) → has_label k ≡ false → weigh w (Fixed k) ≡ 1
word_light w k h = go (k == 0) refl
  where
    go : (b : Bool) → (k == 0) ≡ b → weigh w (Fixed k) ≡ 1
    go true e = let z : k ≡ 0 = eqb-true k 0 e in let l : has_label k ≡ true = ap has_label z in absurd (cc)
    go false e = ap (λ b. if b then w else 1) e

module _ (w : ℕ) where
  abbrev pub Light : List Lexeme → Type 0
  Light xs = heavy w xs ≤ length xs

  nil_light : Light []
  unfolding heavy
  nil_light = omega arith

  cons_light : (x : Lexeme) (xs : List Lexeme) → weigh w x ≡ 1 → Light xs → Light (x ∷ xs)
  unfolding heavy
  cons_light x xs e h = omega (arith, e, h)

  append_light : (xs ys : List Lexeme) → Light xs → Light ys → Light (xs ++ ys)
  append_light xs ys h j = let e = heavy_append w xs ys in let l = length-append xs ys in omega (arith, e, l, h, j)

  each_light : {A : Type 0} (f : A → List Lexeme) → ((x : A) → Light (f x)) → (xs : List A) → Light (each f xs)
  each_light f g [] = nil_light
  each_light f g (x ∷ xs) = append_light (f x) (each f xs) (g x) (each_light f g xs)

  maybe_light : {A : Type 0} (f : A → List Lexeme) → ((x : A) → Light (f x)) → (o : Option A) → Light (maybe f o)
  maybe_light f g None = nil_light
  maybe_light f g (Some x) = g x

  layer_light : (room : Bool) (In : ℕ → Type 0) (f : (n : ℕ) → In n → List Lexeme) → ((n : ℕ) (x : In n) → Light (f n x)) → (a : Rule) → uses has_label a ≡ true → (x : Layer room In a) → Light (layer_lexemes room In f a x)
  layer_light room In f g (One k) e x = cons_light (Fixed k) [] (word_light w k (negated (has_label k) e)) nil_light
  layer_light room In f g (Any k) e x = cons_light (Named k x) [] refl nil_light
  layer_light room In f g (Seq a b) e x =
      let p = both (uses has_label a) (uses has_label b) e in
      append_light (layer_lexemes room In f a x.0) (layer_lexemes room In f b x.1) (layer_light room In f g a p.0 x.0) (layer_light room In f g b p.1 x.1)
  layer_light room In f g (Alt a b) e (inl x) = layer_light room In f g a (both (uses has_label a) (uses has_label b) e).0 x
  layer_light room In f g (Alt a b) e (inr x) = layer_light room In f g b (both (uses has_label a) (uses has_label b) e).1 x
  layer_light room In f g (Opt a) e x = maybe_light (layer_lexemes room In f a) (layer_light room In f g a e) x
  layer_light room In f g (Many a) e x = each_light (layer_lexemes room In f a) (layer_light room In f g a e) x
  layer_light room In f g (Nest k n) e x = cons_light (Fixed k) (f n x) (word_light w k (negated (has_label k) e)) (g n x)
  layer_light room In f g (Begun k n) e x = cons_light (Named k x.0) (f n x.1) refl (g n x.1)
  layer_light true In f g (Room a) e x = layer_light true In f g a e x
  layer_light false In f g (Room a) e x = absurd x
  layer_light true In f g (RoomOr a b) e x = layer_light true In f g a (both (uses has_label a) (uses has_label b) e).0 x
  layer_light false In f g (RoomOr a b) e x = layer_light false In f g b (both (uses has_label a) (uses has_label b) e).1 x
  layer_light room In f g (Marked k a b) e x =
      let p = both (not (has_label k)) (uses has_label a && uses has_label b) e in
      let q = both (uses has_label a) (uses has_label b) p.1 in
      let m = word_light w k (negated (has_label k) p.0) in
      append_light (each (marked k (layer_lexemes room In f a)) x.0) (maybe (marked k (layer_lexemes room In f b)) x.1)
      (each_light (marked k (layer_lexemes room In f a)) (λ y. cons_light (Fixed k) (layer_lexemes room In f a y) m (layer_light room In f g a q.0 y)) x.0)
      (maybe_light (marked k (layer_lexemes room In f b)) (λ y. cons_light (Fixed k) (layer_lexemes room In f b y) m (layer_light room In f g b q.1 y)) x.1)

  inside_uses : (n : ℕ) → uses has_label (grammar n) ≡ true
  unfolding grammar
  inside_uses n = lexemes_labelled.0 (construct_at n)

  construct_light : (d n : ℕ) (x : Deep grammar d n) → Light (construct_lexemes grammar d n x)
  construct_light zero n x = absurd x
  construct_light (suc d) n x = layer_light (has_room d) (Deep grammar d) (construct_lexemes grammar d) (construct_light d) (grammar n) (inside_uses n) x

  pub unit_light : (d : ℕ) (x : Tree grammar d unit_rule) → Light (lexemes_of grammar d unit_rule x)
  unit_light d x = layer_light (has_room d) (Deep grammar d) (construct_lexemes grammar d) (construct_light d) unit_rule lexemes_labelled.1 x
