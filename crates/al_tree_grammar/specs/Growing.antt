-- The tree of a list of lexemes, read from left to right by the next lexeme alone, and the place of its fault.
use Rattle.std.specs.Prelude.{ℕ, zero, suc, ◌==◌, ◌-◌, Bool, true, false, List, [], ◌∷◌, length, Option, Some, None, Ok, Err, if◌then◌else◌}
use Rattle.std.proofs.Common.{inl, inr}
use Rattle.al_tree_grammar.specs.Grammar.{Label, Lexeme, Rule, Grammar, Within, ByRoom, Layer, Construct, Tree, has_room}
use Rattle.al_tree_grammar.specs.Grammar.Lexeme.{Fixed, Named}
use Rattle.al_tree_grammar.specs.Grammar.Rule.{One, Any, Seq, Alt, Opt, Many, Nest, Begun, Room, RoomOr, Marked}
use Rattle.al_tree_grammar.specs.Reading.{begins, first, Read, read}

-- what was read, and what is left; or nothing, at a fault
abbrev pub Grown : Type 0 → Type 0
Grown A = Option (A × List Lexeme)

abbrev pub remade : {A B : Type 0} → (A → B) → Grown A → Grown B
remade f None = None
remade f (Some x) = Some (f x.0, x.1)

-- one after the other
abbrev pub grow_on : {A B : Type 0} → Grown A → (A → List Lexeme → Grown B) → Grown B
grow_on None f = None
grow_on (Some x) f = f x.0 x.1

abbrev pub grow_one : ℕ → List Lexeme → Grown (Unit {0})
grow_one k [] = None
grow_one k (Fixed j ∷ xs) = if j == k then Some (tt, xs) else None
grow_one k (Named j label ∷ xs) = None

abbrev pub grow_any : ℕ → List Lexeme → Grown Label
grow_any k [] = None
grow_any k (Fixed j ∷ xs) = None
grow_any k (Named j label ∷ xs) = if j == k then Some (label, xs) else None

-- at most n times
unfoldable pub grow_times : {A : Type 0} → ℕ → List ℕ → (List Lexeme → Grown A) → List Lexeme → Grown (List A)
grow_times zero s f xs = Some ([], xs)
grow_times (suc n) s f xs = if begins s xs then grow_on (f xs) (λ y ys. remade (λ l. y ∷ l) (grow_times n s f ys)) else Some ([], xs)

-- the pair with x at the beginning of its list
abbrev pub put_before : {A B : Type 0} → A → List A × Option B → List A × Option B
put_before x y = (x ∷ y.0, y.1)

-- at most n marks
unfoldable pub grow_turns : {A B : Type 0} → ℕ → ℕ → List ℕ → (List Lexeme → Grown A) → (List Lexeme → Grown B) → List Lexeme → Grown (List A × Option B)
grow_turns zero k s f g xs = if begins (k ∷ []) xs then None else Some (([], None), xs)
grow_turns (suc n) k s f g xs =
    if begins (k ∷ []) xs
    then grow_on (grow_one k xs) (λ _ ys. if begins s ys then grow_on (f ys) (λ x zs. remade (λ y. put_before x y) (grow_turns n k s f g zs)) else remade (λ y. ([], Some y)) (g ys))
    else Some (([], None), xs)

-- if there is room
abbrev pub grow_within : {A : Type 0} → (room : Bool) → Grown A → Grown (Within room A)
grow_within true x = x
grow_within false x = None

abbrev pub grow_by_room : {A B : Type 0} → (room : Bool) → Grown A → Grown B → Grown (ByRoom room A B)
grow_by_room true x y = x
grow_by_room false x y = y

abbrev pub layer_grow : (room : Bool) (In : ℕ → Type 0) → ((n : ℕ) → List Lexeme → Grown (In n)) → (a : Rule) → List Lexeme → Grown (Layer room In a)
layer_grow room In f (One k) xs = grow_one k xs
layer_grow room In f (Any k) xs = grow_any k xs
layer_grow room In f (Seq a b) xs = grow_on (layer_grow room In f a xs) (λ x ys. remade (λ y. (x, y)) (layer_grow room In f b ys))
layer_grow room In f (Alt a b) xs = if begins (first a) xs then remade (λ x. inl x) (layer_grow room In f a xs) else remade (λ x. inr x) (layer_grow room In f b xs)
layer_grow room In f (Opt a) xs = if begins (first a) xs then remade (λ x. Some x) (layer_grow room In f a xs) else Some (None, xs)
layer_grow room In f (Many a) xs = grow_times (length xs) (first a) (layer_grow room In f a) xs
layer_grow room In f (Nest k n) xs = if room then grow_on (grow_one k xs) (λ _ ys. f n ys) else None
layer_grow room In f (Begun k n) xs = if room then grow_on (grow_any k xs) (λ x ys. remade (λ y. (x, y)) (f n ys)) else None
layer_grow room In f (Room a) xs = grow_within room (layer_grow room In f a xs)
layer_grow room In f (RoomOr a b) xs = grow_by_room room (layer_grow room In f a xs) (layer_grow room In f b xs)
layer_grow room In f (Marked k a b) xs = grow_turns (length xs) k (first a) (layer_grow room In f a) (layer_grow room In f b) xs

abbrev pub construct_grow : (g : Grammar) (d n : ℕ) → List Lexeme → Grown (Construct g d n)
construct_grow g zero n xs = None
construct_grow g (suc d) n xs = layer_grow (has_room d) (Construct g d) (construct_grow g d) (g n) xs

abbrev pub grow : (g : Grammar) (d : ℕ) (a : Rule) → List Lexeme → Grown (Tree g d a)
grow g d a xs = layer_grow (has_room d) (Construct g d) (construct_grow g d) a xs

-- if nothing is left
abbrev pub with_nothing_left : {A : Type 0} → A → List Lexeme → Option A
with_nothing_left x [] = Some x
with_nothing_left x (c ∷ rest) = None

abbrev pub whole : {A : Type 0} → Grown A → Option A
whole None = None
whole (Some x) = with_nothing_left x.0 x.1

-- the tree that has these lexemes
unfoldable pub tree_of : (g : Grammar) (d : ℕ) (a : Rule) → List Lexeme → Option (Tree g d a)
tree_of g d a xs = whole (grow g d a xs)

-- reading stopped before what is left of n lexemes
abbrev pub fault_before : ℕ → Read → Option ℕ
fault_before n (Ok []) = None
fault_before n (Ok (c ∷ rest)) = Some (n - length (c ∷ rest))
fault_before n (Err rest) = Some (n - length rest)

-- how many lexemes are before the fault, if these are no sentence
unfoldable pub fault_of : Grammar → ℕ → Rule → List Lexeme → Option ℕ
fault_of g d a xs = fault_before (length xs) (read g d a xs)
