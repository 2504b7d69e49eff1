-- A grammar as a term, its trees, the lexemes of a tree, and the sentences: the lexemes of the trees.
use Rattle.std.specs.Prelude.{Bool, true, false, ℕ, zero, suc, ◌≡◌, ◌⊎◌, List, [], ◌∷◌, ◌++◌, Option, Some, None}
use Rattle.std.proofs.Common.{inl, inr}

-- what one lexeme has that others of its kind need not have: its spelling, and its line and column
pub record Label : Type 0 where
  pub text : List ℕ
  pub line : ℕ
  pub col : ℕ

-- a word or mark that is always spelled alike, or one with a label of its own
pub data Lexeme : Type 0 where
  Fixed : ℕ → Lexeme
  Named : ℕ → Label → Lexeme

abbrev pub kind : Lexeme → ℕ
kind (Fixed k) = k
kind (Named k label) = k

-- Nest k n: the construct n, which begins with the word k. Its inside is one deeper.
-- Begun k n: the construct n, which begins with a lexeme of kind k that has a label. Its inside is one deeper.
-- Room a: a, if one more construct may be open, since a cannot do without.
-- RoomOr a b: a, if one more construct may be open, and b, if none may.
-- Marked k a b: any number of a, each after the mark k, and then perhaps one b after the mark k.
pub data Rule : Type 0 where
  One : ℕ → Rule
  Any : ℕ → Rule
  Seq : Rule → Rule → Rule
  Alt : Rule → Rule → Rule
  Opt : Rule → Rule
  Many : Rule → Rule
  Nest : ℕ → ℕ → Rule
  Begun : ℕ → ℕ → Rule
  Room : Rule → Rule
  RoomOr : Rule → Rule → Rule
  Marked : ℕ → Rule → Rule → Rule

-- what each construct has after its first word
abbrev pub Grammar : Type 0
Grammar = ℕ → Rule

abbrev pub has_room : ℕ → Bool
has_room zero = false
has_room (suc d) = true

abbrev pub Within : Bool → Type 0 → Type 0
Within true A = A
Within false A = ⊥

abbrev pub ByRoom : Bool → Type 0 → Type 0 → Type 0
ByRoom true A B = A
ByRoom false A B = B

-- The trees of a rule, if those of a construct's inside are known.
abbrev pub Layer : Bool → (ℕ → Type 0) → Rule → Type 0
Layer room In (One k) = Unit {0}
Layer room In (Any k) = Label
Layer room In (Seq a b) = Layer room In a × Layer room In b
Layer room In (Alt a b) = Layer room In a ⊎ Layer room In b
Layer room In (Opt a) = Option (Layer room In a)
Layer room In (Many a) = List (Layer room In a)
Layer room In (Nest k n) = In n
Layer room In (Begun k n) = Label × In n
Layer room In (Room a) = Within room (Layer room In a)
Layer room In (RoomOr a b) = ByRoom room (Layer room In a) (Layer room In b)
Layer room In (Marked k a b) = List (Layer room In a) × Option (Layer room In b)

-- constructs that nest at most d deep, themselves included
abbrev pub Construct : Grammar → ℕ → ℕ → Type 0
Construct g zero n = ⊥
Construct g (suc d) n = Layer (has_room d) (Construct g d) (g n)

abbrev pub Tree : Grammar → ℕ → Rule → Type 0
Tree g d a = Layer (has_room d) (Construct g d) a

abbrev pub each : {A : Type 0} → (A → List Lexeme) → List A → List Lexeme
each f [] = []
each f (x ∷ xs) = f x ++ each f xs

abbrev pub either : {A B : Type 0} → (A → List Lexeme) → (B → List Lexeme) → A ⊎ B → List Lexeme
either f g (inl x) = f x
either f g (inr y) = g y

abbrev pub maybe : {A : Type 0} → (A → List Lexeme) → Option A → List Lexeme
maybe f None = []
maybe f (Some x) = f x

abbrev pub within : {A : Type 0} → (room : Bool) → (A → List Lexeme) → Within room A → List Lexeme
within true f x = f x
within false f x = absurd x

abbrev pub by_room : {A B : Type 0} → (room : Bool) → (A → List Lexeme) → (B → List Lexeme) → ByRoom room A B → List Lexeme
by_room true f g x = f x
by_room false f g x = g x

-- after the mark k
abbrev pub marked : {A : Type 0} → ℕ → (A → List Lexeme) → A → List Lexeme
marked k f x = Fixed k ∷ f x

abbrev pub all_marked : {A B : Type 0} → ℕ → (A → List Lexeme) → (B → List Lexeme) → List A × Option B → List Lexeme
all_marked k f g x = each (marked k f) x.0 ++ maybe (marked k g) x.1

abbrev pub layer_lexemes : (room : Bool) (In : ℕ → Type 0) → ((n : ℕ) → In n → List Lexeme) → (a : Rule) → Layer room In a → List Lexeme
layer_lexemes room In f (One k) x = Fixed k ∷ []
layer_lexemes room In f (Any k) x = Named k x ∷ []
layer_lexemes room In f (Seq a b) x = layer_lexemes room In f a x.0 ++ layer_lexemes room In f b x.1
layer_lexemes room In f (Alt a b) x = either (layer_lexemes room In f a) (layer_lexemes room In f b) x
layer_lexemes room In f (Opt a) x = maybe (layer_lexemes room In f a) x
layer_lexemes room In f (Many a) x = each (layer_lexemes room In f a) x
layer_lexemes room In f (Nest k n) x = Fixed k ∷ f n x
layer_lexemes room In f (Begun k n) x = Named k x.0 ∷ f n x.1
layer_lexemes room In f (Room a) x = within room (layer_lexemes room In f a) x
layer_lexemes room In f (RoomOr a b) x = by_room room (layer_lexemes room In f a) (layer_lexemes room In f b) x
layer_lexemes room In f (Marked k a b) x = all_marked k (layer_lexemes room In f a) (layer_lexemes room In f b) x

abbrev pub construct_lexemes : (g : Grammar) (d n : ℕ) → Construct g d n → List Lexeme
construct_lexemes g zero n x = absurd x
construct_lexemes g (suc d) n x = layer_lexemes (has_room d) (Construct g d) (construct_lexemes g d) (g n) x

abbrev pub lexemes_of : (g : Grammar) (d : ℕ) (a : Rule) → Tree g d a → List Lexeme
lexemes_of g d a x = layer_lexemes (has_room d) (Construct g d) (construct_lexemes g d) a x

-- The lexemes are those of a tree.
abbrev pub Sentence : Grammar → ℕ → Rule → List Lexeme → Type 0
Sentence g d a xs = (x : Tree g d a) × (lexemes_of g d a x ≡ xs)
