-- Reading from left to right by the next lexeme (after a mark, the one after it): what is left, or what is left from the fault on.
use Rattle.std.specs.Prelude.{ℕ, zero, suc, ◌≡◌, ◌==◌, Bool, true, false, not, ◌&&◌, ◌||◌, List, [], ◌∷◌, ◌++◌, length, Result, Ok, Err, if◌then◌else◌}
use Rattle.al_tree_grammar.specs.Grammar.{Lexeme, Rule, Grammar, kind, has_room}
use Rattle.al_tree_grammar.specs.Grammar.Lexeme.{Fixed, Named}
use Rattle.al_tree_grammar.specs.Grammar.Rule.{One, Any, Seq, Alt, Opt, Many, Nest, Begun, Room, RoomOr, Marked}

abbrev pub mem : ℕ → List ℕ → Bool
mem k [] = false
mem k (x ∷ xs) = (k == x) || mem k xs

abbrev pub disjoint : List ℕ → List ℕ → Bool
disjoint [] ys = true
disjoint (x ∷ xs) ys = not (mem x ys) && disjoint xs ys

abbrev pub none : List ℕ → Bool
none [] = true
none (x ∷ xs) = false

-- the next lexeme is of these kinds
abbrev pub begins : List ℕ → List Lexeme → Bool
begins s [] = false
begins s (x ∷ xs) = mem (kind x) s

abbrev pub may_be_empty : Rule → Bool
may_be_empty (One k) = false
may_be_empty (Any k) = false
may_be_empty (Seq a b) = may_be_empty a && may_be_empty b
may_be_empty (Alt a b) = may_be_empty a || may_be_empty b
may_be_empty (Opt a) = true
may_be_empty (Many a) = true
may_be_empty (Nest k n) = false
may_be_empty (Begun k n) = false
may_be_empty (Room a) = may_be_empty a
may_be_empty (RoomOr a b) = may_be_empty a || may_be_empty b
may_be_empty (Marked k a b) = true

-- the kinds that a rule begins with
abbrev pub first : Rule → List ℕ
first (One k) = k ∷ []
first (Any k) = k ∷ []
first (Seq a b) = if may_be_empty a then first a ++ first b else first a
first (Alt a b) = first a ++ first b
first (Opt a) = first a
first (Many a) = first a
first (Nest k n) = k ∷ []
first (Begun k n) = k ∷ []
first (Room a) = first a
first (RoomOr a b) = first a ++ first b
first (Marked k a b) = k ∷ []

-- the kinds that would make more of a rule at its end
abbrev pub more : Rule → List ℕ
more (One k) = []
more (Any k) = []
more (Seq a b) = if may_be_empty b then more a ++ more b else more b
more (Alt a b) = more a ++ more b
more (Opt a) = first a ++ more a
more (Many a) = first a ++ more a
more (Nest k n) = []
more (Begun k n) = []
more (Room a) = more a
more (RoomOr a b) = more a ++ more b
more (Marked k a b) = k ∷ (more a ++ more b)

-- there is a tree with no construct in it, or, if there is room, with none inside another
abbrev pub is_plain : Bool → Rule → Bool
is_plain r (One k) = true
is_plain r (Any k) = true
is_plain r (Seq a b) = is_plain r a && is_plain r b
is_plain r (Alt a b) = is_plain r a
is_plain r (Opt a) = true
is_plain r (Many a) = true
is_plain r (Nest k n) = r
is_plain r (Begun k n) = r
is_plain r (Room a) = r && is_plain true a
is_plain r (RoomOr a b) = is_plain true a && is_plain false b
is_plain r (Marked k a b) = true

-- The next lexeme decides what to read. After a mark it is the lexeme after the mark.
abbrev pub is_clear : Bool → Rule → Bool
is_clear r (One k) = true
is_clear r (Any k) = true
is_clear r (Seq a b) = (is_clear r a && is_clear r b) && (is_plain r b && disjoint (more a) (first b))
is_clear r (Alt a b) = (is_clear r a && is_clear r b) && ((not (may_be_empty a) && not (may_be_empty b)) && disjoint (first a) (first b))
is_clear r (Opt a) = is_clear r a && not (may_be_empty a)
is_clear r (Many a) = (is_clear r a && not (may_be_empty a)) && disjoint (more a) (first a)
is_clear r (Nest k n) = true
is_clear r (Begun k n) = true
is_clear r (Room a) = is_clear true a && not (may_be_empty a)
is_clear r (RoomOr a b) = (is_clear true a && is_clear false b) && (not (may_be_empty a) && not (may_be_empty b))
is_clear r (Marked k a b) =
    ((is_clear r a && is_clear r b) && ((not (may_be_empty a) && not (may_be_empty b)) && disjoint (first a) (first b)))
    && (is_plain r a && disjoint (more a) (k ∷ []))

-- after its first word each construct is clear, has a plain tree, and ends with a lexeme of its own
abbrev pub is_closed : Rule → Bool
is_closed a = (is_clear false a && is_plain false a) && (none (more a) && not (may_be_empty a))

-- each construct of the grammar is so
abbrev pub IsClosed : Grammar → Type 0
IsClosed g = (n : ℕ) → is_closed (g n) ≡ true

abbrev pub Read : Type 0
Read = Result (List Lexeme) (List Lexeme)

infixl 10 ◌>>=◌
abbrev pub ◌>>=◌ : Read → (List Lexeme → Read) → Read
(Ok xs) >>= f = f xs
(Err xs) >>= f = Err xs

abbrev pub one : ℕ → List Lexeme → Read
one k [] = Err []
one k (Fixed j ∷ xs) = if j == k then Ok xs else Err (Fixed j ∷ xs)
one k (Named j label ∷ xs) = Err (Named j label ∷ xs)

abbrev pub any : ℕ → List Lexeme → Read
any k [] = Err []
any k (Fixed j ∷ xs) = Err (Fixed j ∷ xs)
any k (Named j label ∷ xs) = if j == k then Ok xs else Err (Named j label ∷ xs)

-- at most n times
unfoldable pub times : ℕ → List ℕ → (List Lexeme → Read) → List Lexeme → Read
times zero s f xs = Ok xs
times (suc n) s f xs = if begins s xs then (f xs >>= λ ys. times n s f ys) else Ok xs

-- At most n marks k are read. After one the next lexeme decides whether f reads, and then goes on, or g does, and then ends.
unfoldable pub turns : ℕ → ℕ → List ℕ → (List Lexeme → Read) → (List Lexeme → Read) → List Lexeme → Read
turns zero k s f g xs = if begins (k ∷ []) xs then Err xs else Ok xs
turns (suc n) k s f g xs =
    if begins (k ∷ []) xs then (one k xs >>= λ ys. if begins s ys then (f ys >>= λ zs. turns n k s f g zs) else g ys) else Ok xs

-- f reads what a construct has after its first lexeme. That lexeme is read only if one more construct may be open.
abbrev pub layer_read : Bool → (ℕ → List Lexeme → Read) → Rule → List Lexeme → Read
layer_read room f (One k) xs = one k xs
layer_read room f (Any k) xs = any k xs
layer_read room f (Seq a b) xs = layer_read room f a xs >>= λ ys. layer_read room f b ys
layer_read room f (Alt a b) xs = if begins (first a) xs then layer_read room f a xs else layer_read room f b xs
layer_read room f (Opt a) xs = if begins (first a) xs then layer_read room f a xs else Ok xs
layer_read room f (Many a) xs = times (length xs) (first a) (layer_read room f a) xs
layer_read room f (Nest k n) xs = if room then (one k xs >>= f n) else Err xs
layer_read room f (Begun k n) xs = if room then (any k xs >>= f n) else Err xs
layer_read room f (Room a) xs = if room then layer_read room f a xs else Err xs
layer_read room f (RoomOr a b) xs = if room then layer_read room f a xs else layer_read room f b xs
layer_read room f (Marked k a b) xs = turns (length xs) k (first a) (layer_read room f a) (layer_read room f b) xs

abbrev pub construct_read : Grammar → ℕ → ℕ → List Lexeme → Read
construct_read g zero n xs = Err xs
construct_read g (suc d) n xs = layer_read (has_room d) (construct_read g d) (g n) xs

abbrev pub read : Grammar → ℕ → Rule → List Lexeme → Read
read g d a xs = layer_read (has_room d) (construct_read g d) a xs
