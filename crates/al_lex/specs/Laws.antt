-- What the tokens of a source are, without computing them.
use Rattle.std.specs.Prelude.{ℕ, ◌≡◌, ◌↔◌, ◌+◌, ◌<◌, ◌≤◌, List, [], ◌∷◌, length, map, Ok, Err}
use Rattle.std.specs.List.Sorted.{IsStrictlySortedBy}
use Rattle.std.specs.Ordering.{nat_cmp, then_cmp}
use Rattle.std.specs.declared.cmp.Ordering.{Ordering}
use Rattle.al_base.specs.declared.place.Place.{Place}
use Rattle.al_lex.specs.declared.token.Token.{Token}
use Rattle.al_lex.specs.declared.token.LexFault.{LexFault}
use Rattle.al_lex.specs.Pieces.{front_piece}
use Rattle.al_lex.specs.Shapes.{Describes}
use Rattle.al_lex.specs.Tokens.{IsCutInto, lexed, end_place_of}
use Rattle.al_lex.specs.Tokens.Ending.{Whole, Broken}

-- the tokens of a source are the lexemes of the pieces into which all of it is cut
abbrev pub TokensAreCut : Type 0
TokensAreCut = (text : List ℕ) (tokens : List Token) → (lexed text ≡ Ok tokens) ↔ IsCutInto text tokens (Whole (end_place_of text))

-- a source has the fault at which its cutting ends
abbrev pub FaultEndsCut : Type 0
FaultEndsCut = (text : List ℕ) (fault : LexFault) → (lexed text ≡ Err fault) ↔ ((tokens : List Token) × IsCutInto text tokens (Broken fault))

-- after the last byte is one place
abbrev pub EndIsAfter : Type 0
EndIsAfter = (text : List ℕ) (tokens : List Token) (place : Place) → IsCutInto text tokens (Whole place) → place ≡ end_place_of text

-- the piece at the beginning of bytes is the longest, or has a fault
abbrev pub PiecesAreLongest : Type 0
PiecesAreLongest = (bs : List ℕ) → 0 < length bs → Describes (front_piece bs) bs

-- the tokens lie between these bytes, each after the one before
abbrev pub LieBetween : ℕ → ℕ → List Token → Type 0
LieBetween from to [] = Unit {0}
LieBetween from to (t ∷ ts) = (from ≤ t.span.start) × (0 < t.span.len) × (t.span.start + t.span.len ≤ to) × LieBetween (t.span.start + t.span.len) to ts

-- tokens are pieces of the source in its order
abbrev pub TokensLieInText : Type 0
TokensLieInText = (text : List ℕ) (tokens : List Token) → lexed text ≡ Ok tokens → LieBetween 0 (length text) tokens

-- the order of places: by lines, and on one line by columns
abbrev pub place_cmp : Place → Place → Ordering
place_cmp = then_cmp (λ p q. nat_cmp p.line q.line) (λ p q. nat_cmp p.col q.col)

-- each token comes before those after it
abbrev pub PlacesRise : Type 0
PlacesRise = (text : List ℕ) (tokens : List Token) → lexed text ≡ Ok tokens → IsStrictlySortedBy place_cmp (map (λ t. t.span.place) tokens)
