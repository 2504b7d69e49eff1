-- A source as its pieces, one after the other.
use Rattle.std.specs.Prelude.{ℕ, zero, suc, ◌≡◌, ◌+◌, ◌-◌, List, [], ◌∷◌, take, drop, Result, Ok, Err, if◌then◌else◌, bytes_eq}
use Rattle.al_base.specs.declared.place.Place.{Place}
use Rattle.al_lex.specs.declared.token.Token.{Token}
use Rattle.al_lex.specs.declared.token.Piece.{Piece}
use Rattle.al_lex.specs.declared.token.Sort.{Sort}
use Rattle.al_lex.specs.declared.token.Sort.TheVariants.{Gap, LineEnd, Lexeme}
use Rattle.al_lex.specs.declared.token.LexCode.{LexCode}
use Rattle.al_lex.specs.declared.token.LexFault.{LexFault}
use Rattle.al_lex.specs.declared.token.LexError.{LexError}
use Rattle.al_lex.specs.declared.token.LexError.TheVariants.{NoMemory, Fault}
use Rattle.al_lex.specs.Pieces.{front_piece}

-- the place at which a source begins
abbrev pub first_place : Place
first_place = record { line = 1; col = 1 }

-- the place after a piece
abbrev pub after : Sort → ℕ → Place → Place
after Gap n p = record { line = p.line; col = p.col + n }
after LineEnd n p = record { line = p.line + 1; col = 1 }
after (Lexeme k) n p = record { line = p.line; col = p.col + n }

-- the token that a piece is, if it is a lexeme, before the others
abbrev pub with_token : Sort → ℕ → ℕ → Place → List Token → List Token
with_token Gap at n p ts = ts
with_token LineEnd at n p ts = ts
with_token (Lexeme k) at n p ts = record { kind = k; span = record { start = at; len = n; place = p } } ∷ ts

-- the mark EF BB BF may be at the beginning, once
abbrev pub mark_len : List ℕ → ℕ
mark_len bs = if bytes_eq (take 3 bs) (239 ∷ 187 ∷ 191 ∷ []) then 3 else 0

-- how a source ends: all of it is well formed, and this is the place after its last byte; or it has this first fault
pub data Ending : Type 0 where
  Whole : Place → Ending
  Broken : LexFault → Ending

-- The bytes bs, which come after the first `at` bytes of a source and are at p, are cut into pieces, each the longest that begins
-- where the one before ended. ts are the lexemes among them, up to the first fault.
pub data Cut : ℕ → Place → List ℕ → List Token → Ending → Type 0 where
  ended : {at : ℕ} {p : Place} → Cut at p [] [] (Whole p)
  malformed : {at b : ℕ} {p : Place} {bs : List ℕ} {c : LexCode} → front_piece (b ∷ bs) ≡ Err c → Cut at p (b ∷ bs) [] (Broken (record { place = p; code = c }))
  next : {at b : ℕ} {p : Place} {bs : List ℕ} {ts : List Token} {e : Ending} (q : Piece) → front_piece (b ∷ bs) ≡ Ok q → Cut (at + q.len) (after q.sort q.len p) (drop q.len (b ∷ bs)) ts e → Cut at p (b ∷ bs) (with_token q.sort at q.len p ts) e

-- the mark is not counted in columns
abbrev pub IsCutInto : List ℕ → List Token → Ending → Type 0
IsCutInto bs ts e = Cut (mark_len bs) first_place (drop (mark_len bs) bs) ts e

-- The pieces as a function: the lexemes and the end.
pub record Pieces : Type 0 where
  pub tokens : List Token
  pub ending : Ending

abbrev pub with_piece : ℕ → Place → Result Piece LexCode → (Piece → Pieces) → Pieces
with_piece at p (Err c) more = record { tokens = []; ending = Broken (record { place = p; code = c }) }
with_piece at p (Ok q) more = record { tokens = with_token q.sort at q.len p (more q).tokens; ending = (more q).ending }

-- of the bytes bs, the first k belong to what is cut off already
unfoldable pub cut_from : ℕ → ℕ → Place → List ℕ → Pieces
cut_from k at p [] = record { tokens = []; ending = Whole p }
cut_from (suc k) at p (b ∷ bs) = cut_from k (at + 1) p bs
cut_from zero at p (b ∷ bs) = with_piece at p (front_piece (b ∷ bs)) (λ q. cut_from (q.len - 1) (at + 1) (after q.sort q.len p) bs)

unfoldable pub cut : List ℕ → Pieces
cut bs = cut_from (mark_len bs) 0 first_place bs

abbrev pub tokens_of : Pieces → Ending → Result (List Token) LexFault
tokens_of c (Whole p) = Ok c.tokens
tokens_of c (Broken f) = Err f

-- the tokens of a source, or its first fault
unfoldable pub lexed : List ℕ → Result (List Token) LexFault
lexed bs = tokens_of (cut bs) (cut bs).ending

abbrev pub ending_place : Ending → Place
ending_place (Whole p) = p
ending_place (Broken f) = f.place

-- the place after the last byte, or of the first fault
unfoldable pub end_place_of : List ℕ → Place
end_place_of bs = ending_place (cut bs).ending

-- the error names the first fault; if the allocator refuses memory it says nothing
abbrev pub FaultOf : LexError → List ℕ → Type 0
FaultOf NoMemory bs = Unit {0}
FaultOf (Fault f) bs = lexed bs ≡ Err f
