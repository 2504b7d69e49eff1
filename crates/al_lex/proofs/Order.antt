-- Where tokens lie.
use Rattle.std.proofs.Common.{ℕ, ◌≡◌, ◌+◌, ◌<◌, ◌≤◌, List, [], ◌∷◌, Bool, true, false, bytes_eq, length, take, drop, Result, Ok, refl, ap, subst, arith, length-drop, length-take}
use Rattle.std.specs.Prelude.{if◌then◌else◌}
use Rattle.std.proofs.lemmas.Slice.Eq.{bytes_eq-Decides}
use Rattle.al_base.specs.declared.place.Place.{Place}
use Rattle.al_lex.specs.declared.token.LexCode.{LexCode}
use Rattle.al_lex.specs.declared.token.Piece.{Piece}
use Rattle.al_lex.specs.declared.token.Sort.{Sort}
use Rattle.al_lex.specs.declared.token.Sort.TheVariants.{Gap, LineEnd, Lexeme}
use Rattle.al_lex.specs.declared.token.Token.{Token}
use Rattle.al_lex.specs.Laws.{LieBetween, TokensLieInText}
use Rattle.al_lex.specs.Shapes.{Describes}
use Rattle.al_lex.specs.Tokens.{Cut, Ending, after, end_place_of, first_place, mark_len, with_token}
use Rattle.al_lex.specs.Tokens.Ending.{Whole}
use Rattle.al_lex.specs.Tokens.Cut.{ended, malformed, next}
use Rattle.al_lex.proofs.Cutting.{tokens_are_cut}
use Rattle.al_lex.proofs.Fronts.{pieces_are_longest}
use Rattle.al_lex.proofs.Positive.{HasByte, front_has}

piece_lies : (s : Sort) (from to at n : ℕ) (p : Place) (ts : List Token) → from ≤ at → 0 < n → at + n ≤ to → ((from : ℕ) → from ≤ at + n → LieBetween from to ts) → LieBetween from to (with_token s at n p ts)
piece_lies Gap from to at n p ts l k h more = more from (omega arith)
piece_lies LineEnd from to at n p ts l k h more = more from (omega arith)
piece_lies (Lexeme j) from to at n p ts l k h more = (l, k, h, more (at + n) (omega arith))

pieces_lie : (at : ℕ) (p : Place) (bs : List ℕ) (ts : List Token) (e : Ending) → Cut at p bs ts e → (from to : ℕ) → from ≤ at → at + length bs ≤ to → LieBetween from to ts
pieces_lie at p [] ts e (ended) from to l h = tt
pieces_lie at p (b ∷ bs) ts e (malformed g) from to l h = tt
pieces_lie at p (b ∷ bs) ts e (next {ts = us} q g k) from to l h =
    let some : HasByte (Ok q) = subst HasByte g (front_has (b ∷ bs)) in
    let is : Describes (Ok q) (b ∷ bs) = subst (λ (r : Result Piece LexCode). Describes r (b ∷ bs)) g (pieces_are_longest (b ∷ bs) (omega arith)) in
    let within : q.len ≤ length (b ∷ bs) = is.0.within in
    let room : at + q.len + length (drop q.len (b ∷ bs)) ≤ to = omega (arith, within, length-drop q.len (b ∷ bs)) in
    piece_lies q.sort from to at q.len p us l some (omega arith) (λ i j. pieces_lie (at + q.len) (after q.sort q.len p) (drop q.len (b ∷ bs)) us e k i to j room)

mark_from : (text : List ℕ) (t : Bool) → bytes_eq (take 3 text) (239 ∷ 187 ∷ 191 ∷ []) ≡ t → (if t then 3 else 0) + length (drop (if t then 3 else 0) text) ≤ length text
mark_from text true e =
    let three : length (take 3 text) ≡ 3 = ap length ((bytes_eq-Decides (take 3 text) (239 ∷ 187 ∷ 191 ∷ [])).0 e) in
    omega (arith, three, length-take 3 text, length-drop 3 text)
mark_from text false e = omega arith

mark_within : (text : List ℕ) → mark_len text + length (drop (mark_len text) text) ≤ length text
mark_within text = mark_from text (bytes_eq (take 3 text) (239 ∷ 187 ∷ 191 ∷ [])) refl

pub tokens_lie_in_text : TokensLieInText
tokens_lie_in_text text ts h =
    pieces_lie (mark_len text) first_place (drop (mark_len text) text) ts (Whole (end_place_of text)) ((tokens_are_cut text ts).0 h) 0 (length text) (omega arith) (mark_within text)
