-- A text as its pieces: the function and the relation.
use Rattle.std.proofs.Common.{ℕ, zero, suc, ◌≡◌, ◌+◌, ◌-◌, ◌<◌, ◌≤◌, List, [], ◌∷◌, ◌++◌, length, drop, Result, Ok, Err, refl, sym, ap, ◌∙◌, append_assoc, append-nil, arith}
use Rattle.al_base.specs.declared.place.Place.{Place}
use Rattle.al_lex.specs.declared.token.Token.{Token}
use Rattle.al_lex.specs.declared.token.Piece.{Piece}
use Rattle.al_lex.specs.declared.token.Sort.{Sort}
use Rattle.al_lex.specs.declared.token.Sort.TheVariants.{Gap, LineEnd, Lexeme}
use Rattle.al_lex.specs.declared.token.LexCode.{LexCode}
use Rattle.al_lex.specs.Pieces.{front_piece}
use Rattle.al_lex.specs.Tokens.{Pieces, after, with_token, with_piece, cut_from, cut, lexed, tokens_of, ending_place, end_place_of, mark_len, first_place}
use Rattle.al_lex.specs.Tokens.Ending.{Whole, Broken}

-- tokens in front of those of the rest
abbrev pub preceded : List Token → Pieces → Pieces
preceded ts c = record { tokens = ts ++ c.tokens; ending = c.ending }

-- bytes of a piece that is cut off already are passed
pub passed : (k at : ℕ) (p : Place) (bs : List ℕ) → cut_from k at p bs ≡ cut_from 0 (at + k) p (drop k bs)
unfolding cut_from
passed zero at p [] = refl
passed zero at p (b ∷ bs) = ap (λ (n : ℕ). cut_from 0 n p (b ∷ bs)) (omega arith)
passed (suc k) at p [] = refl
passed (suc k) at p (b ∷ bs) = passed k (at + 1) p bs ∙ ap (λ (n : ℕ). cut_from 0 n p (drop k bs)) (omega arith)

pass : (n at : ℕ) (p : Place) (b : ℕ) (bs : List ℕ) → 0 < n → cut_from (n - 1) (at + 1) p bs ≡ cut_from 0 (at + n) p (drop n (b ∷ bs))
pass zero at p b bs l = absurd (omega arith)
pass (suc k) at p b bs l =
    ap (λ (n : ℕ). cut_from n (at + 1) p bs) (let e : suc k - 1 ≡ k = omega arith in e)
    ∙ passed k (at + 1) p bs ∙ ap (λ (n : ℕ). cut_from 0 n p (drop k bs)) (omega arith)

pub in_front : (s : Sort) (at n : ℕ) (p : Place) (c d : Pieces) → c ≡ d → record { tokens = with_token s at n p c.tokens; ending = c.ending } ≡ preceded (with_token s at n p []) d
in_front Gap at n p c d e = e
in_front LineEnd at n p c d e = e
in_front (Lexeme k) at n p c d e = ap (preceded (with_token (Lexeme k) at n p [])) e

-- one piece more
pub step : (at : ℕ) (p : Place) (b : ℕ) (bs : List ℕ) (q : Piece) → front_piece (b ∷ bs) ≡ Ok q → 0 < q.len
    → cut_from 0 at p (b ∷ bs) ≡ preceded (with_token q.sort at q.len p []) (cut_from 0 (at + q.len) (after q.sort q.len p) (drop q.len (b ∷ bs)))
unfolding cut_from
step at p b bs q e l =
    ap (λ (r : Result Piece LexCode). with_piece at p r (λ (q : Piece). cut_from (q.len - 1) (at + 1) (after q.sort q.len p) bs)) e
    ∙ in_front q.sort at q.len p _ _ (pass q.len at (after q.sort q.len p) b bs l)

pub stop : (at : ℕ) (p : Place) (b : ℕ) (bs : List ℕ) (c : LexCode) → front_piece (b ∷ bs) ≡ Err c
    → cut_from 0 at p (b ∷ bs) ≡ record { tokens = []; ending = Broken (record { place = p; code = c }) }
unfolding cut_from
stop at p b bs c e = ap (λ (r : Result Piece LexCode). with_piece at p r (λ (q : Piece). cut_from (q.len - 1) (at + 1) (after q.sort q.len p) bs)) e

-- where the loop stands: what is cut off the rest, after the tokens so far, is cut off the text
abbrev pub Completes : ℕ → Place → List ℕ → List Token → List ℕ → Type 0
Completes at p rest sofar text = preceded sofar (cut_from 0 at p rest) ≡ cut text

pub starts : (text : List ℕ) → Completes (mark_len text) first_place (drop (mark_len text) text) [] text
unfolding cut
starts text = ap (λ (n : ℕ). cut_from 0 n first_place (drop (mark_len text) text)) (omega arith) ∙ sym (passed (mark_len text) 0 first_place text)

pub goes_on : (at : ℕ) (p p' : Place) (rest rest' : List ℕ) (sofar sofar' : List Token) (text : List ℕ) (q : Piece) → Completes at p rest sofar text → 0 < length rest → Ok q ≡ front_piece rest → 0 < q.len
    → sofar' ≡ sofar ++ with_token q.sort at q.len p [] → p' ≡ after q.sort q.len p → rest' ≡ drop q.len rest → Completes (at + q.len) p' rest' sofar' text
goes_on at p p' [] rest' sofar sofar' text q c l e some t m r = absurd (omega arith)
goes_on at p p' (b ∷ bs) rest' sofar sofar' text q c l e some t m r =
    let ts : List Token = with_token q.sort at q.len p [] in
    let here : cut_from 0 (at + q.len) p' rest' ≡ cut_from 0 (at + q.len) (after q.sort q.len p) (drop q.len (b ∷ bs)) = cc in
    let d : Pieces = cut_from 0 (at + q.len) (after q.sort q.len p) (drop q.len (b ∷ bs)) in
    ap (preceded sofar') here ∙ ap (λ (z : List Token). preceded z d) t
    ∙ ap (λ (z : List Token). record { tokens = z; ending = d.ending }) (append_assoc sofar ts d.tokens)
    ∙ ap (preceded sofar) (sym (step at p b bs q (sym e) some)) ∙ c

pub is_over : (at : ℕ) (p : Place) (rest : List ℕ) (sofar : List Token) (text : List ℕ) → Completes at p rest sofar text → length rest ≡ 0 → cut text ≡ record { tokens = sofar; ending = Whole p }
unfolding cut_from
is_over at p [] sofar text c l = sym c ∙ ap (λ (z : List Token). record { tokens = z; ending = Whole p }) (append-nil sofar)
is_over at p (b ∷ bs) sofar text c l = absurd (omega arith)

pub is_fault : (at : ℕ) (p : Place) (rest : List ℕ) (sofar : List Token) (text : List ℕ) (d : LexCode) → Completes at p rest sofar text → 0 < length rest → Err d ≡ front_piece rest
    → cut text ≡ record { tokens = sofar ++ []; ending = Broken (record { place = p; code = d }) }
is_fault at p [] sofar text d c l e = absurd (omega arith)
is_fault at p (b ∷ bs) sofar text d c l e = sym c ∙ ap (preceded sofar) (stop at p b bs d (sym e))

pub lexed_of : (text : List ℕ) (c : Pieces) → cut text ≡ c → lexed text ≡ tokens_of c c.ending
unfolding lexed
lexed_of text c e = ap (λ (d : Pieces). tokens_of d d.ending) e

pub end_place_lem : (text : List ℕ) (c : Pieces) → cut text ≡ c → end_place_of text ≡ ending_place c.ending
unfolding end_place_of
end_place_lem text c e = ap (λ (d : Pieces). ending_place d.ending) e

-- lines and columns grow no faster than bytes are passed
pub record IsNear (p : Place) (at : ℕ) : Type 0 where
  pub line : p.line ≤ 1 + at
  pub column : p.col ≤ 1 + at

pub moved : (s : Sort) (n at : ℕ) (p : Place) → 0 < n → p.line ≤ 1 + at → p.col ≤ 1 + at → IsNear (after s n p) (at + n)
moved Gap n at p l h k = record { line = omega arith; column = omega arith }
moved LineEnd n at p l h k = record { line = omega arith; column = omega arith }
moved (Lexeme s) n at p l h k = record { line = omega arith; column = omega arith }
