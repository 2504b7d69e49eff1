-- The relation and the function that cut a text give the same.
use Rattle.std.proofs.Common.{ℕ, zero, suc, ◌≡◌, ◌+◌, ◌≤◌, List, [], ◌∷◌, length, drop, Result, Ok, Err, refl, sym, ap, ◌∙◌, subst, arith, length-drop}
use Rattle.al_base.specs.declared.place.Place.{Place}
use Rattle.al_lex.specs.declared.token.Token.{Token}
use Rattle.al_lex.specs.declared.token.Piece.{Piece}
use Rattle.al_lex.specs.declared.token.LexCode.{LexCode}
use Rattle.al_lex.specs.declared.token.LexFault.{LexFault}
use Rattle.al_lex.specs.Pieces.{front_piece}
use Rattle.al_lex.specs.Tokens.{Cut, Ending, Pieces, IsCutInto, after, cut_from, cut, lexed, tokens_of, ending_place, end_place_of, mark_len, first_place}
use Rattle.al_lex.specs.Tokens.Ending.{Whole, Broken}
use Rattle.al_lex.specs.Tokens.Cut.{ended, malformed, next}
use Rattle.al_lex.specs.Laws.{TokensAreCut, FaultEndsCut, EndIsAfter}
use Rattle.al_lex.proofs.Cuts.{step, stop, starts, in_front}
use Rattle.al_lex.proofs.Positive.{HasByte, front_has}

-- the pieces that the function gives are cut off so
abbrev pub IsCut : ℕ → Place → List ℕ → Pieces → Type 0
IsCut at p bs c = Cut at p bs c.tokens c.ending

one_more : (n at : ℕ) (p : Place) (b : ℕ) (bs : List ℕ) → length (b ∷ bs) ≤ suc n → ((at : ℕ) (p : Place) (bs : List ℕ) → length bs ≤ n → IsCut at p bs (cut_from 0 at p bs))
    → (r : Result Piece LexCode) → front_piece (b ∷ bs) ≡ r → HasByte r → IsCut at p (b ∷ bs) (cut_from 0 at p (b ∷ bs))
one_more n at p b bs l more (Err c) e h = subst (λ (z : Pieces). IsCut at p (b ∷ bs) z) (sym (stop at p b bs c e)) (malformed e)
one_more n at p b bs l more (Ok q) e h =
    let rest : List ℕ = drop q.len (b ∷ bs) in
    let fits : length rest ≤ n = omega (arith, length-drop q.len (b ∷ bs)) in
    subst (λ (z : Pieces). IsCut at p (b ∷ bs) z) (in_front q.sort at q.len p _ _ refl ∙ sym (step at p b bs q e h)) (next q e (more (at + q.len) (after q.sort q.len p) rest fits))

cut_is : (n at : ℕ) (p : Place) (bs : List ℕ) → length bs ≤ n → IsCut at p bs (cut_from 0 at p bs)
unfolding cut_from
cut_is n at p [] l = ended
cut_is zero at p (b ∷ bs) l = absurd (omega arith)
cut_is (suc n) at p (b ∷ bs) l = one_more n at p b bs l (cut_is n) (front_piece (b ∷ bs)) refl (front_has (b ∷ bs))

-- and no others
only : (at : ℕ) (p : Place) (bs : List ℕ) (ts : List Token) (e : Ending) → Cut at p bs ts e → record { tokens = ts; ending = e } ≡ cut_from 0 at p bs
unfolding cut_from
only at p [] ts e (ended) = refl
only at p (b ∷ bs) ts e (malformed {c = c} h) = sym (stop at p b bs c h)
only at p (b ∷ bs) ts e (next {ts = us} q h k) =
    let some : HasByte (Ok q) = subst HasByte h (front_has (b ∷ bs)) in
    in_front q.sort at q.len p (record { tokens = us; ending = e }) _ (only (at + q.len) (after q.sort q.len p) (drop q.len (b ∷ bs)) us e k) ∙ sym (step at p b bs q h some)

whole : (text : List ℕ) → IsCutInto text (cut text).tokens (cut text).ending
whole text = subst (λ (z : Pieces). IsCut (mark_len text) first_place (drop (mark_len text) text) z) (starts text) (cut_is (length (drop (mark_len text) text)) (mark_len text) first_place (drop (mark_len text) text) (omega arith))

alone : (text : List ℕ) (ts : List Token) (e : Ending) → IsCutInto text ts e → record { tokens = ts; ending = e } ≡ cut text
alone text ts e k = only (mark_len text) first_place (drop (mark_len text) text) ts e k ∙ starts text

from_tokens : (c : Pieces) (ts : List Token) (text : List ℕ) → IsCutInto text c.tokens c.ending → (e : Ending) → c.ending ≡ e → tokens_of c e ≡ Ok ts → IsCutInto text ts (Whole (ending_place c.ending))
from_tokens c ts text k (Whole p) h t =
    let same : c.tokens ≡ ts = cc in
    let place : c.ending ≡ Whole (ending_place c.ending) = h ∙ ap (λ (z : Ending). Whole (ending_place z)) (sym h) in
    subst (λ (z : Ending). IsCutInto text ts z) place (subst (λ (z : List Token). IsCutInto text z c.ending) same k)
from_tokens c ts text k (Broken f) h t = absurd (cc)

from_fault : (c : Pieces) (f : LexFault) (text : List ℕ) → IsCutInto text c.tokens c.ending → (e : Ending) → c.ending ≡ e → tokens_of c e ≡ Err f → IsCutInto text c.tokens (Broken f)
from_fault c f text k (Whole p) h t = absurd (cc)
from_fault c f text k (Broken g) h t =
    let same : c.ending ≡ Broken f = h ∙ ap (λ (z : LexFault). Broken z) (let e : g ≡ f = cc in e) in
    subst (λ (z : Ending). IsCutInto text c.tokens z) same k

pub tokens_are_cut : TokensAreCut
unfolding lexed end_place_of
tokens_are_cut text ts = (λ h. from_tokens (cut text) ts text (whole text) (cut text).ending refl h, λ k. sym (ap (λ (c : Pieces). tokens_of c c.ending) (alone text ts (Whole (ending_place (cut text).ending)) k)))

pub fault_ends_cut : FaultEndsCut
unfolding lexed
fault_ends_cut text f = (λ h. ((cut text).tokens, from_fault (cut text) f text (whole text) (cut text).ending refl h), λ k. sym (ap (λ (c : Pieces). tokens_of c c.ending) (alone text k.0 (Broken f) k.1)))

pub end_is_after : EndIsAfter
unfolding end_place_of
end_is_after text ts p k = ap (λ (c : Pieces). ending_place c.ending) (alone text ts (Whole p) k)
