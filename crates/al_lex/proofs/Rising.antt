-- The order of tokens by their places.
use Rattle.std.proofs.Common.{ℕ, ◌≡◌, ◌+◌, ◌<◌, ◌≤◌, ◌⊎◌, inl, inr, List, [], ◌∷◌, drop, map, Ok, refl, ap, subst, ◌∙◌, arith}
use Rattle.std.specs.List.{AllByRecursion}
use Rattle.std.specs.List.Sorted.{IsStrictlySortedBy}
use Rattle.std.specs.Ordering.{nat_cmp, ordering_then}
use Rattle.std.specs.declared.cmp.Ordering.TheVariants.{Less, Equal}
use Rattle.al_base.specs.declared.place.Place.{Place}
use Rattle.al_lex.specs.declared.token.Sort.{Sort}
use Rattle.al_lex.specs.declared.token.Sort.TheVariants.{Gap, LineEnd, Lexeme}
use Rattle.al_lex.specs.declared.token.Token.{Token}
use Rattle.al_lex.specs.Laws.{PlacesRise, place_cmp}
use Rattle.al_lex.specs.Tokens.{Cut, Ending, after, end_place_of, first_place, mark_len, with_token}
use Rattle.al_lex.specs.Tokens.Ending.{Whole}
use Rattle.al_lex.specs.Tokens.Cut.{ended, malformed, next}
use Rattle.al_lex.proofs.Cutting.{tokens_are_cut}
use Rattle.al_lex.proofs.Positive.{HasByte, front_has}

-- q stands at p or after it
abbrev NotBefore : Place → Place → Type 0
NotBefore p q = (p.line < q.line) ⊎ ((p.line ≡ q.line) × (p.col ≤ q.col))

not_before : (p q r : Place) → NotBefore p q → NotBefore q r → NotBefore p r
not_before p q r (inl l) (inl k) = inl (omega (arith, l, k))
not_before p q r (inl l) (inr k) = inl (omega (arith, l, k.0))
not_before p q r (inr l) (inl k) = inl (omega (arith, l.0, k))
not_before p q r (inr l) (inr k) = inr (l.0 ∙ k.0, omega (arith, l.1, k.1))

below : (x y : ℕ) → x < y → nat_cmp x y ≡ Less
below x y l = grind (arith, l)

level : (x y : ℕ) → x ≡ y → nat_cmp x y ≡ Equal
level x y e = grind (arith, e)

before : (p q : Place) (n : ℕ) → 0 < n → NotBefore (record { line = p.line; col = p.col + n }) q → place_cmp p q ≡ Less
before p q n some (inl l) = ap (λ o. ordering_then o (nat_cmp p.col q.col)) (below p.line q.line l)
before p q n some (inr l) = ap (λ o. ordering_then o (nat_cmp p.col q.col)) (level p.line q.line l.0) ∙ below p.col q.col (omega (arith, some, l.1))

each : (P Q : Place → Type 0) → ((p : Place) → P p → Q p) → (ps : List Place) → AllByRecursion P ps → AllByRecursion Q ps
each P Q go [] all = tt
each P Q go (p ∷ ps) all = (go p all.0, each P Q go ps all.1)

abbrev places : List Token → List Place
places ts = map (λ t. t.span.place) ts

abbrev Rises : Place → List Token → Type 0
Rises p ts = AllByRecursion (NotBefore p) (places ts) × IsStrictlySortedBy place_cmp (places ts)

piece_rises : (s : Sort) (at n : ℕ) (p : Place) (ts : List Token) → 0 < n → Rises (after s n p) ts → Rises p (with_token s at n p ts)
unfolding IsStrictlySortedBy
piece_rises Gap at n p ts some more = (each (NotBefore (after Gap n p)) (NotBefore p) (λ q. not_before p (after Gap n p) q (inr (refl, omega arith))) (places ts) more.0, more.1)
piece_rises LineEnd at n p ts some more = (each (NotBefore (after LineEnd n p)) (NotBefore p) (λ q. not_before p (after LineEnd n p) q (inl (omega arith))) (places ts) more.0, more.1)
piece_rises (Lexeme k) at n p ts some more = (
  (inr (refl, omega arith), each (NotBefore (after (Lexeme k) n p)) (NotBefore p) (λ q. not_before p (after (Lexeme k) n p) q (inr (refl, omega arith))) (places ts) more.0),
  (each (NotBefore (after (Lexeme k) n p)) (λ q. place_cmp p q ≡ Less) (λ q. before p q n some) (places ts) more.0, more.1),
)

pieces_rise : (at : ℕ) (p : Place) (bs : List ℕ) (ts : List Token) (e : Ending) → Cut at p bs ts e → Rises p ts
unfolding IsStrictlySortedBy
pieces_rise at p [] ts e (ended) = (tt, tt)
pieces_rise at p (b ∷ bs) ts e (malformed g) = (tt, tt)
pieces_rise at p (b ∷ bs) ts e (next {ts = us} q g k) =
    let some : HasByte (Ok q) = subst HasByte g (front_has (b ∷ bs)) in
    piece_rises q.sort at q.len p us some (pieces_rise (at + q.len) (after q.sort q.len p) (drop q.len (b ∷ bs)) us e k)

pub places_rise : PlacesRise
places_rise text ts h = (pieces_rise (mark_len text) first_place (drop (mark_len text) text) ts (Whole (end_place_of text)) ((tokens_are_cut text ts).0 h)).1
