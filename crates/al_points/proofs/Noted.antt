-- One name more is looked up.
use Rattle.std.proofs.Common.{◌≡◌, ℕ, ◌+◌, ◌<◌, List, [], ◌∷◌, ◌++◌, length, take, get_or, sym, ap, subst, ◌∙◌}
use Rattle.std.proofs.lemmas.List.{take_more}
use Rattle.al_check_here.specs.declared.state.CheckState.{CheckState}
use Rattle.al_points.specs.Meanings.{AreMeanings, IsMeaning}
use Rattle.al_points.specs.declared.looking.Meaning.{Meaning}
use Rattle.al_points.specs.declared.named.Named.{Named}
use Rattle.al_query.specs.Reads.{Table}

meanings_more : (t : Table) (s : CheckState) (ns : List Named) (ms : List Meaning) (n : Named) (m : Meaning) → AreMeanings t s ns ms → IsMeaning t s n m → AreMeanings t s (ns ++ n ∷ []) (ms ++ m ∷ [])
meanings_more t s [] [] n m h one = (one, tt)
meanings_more t s (x ∷ ns) (y ∷ ms) n m h one = (h.0, meanings_more t s ns ms n m h.1 one)
meanings_more t s [] (y ∷ ms) n m h one = absurd h
meanings_more t s (x ∷ ns) [] n m h one = absurd h

pub next_meant : (t : Table) (s : CheckState) (ns : List Named) (ms new : List Meaning) (i : ℕ) (n : Named) (m : Meaning) → i < length ns → n ≡ get_or ns i n
    → AreMeanings t s (take i ns) ms
    → IsMeaning t s n m
    → new ≡ ms ++ m ∷ []
    → AreMeanings t s (take (i + 1) ns) new
next_meant t s ns ms new i n m inside here before one is =
    let names : take (i + 1) ns ≡ take i ns ++ n ∷ [] = take_more ns i n inside ∙ ap (λ (x : Named). take i ns ++ x ∷ []) (sym here) in
    let more = meanings_more t s (take i ns) ms n m before one in
    subst (λ (xs : List Meaning). AreMeanings t s (take (i + 1) ns) xs) (sym is) (subst (λ (xs : List Named). AreMeanings t s xs (ms ++ m ∷ [])) (sym names) more)
