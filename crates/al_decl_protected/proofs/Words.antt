-- Where components of several names begin, each after the one before it.
use Rattle.std.proofs.Common.{◌≡◌, ℕ, zero, suc, ◌+◌, ◌<◌, ◌≤◌, List, [], ◌∷◌, ◌++◌, length, take, drop, refl, sym, ap, ◌∙◌, append-nil, append_assoc, add-one, arith}
use Rattle.std.proofs.lemmas.List.{at_drop_all}
use Rattle.al_decl_judged.specs.declared.names.DefiningName.{DefiningName}
use Rattle.al_decl_judged.specs.WordCounts.{place_after}
use Rattle.al_decl_protected.specs.Components.{places_from, word_after}

places_first : (words next : ℕ) (names : List DefiningName) (i : ℕ) → i < length names → places_from words next (drop i names) ≡ next ∷ places_from words (place_after next words) (drop (suc i) names)
places_first words next [] i inside = absurd (omega (arith, inside))
places_first words next (n ∷ ns) zero inside = refl
places_first words next (n ∷ ns) (suc i) inside = places_first words next ns i (omega (arith, inside))

first_then : (words next : ℕ) (names : List DefiningName) (i : ℕ) → i < length names → places_from words next (drop i names) ≡ next ∷ places_from words (place_after next words) (drop (i + 1) names)
first_then words next names i inside = rw add-one (places_first words next names i inside)

pub places_more : (words word next after : ℕ) (names : List DefiningName) (i : ℕ) (so_far new : List ℕ) → i < length names → new ≡ so_far ++ next ∷ [] → after ≡ place_after next words → so_far ++ places_from words next (drop i names) ≡ places_from words word names
    → new ++ places_from words after (drop (i + 1) names) ≡ places_from words word names
places_more words word next after names i so_far new inside pushed moved before =
    ap (λ (l : List ℕ). l ++ places_from words after (drop (i + 1) names)) pushed
    ∙ append_assoc so_far (next ∷ []) (places_from words after (drop (i + 1) names))
    ∙ ap (λ (w : ℕ). so_far ++ next ∷ places_from words w (drop (i + 1) names)) moved
    ∙ ap (λ (l : List ℕ). so_far ++ l) (sym (first_then words next names i inside))
    ∙ before

pub places_end : (words word next : ℕ) (names : List DefiningName) (i : ℕ) (so_far : List ℕ) → length names ≤ i → so_far ++ places_from words next (drop i names) ≡ places_from words word names → so_far ≡ places_from words word names
places_end words word next names i so_far past before =
    sym (append-nil so_far) ∙ ap (λ (l : List ℕ). so_far ++ l) (sym (at_drop_all (places_from words next) names i past)) ∙ before

word_more : (words word : ℕ) (names : List DefiningName) (i : ℕ) → i < length names → word_after words word (take (suc i) names) ≡ place_after (word_after words word (take i names)) words
word_more words word [] i inside = absurd (omega (arith, inside))
word_more words word (n ∷ ns) zero inside = refl
word_more words word (n ∷ ns) (suc i) inside = word_more words (place_after word words) ns i (omega (arith, inside))

pub word_next : (words word next after : ℕ) (names : List DefiningName) (i : ℕ) → i < length names → after ≡ place_after next words → next ≡ word_after words word (take i names) → after ≡ word_after words word (take (i + 1) names)
word_next words word next after names i inside moved before =
    rw add-one (moved ∙ ap (λ (w : ℕ). place_after w words) before ∙ sym (word_more words word names i inside))
