-- Loops round a statement are kept with the innermost one last.
use Rattle.std.proofs.Common.{◌≡◌, ◌++◌, ◌∷◌, [], ℕ, ◌<◌, List, length, reverse, ap, sym, ◌∙◌, refl, arith, Option, Some, None, IsSome}
use Rattle.std.specs.Option.{option_to_list}
use Rattle.std.proofs.lemmas.List.{reverse-append}
use Rattle.al_stmts.specs.Exits.{EnclosingLoops, without_innermost}

pub reverse_push : {X : Type 0} (xs : List X) (x : X) → reverse (xs ++ x ∷ []) ≡ x ∷ reverse xs
reverse_push xs x = reverse-append xs (x ∷ [])

no_length : {X : Type 0} (xs : List X) → length xs ≡ 0 → xs ≡ []
no_length [] e = refl
no_length (x ∷ xs) e = absurd (omega (arith, e))

-- what is left if the last one is taken, if there is one
pub innermost_taken : (old new : EnclosingLoops) (taken : Option (Option (List ℕ))) → old ≡ new ++ option_to_list taken → (0 < length old → IsSome taken) → reverse new ≡ without_innermost (reverse old)
innermost_taken old new (Some loop) e some = sym (ap (λ l. without_innermost (reverse l)) e ∙ ap without_innermost (reverse_push new loop))
innermost_taken [] [] None e some = refl
innermost_taken [] (l ∷ new) None e some = absurd (omega (arith, ap length e))
innermost_taken (l ∷ old) new None e some = absurd (none (some (omega arith)))
  where
    none : IsSome {T = Option (List ℕ)} None → ⊥
    none h = cc
