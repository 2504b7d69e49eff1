-- One of several names.
use Rattle.std.proofs.Common.{◌≡◌, ℕ, zero, suc, ◌<◌, Bool, true, false, ◌||◌, List, [], ◌∷◌, length, get_or, refl, subst, arith}
use Rattle.std.specs.List.{list_any}
use Rattle.std.specs.Str.{bytes_eq}
use Rattle.al_decl_judged.specs.DefiningNames.{names_of}
use Rattle.al_decl_judged.specs.declared.names.DefiningName.{DefiningName}

pub one_among : (xs : List DefiningName) (i : ℕ) (x : DefiningName) → i < length xs → x ≡ get_or xs i x → (n : List ℕ) → list_any (bytes_eq n) (x.name ∷ []) ≡ true → list_any (bytes_eq n) (names_of xs) ≡ true
one_among [] i x h e n k = absurd (omega arith)
one_among (y ∷ ys) zero x h e n k = at (bytes_eq n y.name) (subst (λ (z : DefiningName). (bytes_eq n z.name || false) ≡ true) e k)
  where
    at : (b : Bool) → (b || false) ≡ true → (b || list_any (bytes_eq n) (names_of ys)) ≡ true
    at true j = refl
    at false j = absurd (cc)
one_among (y ∷ ys) (suc i) x h e n k = at (bytes_eq n y.name) (one_among ys i x (omega arith) e n k)
  where
    at : (b : Bool) → list_any (bytes_eq n) (names_of ys) ≡ true → (b || list_any (bytes_eq n) (names_of ys)) ≡ true
    at true j = refl
    at false j = j
