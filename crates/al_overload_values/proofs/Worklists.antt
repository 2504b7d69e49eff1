-- What waits, with one term more at its end, and how much it is.
use Rattle.std.proofs.Common.{◌≡◌, ℕ, zero, suc, ◌+◌, ◌<◌, ◌≤◌, arith, Box, Global, List, [], ◌∷◌, ◌++◌, map, Option, refl, ap}
use Rattle.std.specs.Prelude.{sum_by}
use Rattle.std.proofs.lemmas.List.Sums.{sum_by_push}
use Rattle.al_base.specs.declared.place.Place.{Place}
use Rattle.al_overload.specs.declared.everywhere.Predefined.{Predefined}
use Rattle.al_overload_nodes.specs.Gathering.{Parts}
use Rattle.al_overload_values.specs.Puts.{text_read}
use Rattle.al_overload_values.specs.Worklists.{all_read, most}
use Rattle.al_overload.specs.Terms.{TermTree}
use Rattle.al_overload.specs.declared.heads_term.Term.{Term, size-Term}
use Rattle.al_overload.specs.declared.heads_term.Term.TheVariants as terms
use Rattle.al_overload.specs.declared.heads_term.Term.TheViews.{sized-Concatenation, sized-Group}
use Rattle.al_view.specs.declared.symbol.Symbol.{Symbol}
use Rattle.al_view_typed.specs.StatementTrees.{PieceTree}

pub last_read : {A : Type 0} (p : Predefined) (own : Option Symbol) (f : A → TermTree) (xs : List A) (x : A) (pieces : Parts PieceTree)
    → all_read p own (map f (xs ++ x ∷ [])) pieces ≡ all_read p own (map f xs) (text_read p own (f x) pieces)
last_read p own f [] x pieces = refl
last_read p own f (y ∷ xs) x pieces = ap (text_read p own (f y)) (last_read p own f xs x pieces)

pub last_room : {A : Type 0} (g : A → ℕ) (xs : List A) (x : A) → sum_by g (xs ++ x ∷ []) ≡ sum_by g xs + g x
last_room g xs x = sum_by_push g xs x

-- ---- depths

pub most_above : (a d : ℕ) → a ≤ d → most a ≤ most d
most_above zero zero h = omega arith
most_above zero (suc d) h = let e = most_above zero d (omega arith) in omega (arith, e)
most_above (suc a) zero h = absurd (omega arith)
most_above (suc a) (suc d) h = let e = most_above a d (omega arith) in omega (arith, e)

pub some : (d : ℕ) → 0 < most d
some zero = omega arith
some (suc d) = omega arith

pub one_within : (a d : ℕ) → a < d → most a < most d
one_within a zero h = absurd (omega arith)
one_within a (suc d) h = let e = most_above a d (omega arith) in omega (arith, e)

pub two_within : (a b d : ℕ) → a < d → b < d → most a + most b < most d
two_within a b zero h k = absurd (omega arith)
two_within a b (suc d) h k = let e = most_above a d (omega arith) in let f = most_above b d (omega arith) in omega (arith, e, f)

pub left_below : (term : Term) (l r : Box Term Global) → term ≡ terms.Concatenation l r → size-Term l.value < size-Term term
left_below term l r is = let a = ap size-Term is in omega (arith, sized-Concatenation l r, a)

pub right_below : (term : Term) (l r : Box Term Global) → term ≡ terms.Concatenation l r → size-Term r.value < size-Term term
right_below term l r is = let a = ap size-Term is in omega (arith, sized-Concatenation l r, a)

pub inner_below : (term : Term) (place : Place) (inner : Box Term Global) → term ≡ terms.Group place inner → size-Term inner.value < size-Term term
inner_below term place inner is = let a = ap size-Term is in omega (arith, sized-Group place inner, a)
