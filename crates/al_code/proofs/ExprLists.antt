-- Loops over what has code.
use Rattle.std.proofs.Common.{◌≡◌, ℕ, ◌+◌, ◌≤◌, List, [], ◌∷◌, ◌++◌, length, map, take, Option, refl, sym, ap, ◌∙◌, add-one}
use Rattle.std.specs.List.{flat_map}
use Rattle.al_view_typed.specs.Listed.{listed}
use Rattle.al_code.specs.declared.piece.Construct.TheVariants as construct
use Rattle.al_code.specs.Pieces.{Piece}
use Rattle.al_code.specs.Written.{Buffer, ended, written, WaitsAt}
use Rattle.al_code.proofs.Writing.{written_all}
use Rattle.al_code.proofs.Closing.{closed_steps, then_steps}
use Rattle.std.specs.Prelude.{pos}
use Rattle.al_view_typed.specs.declared.label.ShortCircuit.TheVariants as short
use Rattle.al_code.specs.ExprPieces.{guarded, join, number, times, unless_zero}
use Rattle.al_code.specs.Templates.{short_code}

-- the code of a list, which its own form has by its two constructors
listed_code : {A B : Type 0} (more : A → B → B) (none : B) (f : A → List Piece) (g : B → List Piece) → g none ≡ [] → ((x : A) (y : B) → g (more x y) ≡ f x ++ g y) → (xs : List A) → g (listed more none xs) ≡ flat_map f xs
listed_code more none f g at_none at_more [] = at_none
listed_code more none f g at_none at_more (x ∷ xs) = at_more x (listed more none xs) ∙ ap (λ (ps : List Piece). f x ++ ps) (listed_code more none f g at_none at_more xs)

pub flat_map-map : {A B : Type 0} (f : B → List Piece) (h : A → B) (xs : List A) → flat_map f (map h xs) ≡ flat_map (λ x. f (h x)) xs
flat_map-map f h [] = refl
flat_map-map f h (x ∷ xs) = ap (λ (ps : List Piece). f (h x) ++ ps) (flat_map-map f h xs)

-- after all turns
pub written_listed : {A C B : Type 0} (more : C → B → B) (none : B) (f : C → List Piece) (g : B → List Piece) → g none ≡ [] → ((x : C) (y : B) → g (more x y) ≡ f x ++ g y) → (h : A → C) (w now : Option Buffer) (xs : List A) (i : ℕ) → now ≡ written w (flat_map (λ x. f (h x)) (take i xs)) → length xs ≤ i → now ≡ written w (g (listed more none (map h xs)))
written_listed more none f g at_none at_more h w now xs i e le =
    written_all (λ x. f (h x)) w now xs i e le
    ∙ ap (λ (ps : List Piece). written w ps) (sym (listed_code more none f g at_none at_more (map h xs) ∙ flat_map-map f h xs))

-- one time more
pub times_more : (p : List Piece) (w now next : Option Buffer) (n : ℕ) → now ≡ written w (times n p) → next ≡ written now p → next ≡ written w (times (n + 1) p)
times_more p w now next n one two = then_steps w now next (times n p) p one two ∙ ap (λ (k : ℕ). written w (times k p)) (sym (add-one n))

-- code that runs if the word on top isn't 0, by the steps of the code
pub guarded_steps : (w w1 w2 w3 : Option Buffer) (first : ℕ) (p : List Piece) → WaitsAt w first → w1 ≡ written w unless_zero → w2 ≡ written w1 p → w3 ≡ ended w2 first construct.Test → w3 ≡ written w (guarded p)
unfolding guarded
guarded_steps w w1 w2 w3 first p at one two three = closed_steps w w2 w3 first construct.Test (unless_zero ++ p) at (then_steps w w1 w2 unless_zero p one two) three

-- the right operand of a short-circuit form, by the steps of the code
pub and_steps : (w w1 w2 w3 w4 w5 w6 : Option Buffer) (first : ℕ) (right : List Piece) → WaitsAt w first → w1 ≡ written w unless_zero → w2 ≡ written w1 right → w3 ≡ written w2 join → w4 ≡ ended w3 first construct.Test → w5 ≡ written w4 (number (pos 0)) → w6 ≡ ended w5 first construct.Choice → w6 ≡ written w (short_code short.AndThen right)
unfolding short_code
and_steps w w1 w2 w3 w4 w5 w6 first right at one two three four five six =
    closed_steps w w5 w6 first construct.Choice (guarded (right ++ join) ++ number (pos 0)) at
    (then_steps w w4 w5 (guarded (right ++ join)) (number (pos 0)) (guarded_steps w w1 w3 w4 first (right ++ join) at one (then_steps w1 w2 w3 right join two three) four) five) six

pub or_steps : (w w1 w2 w3 w4 w5 w6 : Option Buffer) (first : ℕ) (right : List Piece) → WaitsAt w first → w1 ≡ written w unless_zero → w2 ≡ written w1 (number (pos 1)) → w3 ≡ written w2 join → w4 ≡ ended w3 first construct.Test → w5 ≡ written w4 right → w6 ≡ ended w5 first construct.Choice → w6 ≡ written w (short_code short.OrElse right)
unfolding short_code
or_steps w w1 w2 w3 w4 w5 w6 first right at one two three four five six =
    closed_steps w w5 w6 first construct.Choice (guarded (number (pos 1) ++ join) ++ right) at
    (then_steps w w4 w5 (guarded (number (pos 1) ++ join)) right (guarded_steps w w1 w3 w4 first (number (pos 1) ++ join) at one (then_steps w1 w2 w3 (number (pos 1)) join two three) four) five) six
