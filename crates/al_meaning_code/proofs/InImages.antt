-- Pieces of an object stand in the code of an image.
use Rattle.std.proofs.Common.{◌≡◌, ℕ, ◌+◌, ◌<◌, List, [], ◌∷◌, ◌++◌, true, false, ◌==◌, Some, length, refl, sym, ◌∙◌, ap, subst, arith, length-append, append_assoc}
use Rattle.std.proofs.lemmas.Bool.Decides.{nat_tests}
use Rattle.al_instr.specs.declared.instruction.Instr.{Instr}
use Rattle.al_instr.specs.declared.instruction.Instr.TheVariants as instr
use Rattle.al_instr.specs.Codes.{encoded, size_of, code_bytes}
use Rattle.al_code.specs.declared.piece.Target.{Target}
use Rattle.al_code.specs.Pieces.{Piece, Whole, Using, Leaving, Begins, Line}
use Rattle.al_view.specs.declared.link.LinkSymbol.{LinkSymbol}
use Rattle.al_machine.specs.Operations.{operation_of}
use Rattle.al_machine.specs.Code.{fetch, steps_from}
use Rattle.al_meaning_code.specs.Standing.{Stands}
use Rattle.al_meaning_code.specs.Laws.{linked_code, IsWhole, PiecesStand}

pub size_some : (i : Instr) → 0 < size_of i
unfolding encoded
size_some (instr.Plain p) = omega arith
size_some (instr.Sized s n) = omega arith
size_some (instr.Protected a n) = omega arith
size_some (instr.Const c) = omega arith
size_some (instr.Frame d w) = omega arith
size_some (instr.Global p) = omega arith
size_some (instr.Check l h) = omega arith
size_some (instr.Index l h w) = omega arith
size_some (instr.Jump d) = omega arith
size_some (instr.JumpZero d) = omega arith
size_some (instr.Call p w) = omega arith
size_some (instr.PutText t) = omega arith
size_some (instr.PutName b n) = omega arith
size_some (instr.Task p q) = omega arith
size_some (instr.Seed p w) = omega arith

-- the instruction after some others
pub fetch_at : (xs : List Instr) (i : Instr) (ys : List Instr) (p : ℕ) → fetch (steps_from p (xs ++ i ∷ ys)) (p + length (code_bytes xs)) ≡ Some (operation_of i, (p + length (code_bytes xs)) + size_of i)
fetch_at [] i ys p =
    let zero_ : p + 0 ≡ p = omega arith in
    let same : (p == p) ≡ true = grind (arith, nat_tests) in
    rw (zero_, same) refl
fetch_at (x ∷ xs) i ys p =
    let some = size_some x in
    let place : p + length (code_bytes (x ∷ xs)) ≡ (p + size_of x) + length (code_bytes xs) = omega (arith, length-append (encoded x) (code_bytes xs)) in
    let other : (((p + size_of x) + length (code_bytes xs)) == p) ≡ false = grind (arith, nat_tests) in
    rw (place, other) (fetch_at xs i ys (p + size_of x))

fetch_first : (xs : List Instr) (i : Instr) (ys : List Instr) → fetch (steps_from 0 (xs ++ i ∷ ys)) (length (code_bytes xs)) ≡ Some (operation_of i, length (code_bytes xs) + size_of i)
fetch_first xs i ys =
    let zero_ : 0 + length (code_bytes xs) ≡ length (code_bytes xs) = omega arith in
    rw zero_ at (fetch_at xs i ys 0)

-- pieces in the code that is made of them
module _ (linked : LinkSymbol → Instr → Instr) (sizes : (s : LinkSymbol) (i : Instr) → size_of (linked s i) ≡ size_of i) where
  pub stands_in : (ends : Target → ℕ) (before : List Instr) (ps : List Piece) (i : Instr) (after : List Instr) → IsWhole ps → Stands (steps_from 0 (before ++ (linked_code linked ps ++ i ∷ after))) linked ends (length (code_bytes before)) ps
  stands_in ends before [] i after h = ((operation_of i, length (code_bytes before) + size_of i), fetch_first before i after)
  stands_in ends before (Whole j ∷ ps) i after h = (fetch_first before j (linked_code linked ps ++ i ∷ after), one_more j (stands_in ends (before ++ j ∷ []) ps i after h))
    where
      one_more : (j : Instr) → Stands (steps_from 0 ((before ++ j ∷ []) ++ (linked_code linked ps ++ i ∷ after))) linked ends (length (code_bytes (before ++ j ∷ []))) ps → Stands (steps_from 0 (before ++ (j ∷ (linked_code linked ps ++ i ∷ after)))) linked ends (length (code_bytes before) + size_of j) ps
      one_more j s = subst (λ (n : ℕ). Stands (steps_from 0 (before ++ (j ∷ (linked_code linked ps ++ i ∷ after)))) linked ends n ps) (bytes_more before j) (subst (λ (l : List Instr). Stands (steps_from 0 l) linked ends (length (code_bytes (before ++ j ∷ []))) ps) (append_assoc before (j ∷ []) (linked_code linked ps ++ i ∷ after)) s)
        where
          bytes_more : (xs : List Instr) (j : Instr) → length (code_bytes (xs ++ j ∷ [])) ≡ length (code_bytes xs) + size_of j
          bytes_more [] j = omega (arith, length-append (encoded j) (code_bytes []))
          bytes_more (x ∷ xs) j = length-append (encoded x) (code_bytes (xs ++ j ∷ [])) ∙ omega (arith, bytes_more xs j) ∙ ap (λ (n : ℕ). n + size_of j) (sym (length-append (encoded x) (code_bytes xs)))
  stands_in ends before (Using j y ∷ ps) i after h = (fetched_, sizes y j, one_more (stands_in ends (before ++ linked y j ∷ []) ps i after h))
    where
      fetched_ : fetch (steps_from 0 (before ++ (linked y j ∷ (linked_code linked ps ++ i ∷ after)))) (length (code_bytes before)) ≡ Some (operation_of (linked y j), length (code_bytes before) + size_of (linked y j))
      fetched_ = fetch_first before (linked y j) (linked_code linked ps ++ i ∷ after)

      bytes_more : (xs : List Instr) (j : Instr) → length (code_bytes (xs ++ j ∷ [])) ≡ length (code_bytes xs) + size_of j
      bytes_more [] j = omega (arith, length-append (encoded j) (code_bytes []))
      bytes_more (x ∷ xs) j = length-append (encoded x) (code_bytes (xs ++ j ∷ [])) ∙ omega (arith, bytes_more xs j) ∙ ap (λ (n : ℕ). n + size_of j) (sym (length-append (encoded x) (code_bytes xs)))

      one_more : Stands (steps_from 0 ((before ++ linked y j ∷ []) ++ (linked_code linked ps ++ i ∷ after))) linked ends (length (code_bytes (before ++ linked y j ∷ []))) ps → Stands (steps_from 0 (before ++ (linked y j ∷ (linked_code linked ps ++ i ∷ after)))) linked ends (length (code_bytes before) + size_of j) ps
      one_more s = subst (λ (n : ℕ). Stands (steps_from 0 (before ++ (linked y j ∷ (linked_code linked ps ++ i ∷ after)))) linked ends n ps) (bytes_more before (linked y j) ∙ ap (λ (n : ℕ). length (code_bytes before) + n) (sizes y j)) (subst (λ (l : List Instr). Stands (steps_from 0 l) linked ends (length (code_bytes (before ++ linked y j ∷ []))) ps) (append_assoc before (linked y j ∷ []) (linked_code linked ps ++ i ∷ after)) s)
  stands_in ends before (Leaving w t ∷ ps) i after h = absurd h
  stands_in ends before (Begins s ∷ ps) i after h = stands_in ends before ps i after h
  stands_in ends before (Line n ∷ ps) i after h = stands_in ends before ps i after h

pub pieces_stand : PiecesStand
pieces_stand linked sizes ends before ps i after whole = stands_in linked sizes ends before ps i after whole
