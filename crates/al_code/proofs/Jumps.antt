-- Jumps whose ends are filled in.
use Rattle.std.proofs.Common.{◌≡◌, ℕ, ◌+◌, ◌-◌, ◌≤◌, true, leb, List, [], ◌∷◌, ◌++◌, length, take, drop, refl, sym, ap, ◌∙◌, append_assoc, arith, length-append}
use Rattle.std.specs.Prelude.{ℤ, pos}
use Rattle.std.proofs.lemmas.Bool.Decides.{nat_tests}
use Rattle.std.proofs.lemmas.List.{take_at, drop_at, drop-drop}
use borrow.Rule.Slice.PartMut.{put_mid}
use Rattle.al_instr.specs.Codes.{encoded, jump_bytes}
use Rattle.al_code.specs.declared.piece.JumpCondition.{JumpCondition}
use Rattle.al_code.specs.declared.piece.JumpCondition.TheVariants as when
use Rattle.al_code.specs.Pieces.{jump_of}
use Rattle.al_code.specs.Written.{with_jump}

pub jump_put : (place to : ℕ) (xs ys : List ℕ) → place + 5 ≤ length xs → ys ≡ jump_bytes (pos (to - (place + 5))) → put_mid (place + 1) ((place + 5) - (place + 1)) xs ys ≡ with_jump xs place to
unfolding with_jump
jump_put place to xs ys fits is =
    let test : leb (place + 5) (length xs) ≡ true = grind (arith, nat_tests) in
    let k : (place + 5) - (place + 1) ≡ 4 = omega arith in
    let e : (place + 1) + 4 ≡ place + 5 = omega arith in
    rw (test, k, is, drop-drop 4 (place + 1) xs, e) refl

jump_length : (z : ℤ) → length (jump_bytes z) ≡ 4
unfolding jump_bytes
jump_length z = refl

-- a jump's operand is written over
jump_written : (front : List ℕ) (op : ℕ) (old rest : List ℕ) (place to : ℕ) → place ≡ length front → length old ≡ 4 → with_jump (front ++ ((op ∷ old) ++ rest)) place to ≡ front ++ ((op ∷ jump_bytes (pos (to - (place + 5)))) ++ rest)
unfolding with_jump
jump_written front op old rest place to at len =
    let total : length (front ++ ((op ∷ old) ++ rest)) ≡ length front + (5 + length rest) = omega (arith, length-append front ((op ∷ old) ++ rest), length-append (op ∷ old) rest) in
    let test : leb (place + 5) (length (front ++ ((op ∷ old) ++ rest))) ≡ true = grind (arith, nat_tests) in
    let early : front ++ ((op ∷ old) ++ rest) ≡ (front ++ op ∷ []) ++ (old ++ rest) = sym (append_assoc front (op ∷ []) (old ++ rest)) in
    let late : front ++ ((op ∷ old) ++ rest) ≡ (front ++ (op ∷ old)) ++ rest = sym (append_assoc front (op ∷ old) rest) in
    let n1 : length (front ++ op ∷ []) ≡ place + 1 = omega (arith, length-append front (op ∷ [])) in
    let n2 : length (front ++ (op ∷ old)) ≡ place + 5 = omega (arith, length-append front (op ∷ old)) in
    let first : take (place + 1) (front ++ ((op ∷ old) ++ rest)) ≡ front ++ op ∷ [] = ap (λ (xs : List ℕ). take (place + 1) xs) early ∙ take_at (front ++ op ∷ []) (old ++ rest) (place + 1) n1 in
    let last : drop (place + 5) (front ++ ((op ∷ old) ++ rest)) ≡ rest = ap (λ (xs : List ℕ). drop (place + 5) xs) late ∙ drop_at (front ++ (op ∷ old)) rest (place + 5) n2 in
    rw (test, first, last) (append_assoc front (op ∷ []) (jump_bytes (pos (to - (place + 5))) ++ rest))

abbrev opcode : JumpCondition → ℕ
opcode when.Always = 0x0b
opcode when.IfZero = 0x0c

jump_is : (w : JumpCondition) (z : ℤ) → encoded (jump_of w z) ≡ opcode w ∷ jump_bytes z
unfolding encoded
jump_is when.Always z = refl
jump_is when.IfZero z = refl

pub jump_size : (w : JumpCondition) (z : ℤ) → length (encoded (jump_of w z)) ≡ 5
jump_size w z = ap length (jump_is w z) ∙ omega (arith, jump_length z)

-- the same where an instruction stands
pub jump_filled : (w : JumpCondition) (z : ℤ) (front rest : List ℕ) (place to : ℕ) → place ≡ length front → with_jump (front ++ (encoded (jump_of w z) ++ rest)) place to ≡ front ++ (encoded (jump_of w (pos (to - (place + 5)))) ++ rest)
jump_filled w z front rest place to at =
    ap (λ (xs : List ℕ). with_jump (front ++ (xs ++ rest)) place to) (jump_is w z)
    ∙ jump_written front (opcode w) (jump_bytes z) rest place to at (jump_length z)
    ∙ ap (λ (xs : List ℕ). front ++ (xs ++ rest)) (sym (jump_is w (pos (to - (place + 5)))))
