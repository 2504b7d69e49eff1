-- Constructs that end: the jumps to their end are filled in.
use Rattle.std.proofs.Common.{◌≡◌, ℕ, ◌+◌, ◌-◌, ◌<◌, cond, List, [], ◌∷◌, ◌++◌, length, take, drop, Option, Some, None, refl, sym, ap, subst, ◌∙◌, append_assoc, arith, length-append, inl, inr}
use Rattle.std.specs.Prelude.{ℤ, pos, is_none, IfSome}
use Rattle.std.proofs.lemmas.Bool.{cases_lt}
use Rattle.std.proofs.lemmas.List.{take_at, drop_at}
use Rattle.al_instr.specs.Codes.{encoded}
use Rattle.al_code_object.specs.declared.object.Address.{Address}
use Rattle.al_code_object.specs.declared.object.Relocation.{Relocation}
use Rattle.al_code.specs.declared.piece.ForwardJump.{ForwardJump}
use Rattle.al_instr.specs.declared.lines.LineEntry.{LineEntry}
use Rattle.al_code.specs.declared.piece.JumpCondition.{JumpCondition}
use Rattle.al_code.specs.declared.piece.Target.{Target}
use Rattle.al_code.specs.declared.piece.Construct.{Construct}
use Rattle.al_code.specs.Targets.{outside}
use Rattle.al_code.specs.Pieces.{Piece, Whole, Using, Leaving, Begins, Line, jump_of, piece_bytes, piece_size, bytes_of, size, noted_from, use_at, uses_from, definition_at, defines_from, leave_at, leaves_from, line_at, lines_from, over_or, back, closed, repeated}
use Rattle.al_code.specs.Written.{Buffer, grown, written, with_jump, all_filled, leave_or, leaves_outside, ended, EndsAt, WaitsAt}
use Rattle.al_code.proofs.Writing.{written_nothing, written_append, grown_none, written_none, written_within, written_beyond, size_cons}
use Rattle.al_code.proofs.Jumps.{jump_filled, jump_size}

-- one piece, if the construct ends so many bytes after it
abbrev closed_piece : Construct → ℕ → Piece → Piece
closed_piece c after (Whole i) = Whole i
closed_piece c after (Using i symbol) = Using i symbol
closed_piece c after (Begins symbol) = Begins symbol
closed_piece c after (Line n) = Line n
closed_piece c after (Leaving w target) = over_or w (outside c target) after

closed-cons : (c : Construct) (x : Piece) (p : List Piece) → closed c (x ∷ p) ≡ closed_piece c (size p) x ∷ closed c p
closed-cons c (Whole i) p = refl
closed-cons c (Using i symbol) p = refl
closed-cons c (Begins symbol) p = refl
closed-cons c (Line n) p = refl
closed-cons c (Leaving w target) p = refl

-- the size of the one piece doesn't change
piece_closed : (c : Construct) (after : ℕ) (x : Piece) → piece_size (closed_piece c after x) ≡ piece_size x
piece_closed c after (Whole i) = refl
piece_closed c after (Using i symbol) = refl
piece_closed c after (Begins symbol) = refl
piece_closed c after (Line n) = refl
piece_closed c after (Leaving w target) = at (outside c target) where
  at : (b : Option Target) → piece_size (over_or w b after) ≡ piece_size (Leaving w target)
  at None = jump_size w (pos after) ∙ sym (jump_size w (pos 0))
  at (Some t) = refl

pub closed_size : (c : Construct) (p : List Piece) → size (closed c p) ≡ size p
closed_size c [] = refl
closed_size c (x ∷ p) =
    ap size (closed-cons c x p) ∙ size_cons (closed_piece c (size p) x) (closed c p)
    ∙ omega (arith, piece_closed c (size p) x, closed_size c p) ∙ sym (size_cons x p)

-- what is noted doesn't change, if nothing is noted of jumps
module _ {X : Type 0} (note : ℕ → Piece → List X) (of_whole : (from : ℕ) (w : JumpCondition) (z : ℤ) → note from (Whole (jump_of w z)) ≡ []) (of_leaving : (from : ℕ) (w : JumpCondition) (t : Target) → note from (Leaving w t) ≡ []) where
  note_closed : (c : Construct) (after from : ℕ) (x : Piece) → note from (closed_piece c after x) ≡ note from x
  note_closed c after from (Whole i) = refl
  note_closed c after from (Using i symbol) = refl
  note_closed c after from (Begins symbol) = refl
  note_closed c after from (Line n) = refl
  note_closed c after from (Leaving w target) = at (outside c target) where
    at : (b : Option Target) → note from (over_or w b after) ≡ note from (Leaving w target)
    at None = of_whole from w (pos after) ∙ sym (of_leaving from w target)
    at (Some t) = of_leaving from w t ∙ sym (of_leaving from w target)

  pub noted_closed : (c : Construct) (from : ℕ) (p : List Piece) → noted_from note from (closed c p) ≡ noted_from note from p
  noted_closed c from [] = refl
  noted_closed c from (x ∷ p) =
      ap (λ (ps : List Piece). noted_from note from ps) (closed-cons c x p)
      ∙ ap (λ (us : List X). us ++ noted_from note (from + piece_size (closed_piece c (size p) x)) (closed c p)) (note_closed c (size p) from x)
      ∙ ap (λ (k : ℕ). note from x ++ noted_from note (from + k) (closed c p)) (piece_closed c (size p) x)
      ∙ ap (λ (us : List X). note from x ++ us) (noted_closed c (from + piece_size x) p)

uses_closed : (c : Construct) (from : ℕ) (p : List Piece) → uses_from from (closed c p) ≡ uses_from from p
uses_closed c from p = noted_closed use_at (λ n w z. refl) (λ n w t. refl) c from p

defines_closed : (c : Construct) (from : ℕ) (p : List Piece) → defines_from from (closed c p) ≡ defines_from from p
defines_closed c from p = noted_closed definition_at (λ n w z. refl) (λ n w t. refl) c from p

lines_closed : (c : Construct) (from : ℕ) (p : List Piece) → lines_from from (closed c p) ≡ lines_from from p
lines_closed c from p = noted_closed line_at (λ n w z. refl) (λ n w t. refl) c from p

leave_closed : (c : Construct) (after from : ℕ) (x : Piece) (ls : List ForwardJump) → leaves_outside c (leave_at from x ++ ls) ≡ leave_at from (closed_piece c after x) ++ leaves_outside c ls
leave_closed c after from (Whole i) ls = refl
leave_closed c after from (Using i symbol) ls = refl
leave_closed c after from (Begins symbol) ls = refl
leave_closed c after from (Line n) ls = refl
leave_closed c after from (Leaving w target) ls = at (outside c target) where
  at : (b : Option Target) → leave_or b from ++ leaves_outside c ls ≡ leave_at from (over_or w b after) ++ leaves_outside c ls
  at None = refl
  at (Some t) = refl

leaves_closed : (c : Construct) (from : ℕ) (p : List Piece) → leaves_outside c (leaves_from from p) ≡ leaves_from from (closed c p)
leaves_closed c from [] = refl
leaves_closed c from (x ∷ p) =
    leave_closed c (size p) from x (leaves_from (from + piece_size x) p)
    ∙ ap (λ (ls : List ForwardJump). leave_at from (closed_piece c (size p) x) ++ ls) (leaves_closed c (from + piece_size x) p)
    ∙ ap (λ (k : ℕ). leave_at from (closed_piece c (size p) x) ++ leaves_from (from + k) (closed c p)) (sym (piece_closed c (size p) x))
    ∙ ap (λ (ps : List Piece). leaves_from from ps) (sym (closed-cons c x p))

-- the one jump, if it leads to the end
piece_filled : (c : Construct) (end : ℕ) (front rest : List ℕ) (x : Piece) (ls : List ForwardJump) → end ≡ length front + (piece_size x + length rest)
    → all_filled c end (front ++ (piece_bytes x ++ rest)) (leave_at (length front) x ++ ls) ≡ all_filled c end (front ++ (piece_bytes (closed_piece c (length rest) x) ++ rest)) ls
piece_filled c end front rest (Whole i) ls is = refl
piece_filled c end front rest (Using i symbol) ls is = refl
piece_filled c end front rest (Begins symbol) ls is = refl
piece_filled c end front rest (Line n) ls is = refl
piece_filled c end front rest (Leaving w target) ls is = at (outside c target) where
  code : with_jump (front ++ (encoded (jump_of w (pos 0)) ++ rest)) (length front) end ≡ front ++ (encoded (jump_of w (pos (length rest))) ++ rest)
  code =
      let d : end - (length front + 5) ≡ length rest = omega (arith, jump_size w (pos 0)) in
      jump_filled w (pos 0) front rest (length front) end refl
      ∙ ap (λ (k : ℕ). front ++ (encoded (jump_of w (pos k)) ++ rest)) d

  at : (b : Option Target) → all_filled c end (cond (is_none b) (with_jump (front ++ (encoded (jump_of w (pos 0)) ++ rest)) (length front) end) (front ++ (encoded (jump_of w (pos 0)) ++ rest))) ls ≡ all_filled c end (front ++ (piece_bytes (over_or w b (length rest)) ++ rest)) ls
  at None = ap (λ (xs : List ℕ). all_filled c end xs ls) code
  at (Some t) = refl

code_closed : (c : Construct) (end : ℕ) (front : List ℕ) (p : List Piece) → end ≡ length front + size p → all_filled c end (front ++ bytes_of p) (leaves_from (length front) p) ≡ front ++ bytes_of (closed c p)
code_closed c end front [] is = refl
code_closed c end front (x ∷ p) is =
    let y : Piece = closed_piece c (size p) x in
    let step = piece_filled c end front (bytes_of p) x (leaves_from (length front + piece_size x) p) (is ∙ ap (λ (k : ℕ). length front + k) (size_cons x p)) in
    let len : length (front ++ piece_bytes y) ≡ length front + piece_size x = length-append front (piece_bytes y) ∙ ap (λ (k : ℕ). length front + k) (piece_closed c (size p) x) in
    step
    ∙ ap (λ (xs : List ℕ). all_filled c end xs (leaves_from (length front + piece_size x) p)) (sym (append_assoc front (piece_bytes y) (bytes_of p)))
    ∙ ap (λ (k : ℕ). all_filled c end ((front ++ piece_bytes y) ++ bytes_of p) (leaves_from k p)) (sym len)
    ∙ code_closed c end (front ++ piece_bytes y) p (omega (arith, size_cons x p, len))
    ∙ append_assoc front (piece_bytes y) (bytes_of (closed c p))
    ∙ ap (λ (ps : List Piece). front ++ bytes_of ps) (sym (closed-cons c x p))

none : (c : Construct) (first : ℕ) → ended None first c ≡ None
unfolding ended
none c first = refl

ended_made : (c : Construct) (g h : Buffer) (kept : List ForwardJump) → all_filled c (length g.code) g.code kept ≡ h.code → g.uses ≡ h.uses → g.defines ≡ h.defines → g.lines ≡ h.lines → (first : ℕ) → drop first g.leaving ≡ kept → take first g.leaving ++ leaves_outside c kept ≡ h.leaving → ended (Some g) first c ≡ Some h
unfolding ended
ended_made c g h kept code uses defines lines first is leaves = rw (is, code, uses, defines, lines, leaves) refl

ended_grown : (b : Buffer) (first : ℕ) (c : Construct) (p : List Piece) → first ≡ length b.leaving → ended (Some (grown b p)) first c ≡ Some (grown b (closed c p))
ended_grown b first c p at =
    let after : drop first (b.leaving ++ leaves_from (length b.code) p) ≡ leaves_from (length b.code) p = drop_at b.leaving (leaves_from (length b.code) p) first (sym at) in
    let before : take first (b.leaving ++ leaves_from (length b.code) p) ≡ b.leaving = take_at b.leaving (leaves_from (length b.code) p) first (sym at) in
    ended_made c (grown b p) (grown b (closed c p)) (leaves_from (length b.code) p)
    (code_closed c (length (b.code ++ bytes_of p)) b.code p (length-append b.code (bytes_of p)))
    (ap (λ (us : List Relocation). b.uses ++ us) (sym (uses_closed c (length b.code) p)))
    (ap (λ (us : List Address). b.defines ++ us) (sym (defines_closed c (length b.code) p)))
    (ap (λ (ms : List LineEntry). b.lines ++ ms) (sym (lines_closed c (length b.code) p)))
    first after
    (ap (λ (ls : List ForwardJump). ls ++ leaves_outside c (leaves_from (length b.code) p)) before ∙ ap (λ (ls : List ForwardJump). b.leaving ++ ls) (leaves_closed c (length b.code) p))

-- a construct that ends is closed
ended_closed : (w : Option Buffer) (first : ℕ) (c : Construct) (p : List Piece) → WaitsAt w first → ended (written w p) first c ≡ written w (closed c p)
ended_closed None first c p at = ap (λ (w : Option Buffer). ended w first c) (written_none p) ∙ none c first ∙ sym (written_none (closed c p))
ended_closed (Some b) first c [] at =
    ap (λ (w : Option Buffer). ended w first c) (written_nothing (Some b) ∙ ap (λ (d : Buffer). Some d) (sym (grown_none b)))
    ∙ ended_grown b first c [] at ∙ ap (λ (d : Buffer). Some d) (grown_none b) ∙ sym (written_nothing (Some b))
ended_closed (Some b) first c (x ∷ p) at =
    let same = closed_size c (x ∷ p) in
    elim (cases_lt 16777216 (length b.code + size (x ∷ p))) [
      | inl lt ↦
          let shape = closed-cons c x p in
          let beyond : 16777216 < length b.code + size (closed_piece c (size p) x ∷ closed c p) = subst (λ (ps : List Piece). 16777216 < length b.code + size ps) shape (omega arith) in
          ap (λ (w : Option Buffer). ended w first c) (written_beyond b x p lt) ∙ none c first
          ∙ sym (ap (λ (ps : List Piece). written (Some b) ps) shape ∙ written_beyond b (closed_piece c (size p) x) (closed c p) beyond)
      | inr le ↦
          ap (λ (w : Option Buffer). ended w first c) (written_within b (x ∷ p) le)
          ∙ ended_grown b first c (x ∷ p) at
          ∙ sym (written_within b (closed c (x ∷ p)) (omega arith))
    ]

-- the same by the steps of the code
pub closed_steps : (w w1 w2 : Option Buffer) (first : ℕ) (c : Construct) (p : List Piece) → WaitsAt w first → w1 ≡ written w p → w2 ≡ ended w1 first c → w2 ≡ written w (closed c p)
closed_steps w w1 w2 first c p at one two = two ∙ ap (λ (v : Option Buffer). ended v first c) one ∙ ended_closed w first c p at

-- one code, and then another
pub then_steps : (w w1 w2 : Option Buffer) (p q : List Piece) → w1 ≡ written w p → w2 ≡ written w1 q → w2 ≡ written w (p ++ q)
then_steps w w1 w2 p q one two = two ∙ ap (λ (v : Option Buffer). written v q) one ∙ written_append w p q

-- the place at which code ends that has grown
written_end : (w : Option Buffer) (p : List Piece) (start : ℕ) → EndsAt w start → IfSome (written w p) (λ b. length b.code ≡ start + size p)
written_end None p start at = rw (written_none p) tt
written_end (Some b) [] start at = rw (written_nothing (Some b)) (omega arith)
written_end (Some b) (x ∷ p) start at =
    elim (cases_lt 16777216 (length b.code + size (x ∷ p))) [
      | inl lt ↦ rw (written_beyond b x p lt) tt
      | inr le ↦ rw (written_within b (x ∷ p) le) (length-append b.code (bytes_of (x ∷ p)) ∙ omega arith)
    ]

-- what goes round, by the steps of the code
pub repeated_steps : (w w1 w2 : Option Buffer) (start : ℕ) (p : List Piece) → EndsAt w start → w1 ≡ written w p → ((n : ℕ) → IfSome w1 (λ b. length b.code ≡ start + n) → w2 ≡ written w1 (back n ∷ [])) → w2 ≡ written w (repeated p)
unfolding repeated
repeated_steps w w1 w2 start p at one two = then_steps w w1 w2 p (back (size p) ∷ []) one (two (size p) (rw one (written_end w p start at)))
