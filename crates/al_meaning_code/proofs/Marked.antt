-- The lines of parts of pieces.
use Rattle.std.proofs.Common.{◌≡◌, ℕ, ◌+◌, ◌<◌, ◌≤◌, List, [], ◌∷◌, ◌++◌, Option, Some, None, refl, sym, ◌∙◌, subst, arith, ⊎_elim}
use Rattle.std.proofs.lemmas.Bool.{cases_lt}
use Rattle.std.specs.Prelude.{⊤, pos}
use Rattle.al_base.specs.declared.unit_key.UnitKey.{UnitKey}
use Rattle.al_code.specs.declared.piece.Construct.{Construct}
use Rattle.al_code.specs.declared.piece.Target.{Target}
use Rattle.al_code.specs.Targets.{outside}
use Rattle.al_code.specs.Pieces.{Piece, Whole, Using, Leaving, Begins, Line, jump_of, piece_size, size, closed, over_or}
use Rattle.al_meaning_code.specs.Running.{Lines}
use Rattle.al_meaning_code.specs.Standing.{AreOfLine, AreMarked}
use Rattle.al_meaning_code.proofs.Machines.{jump_size, size_cons}
use Rattle.al_meaning_code.proofs.InImages.{size_some}

-- the line that holds after the marks of some pieces
abbrev pub line_after : ℕ → List Piece → ℕ
line_after line [] = line
line_after line (Line n ∷ ps) = line_after n ps
line_after line (p ∷ ps) = line_after line ps

-- no mark is among them
abbrev pub HasNoMark : List Piece → Type 0
HasNoMark [] = ⊤
HasNoMark (Line n ∷ ps) = ⊥
HasNoMark (p ∷ ps) = HasNoMark ps

pub no_mark-append : (p q : List Piece) → HasNoMark p → HasNoMark q → HasNoMark (p ++ q)
no_mark-append [] q h i = i
no_mark-append (Line n ∷ p) q h i = absurd h
no_mark-append (Whole j ∷ p) q h i = no_mark-append p q h i
no_mark-append (Using j s ∷ p) q h i = no_mark-append p q h i
no_mark-append (Leaving w t ∷ p) q h i = no_mark-append p q h i
no_mark-append (Begins s ∷ p) q h i = no_mark-append p q h i

pub no_mark-closed : (c : Construct) (p : List Piece) → HasNoMark p → HasNoMark (closed c p)
no_mark-closed c [] h = h
no_mark-closed c (Line n ∷ p) h = absurd h
no_mark-closed c (Whole j ∷ p) h = no_mark-closed c p h
no_mark-closed c (Using j s ∷ p) h = no_mark-closed c p h
no_mark-closed c (Begins s ∷ p) h = no_mark-closed c p h
no_mark-closed c (Leaving w t ∷ p) h = go (outside c t) (no_mark-closed c p h)
  where
    go : (o : Option Target) → HasNoMark (closed c p) → HasNoMark (over_or w o (size p) ∷ closed c p)
    go (Some u) i = i
    go None i = i

module _ (lines : Lines) (unit : UnitKey) where
  marked_moved : (line a b : ℕ) (ps : List Piece) → a ≡ b → AreMarked lines unit line a ps → AreMarked lines unit line b ps
  marked_moved line a b ps e h = subst (λ k. AreMarked lines unit line k ps) e h

  pub marked_front : (line pc : ℕ) (ps qs : List Piece) → AreMarked lines unit line pc (ps ++ qs) → AreMarked lines unit line pc ps
  marked_front line pc [] qs h = tt
  marked_front line pc (Line n ∷ ps) qs h = marked_front n pc ps qs h
  marked_front line pc (Whole i ∷ ps) qs h = (h.0, marked_front line (pc + piece_size (Whole i)) ps qs h.1)
  marked_front line pc (Using i s ∷ ps) qs h = (h.0, marked_front line (pc + piece_size (Using i s)) ps qs h.1)
  marked_front line pc (Leaving w t ∷ ps) qs h = (h.0, marked_front line (pc + piece_size (Leaving w t)) ps qs h.1)
  marked_front line pc (Begins s ∷ ps) qs h = (h.0, marked_front line (pc + piece_size (Begins s)) ps qs h.1)

  pub marked_back : (line pc : ℕ) (ps qs : List Piece) → AreMarked lines unit line pc (ps ++ qs) → AreMarked lines unit (line_after line ps) (pc + size ps) qs
  marked_back line pc [] qs h = marked_moved line pc (pc + 0) qs (omega arith) h
  marked_back line pc (Line n ∷ ps) qs h = marked_moved (line_after n ps) _ (pc + size (Line n ∷ ps)) qs (omega (arith, size_cons (Line n) ps)) (marked_back n pc ps qs h)
  marked_back line pc (Whole i ∷ ps) qs h = marked_moved (line_after line ps) _ (pc + size (Whole i ∷ ps)) qs (omega (arith, size_cons (Whole i) ps)) (marked_back line (pc + piece_size (Whole i)) ps qs h.1)
  marked_back line pc (Using i s ∷ ps) qs h = marked_moved (line_after line ps) _ (pc + size (Using i s ∷ ps)) qs (omega (arith, size_cons (Using i s) ps)) (marked_back line (pc + piece_size (Using i s)) ps qs h.1)
  marked_back line pc (Leaving w t ∷ ps) qs h = marked_moved (line_after line ps) _ (pc + size (Leaving w t ∷ ps)) qs (omega (arith, size_cons (Leaving w t) ps)) (marked_back line (pc + piece_size (Leaving w t)) ps qs h.1)
  marked_back line pc (Begins s ∷ ps) qs h = marked_moved (line_after line ps) _ (pc + size (Begins s ∷ ps)) qs (omega (arith, size_cons (Begins s) ps)) (marked_back line (pc + piece_size (Begins s)) ps qs h.1)

  line_stays : (line : ℕ) (ps : List Piece) → HasNoMark ps → line_after line ps ≡ line
  line_stays line [] n = refl
  line_stays line (Line l ∷ ps) n = absurd n
  line_stays line (Whole i ∷ ps) n = line_stays line ps n
  line_stays line (Using i s ∷ ps) n = line_stays line ps n
  line_stays line (Leaving w t ∷ ps) n = line_stays line ps n
  line_stays line (Begins s ∷ ps) n = line_stays line ps n

  -- what follows pieces without a mark
  pub marked_beyond : (line pc : ℕ) (ps qs : List Piece) → HasNoMark ps → AreMarked lines unit line pc (ps ++ qs) → AreMarked lines unit line (pc + size ps) qs
  marked_beyond line pc ps qs n h = subst (λ (l : ℕ). AreMarked lines unit l (pc + size ps) qs) (line_stays line ps n) (marked_back line pc ps qs h)

  pub marked_opened : (c : Construct) (line pc : ℕ) (ps : List Piece) → AreMarked lines unit line pc (closed c ps) → AreMarked lines unit line pc ps
  marked_opened c line pc [] h = h
  marked_opened c line pc (Line n ∷ ps) h = marked_opened c n pc ps h
  marked_opened c line pc (Whole i ∷ ps) h = (h.0, marked_opened c line (pc + piece_size (Whole i)) ps h.1)
  marked_opened c line pc (Using i s ∷ ps) h = (h.0, marked_opened c line (pc + piece_size (Using i s)) ps h.1)
  marked_opened c line pc (Begins s ∷ ps) h = (h.0, marked_opened c line (pc + piece_size (Begins s)) ps h.1)
  marked_opened c line pc (Leaving w t ∷ ps) h = go (outside c t) (λ k. marked_opened c line (pc + piece_size (Leaving w t)) ps k) h
    where
      go : (o : Option Target) → (AreMarked lines unit line (pc + piece_size (Leaving w t)) (closed c ps) → AreMarked lines unit line (pc + piece_size (Leaving w t)) ps) → AreMarked lines unit line pc (over_or w o (size ps) ∷ closed c ps) → AreOfLine lines unit line pc (pc + piece_size (Leaving w t)) × AreMarked lines unit line (pc + piece_size (Leaving w t)) ps
      go (Some u) more g = (g.0, more g.1)
      go None more g =
          let same : piece_size (Whole (jump_of w (pos (size ps)))) ≡ piece_size (Leaving w t) = jump_size w (pos (size ps)) ∙ sym (jump_size w (pos 0)) in
          (subst (λ (n : ℕ). AreOfLine lines unit line pc (pc + n)) same g.0, more (subst (λ (n : ℕ). AreMarked lines unit line (pc + n) (closed c ps)) same g.1))

  -- pieces without bytes are of any line
  pub marked_empty : (line other pc : ℕ) (ps : List Piece) → size ps ≡ 0 → AreMarked lines unit line pc ps → AreMarked lines unit other pc ps
  marked_empty line other pc [] e h = tt
  marked_empty line other pc (Line n ∷ ps) e h = h
  marked_empty line other pc (Whole i ∷ ps) e h = absurd (let some = size_some i in omega (arith, e, size_cons (Whole i) ps))
  marked_empty line other pc (Using i s ∷ ps) e h = absurd (let some = size_some i in omega (arith, e, size_cons (Using i s) ps))
  marked_empty line other pc (Leaving w t ∷ ps) e h = absurd (omega (arith, e, jump_size w (pos 0), size_cons (Leaving w t) ps))
  marked_empty line other pc (Begins s ∷ ps) e h = ((λ k low high. absurd (omega arith)), marked_empty line other (pc + piece_size (Begins s)) ps (omega (arith, e, size_cons (Begins s) ps)) h.1)

  joined : (line pc : ℕ) (p : Piece) (ps : List Piece) → AreOfLine lines unit line pc (pc + piece_size p) → AreOfLine lines unit line (pc + piece_size p) ((pc + piece_size p) + size ps) → AreOfLine lines unit line pc (pc + size (p ∷ ps))
  joined line pc p ps f g k low high = ⊎_elim (λ (h : k < pc + piece_size p). f k low h) (λ (h : pc + piece_size p ≤ k). g k h (omega (arith, size_cons p ps))) (cases_lt k (pc + piece_size p))

  -- pieces without a mark are of one line
  pub one_line : (line pc : ℕ) (ps : List Piece) → HasNoMark ps → AreMarked lines unit line pc ps → AreOfLine lines unit line pc (pc + size ps)
  one_line line pc [] n h k low high = absurd (omega arith)
  one_line line pc (Line l ∷ ps) n h k low high = absurd n
  one_line line pc (Whole i ∷ ps) n h k low high = joined line pc (Whole i) ps h.0 (one_line line (pc + piece_size (Whole i)) ps n h.1) k low high
  one_line line pc (Using i s ∷ ps) n h k low high = joined line pc (Using i s) ps h.0 (one_line line (pc + piece_size (Using i s)) ps n h.1) k low high
  one_line line pc (Leaving w t ∷ ps) n h k low high = joined line pc (Leaving w t) ps h.0 (one_line line (pc + piece_size (Leaving w t)) ps n h.1) k low high
  one_line line pc (Begins s ∷ ps) n h k low high = joined line pc (Begins s) ps h.0 (one_line line (pc + piece_size (Begins s)) ps n h.1) k low high
