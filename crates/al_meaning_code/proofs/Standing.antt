-- Pieces of code that stand in a program at a place.
use Rattle.std.proofs.Common.{◌≡◌, ℕ, ◌+◌, ℤ, List, [], ◌∷◌, ◌++◌, Option, Some, None, refl, sym, ◌∙◌, ap, subst, arith, append-nil}
use Rattle.std.specs.Prelude.{pos, ◌+ℤ◌}
use Rattle.std.specs.Option.{option_map_or}
use Rattle.std.proofs.lemmas.Int.{ints}
use Rattle.al_instr.specs.declared.instruction.Instr.{Instr}
use Rattle.al_instr.specs.Codes.{size_of}
use Rattle.al_code.specs.declared.piece.Target.{Target}
use Rattle.al_code.specs.declared.piece.Construct.{Construct}
use Rattle.al_code.specs.Targets.{outside}
use Rattle.al_code.specs.Pieces.{Piece, Whole, Using, Leaving, Begins, Line, jump_of, piece_size, size, over_or, closed}
use Rattle.al_view.specs.declared.link.LinkSymbol.{LinkSymbol}
use Rattle.al_machine.specs.declared.code.Step.{Step}
use Rattle.al_machine.specs.Operations.{operation_of}
use Rattle.al_meaning_code.proofs.Machines.{jump_size, size_cons}
use Rattle.al_meaning_code.specs.Running.{IsThere}
-- the code, and what linking makes of an instruction that uses a symbol
use Rattle.al_meaning_code.specs.Standing.{Here, Stands}

module _ (code : List Step) (linked : LinkSymbol → Instr → Instr) where
  pub starts : (ends : Target → ℕ) (pc : ℕ) (ps : List Piece) → Stands code linked ends pc ps → IsThere code pc
  starts ends pc [] s = s
  starts ends pc (Whole i ∷ ps) s = ((operation_of i, pc + size_of i), s.0)
  starts ends pc (Using i x ∷ ps) s = ((operation_of (linked x i), pc + size_of (linked x i)), s.0)
  starts ends pc (Leaving w t ∷ ps) s = let j = s.0 in ((operation_of (jump_of w j.0), pc + size_of (jump_of w j.0)), j.1)
  starts ends pc (Begins x ∷ ps) s = starts ends pc ps s
  starts ends pc (Line n ∷ ps) s = starts ends pc ps s

  -- the first part, and what follows it
  pub stands_front : (ends : Target → ℕ) (pc : ℕ) (ps qs : List Piece) → Stands code linked ends pc (ps ++ qs) → Stands code linked ends pc ps
  stands_front ends pc [] qs s = starts ends pc qs s
  stands_front ends pc (Whole i ∷ ps) qs s = (s.0, stands_front ends (pc + size_of i) ps qs s.1)
  stands_front ends pc (Using i x ∷ ps) qs s = (s.0, s.1, stands_front ends (pc + size_of i) ps qs s.2)
  stands_front ends pc (Leaving w t ∷ ps) qs s = (s.0, stands_front ends (pc + 5) ps qs s.1)
  stands_front ends pc (Begins x ∷ ps) qs s = stands_front ends pc ps qs s
  stands_front ends pc (Line n ∷ ps) qs s = stands_front ends pc ps qs s

  moved : (ends : Target → ℕ) (a b : ℕ) (qs : List Piece) → a ≡ b → Stands code linked ends a qs → Stands code linked ends b qs
  moved ends a b qs e s = subst (λ k. Stands code linked ends k qs) e s

  pub stands_back : (ends : Target → ℕ) (pc : ℕ) (ps qs : List Piece) → Stands code linked ends pc (ps ++ qs) → Stands code linked ends (pc + size ps) qs
  stands_back ends pc [] qs s = moved ends pc (pc + 0) qs (omega arith) s
  stands_back ends pc (Whole i ∷ ps) qs s = moved ends _ (pc + size (Whole i ∷ ps)) qs (omega (arith, size_cons (Whole i) ps)) (stands_back ends (pc + size_of i) ps qs s.1)
  stands_back ends pc (Using i x ∷ ps) qs s = moved ends _ (pc + size (Using i x ∷ ps)) qs (omega (arith, size_cons (Using i x) ps)) (stands_back ends (pc + size_of i) ps qs s.2)
  stands_back ends pc (Leaving w t ∷ ps) qs s = moved ends _ (pc + size (Leaving w t ∷ ps)) qs (omega (arith, size_cons (Leaving w t) ps, jump_size w (pos 0))) (stands_back ends (pc + 5) ps qs s.1)
  stands_back ends pc (Begins x ∷ ps) qs s = moved ends _ (pc + size (Begins x ∷ ps)) qs (omega (arith, size_cons (Begins x) ps)) (stands_back ends pc ps qs s)
  stands_back ends pc (Line n ∷ ps) qs s = moved ends _ (pc + size (Line n ∷ ps)) qs (omega (arith, size_cons (Line n) ps)) (stands_back ends pc ps qs s)

  pub stands_end : (ends : Target → ℕ) (pc : ℕ) (ps : List Piece) → Stands code linked ends pc ps → IsThere code (pc + size ps)
  stands_end ends pc ps s = starts ends (pc + size ps) [] (stands_back ends pc ps [] (subst (Stands code linked ends pc) (sym (append-nil ps)) s))

  -- inside of a construct its end is one more place to jump to
  abbrev pub inner : Construct → ℕ → (Target → ℕ) → Target → ℕ
  inner c end ends t = option_map_or ends (outside c t) end

  pub stands_closed : (c : Construct) (ends : Target → ℕ) (pc end : ℕ) (ps : List Piece) → pc + size ps ≡ end → IsThere code end → Stands code linked ends pc (closed c ps) → Stands code linked (inner c end ends) pc ps
  stands_closed c ends pc end [] e there s = s
  stands_closed c ends pc end (Whole i ∷ ps) e there s = (s.0, stands_closed c ends (pc + size_of i) end ps (omega (arith, e, size_cons (Whole i) ps)) there s.1)
  stands_closed c ends pc end (Using i x ∷ ps) e there s = (s.0, s.1, stands_closed c ends (pc + size_of i) end ps (omega (arith, e, size_cons (Using i x) ps)) there s.2)
  stands_closed c ends pc end (Begins x ∷ ps) e there s = stands_closed c ends pc end ps (omega (arith, e, size_cons (Begins x) ps)) there s
  stands_closed c ends pc end (Line n ∷ ps) e there s = stands_closed c ends pc end ps (omega (arith, e, size_cons (Line n) ps)) there s
  stands_closed c ends pc end (Leaving w t ∷ ps) e there s = go (outside c t) s (λ r. stands_closed c ends (pc + 5) end ps (omega (arith, e, size_cons (Leaving w t) ps, jump_size w (pos 0))) there r)
    where
      go : (o : Option Target) → Stands code linked ends pc (over_or w o (size ps) ∷ closed c ps) → (Stands code linked ends (pc + 5) (closed c ps) → Stands code linked (inner c end ends) (pc + 5) ps) → ((d : ℤ) × Here code linked pc (jump_of w d) × (pos (pc + 5) +ℤ d ≡ pos (option_map_or ends o end)) × IsThere code (option_map_or ends o end)) × Stands code linked (inner c end ends) (pc + 5) ps
      go (Some u) h more = (h.0, more h.1)
      go None h more =
          let five = jump_size w (pos (size ps)) in
          let total = size_cons (Leaving w t) ps in
          let zero_five = jump_size w (pos 0) in
          ((pos (size ps), h.0, omega (arith, ints), there), more (moved ends (pc + size_of (jump_of w (pos (size ps)))) (pc + 5) (closed c ps) (omega arith) h.1))

closed_size : (c : Construct) (p : List Piece) → size (closed c p) ≡ size p
closed_size c [] = refl
closed_size c (Whole i ∷ p) = size_cons (Whole i) (closed c p) ∙ omega (arith, closed_size c p) ∙ sym (size_cons (Whole i) p)
closed_size c (Using i x ∷ p) = size_cons (Using i x) (closed c p) ∙ omega (arith, closed_size c p) ∙ sym (size_cons (Using i x) p)
closed_size c (Begins x ∷ p) = size_cons (Begins x) (closed c p) ∙ omega (arith, closed_size c p) ∙ sym (size_cons (Begins x) p)
closed_size c (Line n ∷ p) = size_cons (Line n) (closed c p) ∙ omega (arith, closed_size c p) ∙ sym (size_cons (Line n) p)
closed_size c (Leaving w t ∷ p) = size_cons (over_or w (outside c t) (size p)) (closed c p) ∙ omega (arith, same (outside c t), closed_size c p) ∙ sym (size_cons (Leaving w t) p)
  where
    same : (o : Option Target) → piece_size (over_or w o (size p)) ≡ piece_size (Leaving w t)
    same None = jump_size w (pos (size p)) ∙ sym (jump_size w (pos 0))
    same (Some u) = refl

-- what stands as a construct stands as its pieces, whose end is one more place to jump to
pub opened : (code : List Step) (linked : LinkSymbol → Instr → Instr) (c : Construct) (ends : Target → ℕ) (pc : ℕ) (ps : List Piece) → Stands code linked ends pc (closed c ps) → Stands code linked (inner code linked c (pc + size ps) ends) pc ps
opened code linked c ends pc ps s =
    let same : pc + size (closed c ps) ≡ pc + size ps = ap (λ (n : ℕ). pc + n) (closed_size c ps) in
    stands_closed code linked c ends pc (pc + size ps) ps refl (subst (IsThere code) same (stands_end code linked ends pc (closed c ps) s)) s

pub size-closed : (c : Construct) (p : List Piece) → size (closed c p) ≡ size p
size-closed c p = closed_size c p
