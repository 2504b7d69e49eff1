-- The law of values.
use Rattle.std.proofs.Common.{ℕ, ◌+◌, Ok, Err, refl, sym, subst, inl, inr}
use Rattle.al_base.specs.declared.unit_key.UnitKey.{UnitKey}
use Rattle.al_code.specs.Pieces.{line_word, size}
use Rattle.al_code.specs.Templates.{value_of}
use Rattle.al_machine.specs.Bursts.{At}
use Rattle.al_machine.specs.Machine.{Machine}
use Rattle.al_machine.specs.declared.instruction.Exception.{Exception}
use Rattle.al_machine.specs.declared.instruction.Exception.TheVariants as exception
use Rattle.al_meaning.specs.Scalars.{Valued, ConstraintError, ProgramError, Meaningless}
use Rattle.al_meaning.specs.States.{State, Outcome, Words}
use Rattle.al_meaning_code.specs.Running.{at, Traps, TrapsAt, Exhausts}
use Rattle.al_meaning_code.specs.Standing.{AreOfLine}
use Rattle.al_meaning_code.specs.Effects.{Evaluates}
use Rattle.al_meaning_code.specs.Laws.{Setting, Among, ValuesAreGiven}
use Rattle.al_meaning_code.specs.Subset.{needs}
use Rattle.al_meaning_code.proofs.Expressions.{Short, Ends}
use Rattle.al_meaning_code.proofs.Marked.{one_line}
use Rattle.al_meaning_code.proofs.Meant.{outcome, value_meant}
use Rattle.al_meaning_code.proofs.Plain as plain
use Rattle.al_meaning_code.proofs.Unmarked.{value_unmarked}
use Rattle.al_meaning_code.proofs.Values.{value_gives}

module _ (c : Setting) (unit : UnitKey) (line : ℕ) (a : At) (m : Machine) (from to need : ℕ) (st : State) (of_line : AreOfLine c.lines unit line from to) where
  lack : Short c.objects c.inside c.code a from m to need → Exhausts c.objects c.inside c.code a m need
  lack s = (s.0, from, to, s.1)

  told : (e : Exception) → Traps c.objects c.inside c.code a from to e → TrapsAt c.objects c.inside c.code c.lines a (unit, line_word line) e
  told e t = record { last = t.last; leads = t.leads; next = t.next; instruction = t.instruction; there = t.there; raises = t.raises; told = of_line t.last.place t.low t.high }

  evaluates : (o : Valued) → Ends c.objects c.inside c.code a from m to need o → Evaluates c.objects c.inside c.code c.lines (unit, line) a m to need st (outcome st o)
  evaluates (Ok v) (inl x) = (refl, inl x)
  evaluates (Ok v) (inr s) = (refl, inr (lack s))
  evaluates (Err ConstraintError) (inl t) = inl (told exception.Constraint t)
  evaluates (Err ConstraintError) (inr s) = inr (lack s)
  evaluates (Err ProgramError) (inl t) = inl (told exception.Program t)
  evaluates (Err ProgramError) (inr s) = inr (lack s)
  evaluates (Err Meaningless) x = tt

pub values_are_given : ValuesAreGiven
values_are_given c laid calls unit line t st ends pc m is shows stands marks =
    let to = pc + size (value_of c.depth t) in
    let of_line = one_line c.lines unit line pc (value_of c.depth t) (value_unmarked (Among c) c.depth t is) marks in
    let ends_ = value_gives c.objects c.inside c.code c.linked c.depth c.floor (Among c) c.address laid.below laid.opens laid.linear st.words t is ends pc m shows stands in
    subst (λ (o : Outcome Words). Evaluates c.objects c.inside c.code c.lines (unit, line) (at pc m) m to (needs t) st o) (sym (value_meant calls (Among c) st t is))
    (evaluates c unit line (at pc m) m pc to (needs t) st of_line (plain.value st.words t) ends_)
