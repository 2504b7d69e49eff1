-- States, and how what acts on them ends.
use Rattle.std.specs.Prelude.{ℕ, zero, suc, ◌+◌, ℤ, Bool, false, ◌&&◌, ◌==◌, if◌then◌else◌, List, [], ◌∷◌, ◌++◌, Option, Some, None, Ok, Err}
use Rattle.al_base.specs.declared.unit_key.UnitKey.{UnitKey}
use Rattle.al_view.specs.declared.types.Bounds.{Bounds}
use Rattle.al_view.specs.declared.view.ObjectPlace.{ObjectPlace}
use Rattle.al_view.specs.declared.view.ObjectPlace.TheVariants as places
use Rattle.al_view.specs.Symbols.{same_symbol}
use Rattle.al_meaning.specs.Scalars.{Failure, ProgramError, Meaningless, Valued, truth_of, within}

-- what each word of each object holds, which bodies are elaborated, and what was put
pub record State : Type 0 where
  pub words : ObjectPlace → ℤ
  pub elaborated : ObjectPlace → Bool
  pub output : List ℕ

-- an evaluation gives something, raises an exception at a line of a unit, or goes on beyond its bound
pub data Outcome (A : Type 0) : Type 0 where
  Gives : A → State → Outcome A
  Raises : Failure → Option (UnitKey × ℕ) → State → Outcome A
  GoesOn : State → Outcome A

abbrev pub Act : Type 0 → Type 0
Act A = State → Outcome A

-- one act after the other
abbrev pub next : {A B : Type 0} → Outcome A → (A → Act B) → Outcome B
next (Gives x st) f = f x st
next (Raises e line st) f = Raises e line st
next (GoesOn st) f = GoesOn st

infixl 10 ◌>>=◌
infixl 10 ◌>>◌
abbrev pub ◌>>=◌ : {A B : Type 0} → Act A → (A → Act B) → Act B
(act >>= f) st = next (act st) f

abbrev pub ◌>>◌ : {A B : Type 0} → Act A → Act B → Act B
(act >> f) st = next (act st) (λ _. f)

abbrev pub give : {A : Type 0} → A → Act A
give x st = Gives x st

abbrev pub raise : {A : Type 0} → Failure → Act A
raise e st = Raises e None st

-- an exception is raised at the line of the innermost statement or declaration
abbrev pub told_at : {A : Type 0} → UnitKey → ℕ → Outcome A → Outcome A
told_at unit line (Gives x s) = Gives x s
told_at unit line (Raises e None s) = Raises e (Some (unit, line)) s
told_at unit line (Raises e (Some l) s) = Raises e (Some l) s
told_at unit line (GoesOn s) = GoesOn s

abbrev pub at_line : {A : Type 0} → UnitKey → ℕ → Act A → Act A
at_line unit line act st = told_at unit line (act st)

abbrev pub of_value : Valued → Act ℤ
of_value (Ok v) = give v
of_value (Err e) = raise e

abbrev pub truth_in : Option Bool → Act Bool
truth_in (Some b) = give b
truth_in None = raise Meaningless

abbrev pub of_truth : ℤ → Act Bool
of_truth z = truth_in (truth_of z)

-- ---- values are words; a scalar is one

abbrev pub Words : Type 0
Words = List ℤ

abbrev pub scalar : Words → Act ℤ
scalar (v ∷ []) = give v
scalar vs = raise Meaningless

abbrev pub one : Act ℤ → Act Words
one act = do
  v ← act
  give (v ∷ [])

-- a value is checked against a range
abbrev pub checked : Option Bounds → Words → Act Words
checked None vs = give vs
checked (Some b) vs = do
  v ← scalar vs
  one (of_value (within (Some b) v))

-- ---- words of objects

abbrev pub same_place : ObjectPlace → ObjectPlace → Bool
same_place (places.Frame d w) (places.Frame e v) = (d == e) && (w == v)
same_place (places.Static s w) (places.Static r v) = same_symbol s r && (w == v)
same_place _ _ = false

-- so many words further on in the same object
abbrev pub further : ObjectPlace → ℕ → ObjectPlace
further (places.Frame d w) n = places.Frame d (w + n)
further (places.Static s w) n = places.Static s (w + n)

abbrev pub words_at : (ObjectPlace → ℤ) → ObjectPlace → ℕ → Words
words_at words place zero = []
words_at words place (suc n) = words place ∷ words_at words (further place 1) n

abbrev pub fetched : ObjectPlace → ℕ → Act Words
fetched place n st = Gives (words_at st.words place n) st

abbrev pub with_words : ObjectPlace → Words → (ObjectPlace → ℤ) → ObjectPlace → ℤ
with_words place [] words = words
with_words place (v ∷ vs) words = λ p. if same_place place p then v else with_words (further place 1) vs words p

abbrev pub store : ObjectPlace → Words → Act (Unit {0})
store place vs st = Gives tt (record st { words = with_words place vs st.words })

-- whether a body is elaborated is said from now on
abbrev pub flagged : ObjectPlace → Bool → Act (Unit {0})
flagged place b st = Gives tt (record st { elaborated = λ p. if same_place place p then b else st.elaborated p })

-- before its body is elaborated nothing can be called (ARM 3.11(10))
abbrev pub callable : Option ObjectPlace → Act (Unit {0})
callable None = give tt
callable (Some flag) = λ st. if st.elaborated flag then Gives tt st else Raises ProgramError None st

abbrev pub put : List ℕ → Act (Unit {0})
put text st = Gives tt (record st { output = st.output ++ text })
