-- Which stored answers are compared with those of now, and what their marks say then.
use Rattle.std.specs.Prelude.{◌≡◌, ◌↔◌, ℕ, Bool, true, false, ⊤, List, [], ◌∷◌, Option, Some, None, slice_get, if◌then◌else◌}
use Rattle.std.specs.List.{list_any}
use Rattle.std.specs.Option.{option_map_or}
use Rattle.slab.specs.Slab.{Slab, get}
use Rattle.al_base.specs.declared.unit_key.UnitKey.{UnitKey}
use Rattle.al_view.specs.Symbols.{same_unit}
use Rattle.al_query.specs.Queries.{unit_of}
use Rattle.al_query.specs.Reads.{Agrees}
use Rattle.al_query.specs.declared.answer.AnswerKind.{AnswerKind}
use Rattle.al_query.specs.declared.query.Query.{Query}
use Rattle.al_query_store.specs.declared.place.Place.{Place}
use Rattle.al_query_store.specs.Stored.{AreSized}
use Rattle.al_query_store.specs.declared.slots.Held.{Held}

-- whether an answer is to a question of a unit
abbrev pub is_of : UnitKey → Option (Query × AnswerKind) → Bool
is_of u o = option_map_or (λ e. same_unit (unit_of e.0) u) o false

-- a mark says whether the answer differs from a table's
abbrev pub Tells : (Query → AnswerKind) → Query × AnswerKind → Bool → Type 0
Tells t e differs = (differs ≡ false) ↔ (t e.0 ≡ e.1)

-- whether an answer differs from a table's, if it is to a question of the unit
abbrev pub Differs : (Query → AnswerKind) → UnitKey → Option (Query × AnswerKind) → Option Bool → Type 0
Differs t u o None = is_of u o ≡ false
Differs t u o (Some differs) = (is_of u o ≡ true) × ((e : Query × AnswerKind) → o ≡ Some e → Tells t e differs)

module _ {E : Type 0} (log : E → List (Query × AnswerKind)) where
  -- the answer that is stored at a place of the log of a settled entry
  abbrev pub answer_in : Option (Held E) → ℕ → Option (Query × AnswerKind)
  answer_in None i = None
  answer_in (Some h) i = if h.is_settled then slice_get (log h.entry) i else None

  abbrev pub answer_at : Slab (Held E) → Place → Option (Query × AnswerKind)
  answer_at slots p = answer_in (get slots p.entry) p.at

  -- each answer has its marks
  abbrev pub IsSized : Slab (Held E) → Type 0
  IsSized slots = (k : ℕ) (h : Held E) → get slots k ≡ Some h → AreSized (log h.entry) h.marks

module _ {E : Type 0} where
  -- the mark of now of the answer at a place
  abbrev pub mark_in : Option (Held E) → ℕ → Option Bool
  mark_in None i = None
  mark_in (Some h) i = slice_get h.marks.now i

  abbrev pub mark_at : Slab (Held E) → Place → Option Bool
  mark_at slots p = mark_in (get slots p.entry) p.at

-- at the places for which a test holds the marks of now say whether the answer differs from a table's; the others' are as before
pub record IsMarked {E : Type 0} (log : E → List (Query × AnswerKind)) (t : Query → AnswerKind) (test : Place → Bool) (old new : Slab (Held E)) : Type 0 where
  pub answered : (p : Place) (e : Query × AnswerKind) → test p ≡ true → answer_at log old p ≡ Some e → (differs : Bool) × (mark_at new p ≡ Some differs) × Tells t e differs
  pub left : (p : Place) → test p ≡ false → mark_at new p ≡ mark_at old p

-- each mark of a log says whether its answer differs from a table's
abbrev pub MarksTell : (Query → AnswerKind) → List (Query × AnswerKind) → List Bool → Type 0
MarksTell t [] [] = ⊤
MarksTell t [] (d ∷ ds) = ⊥
MarksTell t (e ∷ es) [] = ⊥
MarksTell t (e ∷ es) (d ∷ ds) = Tells t e d × MarksTell t es ds

-- no mark is set exactly if the table agrees with the log
abbrev pub MarksAreTests : Type 0
MarksAreTests = (t : Query → AnswerKind) (log : List (Query × AnswerKind)) (marks : List Bool) → MarksTell t log marks → (list_any (λ d. d) marks ≡ false) ↔ Agrees t log
