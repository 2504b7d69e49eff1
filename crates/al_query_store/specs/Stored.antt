-- Entries under keys, and the index of their answers.
use Rattle.std.specs.Prelude.{◌≡◌, ℕ, Bool, true, false, List, Some, length, nat_eq, slice_get, slice_set}
use Rattle.std.specs.BTreeSet.{BTreeSet}
use Rattle.std.specs.List.{list_any}
use Rattle.std.specs.Option.{option_map, option_map_or}
use Rattle.slab.specs.Slab.{Slab, get}
use Rattle.al_base.specs.declared.unit_key.UnitKey.{UnitKey}
use Rattle.al_query.specs.Queries.{same_query}
use Rattle.al_query.specs.declared.answer.AnswerKind.{AnswerKind}
use Rattle.al_query.specs.declared.query.Query.{Query}
use Rattle.al_query_store.specs.declared.place.Place.{Place}
use Rattle.al_query_store.specs.Reads.{reads}
use Rattle.al_query_store.specs.Marked.{Marked, put_back, taken_over, unmarked}
use Rattle.al_query_store.specs.declared.slots.Held.{Held}

-- whether a log has an answer to a question at this place
abbrev pub in_log : List (Query × AnswerKind) → Query → ℕ → Bool
in_log log q i = option_map_or (λ e. same_query e.0 q) (slice_get log i) false

-- each answer of a log has both marks
pub record AreSized (log : List (Query × AnswerKind)) (marks : Marked) : Type 0 where
  pub last : length marks.last ≡ length log
  pub now : length marks.now ≡ length log

module _ {E : Type 0} where
  -- what is held with the marks of the last build; with those of now in their place; and as settled, with the marks that it was made with
  abbrev pub base : Held E → Held E
  base h = record { entry = h.entry; marks = put_back h.marks; is_settled = h.is_settled }

  abbrev pub kept : Held E → Held E
  kept h = record { entry = h.entry; marks = taken_over h.marks; is_settled = h.is_settled }

  abbrev pub settled : Held E → Held E
  settled h = record { entry = h.entry; marks = put_back h.marks; is_settled = true }

  -- what is held with another mark of now of one answer
  abbrev pub with_mark : Held E → ℕ → Bool → Held E
  with_mark h i differs = record { entry = h.entry; marks = record { last = h.marks.last; now = slice_set h.marks.now i differs }; is_settled = h.is_settled }

  -- all is the same but for the marks of now
  abbrev pub SameBase : Slab (Held E) → Slab (Held E) → Type 0
  SameBase old new = (k : ℕ) → option_map base (get new k) ≡ option_map base (get old k)

  -- but for what is noted, the marks of now are those of the last build
  abbrev pub AreUntouched : Slab (Held E) → List ℕ → Type 0
  AreUntouched slots noted = (k : ℕ) (h : Held E) → get slots k ≡ Some h → list_any (nat_eq k) noted ≡ false → h.marks.now ≡ h.marks.last

  -- the marks of now are those of the last build
  abbrev pub HaveLastMarks : Slab (Held E) → Type 0
  HaveLastMarks slots = (k : ℕ) (h : Held E) → get slots k ≡ Some h → h.marks.now ≡ h.marks.last

module _ {E : Type 0} (log : E → List (Query × AnswerKind)) where
  -- an entry with no mark set, which isn't settled
  abbrev pub fresh : E → Held E
  fresh e = record { entry = e; marks = unmarked (length (log e)); is_settled = false }

  -- whether an answer to a question is stored at a place
  abbrev pub is_stored : Slab (Held E) → Query → Place → Bool
  is_stored slots q p = option_map_or (λ h. in_log (log h.entry) q p.at) (get slots p.entry) false

  -- the index leads from each question to the places of its answers, and to no others; each answer has its marks
  pub record IsIndexed (slots : Slab (Held E)) (readers : List (UnitKey × List (Query × BTreeSet Place))) : Type 0 where
    pub exact : (q : Query) (p : Place) → reads readers q p ≡ is_stored slots q p
    pub marked : (k : ℕ) (h : Held E) → get slots k ≡ Some h → AreSized (log h.entry) h.marks
