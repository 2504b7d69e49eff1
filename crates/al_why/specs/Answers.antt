-- Answers, as they are printed.
use Rattle.std.specs.Prelude.{ℕ, Bool, true, false, ◌++◌, List, [], ◌∷◌, Option, Some, None, codes, map}
use Rattle.std.specs.List.{flat_map}
use Rattle.al_base.specs.declared.unit_key.UnitKey.{UnitKey}
use Rattle.al_query.specs.declared.answer.AnswerKind.{AnswerKind}
use Rattle.al_query.specs.declared.answer.AnswerKind.TheVariants.{Nothing, Views, Kind, Parent, IsPrivate, Context, NeedsBody, Completions}
use Rattle.al_query.specs.declared.answer.Completion.{Completion}
use Rattle.al_why.specs.Views.{view_words}

-- a piece behind a comma
abbrev pub next : List ℕ → List ℕ
next piece = codes ", " ++ piece

-- pieces with commas between them, or that there is none
abbrev pub listed : List (List ℕ) → List ℕ
listed [] = codes "nothing"
listed (first ∷ rest) = first ++ flat_map next rest

abbrev pub unit_words : UnitKey → List ℕ
unit_words u = u.name

abbrev pub completion_words : Completion → List ℕ
completion_words c = c.name

abbrev pub truth_word : Bool → List ℕ
truth_word true = codes "yes"
truth_word false = codes "no"

abbrev pub parent_words : Option UnitKey → List ℕ
parent_words None = codes "nothing"
parent_words (Some unit) = unit.name

abbrev pub answer_words : AnswerKind → List ℕ
answer_words Nothing = codes "nothing"
answer_words (Views views) = listed (map view_words views)
answer_words (Kind view) = view_words view
answer_words (Parent parent) = parent_words parent
answer_words (IsPrivate is) = truth_word is
answer_words (Context context) = listed (map unit_words context.withs)
answer_words (NeedsBody needs) = truth_word needs
answer_words (Completions all) = listed (map completion_words all)
