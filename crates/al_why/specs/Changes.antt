-- Answers that are other ones now, as they are printed.
use Rattle.std.specs.Prelude.{ℕ, ◌++◌, List, codes, if◌then◌else◌}
use Rattle.std.specs.Str.{bytes_eq}
use Rattle.al_query.specs.declared.answer.AnswerKind.{AnswerKind}
use Rattle.al_query.specs.declared.query.Query.{Query}
use Rattle.al_why.specs.Answers.{answer_words}
use Rattle.al_why.specs.Questions.{question_words}

-- what was answered before; if it is printed as what is answered now, these differ in what isn't printed
abbrev pub was_words : List ℕ → List ℕ → List ℕ
was_words was is = if bytes_eq was is then codes ", but not the same as before" else codes ", was " ++ was

-- a question has another answer now
abbrev pub change_words : Query → AnswerKind → AnswerKind → List ℕ
change_words query before now =
    question_words query ++ codes " has another answer now: " ++ answer_words now ++ was_words (answer_words before) (answer_words now)
