use Rattle.std.proofs.Common.{◌≡◌, ◌∙◌, ◌++◌, ℕ, List, ap, append_assoc, codes}
use Rattle.al_why.specs.Answers.{answer_words}
use Rattle.al_why.specs.Changes.{was_words}
use Rattle.al_why.specs.Questions.{question_words}
use Rattle.al_why.proofs.changes.add_change.Goals as goal

all_added : (old a b c d : List ℕ) → ((old ++ a) ++ b) ++ (c ++ d) ≡ old ++ (((a ++ b) ++ c) ++ d)
all_added old a b c d = simp append_assoc

pub returns : goal.returns
returns c =
    let now = answer_words c.args.now.now in
    let was = was_words (answer_words c.args.before.now) now in
    c.in_ok-add_both.ensures
    ∙ ap (λ (l : List ℕ). l ++ (now ++ was)) (c.in_ok-add.ensures
    ∙ ap (λ (l : List ℕ). l ++ codes " has another answer now: ") c.in_ok-add_question.ensures)
    ∙ all_added c.args.text.now.items (question_words c.args.query.now) (codes " has another answer now: ") now was
