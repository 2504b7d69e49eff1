-- Marks in place of a comparison of all answers.
use Rattle.std.proofs.Common.{◌≡◌, ◌↔◌, ◌||◌, Bool, true, false, List, [], ◌∷◌, refl, ◌∙◌, ap}
use Rattle.std.specs.List.{list_any}
use Rattle.std.proofs.lemmas.Bool.{true≢false}
use Rattle.al_query.specs.Reads.{Agrees}
use Rattle.al_query.specs.declared.answer.AnswerKind.{AnswerKind}
use Rattle.al_query.specs.declared.query.Query.{Query}
use Rattle.al_query_store.specs.Marking.{MarksTell}

module _ (t : Query → AnswerKind) where
  unset_agrees : (log : List (Query × AnswerKind)) (marks : List Bool) → MarksTell t log marks → list_any (λ d. d) marks ≡ false → Agrees t log
  unset_agrees [] marks m h = tt
  unset_agrees (e ∷ es) [] m h = absurd m
  unset_agrees (e ∷ es) (true ∷ ds) m h = absurd (true≢false h)
  unset_agrees (e ∷ es) (false ∷ ds) m h = (m.0.0 refl, unset_agrees es ds m.1 h)

  agrees_unset : (log : List (Query × AnswerKind)) (marks : List Bool) → MarksTell t log marks → Agrees t log → list_any (λ d. d) marks ≡ false
  agrees_unset [] [] m a = refl
  agrees_unset [] (d ∷ ds) m a = absurd m
  agrees_unset (e ∷ es) [] m a = absurd m
  agrees_unset (e ∷ es) (d ∷ ds) m a = ap (λ (b : Bool). b || list_any (λ x. x) ds) (m.0.1 a.0) ∙ agrees_unset es ds m.1 a.1

  pub marks-test : (log : List (Query × AnswerKind)) (marks : List Bool) → MarksTell t log marks → (list_any (λ d. d) marks ≡ false) ↔ Agrees t log
  marks-test log marks m = (unset_agrees log marks m, agrees_unset log marks m)
