use Rattle.std.proofs.Common.{◌∙◌, ◌++◌, ℕ, List, ap, sym, subst}
use Rattle.al_query.specs.Answers.{names_told}
use Rattle.al_query.specs.AnsweredNames.{AreTold}
use Rattle.al_query.proofs.ToldLemmas.{names_answered-join, names_answered-more}
use Rattle.al_check_start.proofs.private_names.add_names.Goals as goal

pub returns-clause-answered : goal.returns-clause-answered
returns-clause-answered g c t h =
    let answered = c.in_ok-answer.ensures.answered t h in
    let before = c.args.names.now.items in
    (answered.0, c.in_ok-add_all.ensures ∙ ap (λ (l : List (List ℕ)). before ++ l) (c.private_types.ensures ∙ ap names_told answered.1))

pub returns-clause-names_answered : goal.returns-clause-names_answered
returns-clause-names_answered g c before =
    let asks = c.in_ok-answer.ensures.asks in
    let old = names_answered-more c.args.recorder.now.log asks.0 c.ask_another.new.recorder.log c.args.names.now.items asks.1 before in
    subst (λ (l : List (List ℕ)). AreTold c.ask_another.new.recorder.log l) (sym (c.in_ok-add_all.ensures ∙ ap (λ (l : List (List ℕ)). c.args.names.now.items ++ l) c.private_types.ensures))
    (names_answered-join c.ask_another.new.recorder.log c.args.names.now.items (names_told c.in_ok-answer.answer) old c.in_ok-answer.ensures.names_answered)
