use Rattle.std.proofs.Common.{◌∙◌, ◌∷◌, [], ◌++◌, List, Option, Some, ap, sym, subst, append-nil}
use Rattle.std.specs.List.{flat_map}
use Rattle.al_base.specs.declared.unit_key.UnitKey.{UnitKey}
use Rattle.al_query.specs.Answers.{context_of}
use Rattle.al_query.specs.Known.{AreKnown, known_after}
use Rattle.al_query.specs.declared.answer.ContextView.{ContextView}
use Rattle.al_query.specs.Answers.{units_named}
use Rattle.al_check_start.specs.Starts.{context_mentions, declarations}
use Rattle.al_check_start.proofs.Knowing.{known-join, known-wider, learned-later, mentions-named}
use Rattle.al_check_start.proofs.mentions.add_mentions.Goals as goal

pub returns-in-Some-clause-answered : goal.returns-in-Some-clause-answered
returns-in-Some-clause-answered g c t h =
    let answered = c.in_ok-answer.ensures.answered t h in
    let same = c.in-Some.ensures ∙ ap context_of answered.1 in
    let us = c.args.mentions.now.items in (
      answered.0,
      c.in_ok-add_all-in-Some.ensures
          ∙ ap (λ (l : List UnitKey). us ++ flat_map (λ (u : UnitKey). declarations u.name) l) c.as_slice.ensures
          ∙ ap (λ (o : Option ContextView). us ++ context_mentions o) same,
    )

pub returns-in-Some-clause-learned : goal.returns-in-Some-clause-learned
returns-in-Some-clause-learned g c before known =
    let us = c.args.mentions.now.items in
    let context = c.in-Some.context.now in
    let now = known_after known c.ask_another.new.recorder.log in
    let is = c.in_ok-add_all-in-Some.ensures ∙ ap (λ (l : List UnitKey). us ++ flat_map (λ (u : UnitKey). declarations u.name) l) c.as_slice.ensures in
    let named = known-wider (units_named c.in_ok-answer.answer) now (context_mentions (Some context)) (c.in_ok-answer.ensures.named known) (mentions-named c.in_ok-answer.answer context (sym c.in-Some.ensures)) in
    subst (λ (l : List UnitKey). AreKnown now l) (sym is)
    (known-join now us (context_mentions (Some context)) (learned-later (c.args.unit.now ∷ []) us c.args.recorder.now.log c.ask_another.new.recorder.log c.in_ok-answer.ensures.asks before known) named)

pub returns-clause-answered : goal.returns-clause-answered
returns-clause-answered g c t h =
    let answered = c.in_ok-answer.ensures.answered t h in
    let same = c.in-None.ensures ∙ ap context_of answered.1 in
    let us = c.args.mentions.now.items in
    (answered.0, sym (append-nil us) ∙ ap (λ (o : Option ContextView). us ++ context_mentions o) same)

pub returns-clause-learned : goal.returns-clause-learned
returns-clause-learned g c before =
    learned-later (c.args.unit.now ∷ []) c.args.mentions.now.items c.args.recorder.now.log c.ask_another.new.recorder.log c.in_ok-answer.ensures.asks before
