use Rattle.std.proofs.Common.{◌≡◌, ◌++◌, ◌∙◌, List, OnOk, ap, sym, subst}
use Rattle.al_query.specs.Reads.{FromAnswers}
use Rattle.al_view.specs.declared.types.TypeView.{TypeView}
use Rattle.al_view.specs.declared.view.ViewKind.{ViewKind}
use Rattle.al_scope.specs.Recasts.{view_types}
use Rattle.al_scope.specs.Seen.{full_views}
use Rattle.al_scope.proofs.seen.add_of_view.Goals as goal

pub returns-in-OfType-clause-answered : goal.returns-in-OfType-clause-answered
returns-in-OfType-clause-answered g c =
    subst
    (λ (l : List TypeView). OnOk c.add_fulls.result (FromAnswers c.args.recorder.now.log c.add_fulls.new.recorder.log (λ t. c.add_fulls.new.recasts ≡ c.args.recasts.now ++ full_views t c.args.scope.now l)))
    (c.as_slice.ensures ∙ ap view_types (sym c.in-OfType.is ∙ c.kind.ensures))
    c.add_fulls.ensures.answered

pub returns-in-OfSubtype-clause-answered : goal.returns-in-OfSubtype-clause-answered
returns-in-OfSubtype-clause-answered g c =
    subst
    (λ (l : List TypeView). OnOk c.add_fulls-in-OfSubtype.result (FromAnswers c.args.recorder.now.log c.add_fulls-in-OfSubtype.new.recorder.log (λ t. c.add_fulls-in-OfSubtype.new.recasts ≡ c.args.recasts.now ++ full_views t c.args.scope.now l)))
    (c.as_slice-in-OfSubtype.ensures ∙ ap view_types (sym c.in-OfSubtype.is ∙ c.kind.ensures))
    c.add_fulls-in-OfSubtype.ensures.answered

pub returns-in-OfObject-clause-answered : goal.returns-in-OfObject-clause-answered
returns-in-OfObject-clause-answered g c =
    subst
    (λ (l : List TypeView). OnOk c.add_fulls-in-OfObject.result (FromAnswers c.args.recorder.now.log c.add_fulls-in-OfObject.new.recorder.log (λ t. c.add_fulls-in-OfObject.new.recasts ≡ c.args.recasts.now ++ full_views t c.args.scope.now l)))
    (c.as_slice-in-OfObject.ensures ∙ ap view_types (sym c.in-OfObject.is ∙ c.kind.ensures))
    c.add_fulls-in-OfObject.ensures.answered

pub returns-in-OfLiteral-clause-answered : goal.returns-in-OfLiteral-clause-answered
returns-in-OfLiteral-clause-answered g c =
    subst
    (λ (l : List TypeView). OnOk c.add_fulls-in-OfLiteral.result (FromAnswers c.args.recorder.now.log c.add_fulls-in-OfLiteral.new.recorder.log (λ t. c.add_fulls-in-OfLiteral.new.recasts ≡ c.args.recasts.now ++ full_views t c.args.scope.now l)))
    (c.as_slice-in-OfLiteral.ensures ∙ ap view_types (sym c.in-OfLiteral.is ∙ c.kind.ensures))
    c.add_fulls-in-OfLiteral.ensures.answered

pub returns-in-OfSubprogram-clause-answered : goal.returns-in-OfSubprogram-clause-answered
returns-in-OfSubprogram-clause-answered g c =
    subst
    (λ (l : List TypeView). OnOk c.add_fulls-in-OfSubprogram.result (FromAnswers c.args.recorder.now.log c.add_fulls-in-OfSubprogram.new.recorder.log (λ t. c.add_fulls-in-OfSubprogram.new.recasts ≡ c.args.recasts.now ++ full_views t c.args.scope.now l)))
    (c.as_slice-in-OfSubprogram.ensures ∙ ap view_types (sym c.in-OfSubprogram.is ∙ c.kind.ensures))
    c.add_fulls-in-OfSubprogram.ensures.answered

pub returns-in-OfProtected-clause-answered : goal.returns-in-OfProtected-clause-answered
returns-in-OfProtected-clause-answered g c =
    subst
    (λ (v : ViewKind). OnOk c.add_protected.result (FromAnswers c.args.recorder.now.log c.add_protected.new.recorder.log (λ t. c.add_protected.new.recasts ≡ c.args.recasts.now ++ full_views t c.args.scope.now (view_types v))))
    (sym c.in-OfProtected.is ∙ c.kind.ensures)
    c.add_protected.ensures.answered
