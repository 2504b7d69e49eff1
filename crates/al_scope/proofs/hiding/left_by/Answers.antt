use Rattle.std.proofs.Common.{◌≡◌, ◌∙◌, true, arith, ap, filter, not, sym}
use Rattle.std.specs.List.{list_any}
use Rattle.al_view.specs.declared.view.ViewKind.{ViewKind}
use Rattle.al_scope.specs.Visible.{shuts_out}
use Rattle.al_scope.proofs.HidingLemmas.{filter-some}
use Rattle.al_scope.proofs.hiding.left_by.Goals as goal

pub returns-in_err-share-clause-takes_none : goal.returns-in_err-share-clause-takes_none
returns-in_err-share-clause-takes_none c none =
    let kept = λ (v : ViewKind). not (list_any (shuts_out v) c.args.founds.now) in
    let is : kept c.view-item.result ≡ true = ap not (sym c.shuts_any.ensures ∙ c.if-not-shuts_any.true) in
    absurd (filter-some kept c.as_slice-view-items.result.now c.loop-view.view-index c.view-item.result (omega arith) c.view-item.is is (ap (filter kept) c.as_slice-view-items.ensures ∙ none))

pub returns-in_err-push-clause-takes_none : goal.returns-in_err-push-clause-takes_none
returns-in_err-push-clause-takes_none c none =
    let kept = λ (v : ViewKind). not (list_any (shuts_out v) c.args.founds.now) in
    let is : kept c.view-item.result ≡ true = ap not (sym c.shuts_any.ensures ∙ c.if-not-shuts_any.true) in
    absurd (filter-some kept c.as_slice-view-items.result.now c.loop-view.view-index c.view-item.result (omega arith) c.view-item.is is (ap (filter kept) c.as_slice-view-items.ensures ∙ none))
