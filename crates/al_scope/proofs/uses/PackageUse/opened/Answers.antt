use Rattle.std.proofs.Common.{◌≡◌, ◌∙◌, ◌||◌, true, arith, ap, filter, sym}
use Rattle.std.specs.List.{list_any}
use Rattle.al_view.specs.Operators.{is_operator_of}
use Rattle.al_scope.specs.UseClauses.{opens}
use Rattle.al_scope.proofs.HidingLemmas.{filter-some}
use Rattle.al_scope.proofs.uses.PackageUse.opened.Goals.{then-self-via-then-self, then-self-via-else-self+then-has_operator}
use Rattle.al_scope.proofs.uses.PackageUse.opened.Goals as goal

pub returns-in_err-share-clause-takes_none : goal.returns-in_err-share-clause-takes_none
returns-in_err-share-clause-takes_none c none =
    let self = c.args.self.now in
    let view = c.view-item.result in
    let has = list_any (is_operator_of view) self.types in
    let is : opens self view ≡ true = elim c.then-self.branch as (λ _. opens self view ≡ true) [
      | then-self-via-then-self w ↦ ap (λ b. b || has) w.if-self.true
      | then-self-via-else-self+then-has_operator w ↦ ap (λ b. b || has) w.if-self.false ∙ sym w.has_operator.ensures ∙ w.if-has_operator.true
    ] in
    absurd (filter-some (opens self) c.as_slice-view-items.result.now c.loop-view.view-index view (omega arith) c.view-item.is is (ap (filter (opens self)) c.as_slice-view-items.ensures ∙ none))

pub returns-in_err-push-clause-takes_none : goal.returns-in_err-push-clause-takes_none
returns-in_err-push-clause-takes_none c none =
    let self = c.args.self.now in
    let view = c.view-item.result in
    let has = list_any (is_operator_of view) self.types in
    let is : opens self view ≡ true = elim c.then-self.branch as (λ _. opens self view ≡ true) [
      | then-self-via-then-self w ↦ ap (λ b. b || has) w.if-self.true
      | then-self-via-else-self+then-has_operator w ↦ ap (λ b. b || has) w.if-self.false ∙ sym w.has_operator.ensures ∙ w.if-has_operator.true
    ] in
    absurd (filter-some (opens self) c.as_slice-view-items.result.now c.loop-view.view-index view (omega arith) c.view-item.is is (ap (filter (opens self)) c.as_slice-view-items.ensures ∙ none))
