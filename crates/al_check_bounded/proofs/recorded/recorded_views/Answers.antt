use Rattle.std.proofs.Common.{List, ◌++◌, ◌∙◌, ap, subst, sym}
use Rattle.al_view.specs.declared.view.ViewKind.{ViewKind}
use Rattle.al_check_bounded.specs.Questions.{AreShown, recorded_views}
use Rattle.al_check_bounded.proofs.ShownBy.{shown}
use Rattle.al_check_bounded.proofs.recorded.recorded_views.Goals as goal

pub returns : goal.returns
returns c =
    let w = c.args.wanted.now in
    let log = c.args.log.now in
    subst (λ (vs : List ViewKind). AreShown w log vs) (sym (c.new.ensures ∙ c.in_ok-add_log.ensures ∙ ap (λ (vs : List ViewKind). vs ++ recorded_views w log) c.new-found.ensures.items)) (shown w log)
