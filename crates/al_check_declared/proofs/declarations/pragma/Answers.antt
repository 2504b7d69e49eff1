use Rattle.std.proofs.Common.{ℕ, List, Option, ap, ◌∙◌}
use Rattle.al_tree.specs.DeclarationViews.{pragma_model}
use Rattle.al_scope_context.specs.Pragmas.{pragma_fault}
use Rattle.al_check_declared.specs.DeclarationsHere.{pragma_settled}
use Rattle.al_check_declared.proofs.Composed.{if_ok}
use Rattle.al_check_declared.proofs.declarations.pragma.Goals as goal

pub returns : goal.returns
returns c =
    let s = c.args.state.now in
    if_ok c.settle_pragma.result _ _
    (λ effects settled. settled ∙ ap (pragma_settled s) (c.pragma_fault-wrong.ensures ∙ ap (λ (n : Option (List ℕ)). pragma_fault n (pragma_model c.args.pragma.now)) c.package_name.ensures))
    c.settle_pragma.ensures
