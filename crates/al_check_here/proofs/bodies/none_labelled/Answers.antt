use Rattle.std.proofs.Common.{ℕ, List, ap, ◌∙◌}
use Rattle.al_view_typed.specs.UnitTrees.{BodyTree, ElaborationTree, body_model, elaboration_model}
use Rattle.al_view_typed.specs.declared.unit.BodyKind.TheVariants as kinds
use Rattle.al_view_typed.specs.declared.unit.FormalWords.{FormalWords}
use Rattle.al_view.specs.declared.symbol.Symbol.{Symbol}
use Rattle.al_check_here.proofs.bodies.none_labelled.Goals as goal

abbrev made : ℕ → ElaborationTree → Symbol → List FormalWords → BodyTree
made depth inside symbol formals = record { symbol = symbol; kind = kinds.Procedure 0; depth = depth; formals = formals; inside = inside }

pub returns : goal.returns
unfolding body_model elaboration_model
returns c =
    let h = c.args.state.now in
    let depth = h.env.progress.depth in
    let inside = elaboration_model c.args.inside in
    ap (λ (s : Symbol). made depth inside s c.empty.result) c.in_ok-symbol.ensures ∙ ap (λ (l : List FormalWords). made depth inside h.unit.own.symbol l) c.empty.ensures
