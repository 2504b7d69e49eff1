use Rattle.std.proofs.Common.{ℕ, List, ap, ◌∙◌}
use Rattle.al_view_typed.specs.UnitTrees.{BodyTree, ElaborationTree, body_model, elaboration_model}
use Rattle.al_view_typed.specs.declared.unit.BodyKind.{BodyKind}
use Rattle.al_view_typed.specs.declared.unit.FormalWords.{FormalWords}
use Rattle.al_view.specs.declared.symbol.Symbol.{Symbol}
use Rattle.al_check_here.specs.BodiesHere.{copied_words, kind_of}
use Rattle.al_check_here.proofs.bodies.open_labelled.Goals as goal

abbrev made : ℕ → ElaborationTree → Symbol → BodyKind → List FormalWords → BodyTree
made depth inside symbol kind formals = record { symbol = symbol; kind = kind; depth = depth; formals = formals; inside = inside }

pub returns : goal.returns
unfolding body_model elaboration_model
returns c =
    let h = c.args.state.now in
    let b = c.args.body.now in
    let depth = h.env.progress.depth in
    let inside = elaboration_model c.args.inside in
    let fs = c.in_ok-formals.formals in
    let k = c.in_ok-kind.kind in
    let kind = λ (n : ℕ). kind_of h.object b.role b.returns n c.args.end in
    ap (λ (s : Symbol). made depth inside s k fs) c.in_ok-symbol.ensures
    ∙ ap (λ (k : BodyKind). made depth inside b.symbol k fs)
    (c.in_ok-kind.ensures ∙ ap kind (c.copied_words-copied.ensures ∙ ap (λ (l : List FormalWords). copied_words l) c.as_slice-2.ensures))
    ∙ ap (λ (l : List FormalWords). made depth inside b.symbol (kind (copied_words b.formals)) l) (c.in_ok-formals.ensures ∙ c.as_slice.ensures)
