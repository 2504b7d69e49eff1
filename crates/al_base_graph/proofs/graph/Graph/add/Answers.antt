use Rattle.std.proofs.Common.{◌≡◌, ◌∙◌, length, ap, arith}
use Rattle.std.proofs.lemmas.Result.{err_from_is_err_and}
use Rattle.al_base_graph.specs.Graphs.{with_step}
use Rattle.al_base_graph.proofs.StepLemmas.{IsClosed-with_step, length-with_step}
use Rattle.al_base_graph.proofs.ViewLemmas.{view_of, view_kept, view_added, within_view, IsClosed-same}
use Rattle.al_base_graph.proofs.graph.Graph.add.Goals as goal

pub invariant_of-self : goal.invariant_of-self
invariant_of-self c =
    let vs = c.self.inside.successors.items in
    IsClosed-same _ _ (view_kept vs c.args.from _ _ (within_view vs _ c.args.from c.self.view_is c.requires.from_in) c.index_mut.ensures.value c.in_err-push.ensures.items) c.self.invariant

pub returns-in_err-push-clause-err : goal.returns-in_err-push-clause-err
returns-in_err-push-clause-err c =
    let vs = c.self.inside.successors.items in
    let p = err_from_is_err_and c.from_residual.result c.from_residual.ensures.1 in
    rw p.1 (view_kept vs c.args.from _ _ (within_view vs _ c.args.from c.self.view_is c.requires.from_in) c.index_mut.ensures.value c.in_err-push.ensures.items ∙ c.self.view_is)

pub invariant_of-self-2 : goal.invariant_of-self-2
invariant_of-self-2 c =
    let vs = c.self.inside.successors.items in
    let same : length (view_of vs) ≡ length c.args.self.now = ap length c.self.view_is in
    IsClosed-same _ _ (view_added vs c.args.from c.args.to _ _ (within_view vs _ c.args.from c.self.view_is c.requires.from_in) c.index_mut.ensures.value c.in_ok-push.ensures.items)
    (IsClosed-with_step (view_of vs) c.args.from c.args.to (omega arith) (omega arith) c.self.invariant)

pub returns-clause-ok : goal.returns-clause-ok
returns-clause-ok c =
    let vs = c.self.inside.successors.items in
    view_added vs c.args.from c.args.to _ _ (within_view vs _ c.args.from c.self.view_is c.requires.from_in) c.index_mut.ensures.value c.in_ok-push.ensures.items
    ∙ ap (λ g. with_step g c.args.from c.args.to) c.self.view_is

pub returns-in_err-push-clause-count : goal.returns-in_err-push-clause-count
returns-in_err-push-clause-count c =
    let vs = c.self.inside.successors.items in
    ap length (view_kept vs c.args.from _ _ (within_view vs _ c.args.from c.self.view_is c.requires.from_in) c.index_mut.ensures.value c.in_err-push.ensures.items ∙ c.self.view_is)

pub returns-clause-count : goal.returns-clause-count
returns-clause-count c =
    let vs = c.self.inside.successors.items in
    ap length (view_added vs c.args.from c.args.to _ _ (within_view vs _ c.args.from c.self.view_is c.requires.from_in) c.index_mut.ensures.value c.in_ok-push.ensures.items)
    ∙ length-with_step (view_of vs) c.args.from c.args.to
    ∙ ap length c.self.view_is
