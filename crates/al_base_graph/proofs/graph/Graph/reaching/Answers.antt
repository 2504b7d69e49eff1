use Rattle.std.proofs.Common.{◌∙◌, length}
use Rattle.std.proofs.lemmas.Result.{IfOk-weaker}
use Rattle.al_base_graph.specs.Graphs.{IsReached, ReachesSome, Marks}
use Rattle.al_base_graph.proofs.FlagLemmas.{both_ways}
use Rattle.al_base_graph.proofs.ReachLemmas.{reached_by_reverse}
use Rattle.al_base_graph.proofs.graph.Graph.reaching.Goals as goal

pub returns : goal.returns
returns c =
    let g = c.args.self.now in
    let r = c.in_ok-reversed.reversed in
    let goals = c.args.goals.now in
    IfOk-weaker c.reached.result (λ flags. Marks flags.items (length r) (IsReached r goals)) (λ flags. Marks flags.items (length g) (ReachesSome g goals))
    (λ flags marks. (marks.0 ∙ c.in_ok-reversed.ensures.0, λ a. both_ways (marks.1 a) (reached_by_reverse g r goals a c.in_ok-reversed.ensures)))
    c.reached.ensures
