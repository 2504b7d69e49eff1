use Rattle.std.proofs.Common.{◌↔◌, Bool, List, false, get_or, subst, sym, IsTrue}
use Rattle.std.proofs.lemmas.Result.{IfOk-weaker}
use Rattle.al_base_graph.specs.Graphs.{IsReached, Lists}
use Rattle.al_base_graph.proofs.FlagLemmas.{both_ways, Lists-same}
use Rattle.al_base_graph.proofs.graph.Graph.closure.Goals as goal

pub returns : goal.returns
returns c =
    let g = c.args.self.now in
    let starts = c.args.starts.now in
    IfOk-weaker c.numbers.result (λ nodes. Lists nodes.items (λ a. IsTrue (get_or c.deref.result.now a false))) (λ nodes. Lists nodes.items (IsReached g starts))
    (λ nodes lists. Lists-same nodes.items _ (IsReached g starts)
    (λ a.
    let P : List Bool → Type 0 = λ flags. IsTrue (get_or flags a false) ↔ IsReached g starts a in
    subst P (sym c.deref.ensures.value) (both_ways (c.in_ok-found.ensures.found.flagged a) (c.in_ok-found.ensures.reached a)))
    lists)
    c.numbers.ensures
