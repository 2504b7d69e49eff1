use Rattle.std.proofs.Common.{ℕ, List, ◌⊎◌, ◌≡◌, ◌↔◌, subst, sym}
use Rattle.std.specs.List.{Contains}
use Rattle.al_base_graph.proofs.CountLemmas.{inserted}
use Rattle.al_base_graph.proofs.ready.Ready.add.Goals as goal

pub returns : goal.returns
returns c = λ a.
    let P : List ℕ → Type 0 = λ xs. Contains xs a ↔ (Contains c.args.self.now.nodes.keys a ⊎ (c.args.node ≡ a)) in
    subst P (sym c.in_ok-insert.ensures.keys) (inserted c.args.self.now.nodes.keys c.args.node a)
