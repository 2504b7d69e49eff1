use Rattle.std.proofs.Common.{◌≡◌, ◌↔◌, ◌⊎◌, ℕ, ◌+◌, ◌<◌, List, length, get_or, take, subst, sym, ap, ◌∙◌, arith}
use Rattle.std.specs.List.{Contains}
use Rattle.std.proofs.lemmas.List.{take_all, length-set}
use Rattle.al_base_graph.specs.Placings.{times}
use Rattle.al_base_graph.proofs.CloseLemmas.{times_fits, closed_count, closed_ready}
use Rattle.al_base_graph.proofs.placing.Placing.close_all.Goals as goal

pub close-requires-clause-some : goal.close-requires-clause-some
close-requires-clause-some c =
    let nodes = c.args.nodes.now in
    let i = c.loop-node.node-index in
    let l : i < length nodes = omega arith in
    let fit = times_fits nodes i l in
    let all = c.requires.some (get_or nodes i 0) in
    let now = c.loop-node.invariant.missing (get_or nodes i 0) in
    omega arith

pub loop-node-preserved : goal.loop-node-preserved
loop-node-preserved c =
    let nodes = c.args.nodes.now in
    let i = c.loop-node.node-index in
    let now = c.loop-node.self.missing.items in
    let old = c.args.self.now.missing.items in
    let l : i < length nodes = omega arith in
    let in' : get_or nodes i 0 < length now = let e : length now ≡ length old = c.loop-node.invariant.count in let b = c.requires.nodes_in i 0 l in omega arith in
    let fit = times_fits nodes i l in
    let all = c.requires.some (get_or nodes i 0) in
    let before = c.loop-node.invariant.missing (get_or nodes i 0) in
    let some : 0 < get_or now (get_or nodes i 0) 0 = omega arith in
    let P : List ℕ → Type 0 = λ xs. (a : ℕ) → get_or xs a 0 + times a (take (i + 1) nodes) ≡ get_or old a 0 in
    let Q : List ℕ → Type 0 = λ xs. (a : ℕ) → Contains c.close.new.self.ready.nodes.keys a ↔ (Contains c.args.self.now.ready.nodes.keys a ⊎ ((0 < times a (take (i + 1) nodes)) × (get_or xs a 0 ≡ 0))) in
    record {
      order = c.in_ok-close.ensures.order ∙ c.loop-node.invariant.order;
      count = ap length c.in_ok-close.ensures.missing ∙ length-set now _ _ ∙ c.loop-node.invariant.count;
      missing = subst P (sym c.in_ok-close.ensures.missing) (closed_count nodes i l old now in' some c.loop-node.invariant.missing);
      ready = subst Q (sym c.in_ok-close.ensures.missing) (closed_ready nodes i l old now in' some c.loop-node.invariant.missing _ _ _ c.loop-node.invariant.ready c.in_ok-close.ensures.ready);
    }

pub returns-clause-ready : goal.returns-clause-ready
returns-clause-ready c =
    let nodes = c.args.nodes.now in
    let P : List ℕ → Type 0 = λ xs. (a : ℕ) → Contains c.loop-node.self.ready.nodes.keys a ↔ (Contains c.args.self.now.ready.nodes.keys a ⊎ ((0 < times a xs) × (get_or c.loop-node.self.missing.items a 0 ≡ 0))) in
    subst P (take_all c.loop-node.node-index nodes (omega arith)) c.loop-node.invariant.ready
