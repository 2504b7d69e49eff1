use Rattle.std.proofs.Common.{◌≡◌, ℕ, ◌<◌, Bool, true, false, not, List, [], ◌∷◌, ◌++◌, length, get_or, set, drop, subst, sym, ap, ◌∙◌, arith}
use Rattle.std.specs.List.{Contains}
use Rattle.std.proofs.lemmas.List.{get_or_read, take_rest}
use Rattle.al_base_graph.specs.Graphs.{successors_of, Step}
use Rattle.al_base_graph.specs.Orders.{IsLeast, IsStuck, IsCycle}
use Rattle.al_base_graph.proofs.PlacingLemmas.{stuck_within}
use Rattle.al_base_graph.proofs.CycleLemmas.{IsAt, IsAt-none, IsAt-more, some_stuck, least_stuck, fewer_unmet, cut_cycle}
use Rattle.al_base_graph.proofs.cycle.Cycle.from.Goals as goal

pub walk-init : goal.walk-init
walk-init c = IsAt-none c.args.graph.now _ _ c.args.first _ (c.in_ok-met.ensures.items_if_clones_equal (λ y e. e)) c.requires.count c.new-walk.ensures.items c.requires.first

pub index-requires : goal.index-requires
index-requires c =
    let l = stuck_within c.args.graph.now c.walk.node c.walk.invariant.stuck in
    let n = c.walk.invariant.count in
    let m = c.walk.met.ok.0 in
    omega arith

pub index_mut-requires : goal.index_mut-requires
index_mut-requires c =
    let l = stuck_within c.args.graph.now c.walk.node c.walk.invariant.stuck in
    let n = c.walk.invariant.count in
    let m = c.walk.met.ok.0 in
    omega arith

pub least_open_of-node-requires-clause-some : goal.least_open_of-node-requires-clause-some
least_open_of-node-requires-clause-some c =
    let P : List ℕ → Type 0 = λ xs. (b : ℕ) × Contains xs b × (0 < get_or c.args.missing.now b 0) in
    subst P (sym c.successors.ensures.value) (some_stuck c.args.graph.now c.args.missing.now c.walk.node c.requires.stuck c.walk.invariant.stuck)

pub walk-preserved : goal.walk-preserved
walk-preserved c =
    let g = c.args.graph.now in
    let met = c.walk.met.items in
    let node = c.walk.node in
    let l = stuck_within g node c.walk.invariant.stuck in
    let n = c.walk.invariant.count in
    let in' : node < length met = omega arith in
    let new : get_or met node false ≡ false = sym (get_or_read met node _ in' c.index.ensures false) ∙ c.walk-test.true in
    let P : List ℕ → Type 0 = λ xs. IsLeast (λ b. Contains xs b × (0 < get_or c.args.missing.now b 0)) c.least_open_of-node.result in
    let Q : List ℕ → Type 0 = λ xs. IsAt g (set met node true) xs c.least_open_of-node.result in
    subst Q (sym c.in_ok-push.ensures.items)
    (IsAt-more g met c.walk.walk.items node c.least_open_of-node.result c.walk.invariant new in' (least_stuck g c.args.missing.now node c.least_open_of-node.result c.requires.stuck (subst P c.successors.ensures.value c.least_open_of-node.ensures)))

pub place_of-begin-requires : goal.place_of-begin-requires
place_of-begin-requires c =
    let met = c.walk.met.items in
    let node = c.walk.node in
    let l = stuck_within c.args.graph.now node c.walk.invariant.stuck in
    let n = c.walk.invariant.count in
    let in' : node < length met = omega arith in
    let seen : get_or met node false ≡ true = sym (get_or_read met node _ in' c.index.ensures false) ∙ c.walk-test.false in
    let P : List ℕ → Type 0 = λ xs. Contains xs node in
    subst P (sym c.deref.ensures.value) ((c.walk.invariant.met_is node).0 seen)

pub returns : goal.returns
returns c =
    let P : List ℕ → Type 0 = λ xs. (c.place_of-begin.result < length xs) × (get_or xs c.place_of-begin.result 0 ≡ c.walk.node) in
    let there = subst P c.deref.ensures.value (c.place_of-begin.ensures.within, c.place_of-begin.ensures.there) in
    let Q : List ℕ → Type 0 = λ xs. IsCycle c.args.graph.now xs in
    let cut : c.in_ok-from_slice.field-0.items ≡ drop c.place_of-begin.result c.walk.walk.items = c.in_ok-from_slice.ensures.items ∙ take_rest c.deref-2.result.now c.place_of-begin.result ∙ ap (λ xs. drop c.place_of-begin.result xs) c.deref-2.ensures.value in
    subst Q (sym cut) (cut_cycle c.args.graph.now c.walk.met.items c.walk.walk.items c.walk.node c.place_of-begin.result c.walk.invariant there.0 there.1)
