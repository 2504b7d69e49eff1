use Rattle.std.proofs.Common.{◌≡◌, ℕ, ◌<◌, List, [], ◌∷◌, ◌++◌, length, get_or, take, subst, sym, arith}
use Rattle.std.proofs.lemmas.List.{take_more}
use Rattle.al_unit_faults.specs.Numbers.{AddsFrom}
use Rattle.al_unit_faults.proofs.GraphLemmas.{step_added}
use Rattle.al_unit_faults.proofs.cycles.add_steps.Goals as goal

pub loop-to-preserved : goal.loop-to-preserved
loop-to-preserved c =
    let tos = c.args.targets.now in
    let i = c.loop-to.to-index in
    let g = c.args.graph.now in
    let h = c.loop-to.graph in
    let from = c.args.from in
    let l : i < length tos = omega arith in
    let m : from < length h = let e : length h ≡ length g = c.loop-to.invariant.count in let b = c.requires.from_in in omega arith in
    let P : List ℕ → Type 0 = λ xs. AddsFrom g c.add.new.self from xs in
    let Q : List (List ℕ) → Type 0 = λ k. AddsFrom g k from (take i tos ++ get_or tos i 0 ∷ []) in
    subst P (sym (take_more tos i 0 l)) (subst Q (sym c.in_ok-add.ensures.ok) (step_added g h from (take i tos) (get_or tos i 0) m c.loop-to.invariant))
