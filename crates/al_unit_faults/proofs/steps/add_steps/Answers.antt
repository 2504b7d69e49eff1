use Rattle.std.proofs.Common.{◌≡◌, ◌<◌, ◌+◌, ◌++◌, ◌∷◌, [], ℕ, List, map, length, take, subst, sym, ap, ◌∙◌, arith}
use Rattle.std.specs.Prelude.{MatchOption, Option, None, Some}
use Rattle.std.specs.List.{Contains}
use Rattle.al_base.specs.Batch.{Key, key_of}
use Rattle.al_base_graph.specs.Graphs.{with_step}
use Rattle.al_unit_faults.specs.Steps.{AddsFrom, IsAt}
use Rattle.al_unit_faults.proofs.StepLemmas.{step_added, step_passed, keys_more}
use Rattle.al_unit_faults.proofs.steps.add_steps.Goals as goal
use Rattle.al_unit_faults.proofs.steps.add_steps.Goals.{in-Some+in_ok-add, in_default}

pub loop-key-preserved : goal.loop-key-preserved
loop-key-preserved c =
    let g = c.args.graph.now in
    let h = c.loop-key.graph in
    let from = c.args.from in
    let units = map key_of c.args.units.now in
    let keys = c.args.keys.now in
    let i = c.loop-key.key-index in
    let key = c.key-item.result in
    let more = keys_more keys i key c.loop-key-test.true c.key-item.is in
    let within : from < length h = let e : length h ≡ length g = c.loop-key.invariant.count in let a = c.requires.nodes in let b = c.requires.from_in in omega arith in
    let P : List (List ℕ) → Type 0 = λ k. AddsFrom g k from units (map key_of (take (i + 1) keys)) in
    let Q : List Key → Type 0 = λ ks. AddsFrom g h from units ks in
    elim c.match-place_of.branch [
      | in-Some+in_ok-add w ↦
          let here = subst (λ (ks : List Key). AddsFrom g (with_step h from w.in-Some.to) from units ks) (sym more) (step_added g h from units (map key_of (take i keys)) (key_of key) c.loop-key.invariant w.in-Some.to within c.requires.ascend w.in-Some.ensures) in
          subst P (sym (w.graph-is ∙ w.in_ok-add.ensures.ok)) here
      | in_default w ↦
          let here = subst Q (sym more) (step_passed g h from units (map key_of (take i keys)) (key_of key) c.loop-key.invariant w.in_default.ensures) in
          subst P (sym w.graph-is) here
    ]
