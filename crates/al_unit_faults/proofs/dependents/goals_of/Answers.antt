use Rattle.std.proofs.Common.{◌≡◌, ◌+◌, ℕ, List, [], map, length, get_or, subst, sym, ap, ◌∙◌, arith}
use Rattle.std.proofs.lemmas.Grind.{common_steps}
use Rattle.al_unit_faults.specs.Dependents.{steps_to_flagged, AreGoals}
use Rattle.al_unit_faults.specs.Numbers.{numbers_model}
use Rattle.al_unit_faults.proofs.DependentLemmas.{goal_added, goal_passed}
use Rattle.al_unit_faults.proofs.dependents.goals_of.Goals as goal
use Rattle.al_unit_faults.proofs.dependents.goals_of.Goals.{then-branch+in_ok-push, else-branch}

pub loop-i-preserved : goal.loop-i-preserved
loop-i-preserved c =
    let lib = c.args.sources.now in
    let files = map (λ n. n.now) c.args.files.now in
    let ns = numbers_model c.args.numbers.now in
    let flags = c.args.flags.now in
    let i = c.loop-i.i in
    let goals = c.loop-i.goals.items in
    let P : List ℕ → Type 0 = λ gs. AreGoals lib files ns flags (i + 1) gs in
    let read : get_or files i [] ≡ _ = grind (arith, common_steps, c.loop-i-test.true) in
    let asked : c.in_ok-steps_to_flagged.field-0 ≡ steps_to_flagged lib ns flags (get_or files i []) = c.in_ok-steps_to_flagged.ensures ∙ ap (λ f. steps_to_flagged lib ns flags f) (sym read) in
    elim c.if-branch.branch [
      | then-branch+in_ok-push w ↦
          subst P (sym (ap (λ v. v.items) w.goals-is ∙ w.in_ok-push.ensures.items)) (goal_added lib files ns flags i goals c.loop-i.invariant (sym asked ∙ w.if-branch.true))
      | else-branch w ↦
          subst P (sym (ap (λ v. v.items) w.goals-is)) (goal_passed lib files ns flags i goals c.loop-i.invariant (sym asked ∙ w.if-branch.false))
    ]

pub returns : goal.returns
returns c =
    let lib = c.args.sources.now in
    let files = map (λ n. n.now) c.args.files.now in
    let ended : c.loop-i.i ≡ length c.args.files.now = omega (arith, c.loop-i-test.false, c.loop-i.auto.i-end) in
    subst (λ n. AreGoals lib files (numbers_model c.args.numbers.now) c.args.flags.now n c.loop-i.goals.items) ended c.loop-i.invariant
