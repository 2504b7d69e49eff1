use Rattle.std.proofs.Common.{◌≡◌, ◌+◌, ◌<◌, ◌≤◌, [], ◌∷◌, ◌++◌, length, get_or, take, subst, sym, ap, ◌∙◌, arith}
use Rattle.std.specs.List.{Contains}
use Rattle.std.proofs.lemmas.Grind.{common_steps}
use Rattle.std.proofs.lemmas.List.{take_more, take_all, get_or_default}
use Rattle.al_unit_graph.specs.Traces.{wants}
use Rattle.al_unit_faults.specs.Wanted.{IsAt, IsWantedTo}
use Rattle.al_unit_faults.proofs.ObsoleteNumberLemmas.{same_name, longer, goes_on_trans, wanted_push, wanted_end}
use Rattle.al_unit_faults.proofs.wanted.WantedFiles.add_wants.Goals as goal

pub loop-name-preserved : goal.loop-name-preserved
loop-name-preserved c =
    let lib = c.args.sources.now in
    let names0 = c.args.self.now.names.items in
    let names1 = c.loop-name.self.names.items in
    let steps1 = c.loop-name.self.steps.items in
    let from = c.args.from in
    let i = c.loop-name.name-index in
    let ws = c.deref-name-items.result.now in
    let file = c.index.result.now in
    let from_in : from < length names0 = c.requires.from_in in
    let here : get_or names0 from file ≡ file = grind (arith, common_steps, c.index.ensures, from_in) in
    let on = c.loop-name.invariant.names in
    let wants_is : ws ≡ wants lib (get_or names1 from []) =
    c.deref-name-items.ensures.value ∙ c.in_ok-wanted.ensures
    ∙ ap (λ f. wants lib f) (c.as_slice.ensures ∙ sym here ∙ get_or_default names0 from file [] from_in ∙ sym (same_name names0 names1 from on from_in)) in
    let names2 = c.number.new.self.names.items in
    let name = c.name-item.result in
    let to = c.in_ok-to.to in
    let within : i < length ws = c.loop-name-test.true in
    let inside : from < length names1 = let l = longer names0 names1 on in omega arith in
    let of_ws : Contains ws name = (i, within, sym c.name-item.is) in
    let wants_it : Contains (wants lib (get_or names1 from [])) name = subst (λ v. Contains v name) wants_is of_ws in
    let at : IsAt names2 to name = subst (λ n. IsAt names2 to n) c.as_slice-in-loop-name.ensures c.in_ok-to.ensures.number in
    let pushed = wanted_push lib names1 names2 steps1 from to name (take i ws) inside c.in_ok-to.ensures.names at wants_it c.loop-name.invariant.wanted in
    let one_more : take (i + 1) ws ≡ take i ws ++ name ∷ [] = take_more ws i name within ∙ ap (λ n. take i ws ++ n ∷ []) (sym c.name-item.is) in
    let same_steps : c.push.new.self.items ≡ steps1 ++ (from, to) ∷ [] = c.in_ok-push.ensures.items ∙ ap (λ s. s ++ (from, to) ∷ []) c.in_ok-to.ensures.steps in
    record {
      names = goes_on_trans names0 names1 names2 on c.in_ok-to.ensures.names;
      numbers = c.in_ok-to.ensures.numbers;
      wanted =
          subst (λ v. IsWantedTo lib names2 c.push.new.self.items from v) (sym one_more)
          (subst (λ s. IsWantedTo lib names2 s from (take i ws ++ name ∷ [])) (sym same_steps) pushed);
    }

pub returns-clause-wanted : goal.returns-clause-wanted
returns-clause-wanted c =
    let lib = c.args.sources.now in
    let names0 = c.args.self.now.names.items in
    let names1 = c.loop-name.self.names.items in
    let steps1 = c.loop-name.self.steps.items in
    let from = c.args.from in
    let i = c.loop-name.name-index in
    let ws = c.deref-name-items.result.now in
    let file = c.index.result.now in
    let from_in : from < length names0 = c.requires.from_in in
    let here : get_or names0 from file ≡ file = grind (arith, common_steps, c.index.ensures, from_in) in
    let on = c.loop-name.invariant.names in
    let wants_is : ws ≡ wants lib (get_or names1 from []) =
    c.deref-name-items.ensures.value ∙ c.in_ok-wanted.ensures
    ∙ ap (λ f. wants lib f) (c.as_slice.ensures ∙ sym here ∙ get_or_default names0 from file [] from_in ∙ sym (same_name names0 names1 from on from_in)) in
    let ended : length ws ≤ i = c.loop-name-test.false in
    wanted_end lib names1 steps1 from (subst (λ v. IsWantedTo lib names1 steps1 from v) (take_all i ws ended ∙ wants_is) c.loop-name.invariant.wanted)
