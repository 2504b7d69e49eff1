use Rattle.std.proofs.Common.{◌≡◌, ℕ, ◌<◌, [], ◌∷◌, ◌++◌, length, get_or, take, subst, sym, ap, ◌∙◌, arith}
use Rattle.std.proofs.lemmas.List.{take_more, take_all}
use Rattle.std.proofs.lemmas.List.Elements.{Contains-get_or}
use Rattle.al_base_graph.specs.Graphs.{with_step}
use Rattle.al_unit_faults.proofs.ObsoleteStepLemmas.{HasSteps, steps_more}
use Rattle.al_unit_faults.proofs.wanted.WantedFiles.graph.Goals as goal

pub add-requires-clause-from_in : goal.add-requires-clause-from_in
add-requires-clause-from_in c =
    let steps = c.args.self.now.steps.items in
    let i = c.loop-from.from-index in
    let value : c.deref-from-items.result.now ≡ steps = c.deref-from-items.ensures.value in
    let same_length : length c.deref-from-items.result.now ≡ length steps = ap length value in
    let within : i < length steps = omega arith in
    let bound : (get_or {A = ℕ × ℕ} steps i (0, 0)).0 < length c.args.self.now.names.items = (c.requires (get_or {A = ℕ × ℕ} steps i (0, 0)) (Contains-get_or steps i (0, 0) within)).0 in
    let count = c.loop-from.invariant.count in
    let here : (get_or {A = ℕ × ℕ} steps i (0, 0)).0 < length c.loop-from.graph = omega arith in
    subst (λ s. (get_or {A = ℕ × ℕ} s i (0, 0)).0 < length c.loop-from.graph) (sym value) here

pub add-requires-clause-to_in : goal.add-requires-clause-to_in
add-requires-clause-to_in c =
    let steps = c.args.self.now.steps.items in
    let i = c.loop-from.from-index in
    let value : c.deref-from-items.result.now ≡ steps = c.deref-from-items.ensures.value in
    let same_length : length c.deref-from-items.result.now ≡ length steps = ap length value in
    let within : i < length steps = omega arith in
    let bound : (get_or {A = ℕ × ℕ} steps i (0, 0)).1 < length c.args.self.now.names.items = (c.requires (get_or {A = ℕ × ℕ} steps i (0, 0)) (Contains-get_or steps i (0, 0) within)).1 in
    let count = c.loop-from.invariant.count in
    let here : (get_or {A = ℕ × ℕ} steps i (0, 0)).1 < length c.loop-from.graph = omega arith in
    subst (λ s. (get_or {A = ℕ × ℕ} s i (0, 0)).1 < length c.loop-from.graph) (sym value) here

pub loop-from-preserved : goal.loop-from-preserved
loop-from-preserved c =
    let steps = c.args.self.now.steps.items in
    let i = c.loop-from.from-index in
    let g = c.loop-from.graph in
    let value : c.deref-from-items.result.now ≡ steps = c.deref-from-items.ensures.value in
    let same_length : length c.deref-from-items.result.now ≡ length steps = ap length value in
    let within : i < length steps = omega arith in
    let e = get_or {A = ℕ × ℕ} steps i (0, 0) in
    let bound : e.0 < length c.args.self.now.names.items = (c.requires e (Contains-get_or steps i (0, 0) within)).0 in
    let count = c.loop-from.invariant.count in
    let inside : e.0 < length g = omega arith in
    let same = c.in_ok-add.ensures.ok ∙ ap (λ s. with_step g (get_or {A = ℕ × ℕ} s i (0, 0)).0 (get_or {A = ℕ × ℕ} s i (0, 0)).1) value in
    record {
      count = c.in_ok-add.ensures.count ∙ count;
      steps =
          subst (λ xs. HasSteps c.add.new.self xs) (sym (take_more steps i (0, 0) within))
          (subst (λ k. HasSteps k (take i steps ++ e ∷ [])) (sym same) (steps_more g (take i steps) e.0 e.1 inside c.loop-from.invariant.steps));
    }

pub returns-clause-steps : goal.returns-clause-steps
returns-clause-steps c =
    let steps = c.args.self.now.steps.items in
    let same_length : length c.deref-from-items.result.now ≡ length steps = ap length c.deref-from-items.ensures.value in
    subst (λ xs. HasSteps c.loop-from.graph xs) (take_all c.loop-from.from-index steps (omega arith)) c.loop-from.invariant.steps
