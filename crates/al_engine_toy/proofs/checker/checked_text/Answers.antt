use Rattle.std.proofs.Common.{ℕ, List, subst}
use Rattle.al_query_outcome.specs.Results.{checked_model}
use Rattle.al_engine_toy.specs.Toys.{IsChecked}
use Rattle.al_engine_toy.proofs.Results.{on_ok}
use Rattle.al_engine_toy.proofs.checker.checked_text.Goals as goal

pub returns-clause-checked : goal.returns-clause-checked
returns-clause-checked g c =
    let unit = c.args.unit.now in
    let log = c.checked.new.recorder.log in
    on_ok c.checked.result (λ x. IsChecked unit c.as_slice.result.now log (checked_model x)) (λ x. IsChecked unit c.args.text.now log (checked_model x))
    (λ x j. subst (λ (t : List ℕ). IsChecked unit t log (checked_model x)) c.as_slice.ensures j) c.checked.ensures.checked
