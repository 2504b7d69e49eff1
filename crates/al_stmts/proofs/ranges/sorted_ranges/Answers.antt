-- A sort only moves the ranges that have values.
use Rattle.std.proofs.Common.{◌≡◌, ℕ, ℤ, cond, sym, ap, ◌∙◌, IsTrue, rules}
use Rattle.std.specs.List.{All, filter_map, flat_map}
use Rattle.std.proofs.lemmas.List.Sorted.{answers_always, All-permutation, sum_by-IsPermutation}
use Rattle.std.proofs.lemmas.List.Elements.{All-same}
use Rattle.al_stmts.specs.Choosing.{ranges_of, value_range}
use Rattle.al_stmts.specs.Values.{has_values, holds, times_chosen}
use Rattle.al_stmts.proofs.RangeLemmas.{all_have_values, times-all_kept}
use Rattle.al_stmts.proofs.ranges.sorted_ranges.Goals as goal

pub returns-clause-same : goal.returns-clause-same
returns-clause-same c = λ v.
    sum_by-IsPermutation (λ r. cond (holds r v) 1 0) _ _ c.sort_unstable_by_key.ensures.permutation
    ∙ ap (λ ranges. times_chosen ranges v) c.in_ok-ranges.ensures
    ∙ times-all_kept c.args.alternatives.now v

pub returns-clause-some : goal.returns-clause-some
returns-clause-some c =
    All-permutation (λ r. IsTrue (has_values r)) _ _ c.sort_unstable_by_key.ensures.permutation
    (All-same (λ r. IsTrue (has_values r)) _ _ c.in_ok-ranges.ensures (all_have_values c.args.alternatives.now))

pub returns-clause-sorted : goal.returns-clause-sorted
returns-clause-sorted c = c.sort_unstable_by_key.ensures.sorted (λ r. r.low) (answers_always _ (λ a r. r ≡ a.0.now.low) _ (λ f a r f' k. search rules))
