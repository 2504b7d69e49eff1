-- The outcome that a checker gives to a source, by any finder.
use Rattle.std.specs.Prelude.{ℕ, List, Option, Some, None}
use Rattle.al_base.specs.declared.unit_key.UnitKey.{UnitKey}
use Rattle.al_tree_syntax.specs.UnitTrees.{CompilationUnitTree}
use Rattle.al_unit_graph.specs.Headers.{Header}
use Rattle.al_query.specs.Reads.{Table}
use Rattle.al_query_outcome.specs.Results.{Outcome, Faulty}
use Rattle.al_check_promises.specs.SelfChecks.{not_checked}
use Rattle.al_unit.specs.Texts.{unit_in}
use Rattle.al_check_bounded.specs.Verdicts.{Verdict}
use Rattle.al_check_bounded.specs.Within.{meaning_within}

abbrev pub meaning_if_unit : (UnitKey → Header → Table → List UnitKey) → (UnitKey → Header → Table → List (List ℕ)) → (UnitKey → List ℕ → CompilationUnitTree → Table → Verdict) → UnitKey → List ℕ → Option CompilationUnitTree → Table → Outcome
meaning_if_unit units names verdict unit text (Some tree) t = meaning_within units names verdict unit text tree t
meaning_if_unit units names verdict unit text None t = Faulty (not_checked unit)

-- the outcome of a unit with a source under a table; a source in which no unit is parsed can't be compiled
unfoldable pub text_meaning : (UnitKey → Header → Table → List UnitKey) → (UnitKey → Header → Table → List (List ℕ)) → (UnitKey → List ℕ → CompilationUnitTree → Table → Verdict) → UnitKey → List ℕ → Table → Outcome
text_meaning units names verdict unit text t = meaning_if_unit units names verdict unit text (unit_in text) t
