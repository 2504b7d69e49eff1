-- Bounds of what a check may ask change nothing in what it finds.
use Rattle.std.specs.Prelude.{◌≡◌, ℕ, List, Option, Some, None}
use Rattle.al_base.specs.declared.unit_key.UnitKey.{UnitKey}
use Rattle.al_check.specs.Ada.{ada_names, ada_units, ada_verdict}
use Rattle.al_check_bounded.specs.Bounding.{bounded}
use Rattle.al_check_bounded.specs.Meanings.{text_meaning}
use Rattle.al_check_bounded.specs.Within.{bounds_of, concluded}
use Rattle.al_check_bounded.specs.declared.bounds.Bounds.{Bounds}
use Rattle.al_check_promises.specs.SelfChecks.{not_checked}
use Rattle.al_query_outcome.specs.Results.{Outcome, Faulty}
use Rattle.al_query.specs.Reads.{Table}
use Rattle.al_tree_syntax.specs.UnitTrees.{CompilationUnitTree}
use Rattle.al_unit.specs.Texts.{unit_in}
use Rattle.al_unit_header.specs.Units.{header_of}
use Rattle.al_check_bound_laws.specs.Others.{others}

-- the bounds of a unit with this source, by what other units answer
abbrev pub ada_bounds : UnitKey → List ℕ → CompilationUnitTree → Table → Bounds
ada_bounds unit text tree t = bounds_of unit text (ada_units unit (header_of tree) t) (ada_names unit (header_of tree) t)

-- whatever other units answer, what is found in a source within the bounds is what is found by all that they answer
abbrev pub NothingIsCut : Type 0
NothingIsCut =
    (unit : UnitKey) (text : List ℕ) (tree : CompilationUnitTree) (t : Table) → unit_in text ≡ Some tree
    → ada_verdict unit text tree (bounded (ada_bounds unit text tree t) t) ≡ ada_verdict unit text tree (others unit t)

-- the outcome of a unit, by what is found under the answers of all other units; bounds are in its test alone
abbrev pub whole_outcome : UnitKey → List ℕ → Option CompilationUnitTree → Table → Outcome
whole_outcome unit text None t = Faulty (not_checked unit)
whole_outcome unit text (Some tree) t =
    let b = ada_bounds unit text tree t in
    concluded b (header_of tree) (ada_verdict unit text tree (others unit t)) (bounded b t)

abbrev pub whole_meaning : UnitKey → List ℕ → Table → Outcome
whole_meaning unit text t = whole_outcome unit text (unit_in text) t

-- that is the outcome which the check of Ada gives
abbrev pub OutcomesAreWhole : Type 0
OutcomesAreWhole = (unit : UnitKey) (text : List ℕ) (t : Table) → text_meaning ada_units ada_names ada_verdict unit text t ≡ whole_meaning unit text t
