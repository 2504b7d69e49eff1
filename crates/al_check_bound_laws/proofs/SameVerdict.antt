-- What is found in a unit's text is the same under two tables under which its start and the walk over its item are.
use Rattle.std.proofs.Common.{◌≡◌, refl, ◌∙◌, ap, ℕ, not, List, [], Ok, Err, if◌then◌else◌}
use Rattle.std.specs.Bool.{⊤}
use Rattle.std.specs.Prelude.{Result}
use Rattle.al_base.specs.declared.unit_key.UnitKey.{UnitKey}
use Rattle.al_base_fault.specs.declared.fault.Fault.{Fault}
use Rattle.al_check.specs.Ada.{ada_verdict, ended_after, private_part_of, round_of, standing_of, verdict_from, verdict_with}
use Rattle.al_check_here.specs.Ends.{ends_of}
use Rattle.al_check_here.specs.Stacks.{is_bare}
use Rattle.al_check_here.specs.declared.state.CheckState.{CheckState}
use Rattle.al_check_reading.specs.Ada.{ada}
use Rattle.al_check_start.specs.UnitsAt.{unit_at}
use Rattle.al_check_start.specs.declared.unit.UnitStart.{UnitStart}
use Rattle.al_query.specs.Reads.{Table}
use Rattle.al_stmts.specs.Units.{unit_walked}
use Rattle.al_tree_syntax.specs.UnitTrees.{CompilationUnitTree}
use Rattle.al_unit_header.specs.PrivateTypes.{private_types}
use Rattle.al_view.specs.Named.{Declarations}

module _ (t s : Table) (unit : UnitKey) (tree : CompilationUnitTree) (Fits : CheckState → Type 0) (walked : (h : CheckState) → Fits h → unit_walked (ada t) h tree.item ≡ unit_walked (ada s) h tree.item) where
  abbrev StartFits : Result UnitStart Fault → Type 0
  StartFits (Ok x) = (d : Declarations) → Fits (standing_of d tree x)
  StartFits (Err f) = ⊤

  private-same : (j : Result UnitStart Fault) → StartFits j → private_part_of t tree j ≡ private_part_of s tree j
  private-same (Err f) k = refl
  private-same (Ok x) k = ap (λ w. if not (is_bare (private_types tree.item)) then (ends_of w.0).parts.private_part else []) (walked (standing_of [] tree x) (k []))

  from-same : (j : Result UnitStart Fault) → StartFits j → verdict_from t unit tree j ≡ verdict_from s unit tree j
  from-same (Err f) k = refl
  from-same (Ok x) k =
      ap (λ w. ended_after (round_of tree x) w) (walked (standing_of (private_part_of t tree (Ok x)) tree x) (k (private_part_of t tree (Ok x))))
      ∙ ap (λ d. verdict_with s d unit tree (Ok x)) (private-same (Ok x) k)

  pub verdict-same : (text : List ℕ) → unit_at t unit tree ≡ unit_at s unit tree → StartFits (unit_at s unit tree) → ada_verdict unit text tree t ≡ ada_verdict unit text tree s
  unfolding ada_verdict
  verdict-same text e k = ap (λ j. verdict_from t unit tree j) e ∙ from-same (unit_at s unit tree) k
