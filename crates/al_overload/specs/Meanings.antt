-- What an expression means in a complete context (ARM 8.6(29 to 31)).
use Rattle.std.specs.Prelude.{◌≡◌, ◌≤◌, ◌↔◌, List, [], ◌∷◌, length, Option, Some, None, Result, Ok, Err}
use Rattle.al_base.specs.declared.place.Place.{Place}
use Rattle.al_base_fault.specs.declared.check_rule.CheckRule.TheVariants.{Ambiguous, NoInterpretation}
use Rattle.al_overload.specs.Labelling.{Label, Tree, acceptable, labellings}
use Rattle.al_overload.specs.declared.types.Expected.{Expected}
use Rattle.al_base_fault.specs.Faults.{fault_at}
use Rattle.al_base_fault.specs.declared.fault.Fault.{Fault}

-- if nothing fits, and if several interpretations are acceptable, at the context's first token
abbrev pub nothing_fits : Place → Fault
nothing_fits place = fault_at place NoInterpretation

abbrev pub several_fit : Place → Fault
several_fit place = fault_at place Ambiguous

-- the only one of these labellings
abbrev pub meaning : Place → List Label → Result Label Fault
meaning place [] = Err (nothing_fits place)
meaning place (l ∷ []) = Ok l
meaning place (l ∷ (m ∷ more)) = Err (several_fit place)

-- If a name of the context's text denotes nothing, or no thing of the right kind, that is what is wrong. Else the
-- expression means its only acceptable interpretation.
abbrev pub resolved : Place → Option Fault → Tree → Expected → Result Label Fault
resolved place (Some fault) tree expected = Err fault
resolved place None tree expected = meaning place (acceptable (labellings tree expected))

-- an expression has a meaning if, and only if, one interpretation is acceptable, and this is it
abbrev pub OneIsAcceptable : Type 0
OneIsAcceptable =
    (place : Place) (tree : Tree) (expected : Expected) (l : Label)
    → (resolved place None tree expected ≡ Ok l) ↔ (acceptable (labellings tree expected) ≡ l ∷ [])

-- the fault says which it is: none is acceptable, or at least two are
abbrev pub FaultsTellWhy : Type 0
FaultsTellWhy =
    (place : Place) (tree : Tree) (expected : Expected)
    → ((resolved place None tree expected ≡ Err (nothing_fits place)) ↔ (acceptable (labellings tree expected) ≡ []))
    × ((resolved place None tree expected ≡ Err (several_fit place)) ↔ (2 ≤ length (acceptable (labellings tree expected))))
