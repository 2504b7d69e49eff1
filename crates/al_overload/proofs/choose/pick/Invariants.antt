use Rattle.std.proofs.Common.{◌≡◌, [], take}
use Rattle.std.specs.List.{flat_map}
use Rattle.al_overload.specs.Labelling.{numbered, of_kind}
use Rattle.al_overload.specs.Counts.{candidates, plain_all}
use Rattle.al_overload.proofs.choose.pick.Given as goal

abbrev pub invariant-loop-choice : goal.invariant-loop-choice
invariant-loop-choice l = (l.number ≡ l.choice-index) × (flat_map (of_kind (plain_all l._operands) l.expected l.is_root) (numbered 0 (candidates (take l.choice-index l.choices))) ≡ [])
