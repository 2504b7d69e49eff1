-- The parts of a labelling.
use Rattle.std.specs.Prelude.{ℕ, ◌-◌, ◌==◌, Bool, Option, Some, None, if◌then◌else◌}
use Rattle.al_overload.specs.Labelling.{Label, NodeAs, Labels, NoLabel, MoreLabels}

-- the number of the candidate at the head
abbrev pub number_in : Label → ℕ
number_in (NodeAs n root operands) = n

-- whether it is an operator of the root type
abbrev pub is_root_in : Label → Bool
is_root_in (NodeAs n root operands) = root

abbrev pub nth_label : ℕ → Labels → Option Label
nth_label k NoLabel = None
nth_label k (MoreLabels l more) = if k == 0 then Some l else nth_label (k - 1) more

-- the labelling of one of the operands, from 0
abbrev pub operand_label : ℕ → Label → Option Label
operand_label k (NodeAs n root operands) = nth_label k operands
