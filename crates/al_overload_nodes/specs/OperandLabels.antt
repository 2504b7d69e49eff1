-- The labellings of operands, one after another, and what is read of one operand with its own.
use Rattle.std.specs.Prelude.{ℕ, zero, suc, Bool, List, Option, Some, None, Err, slice_get}
use Rattle.std.specs.Option.{option_map_or}
use Rattle.al_base.specs.declared.place.Place.{Place}
use Rattle.al_overload.specs.Meanings.{nothing_fits}
use Rattle.al_overload.specs.Labelling.{Label, NodeAs, Labels, NoLabel, MoreLabels}
use Rattle.al_overload_nodes.specs.Gathering.{Parts, with_part}
use Rattle.al_overload_nodes.specs.Nodes.{ReadingTree}
use Rattle.al_overload_nodes.specs.Leaves.{actual_of, component_of_type, value_of}
use Rattle.al_view_typed.specs.ExpressionTrees.{ActualTree, ValueTree}
use Rattle.al_view.specs.declared.symbol.Symbol.{Symbol}
use Rattle.al_view.specs.declared.types.TypeView.{TypeView}
use Rattle.al_view.specs.declared.view.SubprogramView.{SubprogramView}

abbrev pub operand_labels : Label → Labels
operand_labels (NodeAs n root operands) = operands

abbrev pub next_label : Labels → Option Label
next_label NoLabel = None
next_label (MoreLabels l more) = Some l

abbrev pub labels_after : Labels → Labels
labels_after NoLabel = NoLabel
labels_after (MoreLabels l more) = more

-- the labels from the k-th operand on
abbrev pub labels_from : ℕ → Labels → Labels
labels_from zero ls = ls
labels_from (suc k) ls = labels_after (labels_from k ls)

-- the actual parameter for the n-th formal, with its labelling
abbrev pub actual_with : SubprogramView → Option Label → ℕ → Parts ActualTree → Place → Bool → (Label → Symbol → ReadingTree) → Parts ActualTree
actual_with s label n actuals place is_variable read =
    option_map_or (actual_of s label actuals place is_variable read) (slice_get s.profile.parameters n) (with_part actuals None (Err (nothing_fits place)))

-- the n-th component of an aggregate, with its labelling
abbrev pub component_with : List TypeView → Symbol → Option Label → ℕ → Parts ValueTree → Place → (Label → Symbol → ReadingTree) → Parts ValueTree
component_with types at label n values place read =
    option_map_or (value_of types label values place read) (component_of_type types at n) (with_part values None (Err (nothing_fits place)))
