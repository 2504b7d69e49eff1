-- Chains: each link has what is at its left for its left operand or its prefix.
use Rattle.std.specs.Prelude.{◌≡◌, ◌<◌, List, [], ◌∷◌, Option, option_map, Result, Ok, ⊤}
use Rattle.al_base.specs.declared.place.Place.{Place}
use Rattle.al_overload.specs.Counts.{label_of}
use Rattle.al_base.specs.declared.refusal.NoMemory.{NoMemory}
use Rattle.al_overload.specs.Parts.{nominal}
use Rattle.al_overload.specs.Universal.{is_universal}
use Rattle.al_overload.specs.declared.everywhere.Predefined.{Predefined}
use Rattle.al_overload_nodes.specs.Known.{IsKnown}
use Rattle.al_overload_nodes.specs.Readings.{reading}
use Rattle.al_overload_nodes.specs.declared.chain.Joint.{Joint}
use Rattle.al_overload_nodes.specs.declared.chain.Joint.TheVariants as joints
use Rattle.al_overload_nodes.specs.declared.chain.Step.{Step}
use Rattle.al_overload_nodes.specs.declared.chain.Step.TheVariants as steps
use Rattle.al_overload_nodes.specs.Names.{element_node, selected_node}
use Rattle.al_overload_nodes.specs.Nodes.{ReadingTree}
use Rattle.al_overload_nodes.specs.Operators.{binary_node, short_circuit_node, signature}
use Rattle.al_overload_nodes.specs.Views.{reading_model}
use Rattle.al_overload_nodes.specs.declared.node.Reading.{Reading}
use Rattle.al_overload.specs.PickedTypes.{indexing_of}
use Rattle.al_overload.specs.Places.{first_place}
use Rattle.al_overload.specs.TermViews.{term_model}
use Rattle.al_overload.specs.declared.heads_term.Term.{Term, size-Term}
use Rattle.al_view.specs.declared.symbol.Symbol.{Symbol}

-- a link with what is at its left
abbrev pub joint_node : Predefined → Place → Joint → ReadingTree → ReadingTree
joint_node p place (joints.Operator operator of second) first =
    binary_node p.root place operator (signature of.left.now of.right.now of.result_type.now of.types.now) first (reading_model second.value)
joint_node p place (joints.ShortCircuit form types second) first =
    short_circuit_node p.root place types.now p.types.boolean.symbol form first (reading_model second.value)
joint_node p place (joints.Selector name part) first =
    selected_node p.root place name.now (option_map (λ x. nominal x.1.now x.0.now) part) first
joint_node p place (joints.Index types by index) first =
    element_node p.root place types.now (indexing_of by.index.now by.bounds by.component.now) first (reading_model index.value)

-- the last link of the text comes first
abbrev pub chained_node : Predefined → Place → List Joint → ReadingTree → ReadingTree
chained_node p place [] first = first
chained_node p place (joint ∷ joints) first = joint_node p place joint (chained_node p place joints first)

-- what a step down makes of a term, with what is at the left
abbrev pub stepped : Predefined → Option Symbol → Place → Step → ReadingTree
stepped p own place (steps.Down joint left known label types at) =
    joint_node p place joint (reading p own (term_model left.now) (label_of label.now) types.now at.now)
stepped p own place (steps.Last r) = reading_model r.value

-- where the step goes, if it goes on, and what is known of that
abbrev pub IsAt : Term → Step → Type 0
IsAt term (steps.Down joint left known label types at) = (left.now ≡ term) × IsKnown known (is_universal (term_model left.now))
IsAt term (steps.Last r) = ⊤

-- what is at the left is less deep than the whole, begins where that does, and is what is known of it
abbrev pub IsBelow : Term → Step → Type 0
IsBelow term (steps.Down joint left known label types at) =
    (size-Term left.now < size-Term term) × (first_place (term_model left.now) ≡ first_place (term_model term)) × IsKnown known (is_universal (term_model left.now))
IsBelow term (steps.Last r) = ⊤

-- the end of a chain, which is this
abbrev pub IsLastOf : Result Reading NoMemory → Step → Type 0
IsLastOf reading (steps.Down joint left known label types at) = ⊥
IsLastOf reading (steps.Last r) = reading ≡ Ok r.value
