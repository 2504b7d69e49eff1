-- Chains of operators, indexes and the like: each has what is at its left for its left operand.
use Rattle.std.specs.Prelude.{◌≡◌, ◌<◌, Bool, true, false, ◌&&◌, List, [], ◌∷◌, Option, None, Some}
use Rattle.std.specs.Option.{option_and_then}
use Rattle.al_overload.specs.Counts.{plain, plain_all}
use Rattle.al_overload.specs.Labelling.{Tree, Trees, MoreTrees}
use Rattle.al_overload.specs.Ranges.{alike}
use Rattle.al_overload.specs.HeadsHeads.{concatenation, head_of, indexing, infixed, possible, selection, short_circuit, sole}
use Rattle.al_overload.specs.Parts.{component_of, element_of, part_of}
use Rattle.al_overload.specs.Universal.{computes_two, is_universal}
use Rattle.al_overload.specs.declared.heads_chain.Joint.{Joint}
use Rattle.al_overload.specs.declared.heads_chain.Sign.{Sign}
use Rattle.al_overload.specs.declared.heads_chain.Sign.TheVariants as signs
use Rattle.al_overload.specs.declared.heads_chain.Step.{Step}
use Rattle.al_overload.specs.declared.heads_chain.Step.TheVariants as steps
use Rattle.al_overload.specs.declared.everywhere.Predefined.{Predefined}
use Rattle.al_overload.specs.declared.part.Nominal.{Nominal}
use Rattle.al_overload.specs.Terms.{TermTree, TermTree as t}
use Rattle.al_overload.specs.TermViews.{term_model}
use Rattle.al_overload.specs.declared.heads_term.Term.{Term, size-Term}

-- which terms begin with an operand, or with a name that is called
abbrev pub leans : TermTree → Bool
leans (t.SelectedTerm prefix name) = true
leans (t.AppliedTerm prefix arguments) = true
leans (t.InfixTerm operator visible left right) = true
leans (t.ConcatenationTerm left right) = true
leans (t.ShortCircuitTerm form left right) = true
leans (t.MemberTerm value is_negated mark) = true
leans (t.RangeMemberTerm value is_negated low high) = true
leans _ = false

-- the head of a link with its operands: what nominal subtype the first one has, if it is an object or a part of one, and whether all are of
-- numbers alone
abbrev pub joint_head : Predefined → Sign → Option Nominal → Trees → Bool → Tree
joint_head p (signs.Operator operator visible) part operands of_numbers = infixed p operator visible.now of_numbers operands
joint_head p signs.Concatenation part operands of_numbers = sole concatenation operands
joint_head p signs.ShortCircuit part operands of_numbers = sole (short_circuit p) operands
joint_head p signs.Range part operands of_numbers = alike p.root p.types.integer (Some p.types.boolean) operands
joint_head p (signs.Selector name) part operands of_numbers = possible (option_and_then (selection name.now) part) operands
joint_head p signs.Indexes part operands of_numbers = possible (option_and_then indexing part) operands
joint_head p (signs.Mark candidate) part operands of_numbers = possible candidate operands

-- the nominal subtype of the link itself
abbrev pub joint_part : Sign → Option Nominal → Option Nominal
joint_part (signs.Selector name) part = option_and_then (component_of name.now) part
joint_part signs.Indexes part = option_and_then element_of part
joint_part _ part = None

-- whether it is of numbers alone itself
abbrev pub joint_universal : Sign → Bool → Bool
joint_universal (signs.Operator operator visible) of_numbers = computes_two operator && of_numbers
joint_universal signs.Concatenation of_numbers = false
joint_universal signs.ShortCircuit of_numbers = false
joint_universal signs.Range of_numbers = false
joint_universal (signs.Selector name) of_numbers = false
joint_universal signs.Indexes of_numbers = false
joint_universal (signs.Mark candidate) of_numbers = false

-- whether a chain is of numbers alone, from its first operand on; the last link in source order comes first
abbrev pub chained_universal : List Joint → Bool → Bool
chained_universal [] universal = universal
chained_universal (joint ∷ joints) universal = joint_universal joint.sign (chained_universal joints universal && joint.right.are_universal)

abbrev pub chained_part : List Joint → Option Nominal → Option Nominal
chained_part [] part = part
chained_part (joint ∷ joints) part = joint_part joint.sign (chained_part joints part)

abbrev pub chained_head : Predefined → List Joint → Tree → Bool → Option Nominal → Tree
chained_head p [] head universal part = head
chained_head p (joint ∷ joints) head universal part =
    joint_head p joint.sign (chained_part joints part) (MoreTrees (chained_head p joints head universal part) (plain_all joint.right.operands)) (chained_universal joints universal && joint.right.are_universal)

-- what a step down makes of a term, with what is at the left
abbrev pub stepped_head : Predefined → Step → Tree
stepped_head p (steps.Down sign right left) =
    joint_head p sign (part_of (term_model left.now)) (MoreTrees (head_of p None (term_model left.now)) (plain_all right.operands)) (is_universal (term_model left.now) && right.are_universal)
stepped_head p (steps.Last built) = plain built.expression

-- the nominal subtype of the whole, if the step goes on
abbrev pub IsPartly : Option Nominal → Step → Type 0
IsPartly part (steps.Down sign right left) = joint_part sign (part_of (term_model left.now)) ≡ part
IsPartly part (steps.Last built) = Unit

abbrev pub stepped_universal : Step → Bool
stepped_universal (steps.Down sign right left) = joint_universal sign (is_universal (term_model left.now) && right.are_universal)
stepped_universal (steps.Last built) = built.is_universal

-- where the step goes, if it goes on
abbrev pub IsAt : Term → Step → Type 0
IsAt term (steps.Down sign right left) = left.now ≡ term
IsAt term (steps.Last built) = Unit

-- what is at the left is less deep than the whole
abbrev pub IsBelow : Term → Step → Type 0
IsBelow term (steps.Down sign right left) = size-Term left.now < size-Term term
IsBelow term (steps.Last built) = Unit
