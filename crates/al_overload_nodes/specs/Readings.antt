-- The labelled tree of a term with its labelling (ARM 8.6).
use Rattle.std.specs.Prelude.{ℕ, ◌+◌, ◌&&◌, Bool, false, List, Option, Some, None}
use Rattle.std.specs.Option.{option_map_or}
use Rattle.al_base.specs.declared.place.Place.{Place}
use Rattle.al_overload.specs.Labelling.{Label}
use Rattle.al_overload.specs.declared.context.Context.TheVariants as contexts
use Rattle.al_overload.specs.Places.{first_place}
use Rattle.al_overload.specs.Terms.{TermTree, TermTree as t, TermsTree, TermsTree as terms}
use Rattle.al_view_typed.specs.ExpressionTrees.{ValueTree, ActualTree}
use Rattle.al_view_typed.specs.declared.label.Conversion.TheVariants as conversions
use Rattle.al_view_typed.specs.declared.label.ShortCircuit.{ShortCircuit}
use Rattle.al_view.specs.declared.symbol.Symbol.{Symbol}
use Rattle.al_view.specs.declared.types.TypeView.{TypeView}
use Rattle.al_view.specs.declared.view.SubprogramView.{SubprogramView}
use Rattle.al_view.specs.declared.view.SubtypeView.{SubtypeView}
use Rattle.al_overload.specs.Interpreting.{interpreted}
use Rattle.al_overload.specs.Parts.{declared_under, nominal, part_of}
use Rattle.al_overload.specs.Universal.{computes_one, computes_two, is_universal}
use Rattle.al_overload.specs.declared.everywhere.Predefined.{Predefined}
use Rattle.al_overload_nodes.specs.Gathering.{Parts, no_parts}
use Rattle.al_overload.specs.Labels.{operand_label}
use Rattle.al_overload_nodes.specs.Variables.{variable_as}
use Rattle.al_overload_nodes.specs.Names.{selected_node}
use Rattle.al_overload_nodes.specs.Nodes.{ReadingTree, grouped, literal, misfit}
use Rattle.al_overload_nodes.specs.Operators.{binary_node, binary_signature, short_circuit_node, unary_node, unary_signature}
use Rattle.al_overload_nodes.specs.FromAnswers.{DeterminedType, test_type, types_in}
use Rattle.al_overload_nodes.specs.Leaves.{bound_node, length_node, named_node, application, argument_type, attribute_node, mark_node, aggregate_node, others_node, in_range_node, in_mark_node, mark_type, inner, labelled, signed, applied_node, actual_read, component_read}

-- What a term is with its labelling, if it has this type, which is among these.
abbrev mutual
  pub reading : Predefined → Option Symbol → TermTree → Label → List TypeView → Symbol → ReadingTree
  reading p own (t.NumberTerm place value) label types at = literal p.root place types at value
  reading p own (t.TextTerm place bytes) label types at = misfit place
  reading p own (t.NamedTerm place visible) label types at = named_node p.root own place visible label types at
  reading p own (t.SelectedTerm prefix name) label types at =
      selected_node p.root (first_place prefix) name (part_of prefix)
      (labelled (first_place prefix) (λ l. reading p own prefix l types at) (operand_label 0 label))
  reading p own (t.AppliedTerm prefix arguments) label types at =
      applied_node p.root own (first_place prefix) (λ s. actuals_read p own s label 0 no_parts arguments)
      (labelled (first_place prefix) (λ l. reading p own prefix l types at) (operand_label 0 label))
      (λ k of index. index_read p own (first_place prefix) k label of index arguments)
      (application (declared_under prefix) (part_of prefix) label)
  reading p own (t.BoundTerm place mark is_last) label types at = bound_node p.root place mark is_last
  reading p own (t.LengthTerm place bounds) label types at = length_node p.root place types at bounds
  reading p own (t.ConversionTerm place mark operand) label types at =
      mark_node p.root place conversions.ToType mark
      (inner (λ l. reading p own operand l mark.types p.root) (interpreted p (contexts.ConversionOperand (mark_type mark)) None operand))
  reading p own (t.QualifiedTerm place mark operand) label types at =
      mark_node p.root place conversions.Qualification mark
      (inner (λ l. reading p own operand l mark.types mark.subtype.base)
      (interpreted p (contexts.QualifiedOperand (mark_type mark)) (Some (nominal mark.types mark.subtype)) operand))
  reading p own (t.AttributeTerm place conversion mark argument) label types at =
      attribute_node p.root place conversion mark types at
      (labelled place (λ l. reading p own argument l mark.types (argument_type p.root conversion mark)) (operand_label 0 label))
  reading p own (t.ImageTerm place mark argument) label types at = misfit place
  reading p own (t.PrefixedTerm place operator visible operand) label types at =
      signed place (λ s. unary_node p.root place operator s (labelled place (λ l. reading p own operand l s.types s.left) (operand_label 0 label)))
      (unary_signature p visible (computes_one operator && is_universal operand) label types at)
  reading p own (t.InfixTerm operator visible left right) label types at =
      signed (first_place left) (λ s. binary_node p.root (first_place left) operator s
      (labelled (first_place left) (λ l. reading p own left l s.types s.left) (operand_label 0 label))
      (labelled (first_place left) (λ l. reading p own right l s.types s.right) (operand_label 1 label)))
      (binary_signature p operator visible (computes_two operator && (is_universal left && is_universal right)) label types at)
  reading p own (t.ConcatenationTerm left right) label types at = misfit (first_place left)
  reading p own (t.ShortCircuitTerm form left right) label types at =
      short_circuit_node p.root (first_place left) types p.types.boolean.symbol form
      (labelled (first_place left) (λ l. reading p own left l types p.types.boolean.symbol) (operand_label 0 label))
      (labelled (first_place left) (λ l. reading p own right l types p.types.boolean.symbol) (operand_label 1 label))
  reading p own (t.MemberTerm value is_negated mark) label types at =
      in_mark_node p (first_place value) is_negated mark
      (labelled (first_place value) (λ l. reading p own value l mark.types mark.subtype.base) (operand_label 0 label))
  reading p own (t.RangeMemberTerm value is_negated low high) label types at =
      in_range_node p (first_place value) types is_negated
      (labelled (first_place value) (λ l. reading p own value l (types_in types (test_type p value low high label)) (test_type p value low high label).of) (operand_label 0 label))
      (labelled (first_place value) (λ l. reading p own low l (types_in types (test_type p value low high label)) (test_type p value low high label).of) (operand_label 1 label))
      (labelled (first_place value) (λ l. reading p own high l (types_in types (test_type p value low high label)) (test_type p value low high label).of) (operand_label 2 label))
  reading p own (t.GroupTerm place inside) label types at = grouped place (reading p own inside label types at)
  reading p own (t.AggregateTerm place components) label types at =
      aggregate_node p.root place types at (values_read p own types at label 0 no_parts components)
  reading p own (t.OthersTerm place component) label types at =
      others_node p.root place types at (λ of. labelled place (λ l. reading p own component l types of) (operand_label 0 label))
  reading p own (t.NothingTerm place) label types at = misfit place

  -- the only index
  pub index_read : Predefined → Option Symbol → Place → ℕ → Label → List TypeView → Symbol → TermsTree → ReadingTree
  index_read p own place k label types at terms.NoTerm = misfit place
  index_read p own place k label types at (terms.MoreTerms index terms.NoTerm) =
      labelled place (λ l. reading p own index l types at) (operand_label k label)
  index_read p own place k label types at (terms.MoreTerms index (terms.MoreTerms second more)) = misfit place

  -- the actual parameters of a call, from the n-th on, after those that were read
  pub actuals_read : Predefined → Option Symbol → SubprogramView → Label → ℕ → Parts ActualTree → TermsTree → Parts ActualTree
  actuals_read p own s label n actuals terms.NoTerm = actuals
  actuals_read p own s label n actuals (terms.MoreTerms argument more) =
      actuals_read p own s label (n + 1) (actual_read s label n actuals (first_place argument) (option_map_or (variable_as argument) (operand_label n label) false)
      (λ l of. reading p own argument l s.types of)) more

  -- the components of an aggregate of this type, in the same way
  pub values_read : Predefined → Option Symbol → List TypeView → Symbol → Label → ℕ → Parts ValueTree → TermsTree → Parts ValueTree
  values_read p own types at label n values terms.NoTerm = values
  values_read p own types at label n values (terms.MoreTerms component more) =
      values_read p own types at label (n + 1) (component_read types at label n values (first_place component)
      (λ l of. reading p own component l types of)) more

-- the k-th operand with its labelling
abbrev pub operand_read : Predefined → Option Symbol → Place → ℕ → TermTree → Label → List TypeView → Symbol → ReadingTree
operand_read p own place k operand label types at = labelled place (λ l. reading p own operand l types at) (operand_label k label)

-- a name with what is in parentheses after it
abbrev pub applied_read : Predefined → Option Symbol → Place → TermTree → TermsTree → Label → List TypeView → Symbol → ReadingTree
applied_read p own place prefix arguments label types at =
    applied_node p.root own place (λ s. actuals_read p own s label 0 no_parts arguments) (operand_read p own place 0 prefix label types at)
    (λ k among of. index_read p own place k label among of arguments) (application (declared_under prefix) (part_of prefix) label)

-- ---- terms that are the same wherever they are

abbrev pub conversion_read : Predefined → Option Symbol → Place → SubtypeView → TermTree → ReadingTree
conversion_read p own place mark operand =
    mark_node p.root place conversions.ToType mark
    (inner (λ l. reading p own operand l mark.types p.root) (interpreted p (contexts.ConversionOperand (mark_type mark)) None operand))

abbrev pub qualified_read : Predefined → Option Symbol → Place → SubtypeView → TermTree → ReadingTree
qualified_read p own place mark operand =
    mark_node p.root place conversions.Qualification mark
    (inner (λ l. reading p own operand l mark.types mark.subtype.base)
    (interpreted p (contexts.QualifiedOperand (mark_type mark)) (Some (nominal mark.types mark.subtype)) operand))

abbrev pub short_circuit_read : Predefined → Option Symbol → ShortCircuit → TermTree → TermTree → Label → List TypeView → ReadingTree
short_circuit_read p own form left right label types =
    short_circuit_node p.root (first_place left) types p.types.boolean.symbol form
    (operand_read p own (first_place left) 0 left label types p.types.boolean.symbol)
    (operand_read p own (first_place left) 1 right label types p.types.boolean.symbol)

abbrev pub member_read : Predefined → Option Symbol → TermTree → Bool → SubtypeView → Label → ReadingTree
member_read p own value is_negated mark label =
    in_mark_node p (first_place value) is_negated mark (operand_read p own (first_place value) 0 value label mark.types mark.subtype.base)

-- its operands are read at the type of the test
abbrev pub range_member_at : Predefined → Option Symbol → TermTree → Bool → TermTree → TermTree → Label → List TypeView → DeterminedType → ReadingTree
range_member_at p own value is_negated low high label types determined =
    in_range_node p (first_place value) types is_negated
    (operand_read p own (first_place value) 0 value label (types_in types determined) determined.of)
    (operand_read p own (first_place value) 1 low label (types_in types determined) determined.of)
    (operand_read p own (first_place value) 2 high label (types_in types determined) determined.of)

abbrev pub range_member_read : Predefined → Option Symbol → TermTree → Bool → TermTree → TermTree → Label → List TypeView → ReadingTree
range_member_read p own value is_negated low high label types =
    range_member_at p own value is_negated low high label types (test_type p value low high label)
