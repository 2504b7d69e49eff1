use Rattle.std.proofs.Common.{◌≡◌, false, map, Option, sym, ap, subst, ◌∙◌, arith, Box, Global}
use Rattle.std.specs.Option.{option_copied, option_map_or}
use Rattle.std.specs.Prelude.{option_map}
use Rattle.al_overload.specs.Counts.{label_of, labels_of}
use Rattle.al_overload.specs.Labelling.{Label}
use Rattle.al_overload.specs.Parts.{nominal}
use Rattle.al_overload_nodes.specs.Gathering.{no_parts}
use Rattle.al_overload_nodes.specs.Views.{actuals_model, reading_model, values_model}
use Rattle.al_overload_nodes.specs.declared.node.Reading.{Reading}
use Rattle.al_overload.specs.Places.{first_place}
use Rattle.al_overload.specs.TermViews.{term_model, terms_of}
use Rattle.al_overload.specs.Terms.{TermTree as trees}
use Rattle.al_overload.specs.declared.heads_term.Term.{Term, size-Term}
use Rattle.al_overload.specs.declared.heads_term.Term.TheViews.{sized-Infix, sized-ShortCircuit}
use Rattle.al_overload_nodes.specs.Leaves.Application.{CallOf, ElementOf, ElementOfPart, Misapplied}
use Rattle.al_overload_nodes.specs.FromAnswers.{test_type, types_in}
use Rattle.al_overload_nodes.specs.Chains.{IsBelow, stepped}
use Rattle.al_overload_nodes.specs.Readings.{actuals_read, operand_read, reading, values_read}
use Rattle.al_overload_nodes.specs.Variables.{variable_as}
use Rattle.al_overload_nodes.specs.Leaves.{labelled}
use Rattle.al_overload_nodes.specs.OperandLabels.{operand_labels}
use Rattle.al_overload_nodes.proofs.OperandLabels.{after_is}
use Rattle.al_overload_nodes.specs.declared.chain.Step.{Step}
use Rattle.al_overload_nodes.proofs.ChainLemmas.{applied_begins, applied_below, infix_begins, infix_below, last_at, last_read, longer, selected_begins, selected_below, short_circuit_begins, short_circuit_below, step_by}
use Rattle.al_overload_nodes.proofs.KnownLemmas.{infix_known}
use Rattle.al_overload_nodes.proofs.Gathered.{actual_made, actuals_next, component_made, item_there, values_next}
use Rattle.al_overload_nodes.proofs.TermKinds.{attribute_is, kept_is, many_indexes, member_is, member_model, read_by, selected_model}
use Rattle.al_overload_nodes.proofs.Wholes.{applied_is, applied_model, object_element_is, range_member_model, three_made}
use Rattle.al_overload_nodes.proofs.reading.+reading.Goals as goal

pub read-returns-in-Member : goal.read-returns-in-Member
read-returns-in-Member t c =
    member_model c.args.labeller.now.predefined c.args.labeller.now.own c.args.term.now c.in-Member.value c.in-Member.is_negated c.in-Member.subtype (label_of c.args.label.now) c.args.types.now c.args.at.now
    c.deref-in-Member.result.now c.read_member.result c.in-Member.is c.deref-in-Member.ensures c.read_member.ensures

pub read_attribute-returns : goal.read_attribute-returns
read_attribute-returns t c =
    attribute_is c.args.labeller.now.predefined c.args.labeller.now.own c.args.place c.args.conversion c.args.subtype.now (term_model c.args.argument.now) (label_of c.args.label.now) c.args.types.now c.args.at.now
    c.argument_type-of.result.now _ c.attribute_reading.result c.argument_type-of.ensures
    (c.in_ok-argument.ensures ∙ ap (λ (o : Option Label). labelled c.args.place (λ l. reading c.args.labeller.now.predefined c.args.labeller.now.own (term_model c.args.argument.now) l c.args.subtype.now.types c.argument_type-of.result.now) o) c.operand_label-first_label.ensures)
    c.attribute_reading.ensures

pub read_index-returns-in-len2-up : goal.read_index-returns-in-len2-up
read_index-returns-in-len2-up t c =
    many_indexes c.args.labeller.now.predefined c.args.labeller.now.own c.args.place c.args.position (label_of c.args.label.now) c.args.types.now c.args.at.now c.args.arguments.now _
    c.in-len2-up.len_at_least c.misfit-in-len2-up.ensures

pub read_member-returns : goal.read_member-returns
read_member-returns t c =
    member_is c.args.labeller.now.predefined c.args.labeller.now.own (term_model c.args.value.now) c.args.is_negated c.args.subtype.now (label_of c.args.label.now) c.first_place-place.result _
    c.in_mark_reading.result c.first_place-place.ensures
    (c.in_ok-value.ensures ∙ ap (λ (o : Option Label). labelled c.first_place-place.result (λ l. reading c.args.labeller.now.predefined c.args.labeller.now.own (term_model c.args.value.now) l c.args.subtype.now.types c.args.subtype.now.subtype.base) o) c.operand_label-first_label.ensures)
    c.in_mark_reading.ensures

pub read_actual-returns : goal.read_actual-returns
read_actual-returns t c =
    actual_made c.add_actual.result c.args.subprogram.now (option_map (λ l. label_of l.now) c.args.label) c.args.position (actuals_model c.args.actuals.now) (actuals_model c.add_actual.new.actuals) (first_place (term_model c.args.argument.now))
    (option_map_or (variable_as (term_model c.args.argument.now)) (option_map (λ l. label_of l.now) c.args.label) false)
    (λ l of. reading c.args.labeller.now.predefined c.args.labeller.now.own (term_model c.args.argument.now) l c.args.subprogram.now.types of)
    c.in-Some.parameter.now c.first_place-place.result c.range_in-range.result c.variable_at-is_variable.result (reading_model c.in_ok-value.value)
    (item_there c.args.subprogram.now.profile.parameters c.as_slice.result.now c.args.position c.get.result c.in-Some.parameter c.as_slice.ensures c.get.ensures.lookup c.in-Some.is) c.first_place-place.ensures c.range_in-range.ensures c.variable_at-is_variable.ensures
    c.in_ok-value.ensures c.add_actual.ensures

pub read_value-returns : goal.read_value-returns
read_value-returns t c =
    component_made c.add_value.result c.args.types.now c.args.at.now (option_map (λ l. label_of l.now) c.args.label) c.args.position (values_model c.args.values.now) (values_model c.add_value.new.values) (first_place (term_model c.args.component.now))
    (λ l of. reading c.args.labeller.now.predefined c.args.labeller.now.own (term_model c.args.component.now) l c.args.types.now of)
    c.in-Some.subtype.now c.first_place-place.result c.range_in-range.result (reading_model c.in_ok-value.value)
    (sym c.component_of_type.ensures ∙ ap option_copied c.in-Some.is) c.first_place-place.ensures c.range_in-range.ensures
    c.in_ok-value.ensures c.add_value.ensures

pub read_object_element-returns : goal.read_object_element-returns
read_object_element-returns t c =
    object_element_is c.args.labeller.now.predefined c.args.labeller.now.own c.args.place c.args.object.now c.args.arguments.now (label_of c.args.label.now) (reading_model c.in_ok-whole.whole) c.read_element.result c.in_ok-whole.ensures c.read_element.ensures

pub read-returns-in_ok-value-in-RangeMember : goal.read-returns-in_ok-value-in-RangeMember
read-returns-in_ok-value-in-RangeMember t c =
    let all = three_made (λ (r : Box Reading Global). reading_model r.value ≡ (operand_read c.args.labeller.now.predefined c.args.labeller.now.own c.first_place-place-in-RangeMember.result 0 (term_model c.deref-in-RangeMember-5.result.now) (label_of c.args.label.now) c.types_of_test.result.0.now c.types_of_test.result.1.now))
    (λ (r : Box Reading Global). reading_model r.value ≡ (operand_read c.args.labeller.now.predefined c.args.labeller.now.own c.first_place-place-in-RangeMember.result 1 (term_model c.deref-in-RangeMember-6.result.now) (label_of c.args.label.now) c.types_of_test.result.0.now c.types_of_test.result.1.now))
    (λ (r : Box Reading Global). reading_model r.value ≡ (operand_read c.args.labeller.now.predefined c.args.labeller.now.own c.first_place-place-in-RangeMember.result 2 (term_model c.deref-in-RangeMember-7.result.now) (label_of c.args.label.now) c.types_of_test.result.0.now c.types_of_test.result.1.now))
    c.read_kept-value.result c.read_kept-low.result c.read_kept-high.result c.together.result c.together-in-RangeMember.result
    c.in_ok-value-in-RangeMember.value c.in_ok-value-in-RangeMember.low c.in_ok-value-in-RangeMember.high
    c.together.ensures c.together-in-RangeMember.ensures c.in_ok-value-in-RangeMember.was c.read_kept-value.ensures c.read_kept-low.ensures c.read_kept-high.ensures in
    range_member_model c.args.labeller.now.predefined c.args.labeller.now.own c.args.term.now c.in-RangeMember.value c.in-RangeMember.is_negated c.in-RangeMember.low c.in-RangeMember.high (label_of c.args.label.now) c.args.types.now c.types_of_test.result.0.now c.args.at.now c.types_of_test.result.1.now c.first_place-place-in-RangeMember.result
    (reading_model c.in_ok-value-in-RangeMember.value.value) (reading_model c.in_ok-value-in-RangeMember.low.value) (reading_model c.in_ok-value-in-RangeMember.high.value) c.membership_of.result
    c.in-RangeMember.is (c.first_place-place-in-RangeMember.ensures ∙ ap (λ (x : Term). first_place (term_model x)) c.deref-in-RangeMember.ensures)
    (c.types_of_test.ensures.types ∙ ap (λ (x : Term). types_in c.args.types.now (test_type c.args.labeller.now.predefined (term_model x) (term_model c.deref-in-RangeMember-3.result.now) (term_model c.deref-in-RangeMember-4.result.now) (label_of c.args.label.now))) c.deref-in-RangeMember-2.ensures ∙ ap (λ (x : Term). types_in c.args.types.now (test_type c.args.labeller.now.predefined (term_model c.in-RangeMember.value.value) (term_model x) (term_model c.deref-in-RangeMember-4.result.now) (label_of c.args.label.now))) c.deref-in-RangeMember-3.ensures ∙ ap (λ (x : Term). types_in c.args.types.now (test_type c.args.labeller.now.predefined (term_model c.in-RangeMember.value.value) (term_model c.in-RangeMember.low.value) (term_model x) (label_of c.args.label.now))) c.deref-in-RangeMember-4.ensures)
    (c.types_of_test.ensures.of ∙ ap (λ (x : Term). (test_type c.args.labeller.now.predefined (term_model x) (term_model c.deref-in-RangeMember-3.result.now) (term_model c.deref-in-RangeMember-4.result.now) (label_of c.args.label.now)).of) c.deref-in-RangeMember-2.ensures ∙ ap (λ (x : Term). (test_type c.args.labeller.now.predefined (term_model c.in-RangeMember.value.value) (term_model x) (term_model c.deref-in-RangeMember-4.result.now) (label_of c.args.label.now)).of) c.deref-in-RangeMember-3.ensures ∙ ap (λ (x : Term). (test_type c.args.labeller.now.predefined (term_model c.in-RangeMember.value.value) (term_model c.in-RangeMember.low.value) (term_model x) (label_of c.args.label.now)).of) c.deref-in-RangeMember-4.ensures)
    (all.0 ∙ ap (λ (x : Term). operand_read c.args.labeller.now.predefined c.args.labeller.now.own c.first_place-place-in-RangeMember.result 0 (term_model x) (label_of c.args.label.now) c.types_of_test.result.0.now c.types_of_test.result.1.now) c.deref-in-RangeMember-5.ensures)
    (all.1.0 ∙ ap (λ (x : Term). operand_read c.args.labeller.now.predefined c.args.labeller.now.own c.first_place-place-in-RangeMember.result 1 (term_model x) (label_of c.args.label.now) c.types_of_test.result.0.now c.types_of_test.result.1.now) c.deref-in-RangeMember-6.ensures)
    (all.1.1 ∙ ap (λ (x : Term). operand_read c.args.labeller.now.predefined c.args.labeller.now.own c.first_place-place-in-RangeMember.result 2 (term_model x) (label_of c.args.label.now) c.types_of_test.result.0.now c.types_of_test.result.1.now) c.deref-in-RangeMember-7.ensures)
    c.membership_of.ensures

pub read_other-returns : goal.read_other-returns
read_other-returns t c = kept_is _ c.read-reading.result c.kept.result c.read-reading.ensures c.kept.ensures

pub read_actuals-loop-position-preserved : goal.read_actuals-loop-position-preserved
read_actuals-loop-position-preserved t c = (
  actuals_next c.args.labeller.now.predefined c.args.labeller.now.own c.args.subprogram.now (label_of c.args.label.now) c.args.arguments.now c.loop-position.position c.index-arguments-position.result (actuals_model c.loop-position.actuals) (actuals_model c.read_actual.new.actuals)
      (actuals_read c.args.labeller.now.predefined c.args.labeller.now.own c.args.subprogram.now (label_of c.args.label.now) 0 no_parts (terms_of (map term_model c.args.arguments.now)))
      (labels_of c.loop-position.labels.now) (option_map (λ l. label_of l.now) c.next_label-one.result)
      c.loop-position.invariant.0 c.loop-position.invariant.1 c.next_label-one.ensures c.loop-position-test.true c.index-arguments-position.is c.in_ok-read_actual.ensures,
  after_is c.loop-position.position (operand_labels (label_of c.args.label.now)) (labels_of c.loop-position.labels.now) _ c.loop-position.invariant.1 c.labels_after-labels.ensures,
)

pub read_values-loop-position-preserved : goal.read_values-loop-position-preserved
read_values-loop-position-preserved t c = (
  values_next c.args.labeller.now.predefined c.args.labeller.now.own c.args.types.now c.args.at.now (label_of c.args.label.now) c.args.components.now c.loop-position.position c.index-components-position.result (values_model c.loop-position.values) (values_model c.read_value.new.values)
      (values_read c.args.labeller.now.predefined c.args.labeller.now.own c.args.types.now c.args.at.now (label_of c.args.label.now) 0 no_parts (terms_of (map term_model c.args.components.now)))
      (labels_of c.loop-position.labels.now) (option_map (λ l. label_of l.now) c.next_label-one.result)
      c.loop-position.invariant.0 c.loop-position.invariant.1 c.next_label-one.ensures c.loop-position-test.true c.index-components-position.is c.in_ok-read_value.ensures,
  after_is c.loop-position.position (operand_labels (label_of c.args.label.now)) (labels_of c.loop-position.labels.now) _ c.loop-position.invariant.1 c.labels_after-labels.ensures,
)

-- ---- steps down a chain of operators

pub step-step_infix-requires : goal.step-step_infix-requires
step-step_infix-requires t c = let a = ap size-Term c.in-Infix.is in let b = ap size-Term c.deref.ensures in (
  omega (arith, c.decreases, sized-Infix c.in-Infix.operator c.in-Infix.views c.in-Infix.left c.in-Infix.right, a, b),
  (
    infix_begins c.args.term.now c.deref-in-Infix.result.now c.in-Infix.operator c.in-Infix.views c.in-Infix.left c.in-Infix.right c.args.place c.in-Infix.is c.deref-in-Infix.ensures c.requires.begins,
    infix_known c.args.term.now c.deref-in-Infix.result.now c.deref.result.now c.in-Infix.operator c.in-Infix.views c.in-Infix.left c.in-Infix.right c.args.known c.in-Infix.is c.deref-in-Infix.ensures c.deref.ensures c.requires.known,
  ),
)

pub step-step_short_circuit-requires : goal.step-step_short_circuit-requires
step-step_short_circuit-requires t c = let a = ap size-Term c.in-ShortCircuit.is in let b = ap size-Term c.deref-in-ShortCircuit.ensures in (
  omega (arith, c.decreases, sized-ShortCircuit c.in-ShortCircuit.form c.in-ShortCircuit.left c.in-ShortCircuit.right, a, b),
  short_circuit_begins c.args.term.now c.deref-in-ShortCircuit-2.result.now c.in-ShortCircuit.form c.in-ShortCircuit.left c.in-ShortCircuit.right c.args.place c.in-ShortCircuit.is c.deref-in-ShortCircuit-2.ensures c.requires.begins,
)

pub step-returns-in-Infix-clause-below : goal.step-returns-in-Infix-clause-below
step-returns-in-Infix-clause-below t c =
    infix_below c.args.term.now c.deref-in-Infix.result.now c.in-Infix.operator c.in-Infix.views c.in-Infix.left c.in-Infix.right c.step_infix.result c.in-Infix.is c.deref-in-Infix.ensures c.step_infix.ensures.at

pub step-returns-in-ShortCircuit-clause-below : goal.step-returns-in-ShortCircuit-clause-below
step-returns-in-ShortCircuit-clause-below t c =
    short_circuit_below c.args.term.now c.deref-in-ShortCircuit-2.result.now c.in-ShortCircuit.form c.in-ShortCircuit.left c.in-ShortCircuit.right c.step_short_circuit.result c.in-ShortCircuit.is c.deref-in-ShortCircuit-2.ensures c.step_short_circuit.ensures.at

pub step-step_selected-requires : goal.step-step_selected-requires
step-step_selected-requires t c =
    selected_begins c.args.term.now c.deref-in-Selected.result.now c.in-Selected.prefix c.in-Selected.name c.args.place c.in-Selected.is c.deref-in-Selected.ensures c.requires.begins

pub step-returns-in-Selected-clause-below : goal.step-returns-in-Selected-clause-below
step-returns-in-Selected-clause-below t c =
    selected_below c.args.term.now c.deref-in-Selected.result.now c.in-Selected.prefix c.in-Selected.name c.step_selected.result c.in-Selected.is c.deref-in-Selected.ensures c.step_selected.ensures.at

pub step-returns-in-Applied-clause-read : goal.step-returns-in-Applied-clause-read
step-returns-in-Applied-clause-read t c =
    step_by c.args.labeller.now.predefined c.args.labeller.now.own c.args.place _ _ c.step_applied.result
    (applied_model c.args.labeller.now.predefined c.args.labeller.now.own c.args.term.now c.in-Applied.name c.in-Applied.arguments c.deref-in-Applied.result.now c.as_slice-arguments.result.now (label_of c.args.label.now) c.args.types.now c.args.at.now c.args.place
    c.in-Applied.is c.deref-in-Applied.ensures c.as_slice-arguments.ensures.value
    (applied_begins c.args.term.now c.deref-in-Applied.result.now c.in-Applied.name c.in-Applied.arguments c.args.place c.in-Applied.is c.deref-in-Applied.ensures c.requires.begins))
    c.step_applied.ensures.read

pub step-returns-in-Applied-clause-below : goal.step-returns-in-Applied-clause-below
step-returns-in-Applied-clause-below t c =
    applied_below c.args.term.now c.deref-in-Applied.result.now c.in-Applied.name c.in-Applied.arguments c.step_applied.result c.in-Applied.is c.deref-in-Applied.ensures c.step_applied.ensures.at

pub step_applied-returns-in-CallOf-clause-read : goal.step_applied-returns-in-CallOf-clause-read
step_applied-returns-in-CallOf-clause-read t c =
    last_read c.args.labeller.now.predefined c.args.labeller.now.own c.args.place _ _ c.read_call-reading.result c.last.result
    (applied_is c.args.labeller.now.predefined c.args.labeller.now.own c.args.place (term_model c.args.name.now) (terms_of (map term_model c.args.arguments.now)) (label_of c.args.label.now) c.args.types.now c.args.at.now (CallOf c.in-CallOf.subprogram.now) c.in-CallOf.ensures)
    c.read_call-reading.ensures c.last.ensures

pub step_applied-returns-in-CallOf-clause-at : goal.step_applied-returns-in-CallOf-clause-at
step_applied-returns-in-CallOf-clause-at t c = last_at c.args.name.now c.read_call-reading.result c.last.result c.last.ensures

pub step_applied-returns-in-ElementOf-clause-read : goal.step_applied-returns-in-ElementOf-clause-read
step_applied-returns-in-ElementOf-clause-read t c =
    last_read c.args.labeller.now.predefined c.args.labeller.now.own c.args.place _ _ c.read_object_element-reading.result c.last-in-ElementOf.result
    (applied_is c.args.labeller.now.predefined c.args.labeller.now.own c.args.place (term_model c.args.name.now) (terms_of (map term_model c.args.arguments.now)) (label_of c.args.label.now) c.args.types.now c.args.at.now (ElementOf c.in-ElementOf.object.now) c.in-ElementOf.ensures)
    c.read_object_element-reading.ensures c.last-in-ElementOf.ensures

pub step_applied-returns-in-ElementOf-clause-at : goal.step_applied-returns-in-ElementOf-clause-at
step_applied-returns-in-ElementOf-clause-at t c = last_at c.args.name.now c.read_object_element-reading.result c.last-in-ElementOf.result c.last-in-ElementOf.ensures

pub step_applied-returns-in-ElementOfPart-clause-read : goal.step_applied-returns-in-ElementOfPart-clause-read
step_applied-returns-in-ElementOfPart-clause-read t c =
    step_by c.args.labeller.now.predefined c.args.labeller.now.own c.args.place _ _ c.step_index.result
    (applied_is c.args.labeller.now.predefined c.args.labeller.now.own c.args.place (term_model c.args.name.now) (terms_of (map term_model c.args.arguments.now)) (label_of c.args.label.now) c.args.types.now c.args.at.now (ElementOfPart (nominal c.in-ElementOfPart.part.now c.in-ElementOfPart.subtype.now)) c.in-ElementOfPart.ensures)
    c.step_index.ensures.read

pub step_applied-returns-in-Misapplied-clause-read : goal.step_applied-returns-in-Misapplied-clause-read
step_applied-returns-in-Misapplied-clause-read t c =
    last_read c.args.labeller.now.predefined c.args.labeller.now.own c.args.place _ _ c.unfit.result c.last-in-Misapplied.result
    (applied_is c.args.labeller.now.predefined c.args.labeller.now.own c.args.place (term_model c.args.name.now) (terms_of (map term_model c.args.arguments.now)) (label_of c.args.label.now) c.args.types.now c.args.at.now Misapplied c.in-Misapplied.ensures)
    c.unfit.ensures c.last-in-Misapplied.ensures

pub step_applied-returns-in-Misapplied-clause-at : goal.step_applied-returns-in-Misapplied-clause-at
step_applied-returns-in-Misapplied-clause-at t c = last_at c.args.name.now c.unfit.result c.last-in-Misapplied.result c.last-in-Misapplied.ensures

pub read-returns-in_ok-step-in-Selected : goal.read-returns-in_ok-step-in-Selected
read-returns-in_ok-step-in-Selected t c =
    selected_model c.args.labeller.now.predefined c.args.labeller.now.own c.args.term.now c.in-Selected.prefix c.in-Selected.name (label_of c.args.label.now) c.args.types.now c.args.at.now
    c.deref-in-Selected.result.now c.as_slice-in-Selected.result.now c.read_step.result
    c.in-Selected.is c.deref-in-Selected.ensures c.as_slice-in-Selected.ensures
    (read_by c.read_step.result (stepped c.args.labeller.now.predefined c.args.labeller.now.own c.first_place-place.result c.in_ok-step-in-Selected.step)
    (reading c.args.labeller.now.predefined c.args.labeller.now.own (trees.SelectedTerm (term_model c.deref-in-Selected.result.now) c.as_slice-in-Selected.result.now) (label_of c.args.label.now) c.args.types.now c.args.at.now)
    c.in_ok-step-in-Selected.ensures.read c.read_step.ensures)

pub read-returns-in_ok-step-in-Applied : goal.read-returns-in_ok-step-in-Applied
read-returns-in_ok-step-in-Applied t c =
    read_by c.read_step-in-Applied.result (stepped c.args.labeller.now.predefined c.args.labeller.now.own c.first_place-place-in-Applied.result c.in_ok-step-in-Applied.step)
    (reading c.args.labeller.now.predefined c.args.labeller.now.own (term_model c.args.term.now) (label_of c.args.label.now) c.args.types.now c.args.at.now)
    (c.in_ok-step-in-Applied.ensures.read
    ∙ applied_model c.args.labeller.now.predefined c.args.labeller.now.own c.args.term.now c.in-Applied.name c.in-Applied.arguments c.deref-in-Applied-2.result.now c.as_slice-arguments.result.now (label_of c.args.label.now) c.args.types.now c.args.at.now c.first_place-place-in-Applied.result
    c.in-Applied.is c.deref-in-Applied-2.ensures c.as_slice-arguments.ensures.value
    (c.first_place-place-in-Applied.ensures ∙ ap (λ (x : Term). first_place (term_model x)) (c.deref-in-Applied.ensures ∙ sym c.deref-in-Applied-2.ensures)))
    c.read_step-in-Applied.ensures

pub kept_index-returns : goal.kept_index-returns
kept_index-returns t c = kept_is _ c.read_index-reading.result c.kept.result c.read_index-reading.ensures c.kept.ensures

pub read_boxed-loop-joints-preserved : goal.read_boxed-loop-joints-preserved
read_boxed-loop-joints-preserved t c =
    let p = c.args.labeller.now.predefined in let own = c.args.labeller.now.own in let place = c.first_place-place.result in
    let P : Step → Type 0 = λ s. IsBelow c.loop-joints.rest.now s in let below = subst P c.in-Down.is c.in_ok-joint.ensures.below in (
      longer p place c.loop-joints.joints.items c.push.new.self.items c.in-Down.joint
          (reading p own (term_model c.loop-joints.rest.now) (label_of c.loop-joints.label.now) c.loop-joints.types.now c.loop-joints.at.now)
          (reading p own (term_model c.in-Down.left.now) (label_of c.in-Down.left_label.now) c.in-Down.among.now c.in-Down.of.now)
          (reading p own (term_model c.args.term.now) (label_of c.args.label.now) c.args.types.now c.args.at.now)
          c.in_ok-push-in-Down.ensures.items
          (ap (λ (s : Step). stepped p own place s) (sym c.in-Down.is) ∙ c.in_ok-joint.ensures.read)
          c.loop-joints.invariant.0,
      c.loop-joints.invariant.1 ∙ sym below.1,
      omega (arith, below.0, c.loop-joints.invariant.2),
      below.2,
    )
