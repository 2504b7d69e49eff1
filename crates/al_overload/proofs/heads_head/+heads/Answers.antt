use Rattle.std.proofs.Common.{rules, List, map, length, sym, ap, ◌∙◌}
use Rattle.std.specs.Option.{option_and_then}
use Rattle.al_overload.specs.Counts.{plain_all}
use Rattle.al_overload.specs.TermViews.{term_model, terms_of}
use Rattle.al_overload.specs.declared.heads_term.Term.{Term}
use Rattle.al_overload.specs.Aggregates.{positional}
use Rattle.al_overload.specs.HeadsHeads.{head_of, heads_of, possible}
use Rattle.al_overload.proofs.HeadsMade.{aggregate_built, head_by}
use Rattle.al_overload.proofs.Standing.{stands}
use Rattle.al_overload.proofs.heads_head.+heads.Goals as goal

pub alone-returns-in_ok-values-in-Aggregate-clause-head : goal.alone-returns-in_ok-values-in-Aggregate-clause-head
alone-returns-in_ok-values-in-Aggregate-clause-head t c stands =
    head_by c.aggregate.result
    (possible (option_and_then (positional c.len.result) c.args.allowed.now) (plain_all c.in_ok-values-in-Aggregate.values))
    (head_of c.args.predefined.now c.args.allowed.now (term_model c.args.term.now))
    (aggregate_built c.args.predefined.now c.args.allowed.now c.args.term.now c.in-Aggregate.place c.in-Aggregate.components c.len.result (plain_all c.in_ok-values-in-Aggregate.values)
    c.in-Aggregate.is
    (c.len.ensures ∙ sym c.as_slice-in-Aggregate.ensures.len ∙ ap length c.as_slice-in-Aggregate.ensures.value)
    (c.in_ok-values-in-Aggregate.ensures ∙ ap (λ (xs : List Term). heads_of c.args.predefined.now (terms_of (map term_model xs))) c.as_slice-in-Aggregate.ensures.value))
    c.aggregate.ensures.head

pub step-returns-in_ok-alone-in_default : goal.step-returns-in_ok-alone-in_default
step-returns-in_ok-alone-in_default t c =
    let alone = stands c.args.term.now c.in_default.not-Infix c.in_default.not-Concatenation c.in_default.not-ShortCircuit c.in_default.not-RangeMember c.in_default.not-Member c.in_default.not-Selected c.in_default.not-Applied in
    search (rules, alone)
