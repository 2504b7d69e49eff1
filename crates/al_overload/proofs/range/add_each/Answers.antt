use Rattle.std.proofs.Common.{◌++◌, ◌∙◌, map, ap, arith}
use Rattle.std.proofs.lemmas.List.{take_all}
use Rattle.al_overload.specs.Counts.{candidates, plain_all}
use Rattle.al_overload.specs.Ranges.{one_type}
use Rattle.al_overload.proofs.RangeLemmas.{map-next}
use Rattle.al_overload.proofs.range.add_each.Goals as goal

pub loop-of-preserved : goal.loop-of-preserved
loop-of-preserved c = (
  c.in_ok-add.ensures.candidates
      ∙ map-next (one_type c.args.root.now c.args.always.now (plain_all c.args.operands.now)) (candidates c.args.choices.now) (candidates c.loop-of.choices) c.args.types.now
      c.loop-of.of-index c.of-item.result c.in_ok-one_type.field-0 (omega arith) c.of-item.is c.in_ok-one_type.ensures c.loop-of.invariant.0,
  c.in_ok-add.ensures.counted,
)

pub returns-clause-candidates : goal.returns-clause-candidates
returns-clause-candidates c =
    c.loop-of.invariant.0
    ∙ ap (λ l. candidates c.args.choices.now ++ map (one_type c.args.root.now c.args.always.now (plain_all c.args.operands.now)) l)
    (take_all c.loop-of.of-index c.args.types.now (omega arith))
