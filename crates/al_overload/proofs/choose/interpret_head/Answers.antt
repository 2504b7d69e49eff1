use Rattle.std.proofs.Common.{length, sym, ◌∙◌, ap}
use Rattle.al_overload.specs.Counts.{candidates, held_in, plain_all}
use Rattle.al_overload.specs.declared.term.Term.{Head}
use Rattle.al_overload.specs.Labelling.{Node, labellings, preferred, acceptable}
use Rattle.al_overload.proofs.Preferred.{acceptable_is_preferred}
use Rattle.al_overload.proofs.Counting.{held-counts, count-acceptable, empty-of, none-is, one-is, several-is}
use Rattle.al_overload.proofs.choose.interpret_head.Goals as goal

pub choose-requires-clause-one : goal.choose-requires-clause-one
choose-requires-clause-one c =
    one-is (length (preferred (Node (candidates c.args.choices.now) (plain_all c.args.operands.now)) c.args.expected.now))
    (sym (held-counts (Head c.args.choices.now c.args.operands.now) c.args.expected.now c.requires) ∙ (sym (c.ways_at.ensures ∙ ap (λ l. held_in l c.args.expected.now) c.as_slice.ensures) ∙ c.in-One.is))

pub returns-in-None : goal.returns-in-None
returns-in-None c =
    let all = acceptable (labellings (Node (candidates c.args.choices.now) (plain_all c.args.operands.now)) c.args.expected.now) in
    empty-of all (none-is (length all) (sym (count-acceptable c.args.choices.now c.args.operands.now c.args.expected.now c.requires) ∙ (sym (c.ways_at.ensures ∙ ap (λ l. held_in l c.args.expected.now) c.as_slice.ensures) ∙ c.in-None.is)))

pub returns-in_ok-labelled-in-One : goal.returns-in_ok-labelled-in-One
returns-in_ok-labelled-in-One c = acceptable_is_preferred (Node (candidates c.args.choices.now) (plain_all c.args.operands.now)) c.args.expected.now ∙ c.in_ok-labelled-in-One.ensures

pub returns-in-Several : goal.returns-in-Several
returns-in-Several c =
    let all = acceptable (labellings (Node (candidates c.args.choices.now) (plain_all c.args.operands.now)) c.args.expected.now) in
    several-is (length all) (sym (count-acceptable c.args.choices.now c.args.operands.now c.args.expected.now c.requires) ∙ (sym (c.ways_at.ensures ∙ ap (λ l. held_in l c.args.expected.now) c.as_slice.ensures) ∙ c.in-Several.is))
