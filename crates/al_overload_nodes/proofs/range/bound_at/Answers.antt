use Rattle.std.proofs.Common.{Option, ap, ◌∙◌}
use Rattle.al_overload.specs.Counts.{label_of}
use Rattle.al_overload.specs.Labelling.{Label}
use Rattle.al_overload_nodes.specs.Readings.{reading}
use Rattle.al_overload_nodes.specs.Leaves.{labelled}
use Rattle.al_overload_nodes.proofs.PairMade.{bound_is}
use Rattle.al_overload_nodes.proofs.range.bound_at.Goals as goal
use Rattle.al_overload_nodes.specs.Views.{reading_model}
use Rattle.al_overload.specs.TermViews.{term_model}
use Rattle.al_overload_nodes.specs.Seen.{told_model}
use Rattle.al_base_fault.specs.Judging.{map_ok}
use Rattle.al_view_typed.specs.ExpressionViews.{typed_model}

pub returns : goal.returns
returns c =
    bound_is c.args.labeller.now.predefined c.args.labeller.now.own c.args.expected c.args.types.now c.types_in-among.result.now (term_model c.args.low.now) (term_model c.args.bound.now) c.args.position (label_of c.args.label.now) (told_model c.args.determined.now)
    c.first_place-2.result c.first_place.result (reading_model c.in_ok-reading.reading) (map_ok typed_model c.checked_as.result)
    c.first_place-2.ensures c.first_place.ensures c.types_in-among.ensures
    (c.in_ok-reading.ensures ∙ ap (λ (o : Option Label). labelled c.first_place.result (λ l. reading c.args.labeller.now.predefined c.args.labeller.now.own (term_model c.args.bound.now) l c.types_in-among.result.now c.args.determined.now.of.now) o) c.operand_label-own_label.ensures)
    c.checked_as.ensures
