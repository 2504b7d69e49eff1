use Rattle.std.proofs.Common.{ap}
use Rattle.al_overload.specs.Counts.{label_of}
use Rattle.al_overload.specs.Labelling.{Label}
use Rattle.std.proofs.Common.{Option}
use Rattle.al_overload.specs.TermViews.{term_model}
use Rattle.al_overload_nodes.specs.Leaves.{labelled}
use Rattle.al_overload_nodes.specs.Readings.{reading}
use Rattle.al_overload_nodes.proofs.ChainLemmas.{selected_step}
use Rattle.al_overload_nodes.proofs.chain.step_selected.Goals as goal

pub returns-clause-read : goal.returns-clause-read
returns-clause-read c =
    selected_step c.args.labeller.now.predefined c.args.labeller.now.own (term_model c.args.prefix.now) c.args.name.now (label_of c.args.label.now) c.args.types.now c.args.at.now c.args.place _ _ c.down.result
    c.requires c.part_of-part.ensures
    (ap (λ (o : Option Label). labelled c.args.place (λ l. reading c.args.labeller.now.predefined c.args.labeller.now.own (term_model c.args.prefix.now) l c.args.types.now c.args.at.now) o) c.operand_label-first_label.ensures)
    c.down.ensures.read
