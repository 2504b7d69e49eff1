use Rattle.std.proofs.Common.{◌∙◌}
use Rattle.al_unit_graph.specs.Views.{header_model}
use Rattle.al_view_typed.specs.UnitTrees.{unit_model}
use Rattle.al_query.specs.Asked.{OfKnown}
use Rattle.al_query.proofs.AskLemmas.{asks_then}
use Rattle.al_query_outcome.specs.Tables.{interface_of}
use Rattle.al_check_bounded.specs.Bounding.{allowed, bounded}
use Rattle.al_check_bounded.proofs.LeftLemmas.{completed_is}
use Rattle.al_check_bounded.proofs.left.completed_by.Goals as goal

pub returns-clause-answered : goal.returns-clause-answered
returns-clause-answered g c t h =
    let b = c.args.bounds.now in
    let declares = c.in_ok-declares.ensures.answered t h in
    let left = c.in_ok-left.ensures.answered t declares.0 in (
      left.0,
      c.both-is_complete.ensures
          ∙ completed_is b (header_model c.args.header.now) (interface_of c.args.sound.now.properties c.args.sound.now.parts) (unit_model c.args.sound.now.tree) (bounded b t) c.as_slice-views.result.now
          c.in_ok-left.left.is_learned c.in_ok-declares.declares c.in_ok-complete.complete left.1.1 (c.as_slice-views.ensures ∙ left.1.0) declares.1 c.in_ok-complete.ensures,
    )

pub returns-clause-asks : goal.returns-clause-asks
returns-clause-asks g c =
    let b = c.args.bounds.now in
    asks_then (OfKnown b.known (allowed b)) c.args.recorder.now.log c.left_to.new.recorder.log c.declares_itself.new.recorder.log c.in_ok-left.ensures.asks c.in_ok-declares.ensures.asks

pub returns-clause-others : goal.returns-clause-others
returns-clause-others g c before = c.in_ok-declares.ensures.others (c.in_ok-left.ensures.others before)
