use Rattle.std.proofs.Common.{◌∙◌, List, ap, sym, subst}
use Rattle.std.specs.List.{flat_map}
use Rattle.al_base.specs.declared.unit_key.UnitKey.{UnitKey}
use Rattle.al_query_outcome.specs.ReadsLaw.{named_by, own_names}
use Rattle.al_query.specs.Asked.{by_property}
use Rattle.al_query.specs.Known.{AreKnown, known_after}
use Rattle.al_query.proofs.AskLemmas.{asks_of-known, asks_of-units}
use Rattle.al_unit_graph.specs.Views.{header_model}
use Rattle.al_check_start.specs.PrivateNames.{names_known, names_of}
use Rattle.al_check_start.specs.Starts.{with_halves}
use Rattle.al_check_start.proofs.Knowing.{asks-both, known-among, own-named}
use Rattle.al_check_start.proofs.private_names.names_known.Goals as goal

pub returns-clause-answered : goal.returns-clause-answered
unfolding names_known
returns-clause-answered g c t h =
    let names = c.in_ok-names.ensures.answered t h in
    let both = c.in_ok-both.ensures.answered t names.0 in
    let round = c.in_ok-round.ensures.answered t both.0 in
    let own = c.args.unit.now in
    (round.0, names.1 ∙ ap (flat_map (names_of t own)) (c.as_slice.ensures.value ∙ both.1 ∙ ap (with_halves t own) round.1))

pub returns-clause-asks : goal.returns-clause-asks
returns-clause-asks g c =
    let head = header_model c.args.header.now in
    let base = named_by head in
    let own = own_names head head.parent_body in
    let start = c.args.recorder.now.log in
    let one = c.units_round.new.recorder.log in
    let two = c.with_halves.new.recorder.log in
    let end = c.names_of_each.new.recorder.log in
    let round = c.in_ok-round.round.items in
    let slice = c.as_slice.result.now in
    let known = known-among own base round one (own-named head) c.in_ok-round.ensures.known in
    let first = asks_of-units own base by_property start one (own-named head) c.in_ok-round.ensures.asks in
    let second = asks_of-known round base by_property one two known c.in_ok-both.ensures.asks in
    let both = subst (λ (l : List UnitKey). AreKnown (known_after base two) l) (sym c.as_slice.ensures.value) (c.in_ok-both.ensures.known base known) in
    let third = asks_of-known slice base by_property two end both c.in_ok-names.ensures.asks in
    asks-both base start two end (asks-both base start one two first second) third
