use Rattle.std.proofs.Common.{◌∙◌, ◌++◌, List, ap, sym, subst}
use Rattle.al_base.specs.declared.unit_key.UnitKey.{UnitKey}
use Rattle.al_query_outcome.specs.ReadsLaw.{named_by, own_names}
use Rattle.al_query.specs.Asked.{by_property}
use Rattle.al_query.specs.Known.{AreKnown, known_after}
use Rattle.al_query.proofs.AskLemmas.{asks_of-known, asks_of-units}
use Rattle.al_unit_graph.specs.Views.{header_model}
use Rattle.al_check_start.specs.Starts.{own_mentions, units_known, with_halves, with_mentions}
use Rattle.al_check_start.proofs.Knowing.{asks-both, known-among, known-join, known-own, mention-named, own-named}
use Rattle.al_check_start.proofs.known.units_known.Goals as goal

pub returns-clause-answered : goal.returns-clause-answered
unfolding units_known
returns-clause-answered g c t h =
    let found = c.in_ok-found.ensures.answered t h in
    let both = c.in_ok-both.ensures.answered t found.0 in
    let round = c.in_ok-round.ensures.answered t both.0 in
    let own = c.args.unit.now in
    let head = header_model c.args.header.now in
    let all = found.1 ∙ ap (with_mentions t own head) (both.1 ∙ ap (with_halves t own) round.1) in
    (round.0, c.in_ok-known.ensures ∙ ap (λ (l : List UnitKey). l ++ c.in_ok-found.found.items) c.in_ok-named.ensures ∙ ap (λ (l : List UnitKey). named_by head ++ l) all)

pub returns-clause-asks : goal.returns-clause-asks
returns-clause-asks g c =
    let head = header_model c.args.header.now in
    let base = named_by head in
    let own = own_names head head.parent_body in
    let start = c.args.recorder.now.log in
    let one = c.units_round.new.recorder.log in
    let two = c.with_halves.new.recorder.log in
    let end = c.with_mentions.new.recorder.log in
    let round = c.in_ok-round.round.items in
    let both = c.in_ok-both.both.items in
    let known = known-among own base round one (own-named head) c.in_ok-round.ensures.known in
    let first = asks_of-units own base by_property start one (own-named head) c.in_ok-round.ensures.asks in
    let second = asks_of-known round base by_property one two known c.in_ok-both.ensures.asks in
    let then_known = known-join (known_after base two) (own_mentions head) both (mention-named head two) (c.in_ok-both.ensures.known base known) in
    let third = asks_of-known (own_mentions head ++ both) base by_property two end then_known c.in_ok-found.ensures.asks in
    asks-both base start two end (asks-both base start one two first second) third

pub returns-clause-known : goal.returns-clause-known
returns-clause-known g c =
    let head = header_model c.args.header.now in
    let base = named_by head in
    let own = own_names head head.parent_body in
    let end = c.with_mentions.new.recorder.log in
    let known = known-among own base c.in_ok-round.round.items c.units_round.new.recorder.log (own-named head) c.in_ok-round.ensures.known in
    let both = c.in_ok-both.ensures.known base known in
    let found = c.in_ok-found.ensures.known base both in
    let is = c.in_ok-known.ensures ∙ ap (λ (l : List UnitKey). l ++ c.in_ok-found.found.items) c.in_ok-named.ensures in
    subst (λ (l : List UnitKey). AreKnown (known_after base end) l) (sym is)
    (known-join (known_after base end) base c.in_ok-found.found.items (known-own base end) found)
