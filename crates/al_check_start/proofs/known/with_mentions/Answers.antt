use Rattle.std.proofs.Common.{◌∙◌, ◌++◌, List, ap, sym, subst}
use Rattle.std.specs.List.{flat_map}
use Rattle.al_base.specs.declared.unit_key.UnitKey.{UnitKey}
use Rattle.al_query.specs.Asked.{by_property}
use Rattle.al_query.specs.Known.{AreKnown, known_after}
use Rattle.al_query.proofs.AskLemmas.{asks_of-known, asks_of-left, asks_of-right, asks_of-same}
use Rattle.al_unit_graph.specs.Views.{header_model}
use Rattle.al_check_start.specs.Starts.{half_of, mentions_of, own_mentions}
use Rattle.al_check_start.proofs.Knowing.{asks-both, known-asked, known-join}
use Rattle.al_check_start.proofs.known.with_mentions.Goals as goal

pub returns-clause-answered : goal.returns-clause-answered
returns-clause-answered g c t h =
    let more = c.in_ok-more.ensures.answered t h in
    let first = c.in_ok-halves.ensures.answered t more.0 in
    let named = c.in_ok-mentioned.ensures.answered t first.0 in
    let own = c.args.own.now in
    let half : UnitKey → List UnitKey = half_of t own in
    let us = c.args.units.items in
    let mentions = flat_map (mentions_of t own) us in
    let mentioned = named.1 ∙ ap (flat_map (mentions_of t own)) c.as_slice.ensures.value in
    let halves = first.1 ∙ ap (flat_map half) (c.as_slice-2.ensures.value ∙ c.in_ok-first.ensures) in
    let others = more.1 ∙ ap (flat_map half) (c.as_slice-3.ensures.value ∙ mentioned) in
    let own_halves = flat_map half (own_mentions (header_model c.args.header.now)) in
    let both = ap (λ (l : List UnitKey). l ++ c.in_ok-more.more.items) halves ∙ ap (λ (l : List UnitKey). own_halves ++ l) others in
    let all = ap (λ (l : List UnitKey). l ++ (c.in_ok-halves.halves.items ++ c.in_ok-more.more.items)) mentioned ∙ ap (λ (l : List UnitKey). mentions ++ l) both in
    (named.0, c.in_ok-found.ensures ∙ ap (λ (l : List UnitKey). us ++ l) all)

pub returns-clause-asks : goal.returns-clause-asks
returns-clause-asks g c =
    let own = own_mentions (header_model c.args.header.now) in
    let us = c.args.units.items in
    let base = own ++ us in
    let start = c.args.recorder.now.log in
    let one = c.mentions_of_each.new.recorder.log in
    let two = c.halves_of.new.recorder.log in
    let end = c.halves_of-2.new.recorder.log in
    let slice = c.as_slice-3.result.now in
    let first = asks_of-right own us by_property start one (asks_of-same c.as_slice.result.now us by_property start one c.as_slice.ensures.value c.in_ok-mentioned.ensures.asks) in
    let second = asks_of-left own us by_property one two (asks_of-same c.as_slice-2.result.now own by_property one two (c.as_slice-2.ensures.value ∙ c.in_ok-first.ensures) c.in_ok-halves.ensures.asks) in
    let learned = known-asked base base c.in_ok-mentioned.mentioned.items one two second (c.in_ok-mentioned.ensures.learned base) in
    let known = subst (λ (l : List UnitKey). AreKnown (known_after base two) l) (sym c.as_slice-3.ensures.value) learned in
    let third = asks_of-known slice base by_property two end known c.in_ok-more.ensures.asks in
    asks-both base start two end (asks-both base start one two first second) third

pub returns-clause-known : goal.returns-clause-known
returns-clause-known g c known before =
    let us = c.args.units.items in
    let mentioned = c.in_ok-mentioned.mentioned.items in
    let halves = c.in_ok-halves.halves.items in
    let more = c.in_ok-more.more.items in
    let start = c.args.recorder.now.log in
    let one = c.mentions_of_each.new.recorder.log in
    let two = c.halves_of.new.recorder.log in
    let end = c.halves_of-2.new.recorder.log in
    let now = known_after known end in
    let first = c.in_ok-mentioned.ensures.asks in
    let second = c.in_ok-halves.ensures.asks in
    let third = c.in_ok-more.ensures.asks in
    let later_us = known-asked c.as_slice-3.result.now known us two end third (known-asked c.as_slice-2.result.now known us one two second (known-asked c.as_slice.result.now known us start one first before)) in
    let later_mentioned = known-asked c.as_slice-3.result.now known mentioned two end third (known-asked c.as_slice-2.result.now known mentioned one two second (c.in_ok-mentioned.ensures.learned known)) in
    let later_halves = known-asked c.as_slice-3.result.now known halves two end third (c.in_ok-halves.ensures.learned known) in
    let both = known-join now halves more later_halves (c.in_ok-more.ensures.learned known) in
    let all = known-join now mentioned (halves ++ more) later_mentioned both in
    subst (λ (l : List UnitKey). AreKnown now l) (sym c.in_ok-found.ensures) (known-join now us (mentioned ++ (halves ++ more)) later_us all)
