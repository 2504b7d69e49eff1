use Rattle.std.proofs.Common.{◌∙◌, List, refl, sym, subst}
use Rattle.std.specs.Str.{bytes_eq}
use Rattle.indexmap.specs.IndexSet.{insert_all}
use Rattle.al_base.specs.declared.unit_key.UnitKey.{UnitKey}
use Rattle.al_unit_graph.specs.Views.{header_model}
use Rattle.al_query.specs.Asked.{AsksOf, OfKnown, by_property}
use Rattle.al_query.specs.Known.{AreKnown, known_after}
use Rattle.al_query.specs.Reads.{Log}
use Rattle.al_query.proofs.AskLemmas.{asks_then}
use Rattle.al_query_outcome.specs.ReadsLaw.{AsksOthers, named_by}
use Rattle.al_query_outcome.specs.Words.{words_of}
use Rattle.al_check_bounded.proofs.Bounding.{made, same_bounds}
use Rattle.al_check_bounded.proofs.Grounds.{known_later}
use Rattle.al_check_bounded.proofs.checking.bounds_of.Goals as goal

pub returns-clause-bounds : goal.returns-clause-bounds
unfolding made
returns-clause-bounds g c =
    let head = header_model c.args.header.now in
    let mid = c.units_known.new.recorder.log in
    let log = c.names_of.new.recorder.log in
    let words = words_of c.args.text.now in
    let known = c.in_ok-known.ensures in
    let names = c.in_ok-names.ensures in
    let asks = asks_then (OfKnown (named_by head) by_property) c.args.recorder.now.log mid log known.asks names.asks in
    record {
      answered = λ t h.
          let tells = names.answered t h in
          let knows = known.answered t tells.0 in
          same_bounds c.in_ok-unit.unit c.args.unit.now _ (g.F.UnitFinder.units c.args.unit.now head t) c.in_ok-names.names (insert_all bytes_eq words (g.F.UnitFinder.names c.args.unit.now head t)) c.in_ok-unit.ensures
          (c.in_ok-units.ensures ∙ knows.1) tells.1;
      own = c.in_ok-unit.ensures;
      names_answered = names.names_answered;
      asks = subst (λ (x : Log). AsksOf (named_by head) by_property x log) c.requires.log asks;
      others = names.others (known.others (subst (λ (x : Log). AsksOthers c.args.unit.now x) (sym c.requires.log) refl));
      known = subst (λ (us : List UnitKey). AreKnown (known_after (named_by head) log) us) (sym c.in_ok-units.ensures)
          (known_later (named_by head) c.in_ok-known.known.items mid names.asks.0 log names.asks.1 known.known);
    }
