use Rattle.std.proofs.Common.{sym, subst}
use Rattle.al_base.specs.declared.unit_key.UnitKey.{UnitKey}
use Rattle.al_unit_header.specs.Units as headers
use Rattle.al_tree.specs.UnitViews.{unit_model}
use Rattle.al_unit_graph.specs.Headers as plain
use Rattle.al_query.specs.Asked.{by_property}
use Rattle.al_query_outcome.specs.Defines.{DefinesParts}
use Rattle.al_query_outcome.specs.ReadsLaw.{AsksOthers, named_by}
use Rattle.al_query_outcome.specs.Results.{checked_model}
use Rattle.al_query_outcome.specs.Words.{words_of}
use Rattle.al_check_bounded.specs.Bounding.{allowed}
use Rattle.al_check_promises.specs.Laws.{Promised}
use Rattle.al_check_bounded.specs.Verdicts.{verdict_of}
use Rattle.al_check_bounded.specs.Within.{AreBounds}
use Rattle.al_check_bounded.proofs.Bounding.{means}
use Rattle.al_check_bounded.proofs.Grounds.{by_words, grounded}
use Rattle.al_check_bounded.proofs.Naming.{names_known}
use Rattle.al_check_bounded.proofs.checking.check_within.Goals as goal

pub returns-clause-checked : goal.returns-clause-checked
returns-clause-checked g c =
    let b = c.in_ok-bounds.bounds in
    let tree = unit_model c.args.tree.now in
    let h = headers.header_of (unit_model c.args.tree.now) in
    let is = c.requires.header in
    let one = c.bounds_of.new.recorder.log in
    let two = c.found_within.new.recorder.log in
    let three = c.concluded_within.new.recorder.log in
    let are : AreBounds (g.F.UnitFinder.units c.args.unit.now h) (g.F.UnitFinder.names c.args.unit.now h) h c.args.unit.now c.args.text.now one b =
    subst (λ (x : plain.Header). AreBounds (g.F.UnitFinder.units c.args.unit.now x) (g.F.UnitFinder.names c.args.unit.now x) x c.args.unit.now c.args.text.now c.bounds_of.new.recorder.log c.in_ok-bounds.bounds) is c.in_ok-bounds.ensures.bounds in
    let found = c.in_ok-found.ensures in
    let last = c.in_ok-checked.ensures in
    let named = named_by h in
    record {
      meaning = λ t a. let gives = last.answered t a in
          let finds = found.found t gives.0 in
          means g.F.UnitFinder.units g.F.UnitFinder.names g.F.UnitFinder.verdict c.args.unit.now c.args.text.now tree t b _ (verdict_of c.in_ok-found.found.finding) (checked_model c.in_ok-checked.checked) is (are.answered t finds.0) finds.1 gives.1;
      grounded = grounded named b.known by_property (allowed b) one two three are.asks are.known found.asks last.asks;
      names = names_known named c.args.unit.now three (checked_model c.in_ok-checked.checked) (last.names named found.names);
      promised = subst (λ (u : UnitKey). Promised u three (checked_model c.in_ok-checked.checked)) are.own (last.promised found.faults);
      parts = λ t a. subst (λ (u : UnitKey). DefinesParts u h t (checked_model c.in_ok-checked.checked)) are.own
          (subst (λ (x : plain.Header). DefinesParts c.in_ok-bounds.bounds.unit x t (checked_model c.in_ok-checked.checked)) is (last.parts t a));
    }

pub returns-clause-others : goal.returns-clause-others
returns-clause-others g c =
    let are = c.in_ok-bounds.ensures.bounds in
    subst (λ (u : UnitKey). AsksOthers u c.concluded_within.new.recorder.log) are.own
    (c.in_ok-checked.ensures.others (c.in_ok-found.ensures.others (subst (λ (u : UnitKey). AsksOthers u c.bounds_of.new.recorder.log) (sym are.own) are.others)))

pub returns-clause-names : goal.returns-clause-names
returns-clause-names g c =
    let are = c.in_ok-bounds.ensures.bounds in
    by_words c.in_ok-bounds.bounds c.args.unit.now (words_of c.args.text.now) _ c.bounds_of.new.recorder.log c.found_within.new.recorder.log c.concluded_within.new.recorder.log
    are.own are.names_answered are.asks c.in_ok-found.ensures.asks c.in_ok-checked.ensures.asks

pub concluded_within-requires : goal.concluded_within-requires
concluded_within-requires g c t h = (c.in_ok-found.ensures.answered t h).1
