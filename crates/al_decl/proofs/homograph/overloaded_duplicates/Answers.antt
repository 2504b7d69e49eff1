use Rattle.std.proofs.Common.{◌≡◌, List, [], ◌∷◌, Option, None, take, refl, ap, ◌∙◌, arith}
use Rattle.std.proofs.lemmas.List.{take_all}
use Rattle.al_decl_judged.specs.DefiningNames.{names_of}
use Rattle.al_decl_judged.specs.declared.names.DefiningName.{DefiningName}
use Rattle.al_base_fault.specs.Faults.{earlier}
use Rattle.al_base_fault.specs.declared.fault.Fault.{Fault}
use Rattle.al_query.proofs.AskLemmas.{asks_none, asks_of-wider, asks_then, by_name-wider}
use Rattle.al_query.specs.Asked.{OfKnown, by_name}
use Rattle.al_scope.specs.Places.{inner_parts, part_units}
use Rattle.al_decl.specs.Declaring.{overloaded_duplicate, overloaded_duplicates}
use Rattle.al_decl.proofs.Folds.{folded}
use Rattle.al_decl.proofs.Named.{one_among}
use Rattle.al_decl.proofs.homograph.overloaded_duplicates.Goals as goal

pub loop-name-init : goal.loop-name-init
loop-name-init g c = record {
  asked = refl;
  answered = λ t h. (h, refl);
  asks = asks_none (OfKnown (part_units (inner_parts c.args.scope.now.regions)) (by_name (names_of c.args.names.now))) c.args.recorder.now.log;
}

pub loop-name-preserved : goal.loop-name-preserved
loop-name-preserved g c =
    let i = c.loop-name.invariant in
    let units = part_units (inner_parts c.args.scope.now.regions) in
    let all = names_of c.args.names.now in
    let old = c.args.recorder.now.log in
    let mid = c.loop-name.recorder.log in
    let new = c.overloaded_duplicate.new.recorder.log in
    record {
      asked = c.overloaded_duplicate.ensures.asked ∙ i.asked;
      answered = λ t h. let answered = c.in_ok-overloaded_duplicate.ensures.answered t h in
          let before = i.answered t answered.0 in
          (before.0, folded (λ (found : Option Fault) (n : DefiningName). earlier found (overloaded_duplicate t c.args.scope.now n)) None c.loop-name.found c.earlier-found.result c.args.names.now c.loop-name.name-index c.name-item.result (omega arith) c.name-item.is before.1 (c.earlier-found.ensures ∙ ap (earlier c.loop-name.found) answered.1));
      asks = asks_then (OfKnown units (by_name all)) old mid new i.asks
          (asks_of-wider units (by_name (c.name-item.result.name ∷ [])) (by_name all) mid new
          (by_name-wider (c.name-item.result.name ∷ []) all (one_among c.args.names.now c.loop-name.name-index c.name-item.result (omega arith) c.name-item.is))
          c.in_ok-overloaded_duplicate.ensures.asks);
    }

pub returns-clause-answered : goal.returns-clause-answered
returns-clause-answered g c t h =
    let before = c.loop-name.invariant.answered t h in
    let all : take c.loop-name.name-index c.args.names.now ≡ c.args.names.now = take_all c.loop-name.name-index c.args.names.now (omega arith) in
    (before.0, before.1 ∙ ap (overloaded_duplicates t c.args.scope.now) all)
