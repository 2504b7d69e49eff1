use Rattle.std.proofs.Common.{◌≡◌, ◌∙◌, ◌∷◌, [], ℕ, List, Option, Some, None, length, refl, ap, sym, subst}
use Rattle.std.specs.Option.{option_map, option_map_or}
use Rattle.al_query_outcome.specs.ReadsLaw.{own_names}
use Rattle.al_query.specs.Answers.{declaration}
use Rattle.al_query.specs.Asked.{AsksOf, by_property}
use Rattle.al_query.proofs.AskLemmas.{asks_of-right, asks_of-same}
use Rattle.al_unit_graph.specs.Names as names
use Rattle.al_unit_graph.specs.Views.{header_model, mention_model}
use Rattle.al_unit_graph.specs.declared.header.Mention.{Mention}
use Rattle.al_check_start.specs.Starts.{as_list, outward, own_declaration, parent_body, round}
use Rattle.al_check_start.proofs.known.units_round.Goals as goal

above-is : (p : Option (List ℕ)) → as_list (option_map declaration p) ≡ option_map_or (λ (q : List ℕ). declaration q ∷ []) p []
above-is None = refl
above-is (Some q) = refl

pub returns-in_ok-units-in-Some-clause-answered : goal.returns-in_ok-units-in-Some-clause-answered
returns-in_ok-units-in-Some-clause-answered g c t h =
    let answered = c.in_ok-units-in-Some.ensures.answered t h in
    let own = c.args.own.now in
    let head = header_model c.args.header.now in (
      answered.0,
      answered.1
          ∙ ap (λ (n : List ℕ). outward t own (length n) (Some (parent_body t own c.in-Some.parent.name))) c.as_slice-most.ensures
          ∙ ap (λ (o : Option Mention). round t own head (option_map mention_model o)) (sym c.in-Some.is),
    )

pub returns-in_ok-units-in-None-clause-answered : goal.returns-in_ok-units-in-None-clause-answered
returns-in_ok-units-in-None-clause-answered g c t h =
    let answered = c.in_ok-units-in-None.ensures.answered t h in
    let own = c.args.own.now in
    let head = header_model c.args.header.now in
    (answered.0, answered.1 ∙ ap (λ (o : Option Mention). round t own head (option_map mention_model o)) (sym c.in-None.is))

pub returns-in_ok-units-in-None-clause-asks : goal.returns-in_ok-units-in-None-clause-asks
returns-in_ok-units-in-None-clause-asks g c =
    let head = header_model c.args.header.now in
    let name = c.args.header.now.name in
    let start = c.args.recorder.now.log in
    let end = c.round_library_unit.new.recorder.log in
    let above = as_list (option_map declaration (names.parent_of name)) in
    let parent = option_map_or (λ (q : List ℕ). declaration q ∷ []) (names.parent_of name) [] in
    subst (λ (o : Option Mention). AsksOf (own_names head (option_map mention_model o)) by_property start end) (sym c.in-None.is)
    (asks_of-right (own_declaration head) parent by_property start end (asks_of-same above parent by_property start end (above-is (names.parent_of name)) c.in_ok-units-in-None.ensures.asks))
