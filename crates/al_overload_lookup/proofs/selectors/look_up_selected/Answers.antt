use Rattle.std.proofs.Common.{◌≡◌, ◌++◌, ℕ, List, [], true, drop, sym, ap, ◌∙◌, arith}
use Rattle.std.proofs.lemmas.List.{drop_all}
use Rattle.al_overload_lookup.specs.Keys.{is_none}
use Rattle.al_overload_lookup.specs.declared.denoted.Names.{Names}
use Rattle.al_overload_lookup.proofs.Fronts.{front_more, rest_more, rest_stays, started, with_rest}
use Rattle.al_overload_lookup.specs.Lookups.{asked_units, looked_up}
use Rattle.al_overload_lookup.specs.declared.name.TextName.TheVariants.{Simple}
use Rattle.al_query.proofs.AskLemmas.{asks_then}
use Rattle.al_query.specs.Asked.{OfKnown, by_some_name}
use Rattle.al_tree.specs.Lexemes.{identifier_label}
use Rattle.al_tree.specs.declared.names.Identifier.{Identifier}
use Rattle.al_view.specs.Interfaces.{views_of}
use Rattle.al_view.specs.declared.view.ViewKind.{ViewKind}
use Rattle.al_overload_lookup.proofs.selectors.look_up_selected.Goals as goal

pub loop-selector-init : goal.loop-selector-init
loop-selector-init g c =
    let first = identifier_label c.args.first.now in
    let key : c.look_up_first.new.key.items ≡ first.text = c.in_ok-look_up_first.ensures.key ∙ ap (λ (k : List ℕ). k ++ first.text) c.new-key.ensures.items in
    record {
      asked = c.look_up_first.ensures.asked;
      answered = λ t h. let answered = c.in_ok-look_up_first.ensures.answered t h in
          (answered.0, started t c.args.scope.now c.args.packages.now c.look_up_first.new.names first c.look_up_first.new.key.items c.args.selectors.now (answered.1 ∙ ap (λ (n : Names). looked_up t c.args.scope.now c.args.packages.now n (Simple first.text)) c.nothing_found-names.ensures) key);
      asks = c.in_ok-look_up_first.ensures.asks;
    }

pub loop-selector-preserved : goal.loop-selector-preserved
loop-selector-preserved g c =
    let i = c.loop-selector.invariant in
    let x = c.selector-item.result in
    record {
      asked = c.look_up_selector.ensures.asked ∙ i.asked;
      answered = λ t h. let answered = c.in_ok-look_up_selector.ensures.answered t h in
          let before = i.answered t answered.0 in (
            before.0,
            (
              sym (rest_more t c.args.scope.now c.args.packages.now c.loop-selector.names c.look_up_selector.new.names c.loop-selector.key.items c.look_up_selector.new.key.items c.args.selectors.now c.loop-selector.selector-index x (omega arith) c.selector-item.is answered.1 c.in_ok-look_up_selector.ensures.key)
                  ∙ before.1.0,
              front_more t c.args.scope.now c.args.packages.now c.loop-selector.names c.look_up_selector.new.names c.loop-selector.key.items c.look_up_selector.new.key.items (identifier_label x).text before.1.1 answered.1 c.in_ok-look_up_selector.ensures.key,
            ),
          );
      asks = asks_then (OfKnown (asked_units c.args.scope.now c.args.packages.now) by_some_name) c.args.recorder.now.log c.loop-selector.recorder.log c.look_up_selector.new.recorder.log i.asks
          c.in_ok-look_up_selector.ensures.asks;
    }

pub returns-then-is_none-clause-answered : goal.returns-then-is_none-clause-answered
returns-then-is_none-clause-answered g c t h =
    let before = c.loop-selector.invariant.answered t h in
    let names = c.loop-selector.names in
    let key = c.loop-selector.key.items in
    let none : is_none (views_of names.visible key) ≡ true =
    ap (λ (k : List ℕ). is_none (views_of names.visible k)) (sym c.as_slice.ensures.value)
    ∙ ap (λ (vs : List ViewKind). is_none vs) (sym c.views.ensures)
    ∙ sym c.is_none.ensures
    ∙ c.if-is_none.true in
    (before.0, sym (rest_stays t c.args.scope.now c.args.packages.now names key (drop c.loop-selector.selector-index c.args.selectors.now) none before.1.1) ∙ before.1.0)

pub returns-clause-answered : goal.returns-clause-answered
returns-clause-answered g c t h =
    let before = c.loop-selector.invariant.answered t h in
    let none : drop c.loop-selector.selector-index c.args.selectors.now ≡ [] = drop_all c.loop-selector.selector-index c.args.selectors.now (omega arith) in (
      before.0,
      ap (λ (xs : List Identifier). with_rest t c.args.scope.now c.args.packages.now c.loop-selector.names c.loop-selector.key.items xs) (sym none) ∙ before.1.0,
    )
