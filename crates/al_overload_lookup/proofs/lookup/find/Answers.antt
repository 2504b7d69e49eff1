use Rattle.std.proofs.Common.{ℕ, List, ap, ◌∙◌, sym}
use Rattle.al_overload_lookup.specs.Lookups.{found, with_prefixed, with_visible}
use Rattle.al_query.proofs.AskLemmas.{asks_of-left}
use Rattle.al_query.specs.Asked.{by_some_name}
use Rattle.al_scope.specs.Places.{place_units}
use Rattle.al_overload_lookup.specs.declared.name.TextName.{TextName}
use Rattle.al_overload_lookup.proofs.lookup.find.Goals as goal

pub returns-in_ok-find_visible-in-Simple-clause-answered : goal.returns-in_ok-find_visible-in-Simple-clause-answered
returns-in_ok-find_visible-in-Simple-clause-answered g c t h =
    let answered = c.in_ok-find_visible-in-Simple.ensures.answered t h in (
      answered.0,
      answered.1
          ∙ ap (λ (n : List ℕ). with_visible t c.args.scope.now n c.args.names.now) c.as_slice.ensures
          ∙ ap (λ (o : TextName). found t c.args.scope.now c.args.packages.now c.args.names.now o) (sym c.in-Simple.is),
    )

pub returns-in_ok-find_selected-in-Selected-clause-answered : goal.returns-in_ok-find_selected-in-Selected-clause-answered
returns-in_ok-find_selected-in-Selected-clause-answered g c t h =
    let answered = c.in_ok-find_selected-in-Selected.ensures.answered t h in (
      answered.0,
      answered.1
          ∙ ap (λ (n : List ℕ). with_prefixed t c.args.scope.now c.args.packages.now n c.as_slice-name.result.now c.args.names.now) c.as_slice-prefix.ensures
          ∙ ap (λ (n : List ℕ). with_prefixed t c.args.scope.now c.args.packages.now c.in-Selected.prefix n c.args.names.now) c.as_slice-name.ensures
          ∙ ap (λ (o : TextName). found t c.args.scope.now c.args.packages.now c.args.names.now o) (sym c.in-Selected.is),
    )

pub returns-in_ok-find_visible-in-Simple-clause-asks : goal.returns-in_ok-find_visible-in-Simple-clause-asks
returns-in_ok-find_visible-in-Simple-clause-asks g c =
    asks_of-left (place_units c.args.scope.now) c.args.packages.now by_some_name c.args.recorder.now.log c.find_visible.new.recorder.log c.in_ok-find_visible-in-Simple.ensures.asks
