use Rattle.std.proofs.Common.{◌∙◌, List, ap}
use Rattle.al_base.specs.declared.unit_key.UnitKey.{UnitKey}
use Rattle.al_decl_judged.specs.declared.progress.Progress.{Progress}
use Rattle.al_query.specs.declared.answer.Completion.{Completion}
use Rattle.al_scope.specs.Places.{Place}
use Rattle.al_tree.specs.UnitViews.{library_item_model}
use Rattle.al_scope.specs.Seen.{completions_seen_at}
use Rattle.al_scope.specs.declared.seen_hiding.PrivateName.{PrivateName}
use Rattle.al_scope.specs.declared.own.OwnText.{OwnText}
use Rattle.al_check_start.specs.UnitsAt.{depth_of, hidden_at, own_text, own_view, place_at, progress_at, waiting}
use Rattle.al_check_start.specs.declared.unit.UnitStart.{UnitStart}
use Rattle.al_check_start.proofs.unit.start_with.Goals as goal

pub returns-clause-answered : goal.returns-clause-answered
returns-clause-answered g c t h =
    let uncompleted = c.in_ok-uncompleted.ensures.answered t h in
    let place = c.in_ok-scope.ensures.answered t uncompleted.0 in
    let unit = c.args.unit.now in
    let item = library_item_model c.args.item.now in
    let done = c.args.completed in
    let own = own_text unit item c.args.context done.view done.stubs in
    let view = own_view unit item in
    let placed = place.1 ∙ ap (λ (o : OwnText). place_at t o c.in_ok-seen.seen) c.in_ok-own.ensures ∙ ap (place_at t own) c.in_ok-seen.ensures in
    let progress = progress_at unit item (depth_of item done.view) in
    let waits = waiting t unit item done.view in
    let seen = uncompleted.1.0 ∙ ap (λ (x : Place × List UnitKey). completions_seen_at t x.0 waits) placed in
    let hides = uncompleted.1.1 ∙ ap (hidden_at t) c.in_ok-own.ensures in
    let make = λ (o : OwnText) (x : Place × List UnitKey) (p : Progress) (a : List Completion) (n : List PrivateName). let s : UnitStart = record { own = o; scope = x.0; packages = x.1; progress = p; uncompleted = a; parent = done.parent; view = done.view; hidden = n } in s in
    let completions = completions_seen_at t (place_at t own view).0 waits in (
      place.0,
      ap (λ (o : OwnText). make o (c.in_ok-scope.scope, c.place_at.new.packages) c.in_ok-progress.progress c.in_ok-uncompleted.uncompleted c.in_ok-uncompleted.hidden) c.in_ok-own.ensures
          ∙ ap (λ (x : Place × List UnitKey). make own x c.in_ok-progress.progress c.in_ok-uncompleted.uncompleted c.in_ok-uncompleted.hidden) placed
          ∙ ap (λ (p : Progress). make own (place_at t own view) p c.in_ok-uncompleted.uncompleted c.in_ok-uncompleted.hidden) c.in_ok-progress.ensures
          ∙ ap (λ (a : List Completion). make own (place_at t own view) progress a c.in_ok-uncompleted.hidden) seen
          ∙ ap (λ (n : List PrivateName). make own (place_at t own view) progress completions n) hides,
    )
