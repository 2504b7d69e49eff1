use Rattle.std.proofs.Common.{List, subst, ap, ◌∙◌}
use Rattle.std.specs.List.{flat_map}
use Rattle.std.proofs.lemmas.Result.{on_ok_weaker}
use Rattle.al_view.specs.ViewUses.{view_uses}
use Rattle.al_view.specs.declared.link.LinkSymbol.{LinkSymbol}
use Rattle.al_view_typed.specs.UnitTrees.{unit_model}
use Rattle.al_query_outcome.specs.Tables.{interface_of}
use Rattle.al_check_promises.specs.Links.{Gains}
use Rattle.al_check_promises.proofs.Gained.{gains_both}
use Rattle.al_check_promises.specs.SelfChecks.{defined, left_shown}
use Rattle.al_check_promises.proofs.Joined.{flat_viewed}
use Rattle.al_check_promises.proofs.allowed.add_accounted.Goals as goal

pub returns : goal.returns
returns c =
    let q = c.args.sound.now.properties in
    let i = interface_of q c.args.sound.now.parts in
    on_ok_weaker c.add_completions.result (λ last.
    gains_both c.args.set.now c.add_defined.new.set c.add_completions.new.set (defined i (unit_model c.args.sound.now.tree)) (left_shown i) c.in_ok-add_defined.ensures
    (subst (λ (xs : List LinkSymbol). Gains c.add_defined.new.set c.add_completions.new.set xs) (ap (λ cs. flat_map (λ k. view_uses k.view) cs) c.as_slice.ensures ∙ flat_viewed q.completions) last)) c.add_completions.ensures
