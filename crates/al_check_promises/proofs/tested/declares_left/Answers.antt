use Rattle.std.proofs.Common.{List, ap, ◌∙◌}
use Rattle.std.specs.List.{flat_map, list_all}
use Rattle.al_view.specs.ViewUses.{view_uses}
use Rattle.al_view.specs.declared.link.LinkSymbol.{LinkSymbol}
use Rattle.al_view_typed.specs.UnitTrees.{unit_model}
use Rattle.al_query_outcome.specs.Tables.{interface_of}
use Rattle.al_check_promises.specs.SelfChecks.{defined, is_declared}
use Rattle.al_check_promises.proofs.Joined.{all_alike, flat_viewed}
use Rattle.al_check_promises.proofs.tested.declares_left.Goals as goal

pub returns : goal.returns
returns c =
    let q = c.args.sound.now.properties in
    let own = defined (interface_of q c.args.sound.now.parts) (unit_model c.args.sound.now.tree) in
    c.completions_pass.ensures ∙ all_alike _ _ c.in_ok-declared.ensures _
    ∙ ap (λ (xs : List LinkSymbol). list_all (is_declared own) xs) (ap (λ cs. flat_map (λ k. view_uses k.view) cs) c.as_slice.ensures ∙ flat_viewed q.completions)
