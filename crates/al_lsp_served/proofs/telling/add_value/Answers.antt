use Rattle.std.proofs.Common.{[], ◌∷◌, ◌++◌, map, ap, ◌∙◌}
use Rattle.serde_json.specs.View.{view}
use Rattle.al_lsp_served.proofs.Lists.{map_push}
use Rattle.al_lsp_served.proofs.telling.add_value.Goals as goal

pub returns : goal.returns
returns c =
    let old = c.args.values.now.items in
    ap (map view) c.in_ok-push.ensures.ok ∙ map_push view old c.in_ok-value.value ∙ ap (λ d. map view old ++ d ∷ []) c.in_ok-value.ensures
