use Rattle.std.proofs.Common.{◌≡◌, ◌∙◌, ap, List, ◌∷◌}
use Rattle.serde_json.specs.Data.{Data}
use Rattle.serde_json.specs.View.{view}
use Rattle.al_lsp_listing.specs.Listed.{inside, shown, Deep}
use Rattle.al_lsp_listing.specs.Stacks.{stacked}
use Rattle.al_lsp_listing.proofs.Stacks.{stacked_push}
use Rattle.al_lsp_listing.proofs.listing.add_symbol.Goals as goal

pub returns : goal.returns
returns c =
    let symbol = c.args.symbol.now in
    let depth = symbol.declared.depth in
    let old = stacked c.args.pending.now.items in
    let left = c.take_inside.new.pending.items in
    let is : view c.in_ok-value.value ≡ shown c.args.counting c.args.text.now symbol (inside depth old) = c.in_ok-value.ensures ∙ ap (shown c.args.counting c.args.text.now symbol) c.in_ok-inside.ensures.inside in
    let top : Data → Deep = λ d. record { depth = depth; listed = d } in
    ap stacked c.in_ok-push.ensures.items
    ∙ stacked_push left (record { depth = depth; value = c.in_ok-value.value })
    ∙ ap (λ (d : Data). top d ∷ stacked left) is
    ∙ ap (λ (ds : List Deep). top (shown c.args.counting c.args.text.now symbol (inside depth old)) ∷ ds) c.in_ok-inside.ensures.behind
