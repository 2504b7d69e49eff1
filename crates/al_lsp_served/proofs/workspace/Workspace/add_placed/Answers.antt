use Rattle.std.proofs.Common.{[], ◌∷◌, ◌++◌, ap, ◌∙◌}
use Rattle.al_lsp_served.proofs.Results.{on_ok}
use Rattle.al_lsp_served.proofs.Placing.{placed_more}
use Rattle.al_lsp_served.proofs.workspace.Workspace.add_placed.Goals as goal

pub returns : goal.returns
returns g c =
    on_ok c.put_held.result c.put_held.ensures (λ put.
    placed_more c.args.picture.now c.take_told.new.picture c.put_held.new.named c.args.name.now c.in_ok-more.more c.args.placed
    (c.in_ok-more.ensures ∙ ap (λ l. l ++ c.args.placed ∷ []) c.in_ok-told.ensures.list) c.take_told.ensures.others put)
