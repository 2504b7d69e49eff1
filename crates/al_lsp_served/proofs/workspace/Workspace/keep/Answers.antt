use Rattle.std.proofs.Common.{◌≡◌, Some, ap, subst, ◌∙◌}
use Rattle.al_base.specs.Files.{text_of}
use Rattle.al_lsp_served.proofs.Overs.{over_kept, text_at_after, kept_read}
use Rattle.al_lsp_served.proofs.Results.{on_ok}
use Rattle.al_lsp_served.proofs.workspace.Workspace.keep.Goals as goal

pub returns-clause-over : goal.returns-clause-over
returns-clause-over g c =
    let old = c.args.self.now in
    on_ok c.put_held.result c.put_held.ensures (λ put.
    over_kept old.open c.put_held.new.named old.sources.texts c.put.new.self.texts c.args.name.now (Some _) put
    (λ taken. c.in_ok-document.ensures.there taken ∙ ap Some c.as_slice.ensures.value) c.in_ok-document.ensures.others)

pub returns-clause-text : goal.returns-clause-text
returns-clause-text g c =
    on_ok c.put_held.result c.put_held.ensures (λ put. text_at_after c.args.self.now.open c.put_held.new.named c.args.name.now (Some _) put)

pub returns-clause-keeps : goal.returns-clause-keeps
returns-clause-keeps g c =
    let old = c.args.self.now in
    on_ok c.put_held.result c.put_held.ensures (λ put.
    λ was_open was. kept_read old.open c.put_held.new.named was_open old.sources.texts c.put.new.self.texts c.args.name.now _ put was c.in_ok-document.ensures.more c.in_ok-document.ensures.others)
