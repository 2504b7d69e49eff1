use Rattle.std.proofs.Common.{None, refl}
use Rattle.al_lsp_served.proofs.ByName.{held_after}
use Rattle.al_lsp_served.proofs.Overs.{over_kept, text_at_after}
use Rattle.al_lsp_served.proofs.workspace.Workspace.close_file.Goals as goal

pub returns-clause-over : goal.returns-clause-over
returns-clause-over g c =
    let old = c.args.self.now in
    over_kept old.open c.remove-document.new.self old.sources.texts old.sources.texts c.args.name.now None (held_after old.open c.remove-document.new.self c.args.name.now None c.remove-document.ensures.updates) tt (λ other differ. refl)

pub returns-clause-text : goal.returns-clause-text
returns-clause-text g c =
    let old = c.args.self.now in
    text_at_after old.open c.remove-document.new.self c.args.name.now None (held_after old.open c.remove-document.new.self c.args.name.now None c.remove-document.ensures.updates)
