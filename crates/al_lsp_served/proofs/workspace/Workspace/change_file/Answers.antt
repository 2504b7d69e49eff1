use Rattle.std.proofs.Common.{None, refl, sym, ◌∙◌}
use Rattle.al_lsp_served.specs.Documents.{after_changes}
use Rattle.al_lsp_served.specs.Overlays.{is_open}
use Rattle.al_lsp_served.proofs.ByName.{held_after}
use Rattle.al_lsp_served.proofs.Overs.{over_kept, changed_text, open_apart}
use Rattle.al_lsp_served.proofs.Results.{on_ok}
use Rattle.al_lsp_served.proofs.workspace.Workspace.change_file.Goals as goal

pub returns-clause-over : goal.returns-clause-over
returns-clause-over g c =
    let old = c.args.self.now in
    on_ok c.keep.result c.keep.ensures.over (λ keeps. λ is.
    keeps (over_kept old.open c.remove.new.self old.sources.texts old.sources.texts c.args.name.now None (held_after old.open c.remove.new.self c.args.name.now None c.remove.ensures.updates) tt (λ other differ. refl) is))

pub returns-clause-text : goal.returns-clause-text
returns-clause-text g c =
    let old = c.args.self.now in
    on_ok c.keep.result c.keep.ensures.text (λ kept. λ other.
    kept other
    ∙ changed_text old.open c.remove.new.self c.args.name.now c.in-Some.document c.in_ok-document.document.text.items (λ text. after_changes old.counting text c.args.changes.now)
    (sym c.remove.ensures.value ∙ c.in-Some.is) (held_after old.open c.remove.new.self c.args.name.now None c.remove.ensures.updates) c.in_ok-document.ensures other)

pub returns-clause-keeps : goal.returns-clause-keeps
returns-clause-keeps g c =
    let old = c.args.self.now in
    on_ok c.keep.result c.keep.ensures.keeps (λ keeps.
    keeps (is_open old.open) (open_apart old.open c.remove.new.self c.args.name.now (held_after old.open c.remove.new.self c.args.name.now None c.remove.ensures.updates)))
