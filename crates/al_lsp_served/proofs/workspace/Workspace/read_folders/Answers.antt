use Rattle.std.proofs.Common.{map, string_bytes, sym, ap, subst}
use Rattle.al_lsp_served.specs.Overlays.{AreGathered}
use Rattle.al_lsp_served.proofs.Results.{on_ok}
use Rattle.al_lsp_served.proofs.workspace.Workspace.read_folders.Goals as goal

pub returns-clause-follows : goal.returns-clause-follows
returns-clause-follows g c =
    on_ok c.bring.result c.bring.ensures.overlaid (λ laid. λ same. record {
      read = c.into_parts-texts.result.0;
      gathered = subst (λ folders. AreGathered (g.D.Folders.has c.args.disk.now) (map string_bytes folders) c.into_parts-texts.result.0) c.as_slice.ensures.value (subst (AreGathered (g.D.Folders.has c.args.disk.now) (map string_bytes c.as_slice.result.now)) (sym (ap (λ p. p.0) c.into_parts-texts.ensures)) c.in_ok-read_all.ensures);
      over = laid same;
    })
