use Rattle.al_lsp_served.proofs.Overlaid.{put_there}
use Rattle.al_lsp_served.proofs.Overs.{over_other}
use Rattle.al_lsp_served.proofs.sources.Sources.put_read.Goals as goal

pub returns-clause-over : goal.returns-clause-over
returns-clause-over g c =
    let old = c.args.self.now in
    over_other c.args.open.now old.texts c.put.new.self.texts c.args.name.now (c.is_known.ensures.open c.if-is_known.false) c.in_ok-put.ensures.others

pub returns-clause-there : goal.returns-clause-there
returns-clause-there g c =
    let old = c.args.self.now in
    λ same file shut few.
    put_there (g.L.DiagnosedLibrary.files old.library) old.texts c.put.new.self.texts c.args.name.now c.args.text.now c.in_ok-put.field-0 same file few c.in_ok-put.ensures.more c.in_ok-put.ensures.refusal c.in_ok-put.ensures.there
