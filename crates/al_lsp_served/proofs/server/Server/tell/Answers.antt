use Rattle.std.proofs.Common.{is_some, ap, sym, subst, ◌∙◌}
use Rattle.al_lsp_served.specs.Named.{held}
use Rattle.al_lsp_served.specs.Told.{told_of, told_list}
use Rattle.al_lsp_served.proofs.Results.{on_ok, ok_of}
use Rattle.al_lsp_served.proofs.server.Server.tell.Goals as goal

pub returns-clause-step : goal.returns-clause-step
returns-clause-step g c =
    let space = c.tell_picture.ensures.space in
    ok_of c.tell_picture.result (λ same. ap (λ s. g.L.DiagnosedLibrary.files s.sources.library) space ∙ c.check.ensures.files ∙ same ∙ sym (ap (λ s. s.sources.texts) space))

pub returns-clause-rest : goal.returns-clause-rest
returns-clause-rest g c =
    let space = c.tell_picture.ensures.space in
    (ap (λ s. s.open) space, ap (λ s. s.sources.texts) space)

pub returns-clause-found : goal.returns-clause-found
returns-clause-found g c =
    ok_of c.tell_picture.result (subst (λ s. g.L.DiagnosedLibrary.finds (g.L.DiagnosedLibrary.files s.sources.library) (g.L.DiagnosedLibrary.found s.sources.library)) (sym c.tell_picture.ensures.space) c.in_ok-check.ensures.found)

pub returns-clause-told : goal.returns-clause-told
returns-clause-told g c =
    on_ok c.tell_picture.result c.tell_picture.ensures.told (λ is. λ name.
    ap (λ m. told_of m name) is
    ∙ c.in_ok-picture.ensures name
    ∙ ap (λ s. told_list s.counting s.sources.texts (λ n. is_some (held s.open n)) name (g.L.DiagnosedLibrary.found s.sources.library)) (sym c.tell_picture.ensures.space))
