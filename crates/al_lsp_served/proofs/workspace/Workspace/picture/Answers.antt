use Rattle.std.proofs.Common.{◌++◌, map, is_some, ap, sym, ◌∙◌}
use Rattle.std.proofs.lemmas.List.{take_all}
use Rattle.al_base.specs.Batch.{finding_of}
use Rattle.al_lsp_served.specs.Named.{held}
use Rattle.al_lsp_served.specs.Told.{told_one, told_list}
use Rattle.al_lsp_served.proofs.Lists.{lists_more}
use Rattle.al_lsp_served.proofs.workspace.Workspace.picture.Goals as goal

pub loop-found-preserved : goal.loop-found-preserved
loop-found-preserved g c = λ name.
    let one = told_one c.args.self.now.counting c.args.self.now.sources.texts (λ n. is_some (held c.args.self.now.open n)) name in
    let more = lists_more one finding_of c.diagnostics-found-items.result.now c.loop-found.found-index c.found-item.result c.loop-found-test.true c.found-item.is in
    c.in_ok-add_found.ensures name ∙ ap (λ r. r ++ one (finding_of c.found-item.result)) (c.loop-found.invariant name) ∙ sym more

pub returns : goal.returns
returns g c = λ name.
    let list = told_list c.args.self.now.counting c.args.self.now.sources.texts (λ n. is_some (held c.args.self.now.open n)) name in
    c.loop-found.invariant name
    ∙ ap (λ ds. list (map finding_of ds)) (take_all c.loop-found.found-index c.diagnostics-found-items.result.now c.loop-found-test.false)
    ∙ ap list c.diagnostics-found-items.ensures
