use Rattle.std.proofs.Common.{[], ◌∷◌, ◌++◌, cond, is_some, ap, sym, ◌∙◌, append-nil}
use Rattle.std.specs.Str.{bytes_eq}
use Rattle.al_base.specs.Batch.{finding_of}
use Rattle.al_lsp_served.specs.Named.{held}
use Rattle.al_lsp_served.specs.Told.{told_of}
use Rattle.al_lsp_served.proofs.Results.{on_ok}
use Rattle.al_lsp_served.proofs.Placing.{one_told, none_told}
use Rattle.al_lsp_served.proofs.workspace.Workspace.add_found.Goals as goal

pub returns-then-not-is_shown : goal.returns-then-not-is_shown
returns-then-not-is_shown g c = λ other.
    let space = c.args.self.now in
    let before = told_of c.args.picture.now other in
    let none = none_told space.counting space.sources.texts (λ n. is_some (held space.open n)) (finding_of c.args.found.now) other (sym c.is_shown.ensures ∙ c.if-not-is_shown.true) in
    sym (append-nil before) ∙ ap (λ l. before ++ l) (sym none)

pub returns : goal.returns
returns g c =
    let space = c.args.self.now in
    on_ok c.add_placed.result c.add_placed.ensures (λ adds. λ other.
    let before = told_of c.args.picture.now other in
    adds other
    ∙ ap (λ n. before ++ cond (bytes_eq n other) (c.place-placed.result ∷ []) []) c.as_slice.ensures
    ∙ ap (λ l. before ++ l) (one_told space.counting space.sources.texts (λ n. is_some (held space.open n)) (finding_of c.args.found.now) c.place-placed.result other (sym c.is_shown.ensures ∙ c.if-not-is_shown.false) c.place-placed.ensures))
