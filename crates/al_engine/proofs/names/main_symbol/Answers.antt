use Rattle.std.proofs.Common.{◌∙◌, ℕ, List, ap}
use Rattle.al_base.specs.Batch.{Key}
use Rattle.al_query_outcome.specs.Equations.{unit_named}
use Rattle.al_query_outcome.specs.Left.{own_code}
use Rattle.al_engine.proofs.names.main_symbol.Goals as goal

pub returns : goal.returns
returns c =
    c.in_ok-symbol.ensures ∙ ap (λ (n : List ℕ). own_code (unit_named (n, c.declaring-kind.result))) c.in_ok-name.ensures ∙ ap (λ (k : Key). own_code (unit_named k)) c.declaring-kind.ensures
