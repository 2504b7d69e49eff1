use Rattle.std.proofs.Common.{List, ℕ, ap, ◌∙◌}
use Rattle.std.specs.Prelude.{slice_get}
use Rattle.al_view.specs.declared.view.ViewKind.{ViewKind}
use Rattle.al_scope.specs.Hidden.{with_hidden}
use Rattle.al_scope.proofs.Lists.{no_value, one_value}
use Rattle.al_scope.proofs.Outcomes.{on_ok}
use Rattle.al_scope.proofs.seen_hiding.add_hidden_at.Goals as goal

pub returns-in-Some : goal.returns-in-Some
returns-in-Some c =
    on_ok c.add_hidden.result _ _
    (λ made named e.
    made ∙ ap (λ (x : List ℕ × List ViewKind). with_hidden c.args.names.now c.args.answered.now x) (one_value (c.in-Some.name.now, c.in-Some.views.now) named (slice_get c.args.declared.now c.args.i) c.in-Some.ensures e))
    c.add_hidden.ensures

pub returns-in-None : goal.returns-in-None
returns-in-None c = λ named e. absurd (no_value named (slice_get c.args.declared.now c.args.i) c.in-None.ensures e)
