use Rattle.std.proofs.Common.{List, ℕ, ap, ◌∙◌}
use Rattle.std.specs.Prelude.{slice_get}
use Rattle.al_view.specs.declared.view.ViewKind.{ViewKind}
use Rattle.al_check_here.specs.PartsHere.{with_views}
use Rattle.al_check_here.proofs.Lists.{no_value, on_ok, one_value}
use Rattle.al_check_here.proofs.parts.add_name.Goals as goal

pub returns-in-Some : goal.returns-in-Some
returns-in-Some c =
    on_ok c.add_views.result _ _
    (λ made named e.
    made ∙ ap (λ (x : List ℕ × List ViewKind). with_views c.args.answered.now x) (one_value (c.in-Some.name.now, c.in-Some.views.now) named (slice_get c.args.declared.now c.args.i) c.in-Some.ensures e))
    c.add_views.ensures

pub returns-in-None : goal.returns-in-None
returns-in-None c = λ named e. absurd (no_value named (slice_get c.args.declared.now c.args.i) c.in-None.ensures e)
