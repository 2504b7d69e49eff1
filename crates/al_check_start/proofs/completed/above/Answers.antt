use Rattle.std.proofs.Common.{◌∙◌, ℕ, List, ap}
use Rattle.std.specs.Option.{option_map}
use Rattle.al_query.specs.Answers.{declaration}
use Rattle.al_scope_context.specs.ContextPragmas.{full_name}
use Rattle.al_unit_graph.specs.Names as names
use Rattle.al_check_start.proofs.completed.above.Goals as goal

pub returns : goal.returns
returns c =
    c.in_ok-parent.ensures
    ∙ ap (λ (n : List ℕ). option_map declaration (names.parent_of n)) (c.as_slice.ensures.value ∙ c.in_ok-name.ensures ∙ ap full_name c.item_name.ensures)
