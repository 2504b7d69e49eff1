use Rattle.std.proofs.Common.{◌≡◌, Some, ap, ◌∙◌}
use Rattle.al_lsp_served.specs.Named.{held, with_held}
use Rattle.al_lsp_served.proofs.ByName.{held_after}
use Rattle.al_lsp_served.proofs.named.put_held.Goals as goal

pub returns-in-Ok-insert : goal.returns-in-Ok-insert
returns-in-Ok-insert g c = λ other.
    held_after c.args.named.now c.insert.new.self c.in-Ok.key.items (Some c.args.value) c.in-Ok-insert.ensures.updates other
    ∙ ap (λ n. with_held (held c.args.named.now) n (Some c.args.value) other) c.in-Ok.ensures.items
