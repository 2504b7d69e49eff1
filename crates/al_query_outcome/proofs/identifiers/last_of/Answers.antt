use Rattle.std.proofs.Common.{◌∙◌, ◌+◌, ℕ, List, Option, drop, length, ap}
use Rattle.std.specs.Option.{option_map_or}
use Rattle.al_query_outcome.proofs.identifiers.last_of.Goals as goal

pub returns-in-Some : goal.returns-in-Some
returns-in-Some c =
    let name = c.args.name.now in
    c.after.ensures ∙ ap (λ (o : Option (List ℕ)). option_map_or (λ (p : List ℕ). drop (length p + 1) name) o name) c.in-Some.ensures

pub returns-in-None : goal.returns-in-None
returns-in-None c =
    let name = c.args.name.now in
    ap (λ (o : Option (List ℕ)). option_map_or (λ (p : List ℕ). drop (length p + 1) name) o name) c.in-None.ensures
