use Rattle.std.proofs.Common.{◌≡◌, ◌∙◌, ◌+◌, ℕ, ap, sym, drop, arith}
use Rattle.al_machine.specs.Memory.{is_open}
use Rattle.al_machine.proofs.RegionLemmas.{open_drop}
use Rattle.al_machine.proofs.regions.is_open_by_search.Goals as goal

pub returns : goal.returns
returns c =
    let os = c.args.regions.now in
    let k = c.ended-first.result in
    let z : 0 + k ≡ k = omega arith in
    c.is_open_from.ensures
    ∙ ap (λ (j : ℕ). is_open (drop k os) c.args.inside.now j c.args.from c.args.words) (sym z)
    ∙ open_drop c.args.inside.now c.args.from c.args.words os 0 k c.ended-first.ensures.ended
