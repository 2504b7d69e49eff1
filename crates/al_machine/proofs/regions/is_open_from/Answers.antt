use Rattle.std.proofs.Common.{◌≡◌, ◌∙◌, ◌≤◌, ◌+◌, ℕ, sym, subst, drop}
use Rattle.al_machine.proofs.RegionLemmas.{follow_drop, open_behind}
use Rattle.al_machine.proofs.regions.is_open_from.Goals as goal

pub returns-then-from-words : goal.returns-then-from-words
returns-then-from-words c =
    let os = c.args.regions.now in
    let o = c.known.result.now in
    let behind = subst (λ (p : ℕ × ℕ). c.args.from + c.args.words ≤ p.0) c.limits_of-begin.ensures c.if-from-words.true in
    let follow = follow_drop 0 os c.loop-at.at o (c.requires.follow c.if-follow.true) c.known.ensures in
    sym (open_behind c.args.inside.now c.args.from c.args.words (drop c.loop-at.at os) c.loop-at.at o.address follow behind) ∙ c.loop-at.invariant
