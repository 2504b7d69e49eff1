use Rattle.std.proofs.Common.{◌≡◌, ◌+◌, ◌-◌, ◌<◌, ℕ, get_or, sym, subst, arith}
use Rattle.al_instr.proofs.LineLemmas.{found_line, none_before}
use Rattle.al_instr.proofs.lines.line_at.Goals as goal

pub returns-then-low-eq0 : goal.returns-then-low-eq0
returns-then-low-eq0 c =
    let none_high : c.halves.high ≡ 0 = omega (arith, c.halves-test.false, c.if-low-eq0.true) in
    sym (none_before c.args.lines.now 0x1_0000_0000 c.args.place c.requires (λ d some.
    subst (λ (n : ℕ). c.args.place < (get_or c.args.lines.now n d).place) none_high (c.halves.invariant.above d (omega (arith, none_high)))))

pub returns : goal.returns
returns c =
    let low : c.halves.low ≡ c.halves.high = omega (arith, c.halves-test.false, c.halves.invariant.low) in
    let next : c.halves.high ≡ (c.halves.low - 1) + 1 = omega (arith, low, c.if-low-eq0.false) in
    sym (found_line c.args.lines.now 0x1_0000_0000 c.args.place (c.halves.low - 1) (record { place = 0; line = 0 }) c.requires (omega (arith, next, c.halves.invariant.high)) (c.halves.invariant.below _ (omega (arith, c.if-low-eq0.false))) (λ d more.
    subst (λ (n : ℕ). c.args.place < (get_or c.args.lines.now n d).place) next (c.halves.invariant.above d (omega (arith, next, more)))))
