use Rattle.std.proofs.Common.{ℕ, arith, ◌∙◌, ap}
use Rattle.std.specs.Int.{w32, to_be_bytes}
use Rattle.al_instr.specs.Codes.{jump_bytes}
use Rattle.al_code.proofs.Jumps.{jump_put}
use Rattle.al_code.proofs.filling.fill_jump.Goals as goal

pub returns-then-code-place-ge5 : goal.returns-then-code-place-ge5
unfolding jump_bytes
returns-then-code-place-ge5 c = jump_put c.args.place c.args.to c.args.code.now c.copy_from_slice.new.self (omega arith) (c.copy_from_slice.ensures.after ∙ c.to_be_bytes.ensures ∙ ap (λ (n : ℕ). to_be_bytes w32 n) c.saturating_sub-distance.ensures)
