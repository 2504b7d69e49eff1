use Rattle.std.proofs.Common.{arith, ◌∙◌}
use Rattle.al_instr.specs.Codes.{word_bytes}
use Rattle.al_link.proofs.Words.{word_put}
use Rattle.al_link.proofs.patch.write_word.Goals as goal

pub returns-then-code-place-ge4 : goal.returns-then-code-place-ge4
unfolding word_bytes
returns-then-code-place-ge4 c = word_put c.args.place c.args.number c.args.code.now c.copy_from_slice.new.self (omega arith) (c.copy_from_slice.ensures.after ∙ c.to_be_bytes.ensures)
