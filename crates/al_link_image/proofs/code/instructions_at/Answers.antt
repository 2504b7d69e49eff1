use Rattle.std.proofs.Common.{length, arith, ap}
use Rattle.std.proofs.lemmas.List.{length-append}
use Rattle.al_instr.specs.Codes.{encoded}
use Rattle.al_link_image.proofs.CodeLemmas.{one_read, read_is, read_is_code, passed_on, code_fault, encoded_some}
use Rattle.al_link_image.proofs.code.instructions_at.Goals as goal

pub returns-in_err-instruction-clause-again : goal.returns-in_err-instruction-clause-again
returns-in_err-instruction-clause-again c = λ code fit e.
    passed_on c.from_residual.result _ c.from_residual.ensures.1 (code_fault c.args.bytes.now c.instructions.instructions.items c.instructions.rest.now c.in_err-instruction.field-0.0 c.instructions.invariant c.instructions-test.true c.in_err-instruction.ensures.again code fit e)

pub instructions-smaller : goal.instructions-smaller
instructions-smaller c = omega (arith, ap length c.in_ok-instruction.ensures.found, length-append (encoded c.in_ok-instruction.instruction) c.in_ok-instruction.behind.now, encoded_some c.in_ok-instruction.instruction)

pub instructions-preserved : goal.instructions-preserved
instructions-preserved c = rw c.in_ok-push.ensures.items (one_read c.args.bytes.now c.instructions.instructions.items c.instructions.rest.now (c.in_ok-instruction.instruction, c.in_ok-instruction.behind) c.instructions.invariant c.instructions-test.true c.in_ok-instruction.ensures.found c.in_ok-instruction.ensures.fits c.in_ok-instruction.ensures.again)

pub returns-clause-code : goal.returns-clause-code
returns-clause-code c = read_is_code c.args.bytes.now c.instructions.instructions.items c.instructions.rest.now c.instructions.invariant (omega (arith, c.instructions-test.false))

pub returns-clause-value : goal.returns-clause-value
returns-clause-value c = read_is c.args.bytes.now c.instructions.instructions.items c.instructions.rest.now c.instructions.invariant (omega (arith, c.instructions-test.false))
