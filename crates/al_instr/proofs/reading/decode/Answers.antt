use Rattle.std.proofs.Common.{ℕ, List, Option, ap, ◌∙◌, subst, arith}
use Rattle.al_instr.specs.declared.instruction.Instr.{Instr}
use Rattle.al_instr.specs.Reading.{Gives, decoded}
use Rattle.al_instr.proofs.RoundTrip.{decoded_again, read_so}
use Rattle.al_instr.proofs.Fitting.{read_fits}
use Rattle.al_instr.proofs.reading.decode.Goals as goal

pub returns-clause-found : goal.returns-clause-found
returns-clause-found c = read_so c.args.bytes.now c.front.result (λ i. omega (arith, c.type_inv.bytes i)) c.front.ensures

pub returns-clause-again : goal.returns-clause-again
returns-clause-again c = λ i rest h e. subst (λ (r : Option (Instr × List ℕ)). Gives (λ x. (x.0, x.1.now)) c.front.result r) (ap decoded e ∙ decoded_again i rest h) c.front.ensures

pub returns-clause-fits : goal.returns-clause-fits
returns-clause-fits c = read_fits c.args.bytes.now c.front.result (λ i. omega (arith, c.type_inv.bytes i)) c.front.ensures
