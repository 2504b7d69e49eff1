use Rattle.std.proofs.Common.{arith, ◌∙◌}
use Rattle.al_link_image.specs.Parts.{IsCode}
use Rattle.al_link_image.proofs.ReadLemmas.{whole_read, bytes_read, image_is, parts_same, code_same, parts_fault, read_passed_on}
use Rattle.al_link_image.proofs.image.Image.read.Goals as goal

pub returns-in_err-parts-clause-again : goal.returns-in_err-parts-clause-again
returns-in_err-parts-clause-again c = λ image h e.
    read_passed_on image c.from_residual.result c.in_err-parts.field-0.0 c.from_residual.ensures.1 (parts_fault c.args.bytes.now image c.in_err-parts.field-0.0 h e c.in_err-parts.ensures)

pub returns-in_err-_instructions-clause-again : goal.returns-in_err-_instructions-clause-again
returns-in_err-_instructions-clause-again c = λ image h e.
    read_passed_on image c.from_residual-in_err-_instructions.result c.in_err-_instructions.field-0.0 c.from_residual-in_err-_instructions.ensures.1 (c.in_err-_instructions.ensures.again image.code h.code (c.as_slice.ensures.value ∙ code_same c.args.bytes.now image c.in_ok-parts.parts h e c.in_ok-parts.ensures))

pub new-requires : goal.new-requires
new-requires c =
    let code : IsCode c.in_ok-parts.parts.code.items = rw (← c.as_slice.ensures.value) c.in_ok-_instructions.ensures.code in
    whole_read c.args.bytes.now c.in_ok-parts.parts (λ i. omega (arith, c.type_inv.bytes i)) c.in_ok-parts.ensures code

pub returns-clause-found : goal.returns-clause-found
returns-clause-found c =
    let code : IsCode c.in_ok-parts.parts.code.items = rw (← c.as_slice.ensures.value) c.in_ok-_instructions.ensures.code in
    rw c.new.ensures (bytes_read c.args.bytes.now c.in_ok-parts.parts (λ i. omega (arith, c.type_inv.bytes i)) c.in_ok-parts.ensures (whole_read c.args.bytes.now c.in_ok-parts.parts (λ i. omega (arith, c.type_inv.bytes i)) c.in_ok-parts.ensures code))

pub returns-clause-again : goal.returns-clause-again
returns-clause-again c = λ image h e. c.new.ensures ∙ image_is c.in_ok-parts.parts image h (parts_same c.args.bytes.now image c.in_ok-parts.parts h e c.in_ok-parts.ensures)
