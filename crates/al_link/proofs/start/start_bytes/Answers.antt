use Rattle.std.proofs.Common.{List, ap, ◌∙◌}
use Rattle.al_instr.specs.declared.instruction.Instr.{Instr}
use Rattle.al_instr.specs.Codes.{code_bytes}
use Rattle.al_link_image.proofs.CodeLemmas.{is_code}
use Rattle.al_link.proofs.start.start_bytes.Goals as goal

pub returns-clause-is_code : goal.returns-clause-is_code
returns-clause-is_code c =
    is_code c.in_ok-bytes.bytes.items c.in_ok-code.code.items c.in_ok-code.ensures.fits (c.in_ok-bytes.ensures ∙ ap (λ (xs : List Instr). code_bytes xs) c.as_slice.ensures.value)
