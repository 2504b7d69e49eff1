-- Why there is no image, if the code isn't one of instructions.
use Rattle.al_instr.specs.declared.fault.DecodeFault.{DecodeFault}
use Rattle.al_instr.specs.declared.fault.DecodeFault.TheVariants as decoding
use Rattle.al_link_image.specs.declared.fault.LinkFault.{LinkFault}
use Rattle.al_link_image.specs.declared.fault.LinkFault.TheVariants as linking

abbrev pub decode_fault : DecodeFault → LinkFault
decode_fault decoding.Damaged = linking.Damaged
decode_fault decoding.NoMemory = linking.NoMemory
