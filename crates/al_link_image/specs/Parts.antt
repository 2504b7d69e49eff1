-- The parts of an image, with the code by its bytes.
use Rattle.std.specs.Prelude.{◌≡◌, ℕ, zero, suc, List, [], ◌∷◌, length, All}
use Rattle.std.specs.Option.{option_map_or}
use Rattle.std.specs.Prelude.{option_map}
use Rattle.al_instr.specs.declared.instruction.Instr.{Instr}
use Rattle.al_instr.specs.Codes.{code_bytes, IsInstr}
use Rattle.al_instr.specs.Reading.{decoded}
use Rattle.al_link_image.specs.declared.parts.ImageParts.{ImageParts}
use Rattle.al_link_image.specs.Images.{Image, IsImage}

-- the first instructions of some bytes, up to so many
unfoldable pub instructions_in : ℕ → List ℕ → List Instr
instructions_in zero bytes = []
instructions_in (suc n) bytes = option_map_or (λ x. x.0 ∷ instructions_in n x.1) (decoded bytes) []

-- the instructions whose bytes these are
abbrev pub code_of : List ℕ → List Instr
code_of bytes = instructions_in (length bytes) bytes

-- the bytes are those of instructions, one after the other
pub record IsCode (bytes : List ℕ) : Type 0 where
  pub are : All IsInstr (code_of bytes)
  pub bytes_are : code_bytes (code_of bytes) ≡ bytes

abbrev pub image_of : ImageParts → Image
image_of p = record {
  tasks = p.tasks;
  data_words = p.data_words;
  protected = p.protected.items;
  objects = p.objects.items;
  code = code_of p.code.items;
  lines = option_map (λ v. v.items) p.lines;
}

-- the parts are those of an image
pub record IsWhole (p : ImageParts) : Type 0 where
  pub within : IsImage (image_of p)
  pub bytes_are : code_bytes (code_of p.code.items) ≡ p.code.items
