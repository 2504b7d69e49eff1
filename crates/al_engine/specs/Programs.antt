-- The image of a program and its bytes.
use Rattle.std.specs.Prelude.{ℕ, List}
use Rattle.al_link.specs.Images.{image_of}
use Rattle.al_link_image.specs.Images.{Image, image_bytes}
use Rattle.al_engine.specs.declared.compiled.Program.{Program}

abbrev pub image_in : Program → Image
image_in program = image_of program.linked.main program.linked.units

abbrev pub bytes_in : Program → List ℕ
bytes_in program = image_bytes (image_in program)
