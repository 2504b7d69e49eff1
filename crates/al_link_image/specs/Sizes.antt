-- How many bytes an image has.
use Rattle.std.specs.Prelude.{ℕ, ◌+◌, ◌*◌, List, length, Option, Some, None, option_map}
use Rattle.std.specs.List.{flat_map}
use Rattle.al_instr.specs.Codes.{code_bytes}
use Rattle.al_instr.specs.declared.lines.LineEntry.{LineEntry}
use Rattle.al_link_image.specs.Images.{Image, object_bytes}
use Rattle.al_link_image.specs.declared.parts.ImageParts.{ImageParts}

-- the number of the lines, and two numbers each
abbrev pub lines_size : Option (List LineEntry) → ℕ
lines_size None = 0
lines_size (Some es) = 4 + 8 * length es

-- mark, version and five numbers; three numbers for each protected object; the objects; the code; the lines
abbrev pub image_size : Image → ℕ
image_size i = 26 + 12 * length i.protected + length (flat_map object_bytes i.objects) + length (code_bytes i.code) + lines_size i.lines

abbrev pub parts_size : ImageParts → ℕ
parts_size p = 26 + 12 * length p.protected.items + length (flat_map object_bytes p.objects.items) + length p.code.items + lines_size (option_map (λ v. v.items) p.lines)
