-- What the parts that were read are seen as.
use Rattle.std.specs.Prelude.{option_map}
use Rattle.al_link_image.specs.declared.parts.ImageParts.{ImageParts}
use Rattle.al_link_image.specs.Reading.{Parts}

abbrev pub parts_model : ImageParts → Parts
parts_model p = record { tasks = p.tasks; data_words = p.data_words; protected = p.protected.items; objects = p.objects.items; code = p.code.items; lines = option_map (λ v. v.items) p.lines }
