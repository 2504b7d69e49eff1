-- The program of an image.
use Rattle.std.specs.Prelude.{ℕ, List, [], map, unwrap_or}
use Rattle.al_machine.specs.Code.{steps_from}
use Rattle.al_link_image.specs.declared.parts.ImageObject.{ImageObject}
use Rattle.al_link_image.specs.Images.{Image}
use Rattle.al_tasks.specs.Task.{Program}

-- the places at which the code of the units begins
abbrev pub beginnings : List ImageObject → List ℕ
beginnings objects = map (λ o. o.place) objects

unfoldable pub program_of : Image → Program
program_of image = record {
  code = steps_from 0 image.code;
  objects = image.protected;
  units = beginnings image.objects;
  words = image.data_words;
  tasks = image.tasks;
  lines = unwrap_or image.lines [];
}
