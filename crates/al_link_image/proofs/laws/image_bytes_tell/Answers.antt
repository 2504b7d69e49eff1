use Rattle.al_link_image.proofs.ReadLemmas.{images_told}
use Rattle.al_link_image.proofs.laws.image_bytes_tell.Goals as goal

pub returns : goal.returns
returns c = images_told
