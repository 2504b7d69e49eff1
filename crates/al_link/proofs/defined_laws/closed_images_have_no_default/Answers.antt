use Rattle.al_link.proofs.DefinedPlaces.{no_default}
use Rattle.al_link.proofs.defined_laws.closed_images_have_no_default.Goals as goal

pub returns : goal.returns
returns c = no_default
