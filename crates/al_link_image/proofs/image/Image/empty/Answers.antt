use Rattle.std.proofs.Common.{refl}
use Rattle.al_link_image.proofs.Empty.{empty_whole}
use Rattle.al_link_image.proofs.image.Image.empty.Goals as goal

pub new-requires-4 : goal.new-requires-4
new-requires-4 c = empty_whole _ refl refl c.new.ensures.items c.new-2.ensures.items c.new-3.ensures.items refl
