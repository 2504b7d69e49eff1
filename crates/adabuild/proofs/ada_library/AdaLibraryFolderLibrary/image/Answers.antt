use Rattle.std.proofs.Common.{sym, ap, ◌∙◌, Some}
use Rattle.al_link_image.specs.Images.{Image, image_bytes}
use Rattle.al_session_served.specs.Library.{State}
use Rattle.al_folder_served.specs.Sources.{gave_last, image_in}
use Rattle.adabuild.proofs.Images.{with_image, without_image}
use Rattle.adabuild.proofs.ada_library.AdaLibraryFolderLibrary.image.Goals as goal

pub returns-in-Ok : goal.returns-in-Ok
returns-in-Ok g c =
    ap (λ (i : Image). Some (image_bytes i)) c.image-in-Ok.ensures
    ∙ sym (with_image c.engine.result.now.files c.engine.result.now.built c.in-Ok.program.now c.in-Ok.ensures)
    ∙ ap (λ (s : State). image_in (gave_last s)) c.engine.ensures

pub returns-in-Err : goal.returns-in-Err
returns-in-Err g c =
    sym (without_image c.engine.result.now.files c.engine.result.now.built c.in-Err.field-0 c.in-Err.ensures)
    ∙ ap (λ (s : State). image_in (gave_last s)) c.engine.ensures
