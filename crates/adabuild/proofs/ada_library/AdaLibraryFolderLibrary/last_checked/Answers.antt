use Rattle.adabuild.proofs.ada_library.AdaLibraryFolderLibrary.last_checked.Goals as goal

pub returns : goal.returns
returns g c = (c.engine.result.now.files, c.engine.result.now.built, c.engine.ensures, c.last_checked.ensures)
