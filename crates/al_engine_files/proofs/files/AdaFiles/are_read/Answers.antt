use Rattle.al_engine_files.proofs.files.AdaFiles.are_read.Goals as goal

pub returns : goal.returns
returns c = λ header reads. record {
  headed = λ files. (c.texts_are_headed.ensures header files reads).0;
  bodies = λ files. (c.texts_are_headed.ensures header files reads).1;
  alike = c.texts_are_read_alike.ensures;
}
