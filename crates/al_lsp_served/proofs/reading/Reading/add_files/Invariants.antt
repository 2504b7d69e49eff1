use Rattle.std.proofs.Common.{◌≡◌, fold, map, take}
use Rattle.al_lsp_served.specs.Overlays.{file_of, with_read}
use Rattle.al_lsp_served.proofs.reading.Reading.add_files.Given as goal

abbrev pub invariant-loop-file : goal.invariant-loop-file
invariant-loop-file l = l.self.texts ≡ fold with_read l.fn.self.texts (map file_of (take l.file-index l.files))
