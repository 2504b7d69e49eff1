use Rattle.std.proofs.Common.{map, take, string_bytes}
use Rattle.al_lsp_served.specs.Overlays.{AreGathered}
use Rattle.al_lsp_served.proofs.reading.read_all.Given as goal

abbrev pub invariant-loop-folder : goal.invariant-loop-folder
invariant-loop-folder g l = AreGathered (g.D.Folders.has l.disk) (map string_bytes (take l.folder-index l.folders)) l.reading.texts
