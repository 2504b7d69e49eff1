use Rattle.std.proofs.Common.{◌≡◌, get_or, string_bytes}
use Rattle.al_lsp_served.proofs.Gathered.{read_folder}
use Rattle.al_lsp_served.proofs.reading.read_all.Goals as goal

pub loop-folder-preserved : goal.loop-folder-preserved
loop-folder-preserved g c =
    let item = c.folder-item.is in
    let value = c.as_str.ensures.value in
    let name : c.as_str.result.now ≡ string_bytes (get_or c.args.folders.now c.loop-folder.folder-index c.folder-item.result) = cc in
    read_folder (g.D.Folders.has c.args.disk.now) c.args.folders.now c.loop-folder.folder-index c.folder-item.result c.as_str.result.now c.loop-folder.reading.texts _ c.in_ok-add_folder.ensures.0 c.loop-folder-test.true name c.loop-folder.invariant c.in_ok-add_folder.ensures.1.0 c.in_ok-add_folder.ensures.1.1
