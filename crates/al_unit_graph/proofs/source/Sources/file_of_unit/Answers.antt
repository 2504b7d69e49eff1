use Rattle.std.proofs.Common.{◌≡◌, ℕ, ◌<◌, length, None, List, subst}
use Rattle.al_base.specs.Batch.{key_of}
use Rattle.al_base.specs.FileNames.{file_name_of}
use Rattle.al_unit_graph.specs.Headers.{Library}
use Rattle.al_unit_graph.specs.Library.{unit_at}
use Rattle.al_unit_graph.specs.Views.{library_of}
use Rattle.al_unit_graph.proofs.UnitLemmas.{unit_beyond}
use Rattle.al_unit_graph.proofs.source.Sources.file_of_unit.Goals as goal

pub returns-in-None : goal.returns-in-None
returns-in-None c =
    let key = key_of c.args.key.now in
    let Long : List ℕ → Type 0 = λ n. 255 < length (file_name_of (n, c.args.key.now.kind)) in
    let long = subst Long c.as_slice.ensures c.in-None.ensures in
    let P : Library → Type 0 = λ lib. unit_at lib key ≡ None in
    subst P c.self.view_is (unit_beyond (library_of c.self.inside.files.entries) key c.self.invariant long)
