use Rattle.std.proofs.Common.{◌≡◌, None, subst, sym}
use Rattle.al_base.specs.FileNames.{file_name_of}
use Rattle.al_unit_graph.specs.Headers.{Library}
use Rattle.al_unit_graph.specs.Library.{source_at}
use Rattle.al_unit_graph.specs.Views.{library_of}
use Rattle.al_unit_graph.proofs.UnitLemmas.{beyond}
use Rattle.al_unit_graph.proofs.source.Sources.source_of.Goals as goal

pub returns-in-None : goal.returns-in-None
returns-in-None c =
    let file = file_name_of (c.args.name.now, c.args.kind) in
    let P : Library → Type 0 = λ lib. None ≡ source_at lib file in
    subst P c.self.view_is (sym (beyond (library_of c.self.inside.files.entries) file c.self.invariant c.in-None.ensures))
