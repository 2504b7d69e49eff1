use Rattle.std.proofs.Common.{◌≡◌, arith, subst}
use Rattle.std.specs.Option.{option_map}
use Rattle.al_unit_graph.specs.Headers.{Library}
use Rattle.al_unit_graph.specs.Library.{HasShortNames, source_at}
use Rattle.al_unit_graph.specs.Views.{library_of, source_model}
use Rattle.al_unit_graph.proofs.SourceLemmas.{source_at-library_of}
use Rattle.al_unit_graph.proofs.UnitLemmas.{within_some}
use Rattle.al_unit_graph.proofs.source.Sources.shared_at.Goals as goal

pub returns-clause-source : goal.returns-clause-source
returns-clause-source c = let same = source_at-library_of c.self.inside.files.entries c.args.file.now in grind (arith, same, c.self.view_is)

pub returns-clause-short : goal.returns-clause-short
returns-clause-short c =
    let lib = library_of c.self.inside.files.entries in
    let same = source_at-library_of c.self.inside.files.entries c.args.file.now in
    let found : option_map (λ s. source_model s.now.value) c.get.result ≡ source_at lib c.args.file.now = grind (arith, same) in
    within_some (λ s. source_model s.now.value) c.get.result lib c.args.file.now found c.self.invariant
