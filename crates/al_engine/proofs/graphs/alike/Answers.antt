use Rattle.std.proofs.Common.{IfSome}
use Rattle.al_engine.specs.GraphGraphs.{HaveSameHeaders}
use Rattle.al_engine.specs.Texts.{HaveTextsBut}
use Rattle.al_engine.proofs.Taken.{some_has}
use Rattle.al_engine.proofs.graphs.alike.Goals as goal

pub with_last-requires-clause-edited : goal.with_last-requires-clause-edited
with_last-requires-clause-edited g c =
    let library = g.R.ReadFiles.library in
    let files = g.R.ReadFiles.files in
    let now = library (files c.args.read.now) in
    some_has c.args.edited c.in-Some.edited (λ e. IfSome c.args.last.now (λ b. HaveSameHeaders (library (files b.read)) now × HaveTextsBut (library (files b.read)) now e)) c.in-Some.is c.requires.edited
