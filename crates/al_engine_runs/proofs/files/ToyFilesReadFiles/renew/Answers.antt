use Rattle.al_engine_runs.proofs.ToyFiles.{are_toys, edited_as, texts_are}
use Rattle.al_engine_runs.proofs.files.ToyFilesReadFiles.renew.Goals as goal

pub invariant_of-result : goal.invariant_of-result
invariant_of-result c = are_toys c.in_ok-sources.sources c.args.now.now c.in_ok-sources.ensures

pub returns-clause-files : goal.returns-clause-files
returns-clause-files c = texts_are c.in_ok-sources.sources c.args.now.now c.in_ok-sources.ensures

pub returns-clause-edited : goal.returns-clause-edited
returns-clause-edited c =
    rw (← c.self.view_is) (edited_as c.self.inside.sources c.in_ok-sources.sources c.self.invariant (are_toys c.in_ok-sources.sources c.args.now.now c.in_ok-sources.ensures) c.in_ok-edited.edited c.in_ok-edited.ensures)
