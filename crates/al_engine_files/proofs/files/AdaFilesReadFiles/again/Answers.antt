use Rattle.al_engine_files.proofs.OfTexts.{are_of_texts, edited_as, files_are}
use Rattle.al_engine_files.proofs.files.AdaFilesReadFiles.again.Goals as goal

pub invariant_of-result : goal.invariant_of-result
invariant_of-result c = are_of_texts c.in_ok-again.again.0 c.args.now.now c.in_ok-again.ensures.sources

pub returns-clause-files : goal.returns-clause-files
returns-clause-files c = files_are c.in_ok-again.again.0 c.args.now.now c.in_ok-again.ensures.sources

pub returns-clause-edited : goal.returns-clause-edited
returns-clause-edited c =
    rw (← c.before-2.view_is) (edited_as c.before-2.inside.sources c.in_ok-again.again.0 c.before-2.invariant (are_of_texts c.in_ok-again.again.0 c.args.now.now c.in_ok-again.ensures.sources) c.in_ok-again.again.1 c.in_ok-again.ensures.edited)
