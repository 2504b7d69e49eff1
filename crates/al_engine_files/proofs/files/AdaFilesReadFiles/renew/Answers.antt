use Rattle.al_engine_files.proofs.OfTexts.{are_of_texts, edited_as, files_are}
use Rattle.al_engine_files.proofs.files.AdaFilesReadFiles.renew.Goals as goal

pub invariant_of-result : goal.invariant_of-result
invariant_of-result c = are_of_texts c.in_ok-renewed.renewed.0 c.args.now.now c.in_ok-renewed.ensures.sources

pub returns-clause-files : goal.returns-clause-files
returns-clause-files c = files_are c.in_ok-renewed.renewed.0 c.args.now.now c.in_ok-renewed.ensures.sources

pub returns-clause-edited : goal.returns-clause-edited
returns-clause-edited c =
    rw (← c.self.view_is) (edited_as c.self.inside.sources c.in_ok-renewed.renewed.0 c.self.invariant (are_of_texts c.in_ok-renewed.renewed.0 c.args.now.now c.in_ok-renewed.ensures.sources) c.in_ok-renewed.renewed.1 c.in_ok-renewed.ensures.edited)
