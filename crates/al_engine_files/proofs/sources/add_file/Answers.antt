use Rattle.al_engine_files.proofs.OfTexts.{now_known}
use Rattle.al_engine_files.proofs.sources.add_file.Goals as goal

pub returns-clause-known : goal.returns-clause-known
returns-clause-known c = λ is. now_known c.args.before.now c.args.file.now c.args.text.now.value.items c.in_ok-held.held.1 c.note_kept.new.edited c.in_ok-held.ensures.kept (c.in_ok-is_alike.ensures.noted is)
