use Rattle.al_tasks.proofs.ReadLemmas.{words_are_unread}
use Rattle.al_tasks.proofs.WordsLemmas.{words_are_kept}
use Rattle.al_tasks.proofs.WorldRunLemmas.{laid_out}
use Rattle.al_tasks.specs.World.{after, load}
use Rattle.al_tasks.specs.WorldPrograms.{program_of}
use Rattle.al_tasks.specs.Exclusion.{InsideNothing}
use Rattle.al_tasks.proofs.WorldQueueLemmas.{Away, all_apart, each-weaker}
use Rattle.al_tasks.proofs.StepLemmas.{keeps-after, keeps-load}
use Rattle.al_tasks.proofs.laws.exclusion.Goals as goal

pub returns-clause-apart : goal.returns-clause-apart
returns-clause-apart c image events =
    let p = program_of image in
    let w = after p (load p) events in
    let k = keeps-after p (load p) events (keeps-load p) in
    all_apart p.objects w.ready k.tasks k.above

pub returns-clause-nothing : goal.returns-clause-nothing
returns-clause-nothing c image events =
    let p = program_of image in
    let w = after p (load p) events in
    let k = keeps-after p (load p) events (keeps-load p) in
    each-weaker Away InsideNothing (λ t h. h.0) w.paused k.away

pub returns-clause-above : goal.returns-clause-above
returns-clause-above c image events = let p = program_of image in let k = keeps-after p (load p) events (keeps-load p) in k.above

pub returns-clause-levels : goal.returns-clause-levels
returns-clause-levels c image events = let p = program_of image in let k = keeps-after p (load p) events (keeps-load p) in k.levels

pub returns-clause-words : goal.returns-clause-words
returns-clause-words c image events is = words_are_kept (program_of image) (laid_out image is) events

pub returns-clause-unread : goal.returns-clause-unread
returns-clause-unread c image events is = words_are_unread (program_of image) (laid_out image is) events
