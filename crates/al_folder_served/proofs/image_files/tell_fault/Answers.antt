use Rattle.al_folder_served.proofs.Voices.{on_ok_from}
use Rattle.al_folder_served.proofs.image_files.tell_fault.Goals as goal

pub returns-clause-told : goal.returns-clause-told
returns-clause-told g c = on_ok_from c.tell_line.result _ (c.as_bytes-2.result.now, λ start before wrote. rw c.as_bytes.ensures.value at (c.tell_line.ensures.told start before wrote))
