use Rattle.al_folder_served.proofs.image_files.tell_refused.Goals as goal

pub returns-clause-told : goal.returns-clause-told
returns-clause-told g c = λ start before wrote. rw c.as_bytes.ensures.value at (c.tell_line.ensures.told start before wrote)
