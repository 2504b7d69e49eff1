use Rattle.al_folder_served.proofs.screen.Screen.begin.Goals as goal

pub returns-then-self-clause-told : goal.returns-then-self-clause-told
returns-then-self-clause-told g c = λ start before wrote. rw c.if-self.true (c.say.ensures start before wrote)
