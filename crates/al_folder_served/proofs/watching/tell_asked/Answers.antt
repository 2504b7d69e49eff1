use Rattle.std.proofs.Common.{◌≡◌, ◌∙◌, ℕ, List, OnOk, Some, subst}
use Rattle.al_session_stream.specs.Output.{Adds}
use Rattle.al_folder_served.specs.UnitReasons.{TellsWhy}
use Rattle.al_folder_served.proofs.watching.tell_asked.Goals as goal

same_name : (a b : List ℕ) → Some a ≡ Some b → a ≡ b
same_name a b is = cc

pub returns-in-Some-clause-why : goal.returns-in-Some-clause-why
returns-in-Some-clause-why g c = λ unasked name is.
    subst (λ (n : List ℕ). OnOk c.tell_why.result (TellsWhy (g.L.FolderLibrary.is_why c.args.library.now) (Adds g.E.Sink.written g.E.Sink.faults g.E.Sink.waits c.args.screen.now.error.sink c.tell_why.new.screen.error.sink c.args.screen.now.error.so_far c.tell_why.new.screen.error.so_far) c.args.screen.now.is_open n))
    (same_name c.in-Some.name.now name (c.in-Some.ensures ∙ is)) c.tell_why.ensures.told
