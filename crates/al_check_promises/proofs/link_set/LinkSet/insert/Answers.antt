use Rattle.std.proofs.Common.{refl}
use Rattle.std.proofs.lemmas.Result.{on_ok_weaker}
use Rattle.al_check_promises.proofs.Gained.{code_gained, gates_gained, entry_bodies_gained, flags_gained, words_gained, protected_objects_gained}
use Rattle.al_check_promises.proofs.link_set.LinkSet.insert.Goals as goal

pub returns-in-Code : goal.returns-in-Code
returns-in-Code c = rw c.in-Code.is (on_ok_weaker c.insert.result (λ grows. code_gained c.args.self.now _ c.insert.new.self c.args.symbol.now refl grows) c.insert.ensures)

pub returns-in-Gate : goal.returns-in-Gate
returns-in-Gate c = rw c.in-Gate.is (on_ok_weaker c.insert-in-Gate.result (λ grows. gates_gained c.args.self.now _ c.insert-in-Gate.new.self c.args.symbol.now refl grows) c.insert-in-Gate.ensures)

pub returns-in-EntryBody : goal.returns-in-EntryBody
returns-in-EntryBody c = rw c.in-EntryBody.is (on_ok_weaker c.insert-in-EntryBody.result (λ grows. entry_bodies_gained c.args.self.now _ c.insert-in-EntryBody.new.self c.args.symbol.now refl grows) c.insert-in-EntryBody.ensures)

pub returns-in-Flag : goal.returns-in-Flag
returns-in-Flag c = rw c.in-Flag.is (on_ok_weaker c.insert-in-Flag.result (λ grows. flags_gained c.args.self.now _ c.insert-in-Flag.new.self c.args.symbol.now refl grows) c.insert-in-Flag.ensures)

pub returns-in-Data : goal.returns-in-Data
returns-in-Data c = rw c.in-Data.is (on_ok_weaker c.insert-in-Data.result (λ grows. words_gained c.args.self.now _ c.insert-in-Data.new.self c.args.symbol.now refl grows) c.insert-in-Data.ensures)

pub returns-in-Protected : goal.returns-in-Protected
returns-in-Protected c = rw c.in-Protected.is (on_ok_weaker c.insert-in-Protected.result (λ grows. protected_objects_gained c.args.self.now _ c.insert-in-Protected.new.self c.args.symbol.now refl grows) c.insert-in-Protected.ensures)
