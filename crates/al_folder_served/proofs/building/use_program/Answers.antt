use Rattle.std.proofs.Common.{ℕ, List, true≢false, refl, sym, ap, ◌∙◌}
use Rattle.al_session_stream.specs.Output.{Adds}
use Rattle.al_folder.specs.declared.status.Ending.{Ending}
use Rattle.al_folder.specs.declared.status.Ending.TheVariants.{Done}
use Rattle.al_folder_served.specs.Runs.{WritesNext}
use Rattle.al_folder_served.specs.Sources.{gave_last, order_in}
use Rattle.al_folder_served.specs.Told.{worse_of}
use Rattle.al_folder_served.proofs.Uses.{orders_next, worse_done}
use Rattle.al_folder_served.proofs.building.use_program.Goals as goal

pub returns-then-not-runs-clause-ordered : goal.returns-then-not-runs-clause-ordered
returns-then-not-runs-clause-ordered g c = λ asked.
    let Puts : List ℕ → Type 0 = Adds g.O.Sink.written g.O.Sink.faults g.O.Sink.waits c.args.screen.now.output.sink c.print_asked_order.new.screen.output.sink c.args.screen.now.output.so_far c.print_asked_order.new.screen.output.so_far in
    let Then : List ℕ → Type 0 = WritesNext g.O.Sink.written g.O.Sink.faults g.O.Sink.waits c.args.screen.now.output.sink c.args.screen.now.output.so_far in
    orders_next g.L.FolderLibrary.are_reasons c.args.sources.now.texts (order_in (gave_last (g.L.UnitLibrary.state c.args.library.now))) Puts Then (λ piece adds. (c.print_asked_order.new.screen.output.sink, c.print_asked_order.new.screen.output.so_far, adds)) (c.in_ok-print_asked_order.ensures.put asked)

pub returns-then-not-runs-clause-saved : goal.returns-then-not-runs-clause-saved
returns-then-not-runs-clause-saved g c =
    (c.in_ok-saved.saved, Done, rw c.print_asked_order.ensures.quiet.0 at c.in_ok-saved.ensures.saved, worse_done c.in_ok-saved.saved, λ off. refl)

pub returns-then-not-runs-clause-ran : goal.returns-then-not-runs-clause-ran
returns-then-not-runs-clause-ran g c = λ nothing order image run. absurd (true≢false (sym (c.in_ok-runs.ensures nothing).0 ∙ c.if-not-runs.true))

pub returns-clause-ordered : goal.returns-clause-ordered
returns-clause-ordered g c = λ asked.
    let Puts : List ℕ → Type 0 = Adds g.O.Sink.written g.O.Sink.faults g.O.Sink.waits c.args.screen.now.output.sink c.print_asked_order.new.screen.output.sink c.args.screen.now.output.so_far c.print_asked_order.new.screen.output.so_far in
    let Then : List ℕ → Type 0 = WritesNext g.O.Sink.written g.O.Sink.faults g.O.Sink.waits c.args.screen.now.output.sink c.args.screen.now.output.so_far in
    orders_next g.L.FolderLibrary.are_reasons c.args.sources.now.texts (order_in (gave_last (g.L.UnitLibrary.state c.args.library.now))) Puts Then (λ piece adds. (c.print_asked_order.new.screen.output.sink, c.print_asked_order.new.screen.output.so_far, adds)) (c.in_ok-print_asked_order.ensures.put asked)

pub returns-clause-saved : goal.returns-clause-saved
returns-clause-saved g c =
    (c.in_ok-saved.saved, c.in_ok-ran.ran, rw c.print_asked_order.ensures.quiet.0 at c.in_ok-saved.ensures.saved, c.worse_of.ensures, c.in_ok-ran.ensures.done)

pub returns-clause-ran : goal.returns-clause-ran
returns-clause-ran g c = λ nothing order image run.
    let shown = (c.in_ok-runs.ensures nothing).1 in
    let output = ap (λ s. s.output) shown ∙ c.save_program.ensures.quiet.0 ∙ c.print_asked_order.ensures.none order in
    let error = ap (λ s. s.error) shown ∙ (c.in_ok-saved.ensures.none image).1 ∙ c.print_asked_order.ensures.quiet.0 in
    let form = ap (λ s. s.form) shown ∙ c.save_program.ensures.quiet.1 ∙ c.print_asked_order.ensures.quiet.1 in
    let saved = (c.in_ok-saved.ensures.none image).0 in
    let ran = (rw c.requires at c.in_ok-ran.ensures.ran) run in
    rw (c.worse_of.ensures ∙ ap (λ (e : Ending). worse_of e c.in_ok-ran.ran) saved) (rw (output, error, form) at ran)
