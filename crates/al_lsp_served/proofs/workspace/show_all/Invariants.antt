use Rattle.al_lsp_served.specs.Answers.{AddsNone}
use Rattle.al_lsp_served.specs.Pictures.{TellsNothing}
use Rattle.al_lsp_served.proofs.workspace.show_all.Given as goal

abbrev pub invariant-loop-fault : goal.invariant-loop-fault
invariant-loop-fault l = record {
  answers : AddsNone l.fn.out.items l.out.items;
  silent : TellsNothing l.fn.out.items l.out.items;
}
