-- The answer of a build, from the result of compiling.
use Rattle.std.specs.Prelude.{length}
use Rattle.al_engine.specs.Programs.{bytes_in}
use Rattle.al_engine.specs.declared.compiled.Compiled.{Compiled}
use Rattle.al_engine.specs.declared.compiled.Compiled.TheVariants.{Faulty, Unbound, TooLarge, Made}
use Rattle.al_engine.specs.declared.compiled.Program.{Program}
use Rattle.al_engine.specs.declared.answer.BuildAnswer.{BuildAnswer}
use Rattle.al_engine.specs.declared.answer.BuildAnswer.TheVariants as answers

-- the numbers of items of the partition and of bytes of the image
abbrev pub built : Program → BuildAnswer
built program = answers.Built (length program.order.items) (length (bytes_in program))

abbrev pub answer_of : Compiled → BuildAnswer
answer_of (Faulty diagnostics) = answers.Faults (length diagnostics.items)
answer_of (Unbound fault) = answers.Bind
answer_of (TooLarge order) = answers.TooLarge
answer_of (Made program) = built program
