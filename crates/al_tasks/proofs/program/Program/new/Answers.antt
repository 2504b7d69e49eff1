use Rattle.std.proofs.Common.{◌≡◌, ◌∙◌, ap, sym, subst, true, List, ℕ, slice_get, Some}
use Rattle.al_instr.specs.declared.lines.LineEntry.{LineEntry}
use Rattle.al_instr.specs.Lines.{rise}
use Rattle.al_link_image.specs.declared.parts.Region.{Region}
use Rattle.al_machine.specs.declared.code.Step.{Step}
use Rattle.al_tasks.specs.Exclusion.{IsLaidOut}
use Rattle.al_tasks.specs.Task.{Program}
use Rattle.al_tasks.specs.WorldPrograms.{program_of}
use Rattle.al_tasks.proofs.WorldRunLemmas.{laid_out, lines_rise}
use Rattle.al_tasks.proofs.program.Program.new.Goals as goal

-- whether a program is laid out depends neither on its code nor on its units
with_code : (p : Program) (code : List Step) (objects : List Region) (units : List ℕ) (words tasks : ℕ) (lines : List LineEntry) → objects ≡ p.objects → words ≡ p.words → tasks ≡ p.tasks → IsLaidOut p
    → IsLaidOut (record { code = code; objects = objects; units = units; words = words; tasks = tasks; lines = lines })
with_code p code objects units words tasks lines e f g laid = rw (e, f, g) (record { regions = laid.regions; room = laid.room })

pub invariant_of-result : goal.invariant_of-result
unfolding program_of
invariant_of-result c =
    record {
      laid =
          with_code (program_of c.args.image.now) c.in_ok-code.code.code c.in_ok-code.code.objects c.in_ok-units.units.items c.data_words.result c.tasks.result c.in_ok-lines.lines.items
          c.in_ok-code.ensures.objects c.data_words.ensures.value c.tasks.ensures.value (laid_out c.args.image.now c.limits.ensures);
      lines = subst (λ (ls : List LineEntry). rise 0 0x1_0000_0000 ls ≡ true) (sym c.in_ok-lines.ensures) (lines_rise c.args.image.now c.limits.ensures);
    }
