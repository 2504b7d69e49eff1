-- What is reported of the last build, in the types of a session.
use Rattle.std.proofs.Common.{◌≡◌, ℕ, List, Option, Some, None, Ok, option_map, refl, ap, subst, ◌∙◌}
use Rattle.al_base.specs.Files.{Texts}
use Rattle.al_unit_graph.specs.Headers.{Header, Library}
use Rattle.al_query.specs.declared.answer.AnswerKind.{AnswerKind}
use Rattle.al_query.specs.declared.query.Query.{Query}
use Rattle.al_engine_refresh.specs.EntryLaw.{TextMeaning}
use Rattle.al_engine.specs.declared.compiled.Compiled.{Compiled}
use Rattle.al_engine.specs.declared.compiled.Compiled.TheVariants.{Faulty, Unbound, TooLarge, Made}
use Rattle.al_engine.specs.Programs.{image_in}
use Rattle.al_engine.specs.declared.compiled.Program.{Program}
use Rattle.al_engine.specs.Gave.{program_of}
use Rattle.al_tasks.specs.WorldRuns as images
use Rattle.al_engine.specs.Reports.{or_no_image, reported}
use Rattle.al_engine.specs.States.{Built}
use Rattle.al_tasks.specs.declared.running.RunReport as image_ran
use Rattle.al_session_served.specs.Builds as adds
use Rattle.al_session_served.specs.Library.{State, image_refusal, run_refusal}
use Rattle.al_session_served.specs.RunReport.{IsRunOf}
use Rattle.al_session_served.specs.declared.run.RunEnd as ends
use Rattle.al_session.specs.EngineMeanings.{CompilesTo, IsLastOnly, Runs, last_model, state_of}
use Rattle.al_session.specs.Results.{end_of, result_of, run_told}

-- ---- the image

an_image : (compiled : Compiled) (program : Program) → or_no_image (program_of compiled) ≡ Ok program → image_refusal (adds.image_of (result_of compiled)) ≡ None
an_image (Faulty diagnostics) program is = cc
an_image (Unbound fault) program is = cc
an_image (TooLarge order) program is = cc
an_image (Made made) program is = refl

no_refusal : (built : Option Built) (program : Program) → reported program_of built ≡ Ok program → run_refusal (option_map last_model built) ≡ None
no_refusal None program is = cc
no_refusal (Some b) program is = an_image b.gave.compiled program is

-- only a program is one
made_program : (compiled : Compiled) (program : Program) → or_no_image (program_of compiled) ≡ Ok program → compiled ≡ Made program
made_program (Faulty diagnostics) program is = cc
made_program (Unbound fault) program is = cc
made_program (TooLarge order) program is = cc
made_program (Made made) program is = let same : made ≡ program = cc in ap Made same

module _ (meaning : TextMeaning) (header : List ℕ → Header) (predefined : Query → AnswerKind) (library : Texts → Library) where
  the_run : (files : Texts) (main : List ℕ) (compiled : Compiled) (program : Program) (tick steps : ℕ) (run : adds.Run)
      → CompilesTo meaning header predefined library files main compiled → or_no_image (program_of compiled) ≡ Ok program → run ≡ run_told (images.run_of (image_in program) tick steps) → Runs meaning header predefined library files main tick steps run
  the_run files main compiled program tick steps run compiles is ran =
      record { program = program; compiles = subst (λ (c : Compiled). CompilesTo meaning header predefined library files main c) (made_program compiled program is) compiles; run_is = ran }

  -- the image of the last build is the one that its files give
  run_of_last : (built : Option Built) (program : Program) (tick steps : ℕ) (run : adds.Run) → IsLastOnly meaning header predefined library built → reported program_of built ≡ Ok program → run ≡ run_told (images.run_of (image_in program) tick steps) → IsRunOf (Runs meaning header predefined library) tick steps (option_map last_model built) run
  run_of_last None program tick steps run right is ran = cc
  run_of_last (Some b) program tick steps run right is ran = the_run b.files b.main b.gave.compiled program tick steps run right is ran

  -- if the library answers with a run, so does the session
  pub run_answers : (files : Texts) (built : Option Built) (state : State) (tick steps : ℕ) (ran : image_ran.RunReport) (ended : ends.RunEnd)
      → state_of files built ≡ state → IsLastOnly meaning header predefined library built → ended ≡ end_of ran.ended
      → (program : Program) → reported program_of built ≡ Ok program → images.run_model ran ≡ images.run_of (image_in program) tick steps
      → (run_refusal state.built ≡ None) × IsRunOf (Runs meaning header predefined library) tick steps state.built (record { output = ran.output.items; ended = ended })
  run_answers files built state tick steps ran ended view right same program there is =
      let run : adds.Run = record { output = ran.output.items; ended = ended } in
      let seen : run ≡ run_told (images.run_model ran) = ap (λ (e : ends.RunEnd). let r : adds.Run = record { output = ran.output.items; ended = e } in r) same in
      let P : State → Type 0 = λ s. (run_refusal s.built ≡ None) × IsRunOf (Runs meaning header predefined library) tick steps s.built run in
      subst P view (no_refusal built program there, run_of_last built program tick steps run right there (seen ∙ ap run_told is))
