use Rattle.std.proofs.Common.{◌≡◌, false, is_some, sym, append-nil, append_assoc, arith}
use Rattle.std.proofs.lemmas.Grind.{common_steps}
use Rattle.al_session_served.specs.Builds.{image_of}
use Rattle.al_session_served.specs.Outcomes.{outcome_model}
use Rattle.al_folder_served.proofs.ToldBuilds.{told_unmade}
use Rattle.al_folder_served.proofs.telling.tell_build.Goals as goal

pub returns-clause-told : goal.returns-clause-told
returns-clause-told g c = λ start before wrote.
    let one = c.begin.ensures.told start before wrote in
    let two = c.say_built.ensures start _ one in
    let three = c.end.ensures.told start _ two in
    let none : is_some (image_of (outcome_model c.in-Some.built.outcome)) ≡ false = grind (arith, common_steps, c.if-is_some.false, c.image.ensures, c.is_some.ensures) in
    let told = told_unmade c.args.screen.now.is_open c.args.sources.now.folders c.args.sources.now.texts c.args.is_plain c.in-Some.built.main.now (outcome_model c.in-Some.built.outcome) none in
    rw (sym c.last.ensures, c.in-Some.is, told) (rw (append_assoc before) at (rw append-nil at three))
