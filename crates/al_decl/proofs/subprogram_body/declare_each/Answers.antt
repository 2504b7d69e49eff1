use Rattle.std.proofs.Common.{List, ap, ◌∙◌}
use Rattle.al_decl_judged.specs.declared.declaration.Declaration.{Declaration}
use Rattle.al_decl_judged.specs.declared.progress.Progress.{Progress}
use Rattle.al_decl.specs.Declaring.{with_declarations}
use Rattle.al_decl.specs.declared.env.Environment.{Environment}
use Rattle.al_decl_judged.specs.Frames.{formal_declarations}
use Rattle.al_decl_judged.specs.declared.frame.Formals.{Formals}
use Rattle.al_decl.proofs.Outcomes.{if_ok, on_ok}
use Rattle.al_decl.proofs.subprogram_body.declare_each.Goals as goal

abbrev with_progress : Environment → Progress → Environment
with_progress h p = record h { progress = p }

pub returns-clause-env : goal.returns-clause-env
returns-clause-env c =
    let h = c.args.env.now in
    on_ok c.make_known.result _ _
    (λ known.
    known
    ∙ ap (λ (f : Formals). with_declarations (with_progress h c.declare_formals.new.progress) f.declarations) c.in_ok-made.ensures.declared
    ∙ ap (λ (p : Progress). with_declarations (with_progress h p) (formal_declarations h.progress c.args.formals.now)) c.in_ok-made.ensures.taken)
    c.make_known.ensures.env

pub returns-clause-words : goal.returns-clause-words
returns-clause-words c = if_ok c.make_known.result _ _ (λ words known. known ∙ ap (λ (f : Formals). f.words) c.in_ok-made.ensures.declared) c.make_known.ensures.words
