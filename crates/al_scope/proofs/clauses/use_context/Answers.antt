use Rattle.std.proofs.Common.{◌≡◌, [], ◌++◌, ◌∙◌, List, cond, ap, sym}
use Rattle.al_query.specs.declared.answer.UseInPart.{UseInPart}
use Rattle.al_view.specs.Symbols.{same_part}
use Rattle.al_view.specs.declared.part.Part.TheVariants.{Private}
use Rattle.al_scope.specs.UnitPlaces.{inside, with_clauses}
use Rattle.al_scope.proofs.UnitPlaceLemmas.{joined-first, joined-second, with_clauses-join}
use Rattle.al_scope.proofs.clauses.use_context.Goals as goal

pub returns-clause-regions : goal.returns-clause-regions
returns-clause-regions c =
    let part = c.args.part.now in
    let old = c.args.scope.now.regions in
    let uses = c.args.context.now.uses in
    let within = inside c.args.context.now.uses_inside part in
    c.in_ok-use_inside-2.ensures.regions
    ∙ ap (λ us. with_clauses (inside us part) c.use_each.new.scope.regions) c.as_slice-3.ensures
    ∙ ap (with_clauses within) (c.in_ok-use_each.ensures.regions ∙ ap (λ us. with_clauses us old) c.as_slice-2.ensures)
    ∙ sym (ap (λ b. with_clauses (cond b [] uses ++ within) old) (sym c.is.ensures ∙ c.if-is.false) ∙ with_clauses-join uses within old)

pub returns-in_err-use_each-clause-takes_none : goal.returns-in_err-use_each-clause-takes_none
returns-in_err-use_each-clause-takes_none c none =
    let part = c.args.part.now in
    let uses = c.args.context.now.uses in
    let within = inside c.args.context.now.uses_inside part in
    let first : cond (same_part part Private) [] uses ≡ [] = joined-first (cond (same_part part Private) [] uses) within none in
    let isnt = sym c.is.ensures ∙ c.if-is.false in
    let each = c.in_err-use_each.ensures.takes_none (c.as_slice-2.ensures ∙ sym (ap (λ b. cond b [] uses) isnt) ∙ first) in
    absurd (cc)

pub returns-in_err-use_inside-2-clause-takes_none : goal.returns-in_err-use_inside-2-clause-takes_none
returns-in_err-use_inside-2-clause-takes_none c none =
    let part = c.args.part.now in
    let second = joined-second (cond (same_part part Private) [] c.args.context.now.uses) (inside c.args.context.now.uses_inside part) none in
    let used = c.in_err-use_inside-2.ensures.takes_none (ap (λ (us : List UseInPart). inside us part) c.as_slice-3.ensures ∙ second) in
    absurd (cc)
