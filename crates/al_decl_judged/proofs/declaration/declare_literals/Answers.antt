use Rattle.std.proofs.Common.{◌≡◌, ℕ, List, [], ◌∷◌, ◌++◌, ◌∙◌, ap, rules}
use Rattle.al_view.specs.declared.view.ViewKind.{ViewKind}
use Rattle.al_view_predefined.specs.Standard.{literal}
use Rattle.al_decl_judged.specs.declared.declaration.Declaration.{Declaration}
use Rattle.al_decl_judged.specs.Homonyms.{with_name}
use Rattle.al_decl_judged.specs.TypeDeclarations.{declared_as}
use Rattle.al_decl_judged.proofs.DeclarationLemmas.{literals_more, names_more}
use Rattle.al_decl_judged.proofs.declaration.declare_literals.Goals as goal

pub loop-i-preserved : goal.loop-i-preserved
loop-i-preserved c =
    let name = c.index-literals-i.result in
    let position : c.in-Ok.position ≡ c.loop-i.i = search rules in
    let counted = c.in_ok-number.ensures.ok ∙ ap (λ (n : List ℕ). with_name c.loop-i.homonyms n) c.as_slice.ensures in
    let item =
    c.in_ok-declared_as.ensures
    ∙ ap (λ (n : List ℕ). declared_as n c.in_ok-view.view) c.as_slice-in-loop-i.ensures
    ∙ ap (λ (v : ViewKind). declared_as name v) c.in_ok-view.ensures
    ∙ ap (λ (p : ℕ). declared_as name (literal c.args.symbol.now c.args.types.now p)) position in
    let made = c.in_ok-push.ensures ∙ ap (λ (d : Declaration). c.loop-i.declared ++ d ∷ []) item in (
      names_more c.args.homonyms.now c.loop-i.homonyms c.number.new.self c.args.literals.now c.loop-i.i name c.loop-i-test.true c.index-literals-i.is counted c.loop-i.invariant.0,
      literals_more c.args.symbol.now c.args.types.now c.args.declared.now c.loop-i.declared c.push.new.self c.args.literals.now c.loop-i.i name c.loop-i-test.true c.index-literals-i.is made c.loop-i.invariant.1,
    )
