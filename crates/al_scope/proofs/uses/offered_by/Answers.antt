use Rattle.std.proofs.Common.{◌≡◌, [], ◌∷◌, ◌∙◌, ◌++◌, Bool, List, cond, ap, sym, subst}
use Rattle.std.specs.List.{flat_map}
use Rattle.al_view.specs.Interfaces.{views_of}
use Rattle.al_view.specs.Named.{Declarations}
use Rattle.al_view.specs.declared.view.ViewKind.{ViewKind}
use Rattle.al_scope.specs.declared.region.UnitPart.{UnitPart}
use Rattle.al_scope.specs.Places.{used_part, visible_part}
use Rattle.al_scope.specs.Visible.{declared_by, offered_by}
use Rattle.al_scope.proofs.PartLemmas.{parts-none, parts-of}
use Rattle.al_scope.proofs.uses.offered_by.Goals as goal

pub returns-clause-answered : goal.returns-clause-answered
returns-clause-answered g c t h =
    let answered = c.in_ok-ask_more.ensures.answered t h in
    let m = c.args.mentioned.now in
    let name = c.args.name.now in
    let others = flat_map (λ (d : Declarations). views_of d name) c.args.used.now.operators in (
      answered.0,
      answered.1
          ∙ ap (λ l. l ++ declared_by t m name c.in_ok-part.part) c.new-declared.ensures
          ∙ ap (declared_by t m name) c.in_ok-part.ensures
          ∙ ap (λ (b : Bool). cond b (declared_by t m name (visible_part c.args.package_name.now)) others) (sym c.if-not-used.false),
    )

pub returns-clause-asks : goal.returns-clause-asks
returns-clause-asks g c =
    let part = ap (λ (p : UnitPart). p ∷ []) c.in_ok-part.ensures in
    let used = ap (λ (b : Bool). cond b (visible_part c.args.package_name.now ∷ []) []) (sym c.if-not-used.false) in
    parts-of (c.in_ok-part.part ∷ []) (used_part (c.args.package_name.now, c.args.used.now)) c.args.name.now c.args.recorder.now.log c.ask_more.new.recorder.log (part ∙ used) c.in_ok-ask_more.ensures.asks
