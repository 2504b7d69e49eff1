use Rattle.std.proofs.Common.{◌∙◌, [], Bool, ap, sym, if◌then◌else◌}
use Rattle.al_scope.specs.declared.hiding.RegionEntry.{RegionEntry}
use Rattle.al_scope.specs.Visible.{found_in}
use Rattle.al_scope.proofs.PartLemmas.{parts-none}
use Rattle.al_scope.proofs.search.find_told.Goals as goal

pub returns-then-tells-clause-answered : goal.returns-then-tells-clause-answered
returns-then-tells-clause-answered g c t h =
    let answered = c.in_ok-found.ensures.answered t h in
    let views = (found_in t c.args.mentioned.now c.args.name.now c.args.region.now).views in
    (answered.0, ap (λ (f : RegionEntry). f.views) answered.1 ∙ ap (λ (b : Bool). if b then views else []) (sym c.if-tells.true ∙ c.tells.ensures))

pub returns-clause-answered : goal.returns-clause-answered
returns-clause-answered g c t h =
    let views = (found_in t c.args.mentioned.now c.args.name.now c.args.region.now).views in
    (h, c.new.ensures ∙ ap (λ (b : Bool). if b then views else []) (sym c.if-tells.false ∙ c.tells.ensures))

pub returns-clause-asks : goal.returns-clause-asks
returns-clause-asks g c = parts-none c.args.region.now.parts c.args.name.now c.args.recorder.now.log
