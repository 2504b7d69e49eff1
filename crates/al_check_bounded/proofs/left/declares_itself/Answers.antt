use Rattle.std.proofs.Common.{◌∙◌, ℕ, List, true, false, not, refl, ap, is_some}
use Rattle.al_base.specs.declared.unit_key.UnitKind.TheVariants.{Decl, Body, Sub}
use Rattle.al_query.specs.Answers.{declaration, own_view_of}
use Rattle.al_query.specs.Asked.{OfKnown}
use Rattle.al_query.specs.declared.query.Property.TheVariants.{Kind}
use Rattle.al_query.specs.declared.query.Query.TheVariants.{Of}
use Rattle.al_query.proofs.AskLemmas.{asks_none}
use Rattle.al_check_bounded.specs.Bounding.{allowed, bounded}
use Rattle.al_check_bounded.proofs.LeftLemmas.{declares_of}
use Rattle.al_check_bounded.proofs.left.declares_itself.Goals as goal

pub returns-in-Decl-clause-answered : goal.returns-in-Decl-clause-answered
returns-in-Decl-clause-answered g c t h = let b = c.args.bounds.now in (h, declares_of b (bounded b t) Decl true c.in-Decl.is refl)

pub returns-in-Decl-clause-asks : goal.returns-in-Decl-clause-asks
returns-in-Decl-clause-asks g c = let b = c.args.bounds.now in asks_none (OfKnown b.known (allowed b)) c.args.recorder.now.log

pub returns-in-Sub-clause-answered : goal.returns-in-Sub-clause-answered
returns-in-Sub-clause-answered g c t h = let b = c.args.bounds.now in (h, declares_of b (bounded b t) Sub false c.in-Sub.is refl)

pub returns-in-Sub-clause-asks : goal.returns-in-Sub-clause-asks
returns-in-Sub-clause-asks g c = let b = c.args.bounds.now in asks_none (OfKnown b.known (allowed b)) c.args.recorder.now.log

pub returns-in_ok-has_view-in-Body-clause-answered : goal.returns-in_ok-has_view-in-Body-clause-answered
returns-in_ok-has_view-in-Body-clause-answered g c t h =
    let b = c.args.bounds.now in
    let a = c.in_ok-has_view-in-Body.ensures.answered t h in
    let there = a.1 ∙ ap (λ (n : List ℕ). is_some (own_view_of (bounded b t (Of (declaration n) Kind)))) c.as_slice-name.ensures in
    (a.0, declares_of b (bounded b t) Body (not c.in_ok-has_view-in-Body.has_view) c.in-Body.is (ap not there))
