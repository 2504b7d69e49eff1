-- Packages, by what was walked over inside them.
use Rattle.std.proofs.Common.{◌≡◌, true, false, List, [], ◌∷◌, Some, None, map, refl, sym, ap, ◌∙◌}
use Rattle.std.specs.Prelude.{fold, is_some}
use Rattle.al_tree_grammar.specs.Grammar.{Label}
use Rattle.al_tree_syntax.specs.UnitTrees.{PackageBodyTree, PackageStatementsTree, PackageTree, PrivatePartTree}
use Rattle.al_tree.specs.DeclarationViews.{declaration_model}
use Rattle.al_tree.specs.declared.declaration.Declaration.{Declaration}
use Rattle.al_stmts_text.proofs.Folds.{part_again}
use Rattle.al_stmts_text.proofs.Made.{none_before}
use Rattle.al_stmts.specs.Readings.{Reading, giving}
use Rattle.al_stmts.specs.Steps.{Inside, Part, ended_by, no_part, parts_joined}
use Rattle.al_stmts.specs.Units.{enclosing_package, declaration_walked, declarations_walked, package_body_walked, package_inside, parts_completed, parts_walked, private_walked}
use Rattle.al_stmts.specs.Walking.{closed, end_of_compound, inside_after, items_walked, part_after, statements_walked}
use Rattle.al_stmts.proofs.Behind.{last_part}
use Rattle.al_stmts_text.proofs.Loops.{stops}
use Rattle.al_stmts_text.proofs.Read.{goes_on, made_of}

abbrev pub declaration_step : {H : Type 0} → Reading H → H × Part → Declaration → H × Part
declaration_step R s d = part_after s (declaration_walked R s.0 (declaration_model d))

pub declarations_folded : {H : Type 0} (R : Reading H) (s : H × Part) (ds : List Declaration) → fold (declaration_step R) s ds ≡ part_after s (declarations_walked R s.0 (map declaration_model ds))
declarations_folded R s [] = sym (last_part s.0 s.1)
declarations_folded R s (d ∷ ds) =
    declarations_folded R (declaration_step R s d) ds ∙ part_again s (declaration_walked R s.0 (declaration_model d)) (λ h. declarations_walked R h (map declaration_model ds))

pub declaration_added : {H : Type 0} (R : Reading H) (h after : H) (a one made : Part) (d : Declaration)
    → is_some a.faults.end ≡ false → giving after one ≡ declaration_walked R h (declaration_model d) → made ≡ parts_joined a one → giving after made ≡ declaration_step R (giving h a) d
declaration_added {H} R h after a one made d goes is made_is =
    rw goes (ap (λ (w : Part). giving after w) made_is ∙ goes_on (λ (k : H) (w : Part). giving k (parts_joined a w)) after one (declaration_walked R h (declaration_model d)) is)

pub declarations_stop : {H : Type 0} (R : Reading H) (s : H × Part) (ds : List Declaration) → is_some s.1.faults.end ≡ true → fold (declaration_step R) s ds ≡ s
declarations_stop R s ds ended = stops (declaration_step R) s ds (λ d. rw ended refl)

moved : {H : Type 0} (h env : H) (a : Part) (p : H × Part) → is_some a.faults.end ≡ false → part_after (giving env a) p ≡ part_after (giving h a) p
moved h env a p goes = rw goes refl

pub private_made : {H : Type 0} (R : Reading H) (h entered : H) (so_far : Part) (done : H × Part) (p : PrivatePartTree)
    → is_some so_far.faults.end ≡ false
    → entered ≡ R.private_entered h
    → done ≡ part_after (giving entered so_far) (declarations_walked R entered p.declarations)
    → done ≡ part_after (giving h so_far) (private_walked R h (Some p))
private_made {H} R h entered so_far done p goes entered_is is =
    is
    ∙ moved h entered so_far (declarations_walked R entered p.declarations) goes
    ∙ ap (λ (k : H). part_after (giving h so_far) (declarations_walked R k p.declarations)) entered_is

pub no_private : {H : Type 0} (R : Reading H) (h : H) (so_far : Part) → giving h so_far ≡ part_after (giving h so_far) (private_walked R h None)
no_private R h so_far = sym (last_part h so_far)

pub parts_made : {H : Type 0} (R : Reading H) (h h1 : H) (new visible : Part) (done : H × Part) (k : PackageTree)
    → new ≡ no_part
    → giving h1 visible ≡ part_after (giving h new) (declarations_walked R h k.visible)
    → done ≡ part_after (giving h1 visible) (private_walked R h1 k.private_part)
    → done ≡ parts_walked R h k
parts_made {H} R h h1 new visible done k new_is visible_is is =
    is
    ∙ ap (λ (p : H × Part). part_after p (private_walked R p.0 k.private_part))
    (visible_is ∙ ap (λ (n : Part). part_after (giving h n) (declarations_walked R h k.visible)) new_is ∙ none_before h (declarations_walked R h k.visible))

pub statements_made : {H : Type 0} (R : Reading H) (h closed_at entered : H) (part whole : Part) (done : H × Inside) (end : Label) (s : PackageStatementsTree)
    → giving closed_at whole ≡ closed R (giving h part) s.opening
    → entered ≡ R.statements_entered closed_at
    → done ≡ inside_after (giving entered whole) (statements_walked R enclosing_package entered s.statements)
    → done ≡ package_inside R (giving h part) end (Some s)
statements_made {H} R h closed_at entered part whole done end s closed_is entered_is is =
    is
    ∙ ap (λ (k : H). inside_after (giving k whole) (statements_walked R enclosing_package k s.statements)) entered_is
    ∙ goes_on (λ (k : H) (w : Part). inside_after (giving (R.statements_entered k) w) (statements_walked R enclosing_package (R.statements_entered k) s.statements)) closed_at whole (closed R (giving h part) s.opening) closed_is

pub package_body_made : {H : Type 0} (R : Reading H) (h h1 h2 : H) (new all : Part) (inside done : Inside) (k : PackageBodyTree)
    → new ≡ no_part
    → giving h1 all ≡ part_after (giving h new) (items_walked R h k.items)
    → giving h2 inside ≡ package_inside R (giving h1 all) k.end.end k.statements
    → done ≡ ended_by inside (end_of_compound k.name k.end.end_name)
    → giving h2 done ≡ package_body_walked R h k
package_body_made {H} R h h1 h2 new all inside done k new_is all_are inside_is is =
    let fault = end_of_compound k.name k.end.end_name in
    made_of (λ (i : Inside). ended_by i fault) h2 inside done (package_inside R (giving h1 all) k.end.end k.statements) inside_is is
    ∙ ap (λ (p : H × Part). giving ((package_inside R p k.end.end k.statements).0) (ended_by (package_inside R p k.end.end k.statements).1 fault))
    (all_are ∙ ap (λ (n : Part). part_after (giving h n) (items_walked R h k.items)) new_is ∙ none_before h (items_walked R h k.items))

-- both parts of a package, and then its end
pub completed_made : {H : Type 0} (R : Reading H) (h : H) (part : Part) (done whole : H × Part) (end : Label)
    → giving h part ≡ whole
    → done ≡ parts_completed R (giving h part) end
    → done ≡ parts_completed R whole end
completed_made {H} R h part done whole end is made = made ∙ ap (λ (p : H × Part). parts_completed R p end) is
