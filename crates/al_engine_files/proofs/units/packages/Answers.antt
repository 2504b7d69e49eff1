use Rattle.std.proofs.Common.{List, [], ◌∷◌, ◌++◌, None, Some, ap, codes, ◌∙◌}
use Rattle.al_engine_files.specs.PredefinedUnits.{ada, package_of, packages}
use Rattle.al_engine_files.specs.declared.package.Package.{Package}
use Rattle.al_engine_files.proofs.units.packages.Goals as goal

pub returns : goal.returns
unfolding packages
returns c =
    c.in_ok-add_child-2.ensures
    ∙ ap (λ (l : List Package). l ++ package_of (codes "ada.real_time") (codes "real_time") (Some ada) ∷ [])
    (c.in_ok-add_child.ensures
    ∙ ap (λ (l : List Package). l ++ package_of (codes "ada.text_io") (codes "text_io") (Some ada) ∷ [])
    (c.in_ok-add_package-2.ensures
    ∙ ap (λ (l : List Package). l ++ package_of (codes "ada") (codes "ada") None ∷ [])
    (c.in_ok-add_package.ensures
    ∙ ap (λ (l : List Package). l ++ package_of (codes "standard") (codes "standard") None ∷ []) c.empty-all.ensures)))
