use Rattle.std.proofs.Common.{ap, ◌∙◌}
use Rattle.std.specs.BTreeMap.{insert_entry}
use Rattle.al_base.specs.Files.{name_cmp}
use Rattle.al_scope.specs.UseClauses.{uses_of}
use Rattle.al_scope.proofs.UseLemmas.{uses_of-insert_entry}
use Rattle.al_scope.proofs.uses.UseClauses.set.Goals as goal

pub returns-clause-ok : goal.returns-clause-ok
returns-clause-ok c =
    ap uses_of c.in_ok-insert.ensures.entries
    ∙ uses_of-insert_entry c.self.inside.by_package.entries c.in_ok-package_name.package_name c.in_ok-used.used
    ∙ ap (λ k. insert_entry name_cmp (uses_of c.self.inside.by_package.entries) k c.in_ok-used.used.value) c.in_ok-package_name.ensures.items
    ∙ ap (λ v. insert_entry name_cmp (uses_of c.self.inside.by_package.entries) c.args.package_name.now v) c.in_ok-used.ensures.ok
    ∙ ap (λ us. insert_entry name_cmp us c.args.package_name.now c.args.used) c.self.view_is
