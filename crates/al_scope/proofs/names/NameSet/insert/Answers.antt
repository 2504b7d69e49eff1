use Rattle.std.proofs.Common.{◌∙◌, ap}
use Rattle.std.specs.BTreeSet.{insert_key}
use Rattle.al_base.specs.Files.{name_cmp}
use Rattle.al_scope.specs.NameSets.{names_of}
use Rattle.al_scope.proofs.NameLemmas.{names_of-insert_key}
use Rattle.al_scope.proofs.names.NameSet.insert.Goals as goal

pub returns-clause-ok : goal.returns-clause-ok
returns-clause-ok c =
    ap names_of c.in_ok-insert.ensures.keys
    ∙ names_of-insert_key c.self.inside.names.keys c.in_ok-name.name
    ∙ ap (insert_key name_cmp (names_of c.self.inside.names.keys)) c.in_ok-name.ensures.items
    ∙ ap (λ names. insert_key name_cmp names c.args.name.now) c.self.view_is
