use Rattle.std.proofs.Common.{◌∙◌, ap}
use Rattle.std.specs.List.{list_any}
use Rattle.std.specs.Str.{bytes_eq}
use Rattle.al_scope.proofs.NameLemmas.{among-names_of}
use Rattle.al_scope.proofs.names.NameSet.contains.Goals as goal

pub returns : goal.returns
returns c = c.contains.ensures ∙ among-names_of c.args.name.now c.self.inside.names.keys ∙ ap (list_any (bytes_eq c.args.name.now)) c.self.view_is
