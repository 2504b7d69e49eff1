use Rattle.std.proofs.Common.{◌∙◌}
use Rattle.al_decl_judged.proofs.TypeDeclarationLemmas.{known_listed, known_other}
use Rattle.al_decl_judged.proofs.type_list.is_known.Goals as goal

pub returns-then-contains : goal.returns-then-contains
returns-then-contains c = known_listed c.args.types.now c.args.symbol.now c.contains.result (c.contains.ensures ∙ c.requires.symbols c.args.symbol.now) c.if-contains.true

pub returns-else-contains : goal.returns-else-contains
returns-else-contains c =
    known_other c.args.types.now c.args.symbol.now c.contains.result c.is_standard.result (c.contains.ensures ∙ c.requires.symbols c.args.symbol.now) c.if-contains.false c.is_standard.ensures
