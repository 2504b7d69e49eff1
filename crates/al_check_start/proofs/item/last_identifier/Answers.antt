use Rattle.std.proofs.Common.{◌∙◌, ap, arith}
use Rattle.al_tree_grammar.specs.Grammar.{Label}
use Rattle.al_unit_header.proofs.PackageLemmas.{last_label}
use Rattle.al_check_start.proofs.item.last_identifier.Goals as goal

pub returns-in-len1-up : goal.returns-in-len1-up
returns-in-len1-up c =
    c.as_slice-in-len1-up.ensures ∙ ap (λ (l : Label). l.text) (last_label c.args.name.now c.as_slice.result.now c.last-item.result c.as_slice.ensures.value (omega arith) c.last-item.is)
