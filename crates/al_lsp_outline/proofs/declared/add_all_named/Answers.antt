use Rattle.std.proofs.Common.{◌∷◌, [], map, ap}
use Rattle.al_tree.specs.Lexemes.{identifier_label}
use Rattle.al_lsp_outline.specs.Named.{named}
use Rattle.al_lsp_outline.proofs.Added.{added_then}
use Rattle.al_lsp_outline.proofs.declared.add_all_named.Goals as goal

pub returns : goal.returns
returns c = added_then c.add_each_named.result _ _ _ _ _ _ c.in_ok-add_named.ensures
    (ap (λ is. named c.args.kind c.args.depth (identifier_label c.args.names.now.first) ∷ map (named c.args.kind c.args.depth) (map identifier_label is)) c.as_slice.ensures.value)
    c.add_each_named.ensures
