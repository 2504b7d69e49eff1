use Rattle.std.proofs.Common.{◌≡◌, ◌++◌, map, take}
use Rattle.al_tree.specs.Lexemes.{identifier_label}
use Rattle.al_lsp_outline.specs.Named.{named}
use Rattle.al_lsp_outline.proofs.declared.add_each_named.Given as goal

abbrev pub invariant-loop-name : goal.invariant-loop-name
invariant-loop-name l = l.list.items ≡ l.initial.list.items ++ map (named l.kind l.depth) (map identifier_label (take l.name-index l.names))
