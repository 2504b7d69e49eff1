use Rattle.std.proofs.Common.{ap, ◌∙◌}
use Rattle.al_tree.specs.Lexemes.{has_text, place_label}
use Rattle.al_tree.specs.Symbols.{symbol_model}
use Rattle.al_tree.proofs.Labels.{place_label_of}
use Rattle.al_parse.proofs.Tokens.{labelled_found}
use Rattle.al_parse.proofs.expr_step.skip_at.Goals as goal

pub returns-clause-found : goal.returns-clause-found
returns-clause-found c =
    let t = c.in_ok-token.token.now in
    let f = c.in_ok-token.ensures.found in
    labelled_found c.args.source.now (symbol_model c.args.symbol) c.args.tokens.now c.in_ok-token.rest.now t (place_label t.span.place) c.requires.labelled (place_label_of c.args.source.now t (ap has_text f.sort ∙ c.requires.word)) f
