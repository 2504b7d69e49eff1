use Rattle.std.proofs.Common.{sym, get_or}
use Rattle.std.proofs.lemmas.List.{get_or_default}
use Rattle.al_view_typed.specs.ExpressionViews.{value_model}
use Rattle.al_code.specs.Declarations.{seed_code}
use Rattle.al_code.proofs.Writing.{written_nothing, written_more, written_all}
use Rattle.al_code.proofs.declarations.emit_seeds.Goals as goal

pub loop-word-init : goal.loop-word-init
loop-word-init c = sym (written_nothing c.args.out.now)

pub loop-word-preserved : goal.loop-word-preserved
loop-word-preserved c =
    let places = c.args.places.now in
    let i = c.loop-word.word-index in
    let word = get_or places i 0 in
    written_more (seed_code c.args.depth c.args.symbol.now c.args.words (value_model c.args.value.now)) c.args.out.now c.loop-word.out c.emit_seeded.new.out places i word
    c.loop-word.invariant c.in_ok-emit_seeded.ensures (get_or_default places i 0 word c.loop-word-test.true) c.loop-word-test.true

pub returns : goal.returns
returns c = written_all (seed_code c.args.depth c.args.symbol.now c.args.words (value_model c.args.value.now)) c.args.out.now c.loop-word.out c.args.places.now c.loop-word.word-index c.loop-word.invariant c.loop-word-test.false
