use Rattle.std.proofs.Common.{◌≡◌, ◌==◌, ◌<◌, ◌∙◌, ◌&&◌, true, false, get_or, length, sym, arith, eq-eqb, ne_eqb}
use Rattle.std.proofs.lemmas.Bool.{and_from, and_left, and_right}
use Rattle.al_base.specs.Identifiers.{is_word_byte}
use Rattle.al_lex.proofs.Underscores.{bad_here, bad_step, len_step}
use Rattle.al_lex.proofs.words.word_len.Goals as goal
use Rattle.al_lex.proofs.words.word_len.Goals.{else-underscore-via-then-underscore+else-begins, else-underscore-via-else-underscore}

pub loop-len-preserved : goal.loop-len-preserved
loop-len-preserved c =
    let bs = c.args.bytes.now in
    let i = c.loop-len.len in
    let begins = c.loop-len.begins in
    let inside : i < length bs = c.loop-len-test.true in
    let word : is_word_byte (get_or bs i 0) ≡ true = sym c.is_in_word.ensures ∙ c.if-is_in_word.true in
    let fine : (get_or bs i 0 == 95 && begins) ≡ false = elim c.else-underscore.branch [
      | else-underscore-via-then-underscore+else-begins w ↦ and_right (get_or bs i 0 == 95) begins w.if-begins.false
      | else-underscore-via-else-underscore w ↦ and_left (get_or bs i 0 == 95) begins (ne_eqb (get_or bs i 0) 95 w.if-underscore.false)
    ] in
    record {
      in_range = omega arith;
      run = len_step bs i inside word ∙ c.loop-len.invariant.run;
      bad = bad_step bs i inside word begins fine ∙ c.loop-len.invariant.bad;
    }

pub returns-then-begins-clause-none : goal.returns-then-begins-clause-none
returns-then-begins-clause-none c =
    let bs = c.args.bytes.now in
    let i = c.loop-len.len in
    let word : is_word_byte (get_or bs i 0) ≡ true = sym c.is_in_word.ensures ∙ c.if-is_in_word.true in
    sym c.loop-len.invariant.bad ∙ bad_here bs i c.loop-len-test.true word c.loop-len.begins (and_from (get_or bs i 0 == 95) c.loop-len.begins (eq-eqb (get_or bs i 0) 95 c.if-underscore.true) c.if-begins.true)
