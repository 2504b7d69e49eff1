use Rattle.std.proofs.Common.{ℕ, ◌≡◌, ◌+◌, ◌<◌, [], List, length, drop, sym, ap, subst, ◌∙◌, arith, length-drop, eqb-true}
use Rattle.std.proofs.lemmas.Bool.{eqb-false}
use Rattle.al_base.specs.declared.place.Place.{Place}
use Rattle.al_lex.specs.declared.token.Token.{Token}
use Rattle.al_lex.specs.Tokens.{after, first_place, mark_len}
use Rattle.al_lex.proofs.Cuts.{Completes, starts, goes_on, is_over, is_fault, lexed_of, IsNear, moved}
use Rattle.al_lex.proofs.lexing.lex.Goals as goal

pub loop-rest-init : goal.loop-rest-init
loop-rest-init c =
    let m = mark_len c.args.text.now in
    let same : c.mark_len-start.result ≡ m = c.mark_len-start.ensures.exact in
    let rest : c.split_at.result.1.now ≡ drop m c.args.text.now = c.split_at.ensures.back ∙ ap (λ (n : ℕ). drop n c.args.text.now) same in
    let cut : Completes c.mark_len-start.result first_place c.split_at.result.1.now [] c.args.text.now =
    subst (λ (n : ℕ). Completes n first_place c.split_at.result.1.now [] c.args.text.now) (sym same)
    (subst (λ (bs : List ℕ). Completes m first_place bs [] c.args.text.now) (sym rest) (starts c.args.text.now)) in
    record {
      short = omega arith;
      at = omega (arith, c.split_at.ensures.back_len, c.mark_len-start.ensures.within);
      line = omega arith;
      column = omega arith;
      cut = subst (λ (ts : List Token). Completes c.mark_len-start.result first_place c.split_at.result.1.now ts c.args.text.now) (sym c.new-tokens.ensures.items) cut;
    }

pub loop-rest-preserved : goal.loop-rest-preserved
loop-rest-preserved c =
    let q = c.in-Ok.piece in
    let p = c.loop-rest.place in
    let near : IsNear (after q.sort q.len p) (c.loop-rest.start + q.len) = moved q.sort q.len c.loop-rest.start p c.in-Ok.ensures.some c.loop-rest.invariant.line c.loop-rest.invariant.column in
    let here : IsNear c.in_ok-place.place (c.loop-rest.start + q.len) = subst (λ (z : Place). IsNear z (c.loop-rest.start + q.len)) (sym c.in_ok-place.ensures.place) near in
    record {
      short = c.loop-rest.invariant.short;
      at = omega (arith, c.loop-rest.invariant.at, c.in-Ok.ensures.within, c.split_at-in-loop-rest.ensures.back_len, ap length c.split_at-in-loop-rest.ensures.back, length-drop q.len c.loop-rest.rest.now);
      line = here.line;
      column = here.column;
      cut = goes_on c.loop-rest.start p c.in_ok-place.place c.loop-rest.rest.now _ c.loop-rest.tokens.items c.note.new.tokens.items c.args.text.now q c.loop-rest.invariant.cut
          (omega (arith, c.in-Ok.ensures.some, c.in-Ok.ensures.within)) c.in-Ok.ensures.exact c.in-Ok.ensures.some c.in_ok-place.ensures.tokens c.in_ok-place.ensures.place c.split_at-in-loop-rest.ensures.back;
    }

pub returns-clause-tokens : goal.returns-clause-tokens
returns-clause-tokens c = lexed_of c.args.text.now _ (is_over c.loop-rest.start c.loop-rest.place c.loop-rest.rest.now c.loop-rest.tokens.items c.args.text.now c.loop-rest.invariant.cut (eqb-true (length c.loop-rest.rest.now) 0 (sym c.is_empty.ensures ∙ c.loop-rest-test.false)))

pub returns-in-Err-clause-fault : goal.returns-in-Err-clause-fault
returns-in-Err-clause-fault c =
    let some : 0 < length c.loop-rest.rest.now = omega (arith, eqb-false (length c.loop-rest.rest.now) 0 (sym c.is_empty.ensures ∙ c.loop-rest-test.true)) in
    lexed_of c.args.text.now _ (is_fault c.loop-rest.start c.loop-rest.place c.loop-rest.rest.now c.loop-rest.tokens.items c.args.text.now c.in-Err.code c.loop-rest.invariant.cut some c.in-Err.ensures.exact)
