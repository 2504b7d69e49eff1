use Rattle.std.proofs.Common.{ℕ, ◌≡◌, ◌+◌, ◌-◌, ◌<◌, ◌++◌, [], List, length, drop, refl, sym, ap, subst, ◌∙◌, arith, eqb-true}
use Rattle.std.proofs.lemmas.Bool.{eqb-false}
use Rattle.al_base.specs.declared.place.Place.{Place}
use Rattle.al_lex.specs.Tokens.{after, with_token, first_place, mark_len}
use Rattle.al_lex.proofs.Cuts.{Completes, starts, goes_on, is_over, is_fault, end_place_lem, IsNear, moved}
use Rattle.al_lex.proofs.lexing.end_place.Goals as goal

pub loop-rest-init : goal.loop-rest-init
loop-rest-init c =
    let text = c.args.text.now in
    let rest = c.split_at.result.1.now in
    let m = mark_len text in
    let same : c.mark_len.result ≡ m = c.mark_len.ensures.exact in
    let is_rest : rest ≡ drop m text = c.split_at.ensures.back ∙ ap (λ (n : ℕ). drop n text) same in
    let at : length text - length rest ≡ m = omega (arith, same, c.mark_len.ensures.within, c.split_at.ensures.back_len) in
    record {
      short = omega arith;
      within = omega (arith, c.split_at.ensures.back_len);
      line = omega arith;
      column = omega arith;
      cut = ([], subst (λ (n : ℕ). Completes n first_place rest [] text) (sym at) (subst (λ (bs : List ℕ). Completes m first_place bs [] text) (sym is_rest) (starts text)));
    }

pub loop-rest-preserved : goal.loop-rest-preserved
loop-rest-preserved c =
    let q = c.in-Ok.piece in
    let p = c.loop-rest.place in
    let text = c.args.text.now in
    let rest = c.loop-rest.rest.now in
    let new = c.split_at-in-loop-rest.result.1.now in
    let sofar = c.loop-rest.invariant.cut.0 in
    let at = length text - length rest in
    let lens : length new + q.len ≡ length rest = c.split_at-in-loop-rest.ensures.back_len in
    let farther : at + q.len ≡ length text - length new = omega (arith, lens, c.loop-rest.invariant.within, c.in-Ok.ensures.within) in
    let near : IsNear (after q.sort q.len p) (at + q.len) = moved q.sort q.len at p c.in-Ok.ensures.some c.loop-rest.invariant.line c.loop-rest.invariant.column in
    let here : IsNear c.after-place.result (length text - length new) = subst (λ (z : Place). IsNear z (length text - length new)) (sym c.after-place.ensures) (subst (λ (n : ℕ). IsNear (after q.sort q.len p) n) farther near) in
    record {
      short = c.loop-rest.invariant.short;
      within = omega (arith, lens, c.loop-rest.invariant.within);
      line = here.line;
      column = here.column;
      cut = (
        sofar ++ with_token q.sort at q.len p [],
        subst (λ (n : ℕ). Completes n c.after-place.result new (sofar ++ with_token q.sort at q.len p []) text) farther
            (goes_on at p c.after-place.result rest new sofar _ text q c.loop-rest.invariant.cut.1
            (omega (arith, c.in-Ok.ensures.some, c.in-Ok.ensures.within)) c.in-Ok.ensures.exact c.in-Ok.ensures.some refl c.after-place.ensures c.split_at-in-loop-rest.ensures.back),
      );
    }

pub returns : goal.returns
returns c =
    let no_more : length c.loop-rest.rest.now ≡ 0 = eqb-true (length c.loop-rest.rest.now) 0 (sym c.is_empty.ensures ∙ c.loop-rest-test.false) in
    sym (end_place_lem c.args.text.now _ (is_over (length c.args.text.now - length c.loop-rest.rest.now) c.loop-rest.place c.loop-rest.rest.now c.loop-rest.invariant.cut.0 c.args.text.now c.loop-rest.invariant.cut.1 no_more))

pub returns-in_default : goal.returns-in_default
returns-in_default c =
    let some : 0 < length c.loop-rest.rest.now = omega (arith, eqb-false (length c.loop-rest.rest.now) 0 (sym c.is_empty.ensures ∙ c.loop-rest-test.true)) in
    sym (end_place_lem c.args.text.now _ (is_fault (length c.args.text.now - length c.loop-rest.rest.now) c.loop-rest.place c.loop-rest.rest.now c.loop-rest.invariant.cut.0 c.args.text.now c.in_default.field-0 c.loop-rest.invariant.cut.1 some (sym c.in_default.is ∙ c.front_piece.ensures.exact)))
