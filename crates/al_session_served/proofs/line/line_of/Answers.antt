use Rattle.std.proofs.Common.{rules, ◌≡◌, sym, ◌∙◌, None, Some, is_some, true}
use Rattle.al_session_stream.specs.Cuts.{cut_at}
use Rattle.al_session_served.proofs.Words.{line_of-one, line_of-two, line_of-three, line_of-more}
use Rattle.al_session_served.proofs.line.line_of.Goals as goal

pub returns-else-eq-clause-says : goal.returns-else-eq-clause-says
returns-else-eq-clause-says c =
    let none : cut_at 32 c.args.line.now ≡ None = search rules in
    sym (line_of-one c.args.line.now c.if-line-gt-LONGEST.false none ∙ search rules)

pub returns-in_default-cut_at-clause-says : goal.returns-in_default-cut_at-clause-says
returns-in_default-cut_at-clause-says c =
    let first : cut_at 32 c.args.line.now ≡ Some (c.in-Some.verb.now, c.in-Some.rest.now) = search rules in
    let none : cut_at 32 c.in-Some.rest.now ≡ None = search rules in
    c.two_words.ensures.says ∙ sym (line_of-two c.args.line.now c.if-line-gt-LONGEST.false c.in-Some.verb.now c.in-Some.rest.now first none)

pub returns-then-is_some-clause-says : goal.returns-then-is_some-clause-says
returns-then-is_some-clause-says c =
    let first : cut_at 32 c.args.line.now ≡ Some (c.in-Some.verb.now, c.in-Some.rest.now) = search rules in
    let second : cut_at 32 c.in-Some.rest.now ≡ Some (c.in-Some-cut_at.first.now, c.in-Some-cut_at.second.now) = search rules in
    let there : is_some (cut_at 32 c.in-Some-cut_at.second.now) ≡ true = search rules in
    sym (line_of-more c.args.line.now c.if-line-gt-LONGEST.false c.in-Some.verb.now c.in-Some.rest.now first c.in-Some-cut_at.first.now c.in-Some-cut_at.second.now second there)

pub returns-clause-says : goal.returns-clause-says
returns-clause-says c =
    let first : cut_at 32 c.args.line.now ≡ Some (c.in-Some.verb.now, c.in-Some.rest.now) = search rules in
    let second : cut_at 32 c.in-Some.rest.now ≡ Some (c.in-Some-cut_at.first.now, c.in-Some-cut_at.second.now) = search rules in
    let none : cut_at 32 c.in-Some-cut_at.second.now ≡ None = search rules in
    c.three_words.ensures.says ∙ sym (line_of-three c.args.line.now c.if-line-gt-LONGEST.false c.in-Some.verb.now c.in-Some.rest.now first c.in-Some-cut_at.first.now c.in-Some-cut_at.second.now second none)
