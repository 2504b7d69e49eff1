use Rattle.std.proofs.Common.{◌≡◌, ◌≢◌, map, Some, None, ap, sym, ◌∙◌, rules}
use Rattle.std.specs.Char.{to_ascii_lowercase}
use Rattle.al_base.proofs.ReservedLemmas.{reserved_at-none, reserved_at-same, reserved_at-other, IfSome-reserved_at, IfNone-reserved_at}
use Rattle.al_base.proofs.reserved.reserved_word.Goals as goal

pub returns-in_default-clause-value : goal.returns-in_default-clause-value
returns-in_default-clause-value c = sym (reserved_at-none (map to_ascii_lowercase c.args.word.now) (λ w same. c.in_default.not-Some w (c.candidate.ensures w same)))

pub returns-then-eq_ignore_ascii_case-clause-value :
    goal.returns-then-eq_ignore_ascii_case-clause-value
returns-then-eq_ignore_ascii_case-clause-value c =
    let told : map to_ascii_lowercase c.spelling.result.now ≡ map to_ascii_lowercase c.args.word.now = search rules in
    reserved_at-same c.in-Some.candidate (map to_ascii_lowercase c.args.word.now) (ap (map to_ascii_lowercase) (sym c.spelling.ensures) ∙ told)

pub returns-then-eq_ignore_ascii_case-clause-found :
    goal.returns-then-eq_ignore_ascii_case-clause-found
returns-then-eq_ignore_ascii_case-clause-found c = IfSome-reserved_at (Some c.in-Some.candidate) (map to_ascii_lowercase c.args.word.now) (returns-then-eq_ignore_ascii_case-clause-value c)

pub returns-else-eq_ignore_ascii_case-clause-value :
    goal.returns-else-eq_ignore_ascii_case-clause-value
returns-else-eq_ignore_ascii_case-clause-value c =
    let told : map to_ascii_lowercase c.spelling.result.now ≢ map to_ascii_lowercase c.args.word.now = search rules in
    reserved_at-other c.in-Some.candidate (map to_ascii_lowercase c.args.word.now) (λ v same. sym c.in-Some.is ∙ c.candidate.ensures v same) (λ same. told (ap (map to_ascii_lowercase) c.spelling.ensures ∙ same))

pub returns-else-eq_ignore_ascii_case-clause-none :
    goal.returns-else-eq_ignore_ascii_case-clause-none
returns-else-eq_ignore_ascii_case-clause-none c = IfNone-reserved_at None (map to_ascii_lowercase c.args.word.now) (returns-else-eq_ignore_ascii_case-clause-value c)
