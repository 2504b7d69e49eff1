use Rattle.std.proofs.Common.{◌≡◌, length, is_some, arith, ap, sym, subst, ◌∙◌}
use Rattle.std.specs.List.{AllByRecursion}
use Rattle.std.proofs.lemmas.Bool.Decides.{nat_tests}
use Rattle.al_base.specs.Pairs.{pairs_of}
use Rattle.al_base.specs.Files.{IsFile, without_file, delete_refusal}
use Rattle.al_base.proofs.PairLemmas.{is_text_of-pairs_of, length-pairs_of, pairs_of-remove_entry}
use Rattle.al_base.proofs.HeldFiles.{each_removed, fewer}
use Rattle.al_base.proofs.files.Files.delete.Goals as goal
use Rattle.al_base.proofs.files.Files.delete.Goals.{in-Some, in-None}

pub returns-clause-answer : goal.returns-clause-answer
unfolding delete_refusal
returns-clause-answer c =
    let there = is_text_of-pairs_of c.self.inside.texts.entries c.args.name.now in
    elim c.match-remove.branch [
      | in-Some w ↦ rw (w.result-is, ← c.self.view_is) (grind (arith, nat_tests, there))
      | in-None w ↦ rw (w.result-is, ← c.self.view_is) (grind (arith, nat_tests, there))
    ]

pub returns-clause-ok : goal.returns-clause-ok
returns-clause-ok c =
    let gone = ap pairs_of c.remove.ensures.entries ∙ pairs_of-remove_entry c.self.inside.texts.entries c.args.name.now in
    elim c.match-remove.branch [ in-Some w ↦ rw w.result-is (cc) | in-None w ↦ rw w.result-is tt ]

pub invariant_of-self : goal.invariant_of-self
invariant_of-self c =
    let old = c.self.inside.texts.entries in
    let new = c.remove.new.self.entries in
    let gone : pairs_of new ≡ without_file (pairs_of old) c.args.name.now = ap pairs_of c.remove.ensures.entries ∙ pairs_of-remove_entry old c.args.name.now in
    let was = length-pairs_of old in
    let now = length-pairs_of new in
    let few = c.self.invariant.few in
    let count = fewer (length new) (length old) (is_some c.remove.result) c.remove.ensures.len (omega (arith, was, few)) in
    record { few = omega (arith, now, count); each = subst (AllByRecursion IsFile) (sym gone) (each_removed (pairs_of old) c.args.name.now c.self.invariant.each) }
