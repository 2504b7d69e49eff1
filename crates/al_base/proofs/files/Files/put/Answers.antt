use Rattle.std.proofs.Common.{◌≡◌, None, length, is_some, arith, ap, sym, subst, ◌∙◌, rules}
use Rattle.std.specs.List.{AllByRecursion}
use Rattle.al_base.specs.Files.{IsFile, text_of, with_file, put_refusal}
use Rattle.al_base.specs.Pairs.{pairs_of}
use Rattle.al_base.proofs.HeldFiles.{each_put, few_put, may_put}
use Rattle.al_base.proofs.PairLemmas.{is_text_of-pairs_of, length-pairs_of, pairs_of-insert_entry}
use Rattle.al_base.proofs.files.Files.put.Goals as goal

pub returns-clause-ok : goal.returns-clause-ok
returns-clause-ok c =
    ap pairs_of c.in-Ok-insert.ensures.entries
    ∙ pairs_of-insert_entry c.self.inside.texts.entries c.in-Ok.name c.in-Ok-new.text
    ∙ ap (λ k. with_file (pairs_of c.self.inside.texts.entries) k c.in-Ok-new.text.value.items) c.in-Ok.ensures.items
    ∙ ap (λ v. with_file (pairs_of c.self.inside.texts.entries) c.args.name.now v.items) c.in-Ok-new.ensures.ok
    ∙ ap (λ fs. with_file fs c.args.name.now c.args.text.items) c.self.view_is

pub invariant_of-self-2 : goal.invariant_of-self-2
invariant_of-self-2 c =
    let old = c.self.inside.texts.entries in
    let new = c.insert.new.self.entries in
    let es = pairs_of old in
    let name = c.args.name.now in
    let text = c.args.text.items in
    let none : put_refusal es name (length text) ≡ None = rw c.self.view_is (search rules) in
    let may = may_put es name (length text) none in
    let put : pairs_of new ≡ with_file es name text =
    ap pairs_of c.in-Ok-insert.ensures.entries
    ∙ pairs_of-insert_entry old c.in-Ok.name c.in-Ok-new.text
    ∙ ap (λ k. with_file es k c.in-Ok-new.text.value.items) c.in-Ok.ensures.items
    ∙ ap (λ v. with_file es name v.items) c.in-Ok-new.ensures.ok in
    let there : is_some (text_of es name) ≡ is_some c.in-Ok-insert.field-0 =
    ap (λ k. is_some (text_of es k)) (sym c.in-Ok.ensures.items) ∙ is_text_of-pairs_of old c.in-Ok.name.items ∙ sym (ap is_some c.in-Ok-insert.ensures.old) in
    let was = length-pairs_of old in
    let now = length-pairs_of new in
    let few = c.self.invariant.few in
    let count = few_put (length old) (length new) (is_some c.in-Ok-insert.field-0) c.in-Ok-insert.ensures.len (λ off. let room = may.room (there ∙ off) in omega (arith, was, room)) (omega (arith, was, few)) in
    record { few = omega (arith, now, count); each = subst (AllByRecursion IsFile) (sym put) (each_put es name text c.self.invariant.each (may.is_name, may.short)) }
