use Rattle.std.proofs.Common.{arith, ◌≡◌, true, length, is_some, Some, None, sym, ap, subst, ◌∙◌, rules}
use Rattle.std.specs.List.{AllByRecursion}
use Rattle.std.specs.Option.{option_copied, option_map}
use Rattle.al_base.specs.Files.{IsFile, text_of, with_file, without_file, with_text, rename_refusal}
use Rattle.al_base.specs.Pairs.{pairs_of}
use Rattle.al_base.proofs.PairLemmas.{is_text_of-pairs_of, length-pairs_of, text_of-pairs_of, pairs_of-insert_entry, pairs_of-remove_entry}
use Rattle.al_base.proofs.Renames.{may_rename, rename_steps, sorted_pairs, text_of-with_file_other}
use Rattle.al_base.proofs.HeldFiles.{each_put, each_removed, held_text, as_few}
use Rattle.al_base.proofs.files.Files.rename.Goals as goal

-- a rename that isn't refused has an old file
pub unwrap-requires : goal.unwrap-requires
unwrap-requires c =
    let es = pairs_of c.self.inside.texts.entries in
    let none : rename_refusal es c.args.old.now c.args.new.now ≡ None = rw c.self.view_is (search rules) in
    let may = may_rename es c.args.old.now c.args.new.now none in
    let there = sym (is_text_of-pairs_of c.self.inside.texts.entries c.args.old.now) ∙ may.there in
    grind (arith, there, c.get.ensures.value)

pub returns-clause-ok : goal.returns-clause-ok
returns-clause-ok c =
    let es = pairs_of c.self.inside.texts.entries in
    let none : rename_refusal es c.args.old.now c.args.new.now ≡ None = rw c.self.view_is (search rules) in
    let may = may_rename es c.args.old.now c.args.new.now none in
    let put = ap pairs_of c.in-Ok-insert.ensures.entries ∙ pairs_of-insert_entry c.self.inside.texts.entries c.in-Ok-from_slice.name c.in-Ok.text ∙ ap (λ k. with_file es k c.in-Ok.text.value.items) c.in-Ok-from_slice.ensures.items in
    let gone = ap pairs_of c.remove.ensures.entries ∙ pairs_of-remove_entry c.insert.new.self.entries c.args.old.now ∙ ap (λ fs. without_file fs c.args.old.now) put in
    let text : text_of es c.args.old.now ≡ Some c.in-Ok.text.value.items =
    text_of-pairs_of c.self.inside.texts.entries c.args.old.now
    ∙ ap (option_map (λ v. v.value.items)) (sym c.get.ensures.value)
    ∙ ap (λ o. option_map (λ v. v.value.items) (option_copied o)) c.unwrap.ensures
    ∙ ap (λ v. Some v.items) (sym c.in-Ok.ensures.cases) in
    gone
    ∙ rename_steps es c.args.old.now c.args.new.now c.in-Ok.text.value.items (sorted_pairs c.self.inside.texts.entries c.in-Ok-insert.ensures.was_ordered) may.apart
    ∙ ap (λ t. with_text t (without_file es c.args.old.now) c.args.new.now) (sym text)
    ∙ ap (λ fs. with_text (text_of fs c.args.old.now) (without_file fs c.args.old.now) c.args.new.now) c.self.view_is

pub invariant_of-self-2 : goal.invariant_of-self-2
invariant_of-self-2 c =
    let before = c.self.inside.texts.entries in
    let between = c.insert.new.self.entries in
    let after = c.remove.new.self.entries in
    let es = pairs_of before in
    let old = c.args.old.now in
    let new = c.args.new.now in
    let text = c.in-Ok.text.value.items in
    let none : rename_refusal es old new ≡ None = rw c.self.view_is (search rules) in
    let may = may_rename es old new none in
    let put : pairs_of between ≡ with_file es new text =
    ap pairs_of c.in-Ok-insert.ensures.entries ∙ pairs_of-insert_entry before c.in-Ok-from_slice.name c.in-Ok.text ∙ ap (λ k. with_file es k text) c.in-Ok-from_slice.ensures.items in
    let gone : pairs_of after ≡ without_file (with_file es new text) old = ap pairs_of c.remove.ensures.entries ∙ pairs_of-remove_entry between old ∙ ap (λ fs. without_file fs old) put in
    let moved = gone ∙ rename_steps es old new text (sorted_pairs before c.in-Ok-insert.ensures.was_ordered) may.apart in
    let found : text_of es old ≡ Some text =
    text_of-pairs_of before old
    ∙ ap (option_map (λ v. v.value.items)) (sym c.get.ensures.value)
    ∙ ap (λ o. option_map (λ v. v.value.items) (option_copied o)) c.unwrap.ensures
    ∙ ap (λ v. Some v.items) (sym c.in-Ok.ensures.cases) in
    let there : is_some c.remove.result ≡ true =
    ap is_some c.remove.ensures.value
    ∙ sym (is_text_of-pairs_of between old)
    ∙ ap (λ fs. is_some (text_of fs old)) put
    ∙ ap is_some (text_of-with_file_other es new text old may.apart)
    ∙ may.there in
    let was = length-pairs_of before in
    let now = length-pairs_of after in
    let few = c.self.invariant.few in
    let each = c.self.invariant.each in
    let count = as_few (length before) (length between) (length after) (is_some c.in-Ok-insert.field-0) (is_some c.remove.result) c.in-Ok-insert.ensures.len c.remove.ensures.len there (omega (arith, was, few)) in
    record {
      few = omega (arith, now, count);
      each = subst (AllByRecursion IsFile) (sym moved) (each_put (without_file es old) new text (each_removed es old each) (may.is_name, held_text es old text each found));
    }
