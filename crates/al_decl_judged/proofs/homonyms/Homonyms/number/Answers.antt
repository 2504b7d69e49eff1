use Rattle.std.proofs.Common.{sym, ◌∙◌, ap}
use Rattle.std.specs.Prelude.{unwrap_or}
use Rattle.al_decl_judged.specs.Homonyms.{Counts, count_of, counts_of, with_name}
use Rattle.al_decl_judged.proofs.HomonymLemmas.{counts_of-declared, counts_of-set_value, lookup_counts_of, set_value-same}
use Rattle.al_decl_judged.proofs.homonyms.Homonyms.number.Goals as goal

pub returns-in_default-checked_add-clause-err : goal.returns-in_default-checked_add-clause-err
returns-in_default-checked_add-clause-err c =
    let written = (c.get_mut.follows.holds c.in-Some.count.now).0 in
    let same = set_value-same c.self.inside.by_name.entries c.args.name.now c.in-Some.count.now (sym c.in-Some.ensures.value) in
    ap counts_of (written ∙ same) ∙ c.self.view_is

pub returns-in-Some-clause-number : goal.returns-in-Some-clause-number
returns-in-Some-clause-number c =
    sym (ap (λ (m : Counts). count_of m c.args.name.now) (sym c.self.view_is)
    ∙ ap (λ o. unwrap_or o 0) (lookup_counts_of c.self.inside.by_name.entries c.args.name.now ∙ sym c.in-Some.ensures.value))

pub returns-in-Some-clause-ok : goal.returns-in-Some-clause-ok
returns-in-Some-clause-ok c =
    let more = c.in-Some-checked_add.ensures.1 in
    let written = (c.get_mut.follows.holds c.in-Some-checked_add.more).0 in
    let counted = counts_of-set_value c.self.inside.by_name.entries c.args.name.now c.in-Some.count.now (sym c.in-Some.ensures.value) in
    ap counts_of written ∙ rw more counted ∙ ap (λ (m : Counts). with_name m c.args.name.now) c.self.view_is

pub returns-clause-number : goal.returns-clause-number
returns-clause-number c =
    sym (ap (λ (m : Counts). count_of m c.args.name.now) (sym c.self.view_is)
    ∙ ap (λ o. unwrap_or o 0) (lookup_counts_of c.self.inside.by_name.entries c.args.name.now ∙ sym c.in_default.ensures.value))

pub returns-clause-ok : goal.returns-clause-ok
returns-clause-ok c =
    let i = c.in_ok-insert.ensures in
    let entries = ap (λ m. m.entries) c.get_mut.follows.holds-at-none in
    counts_of-declared c.self.inside.by_name.entries c.insert.new.self.entries c.in_ok-name.name c.args.name.now c.in_ok-name.ensures.items (sym c.in_default.ensures.value) (rw entries at i.entries)
    ∙ ap (λ (m : Counts). with_name m c.args.name.now) c.self.view_is
