use Rattle.std.proofs.Common.{◌≡◌, ◌<◌, length, take, true, false, Some, sym, ◌∙◌, ap, arith}
use Rattle.std.specs.List.{list_any}
use Rattle.std.specs.Str.{bytes_eq}
use Rattle.indexmap.specs.IndexSet.{insert_key}
use Rattle.al_decl_judged.specs.declared.names.DefiningName.{DefiningName}
use Rattle.al_decl_judged.proofs.NameLemmas.{among_names, repeated_here, repeated_more, seen_more}
use Rattle.al_decl_judged.proofs.names.repeated.Goals as goal

pub returns-then-contains : goal.returns-then-contains
returns-then-contains c =
    let names = c.args.names.now in
    let i = c.loop-name.name-index in
    let n = c.name-item.result in
    let inside : i < length names = omega arith in
    let twice : list_any (λ (m : DefiningName). bytes_eq m.name n.name) (take i names) ≡ true =
    sym (among_names n.name (take i names)) ∙ ap (list_any (bytes_eq n.name)) (sym c.loop-name.invariant.seen) ∙ sym c.contains.ensures ∙ c.if-contains.true in
    ap Some c.duplicate_at.ensures ∙ sym (repeated_here names i n inside c.name-item.is twice) ∙ c.loop-name.invariant.once

pub loop-name-preserved : goal.loop-name-preserved
loop-name-preserved c =
    let names = c.args.names.now in
    let i = c.loop-name.name-index in
    let n = c.name-item.result in
    let inside : i < length names = omega arith in
    let new : list_any (bytes_eq n.name) c.loop-name.seen.keys ≡ false = sym c.contains.ensures ∙ c.if-contains.false in
    let once : list_any (λ (m : DefiningName). bytes_eq m.name n.name) (take i names) ≡ false =
    sym (among_names n.name (take i names)) ∙ ap (list_any (bytes_eq n.name)) (sym c.loop-name.invariant.seen) ∙ new in
    record {
      once = repeated_more names i n inside c.name-item.is once ∙ c.loop-name.invariant.once;
      seen = c.in_ok-insert.ensures.keys
          ∙ ap (insert_key bytes_eq c.loop-name.seen.keys) (c.in_ok-spelled.ensures ∙ c.as_slice.ensures)
          ∙ seen_more names i n c.loop-name.seen.keys inside c.name-item.is c.loop-name.invariant.seen new;
    }
