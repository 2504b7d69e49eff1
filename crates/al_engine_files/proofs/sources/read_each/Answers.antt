use Rattle.std.proofs.Common.{◌≡◌, ℕ, List, length, map, sym, ap, subst, ◌∙◌, add-one, arith}
use Rattle.std.proofs.lemmas.List.{length-map, take_all}
use Rattle.std.specs.BTreeMap.{insert_entry}
use Rattle.std.specs.List.{AllByRecursion}
use Rattle.al_base.specs.FileLaws.{Ascend}
use Rattle.al_base.specs.Files.{IsFile, Texts, name_cmp}
use Rattle.al_base.proofs.HeldFiles.{short_name, held_at}
use Rattle.al_unit.specs.Libraries.{library_of, source_of}
use Rattle.al_unit.proofs.LibraryLemmas.{next_source, no_library}
use Rattle.al_engine.proofs.Files.{stepped}
use Rattle.al_engine_files.specs.AdaFiles.{IsKnown, WereRead}
use Rattle.al_engine_files.proofs.OfTexts.{known_item, more_known}
use Rattle.al_engine_files.proofs.sources.read_each.Goals as goal

pub loop-name-init : goal.loop-name-init
loop-name-init c = (c.new-sources.ensures ∙ sym no_library, λ is k below. absurd (omega (arith, below)))

pub loop-name-preserved : goal.loop-name-preserved
loop-name-preserved c =
    let items = c.deref-name-items.result.now in
    let item = c.loop-name-item.result in
    let before = c.args.before.now in
    let edited = c.add_file.new.edited in
    let sorted : Ascend (map (λ f. (f.0.now, f.1.now.value.items)) items) = rw (c.deref-name-items.ensures.value, c.in_ok-list.ensures.list) c.in_ok-list.ensures.ascend in
    let next = next_source (λ f. (f.0.now, f.1.now.value.items)) items c.loop-name.name-index item sorted c.loop-name-test.true c.loop-name-item.is in (
      rw add-one (c.in_ok-is_alike.ensures.sources ∙ ap (λ s. insert_entry name_cmp s item.0.now (source_of item.1.now.value.items)) c.loop-name.invariant.0 ∙ next),
      λ is. stepped (λ f. (f.0.now, f.1.now.value.items)) (IsKnown before edited) items c.loop-name.name-index item c.loop-name-test.true
          (λ k below e at. more_known before c.loop-name.edited edited c.in_ok-is_alike.ensures.kept e (c.loop-name.invariant.1 (c.both-are_alike.ensures is).0 k below e at))
          (known_item (λ f. (f.0.now, f.1.now.value.items)) before edited items c.loop-name.name-index item c.loop-name-item.is (c.in_ok-is_alike.ensures.known (c.both-are_alike.ensures is).1)),
    )

pub returns-clause-sources : goal.returns-clause-sources
returns-clause-sources c =
    c.loop-name.invariant.0
    ∙ ap (λ xs. library_of (map (λ f. (f.0.now, f.1.now.value.items)) xs)) (take_all c.loop-name.name-index c.deref-name-items.result.now c.loop-name-test.false ∙ c.deref-name-items.ensures.value)
    ∙ ap library_of c.in_ok-list.ensures.list

pub returns-clause-known : goal.returns-clause-known
returns-clause-known c = λ is.
    let items = c.deref-name-items.result.now in
    let files : map (λ f. (f.0.now, f.1.now.value.items)) items ≡ c.args.files.now = ap (λ xs. map (λ f. (f.0.now, f.1.now.value.items)) xs) c.deref-name-items.ensures.value ∙ c.in_ok-list.ensures.list in
    subst (λ (texts : Texts). WereRead c.args.before.now c.loop-name.edited texts) files
    (λ e has. c.loop-name.invariant.1 is has.0 (omega (arith, has.1, c.loop-name-test.false, length-map {B = List ℕ × List ℕ} items (λ f. (f.0.now, f.1.now.value.items)))) e has.2)

pub add_file-requires-clause-name : goal.add_file-requires-clause-name
add_file-requires-clause-name c =
    let files : AllByRecursion IsFile (map (λ f. (f.0.now, f.1.now.value.items)) c.deref-name-items.result.now) = rw (c.deref-name-items.ensures.value, c.in_ok-list.ensures.list) c.in_ok-list.ensures.files.each in
    short_name c.loop-name-item.result.0.now (held_at (λ f. (f.0.now, f.1.now.value.items)) c.deref-name-items.result.now c.loop-name.name-index c.loop-name-item.result files c.loop-name-test.true c.loop-name-item.is).0

pub add_file-requires-clause-text : goal.add_file-requires-clause-text
add_file-requires-clause-text c =
    let files : AllByRecursion IsFile (map (λ f. (f.0.now, f.1.now.value.items)) c.deref-name-items.result.now) = rw (c.deref-name-items.ensures.value, c.in_ok-list.ensures.list) c.in_ok-list.ensures.files.each in
    (held_at (λ f. (f.0.now, f.1.now.value.items)) c.deref-name-items.result.now c.loop-name.name-index c.loop-name-item.result files c.loop-name-test.true c.loop-name-item.is).1
