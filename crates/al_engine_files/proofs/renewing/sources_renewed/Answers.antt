use Rattle.std.proofs.Common.{◌≡◌, ◌≤◌, ℕ, Bor, List, [], ◌∷◌, Some, IfSome, length, sym, ap, subst, ◌∙◌}
use Rattle.std.specs.Option.{option_map}
use Rattle.std.specs.BTreeMap.{insert_entry}
use Rattle.al_base.specs.Files.{name_cmp, text_of}
use Rattle.al_base.proofs.HeldFiles.{held_text, short_name}
use Rattle.al_unit_graph.specs.Headers.{Library, Source}
use Rattle.al_unit_graph.specs.Views.{source_model}
use Rattle.al_unit.specs.Libraries.{library_of, texts_of}
use Rattle.al_engine.specs.GraphGraphs.{HaveSameHeaders, contents_at, unplaced_contents}
use Rattle.al_engine.specs.Texts.{HaveTextsBut}
use Rattle.al_engine_files.proofs.EditedFile.{edited_so, named-file, never-gone, now_is}
use Rattle.al_engine_files.proofs.renewing.sources_renewed.Goals as goal

pub unreachable-requires : goal.unreachable-requires
unreachable-requires c =
    never-gone (texts_of c.args.before) c.args.name.now c.args.files.now c.requires.edited (sym c.get.ensures ∙ ap (λ o. option_map (λ (t : Bor (List ℕ)). t.now) o) c.in_default.is)

pub held_after-requires-clause-text : goal.held_after-requires-clause-text
held_after-requires-clause-text c =
    let has : text_of c.args.files.now c.args.name.now ≡ Some c.in-Some.text.now = sym c.get.ensures ∙ ap (λ o. option_map (λ (t : Bor (List ℕ)). t.now) o) c.in-Some.is in
    subst (λ (t : List ℕ). length t ≤ 1048576) (sym c.in_ok-text.ensures.text) (held_text c.args.files.now c.args.name.now c.in-Some.text.now c.in_ok-text.ensures.files.each has)

pub put_in-requires : goal.put_in-requires
put_in-requires c =
    let has : text_of c.args.files.now c.args.name.now ≡ Some c.in-Some.text.now = sym c.get.ensures ∙ ap (λ o. option_map (λ (t : Bor (List ℕ)). t.now) o) c.in-Some.is in
    short_name c.args.name.now (named-file c.args.files.now c.args.name.now c.in-Some.text.now c.in_ok-text.ensures.files.each has)

pub returns-clause-sources : goal.returns-clause-sources
returns-clause-sources c =
    let text = c.in_ok-text.text.value.items in
    let has : text_of c.args.files.now c.args.name.now ≡ Some text = sym c.get.ensures ∙ ap (λ o. option_map (λ (t : Bor (List ℕ)). t.now) o) c.in-Some.is ∙ ap (λ (t : List ℕ). Some t) (sym c.in_ok-text.ensures.text) in
    c.in_ok-put_in.ensures
    ∙ ap (λ (s : Source). insert_entry name_cmp c.args.before c.args.name.now s) c.in_ok-held.ensures.source
    ∙ now_is c.args.before c.args.name.now c.args.files.now text c.requires.before c.requires.edited has

pub returns-clause-edited : goal.returns-clause-edited
returns-clause-edited c =
    let before = c.args.before in
    let name = c.args.name.now in
    let text = c.in_ok-text.text.value.items in
    let has : text_of c.args.files.now name ≡ Some text = sym c.get.ensures ∙ ap (λ o. option_map (λ (t : Bor (List ℕ)). t.now) o) c.in-Some.is ∙ ap (λ (t : List ℕ). Some t) (sym c.in_ok-text.ensures.text) in
    let told = subst (λ (s : Source). IfSome c.in_ok-edited.edited (λ e. (e.files.items ≡ name ∷ []) × (contents_at before name ≡ Some (unplaced_contents s.contents)))) (ap source_model c.deref.ensures ∙ c.in_ok-held.ensures.source) c.in_ok-edited.ensures in
    let is : c.put_in.new.sources ≡ library_of c.args.files.now =
    c.in_ok-put_in.ensures
    ∙ ap (λ (s : Source). insert_entry name_cmp before name s) c.in_ok-held.ensures.source
    ∙ now_is before name c.args.files.now text c.requires.before c.requires.edited has in
    subst (λ (l : Library). IfSome c.in_ok-edited.edited (λ edited. HaveSameHeaders before l × HaveTextsBut before l edited)) (sym is)
    (edited_so before name c.args.files.now text c.requires.before c.requires.edited has c.in_ok-text.ensures.ascend c.in_ok-edited.edited told)
