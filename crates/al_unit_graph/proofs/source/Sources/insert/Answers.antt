use Rattle.std.proofs.Common.{◌≡◌, ◌≤◌, length, ap, ◌∙◌, sym, subst}
use Rattle.std.specs.BTreeMap.{insert_entry}
use Rattle.al_base.specs.Files.{name_cmp}
use Rattle.al_unit_graph.specs.Headers.{Library}
use Rattle.al_unit_graph.specs.Library.{HasShortNames}
use Rattle.al_unit_graph.specs.Views.{library_of, source_model}
use Rattle.al_unit_graph.proofs.SourceLemmas.{library_of-insert_entry}
use Rattle.al_unit_graph.proofs.UnitLemmas.{short_inserted}
use Rattle.al_unit_graph.proofs.source.Sources.insert.Goals as goal

pub invariant_of-self-2 : goal.invariant_of-self-2
invariant_of-self-2 c =
    let old = library_of c.self.inside.files.entries in
    let new = library_of c.insert.new.self.entries in
    let value = source_model c.args.source.value in
    let is : new ≡ insert_entry name_cmp old c.in_ok-bytes.bytes.items value = ap library_of c.in-Ok.ensures.entries ∙ library_of-insert_entry c.self.inside.files.entries c.in_ok-bytes.bytes c.args.source in
    let named : insert_entry name_cmp old c.in_ok-bytes.bytes.items value ≡ insert_entry name_cmp old c.args.file value = ap (λ k. insert_entry name_cmp old k value) c.in_ok-bytes.ensures in
    subst HasShortNames (sym (is ∙ named)) (short_inserted old c.args.file value c.self.invariant c.requires)

pub returns : goal.returns
returns c =
    ap library_of c.in-Ok.ensures.entries
    ∙ library_of-insert_entry c.self.inside.files.entries c.in_ok-bytes.bytes c.args.source
    ∙ ap (λ k. insert_entry name_cmp (library_of c.self.inside.files.entries) k (source_model c.args.source.value)) c.in_ok-bytes.ensures
    ∙ ap (λ lib. insert_entry name_cmp lib c.args.file (source_model c.args.source.value)) c.self.view_is
