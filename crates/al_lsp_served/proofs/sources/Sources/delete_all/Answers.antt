use Rattle.std.proofs.Common.{◌≡◌, ℕ, List, None, map, ap, ◌∙◌}
use Rattle.al_base.specs.Files.{text_of}
use Rattle.al_lsp_served.specs.Named.{held}
use Rattle.al_lsp_served.proofs.Overlaid.{item_within, item_is, item_file, one_more}
use Rattle.al_lsp_served.proofs.sources.Sources.delete_all.Goals as goal

pub delete_gone-requires : goal.delete_gone-requires
delete_gone-requires g c =
    let are = ap (map (λ f. (f.0.now, f.1.now.value.items))) c.as_slice-name-items.ensures.value ∙ c.in_ok-shared.ensures.list in
    (item_file (λ f. (f.0.now, f.1.now.value.items)) c.as_slice-name-items.result.now c.in_ok-before.before are c.loop-name.name-index c.loop-name-item.result c.loop-name-test.true c.loop-name-item.is c.in_ok-shared.ensures.files.each).0

pub loop-name-preserved : goal.loop-name-preserved
loop-name-preserved g c =
    let old = c.args.self.now in
    let are = ap (map (λ f. (f.0.now, f.1.now.value.items))) c.as_slice-name-items.ensures.value ∙ c.in_ok-shared.ensures.list ∙ c.in_ok-before.ensures in
    let e : List ℕ × List ℕ = (c.loop-name-item.result.0.now, c.loop-name-item.result.1.now.value.items) in
    let within = item_within (λ f. (f.0.now, f.1.now.value.items)) c.as_slice-name-items.result.now old.texts are c.loop-name.name-index c.loop-name-item.result c.loop-name-test.true c.loop-name-item.is in
    let is = item_is (λ f. (f.0.now, f.1.now.value.items)) c.as_slice-name-items.result.now old.texts are c.loop-name.name-index c.loop-name-item.result c.loop-name-test.true c.loop-name-item.is in
    record {
      step = λ same. c.delete_gone.ensures.step (c.loop-name.invariant.step same);
      over = λ is. c.delete_gone.ensures.over (c.loop-name.invariant.over is);
      ascend = c.delete_gone.ensures.ascend c.loop-name.invariant.ascend;
      gone = one_more old.texts c.loop-name.name-index e within is (λ name. (held c.args.open.now name ≡ None) × (text_of c.args.now.now name ≡ None)) (λ name. None) c.loop-name.self.texts c.delete_gone.new.self.texts c.loop-name.invariant.gone c.delete_gone.ensures.others (λ both. c.delete_gone.ensures.gone c.loop-name.invariant.ascend both.0 both.1);
    }
