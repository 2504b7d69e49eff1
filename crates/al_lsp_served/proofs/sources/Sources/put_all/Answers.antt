use Rattle.std.proofs.Common.{◌≡◌, ◌<◌, ℕ, List, Some, None, length, map, sym, ap, subst, ◌∙◌, arith}
use Rattle.al_base.specs.Files.{IsFile, text_of}
use Rattle.al_lsp_served.specs.Named.{held}
use Rattle.al_lsp_served.proofs.Overlaid.{item_within, item_is, item_file, one_more, at_place}
use Rattle.al_lsp_served.proofs.sources.Sources.put_all.Goals as goal

pub loop-name-preserved : goal.loop-name-preserved
loop-name-preserved g c =
    let now = c.args.now.now in
    let are = ap (map (λ f. (f.0.now, f.1.now.value.items))) c.as_slice-name-items.ensures.value ∙ c.in_ok-shared.ensures.list in
    let e : List ℕ × List ℕ = (c.loop-name-item.result.0.now, c.loop-name-item.result.1.now.value.items) in
    let within = item_within (λ f. (f.0.now, f.1.now.value.items)) c.as_slice-name-items.result.now now are c.loop-name.name-index c.loop-name-item.result c.loop-name-test.true c.loop-name-item.is in
    let is = item_is (λ f. (f.0.now, f.1.now.value.items)) c.as_slice-name-items.result.now now are c.loop-name.name-index c.loop-name-item.result c.loop-name-test.true c.loop-name-item.is in
    let file = item_file (λ f. (f.0.now, f.1.now.value.items)) c.as_slice-name-items.result.now now are c.loop-name.name-index c.loop-name-item.result c.loop-name-test.true c.loop-name-item.is c.in_ok-shared.ensures.files.each in
    let text : c.as_slice.result.now ≡ e.1 = c.as_slice.ensures.value ∙ ap (λ v. v.items) c.deref.ensures in
    record {
      step = λ same. c.in_ok-put_read.ensures.step (c.loop-name.invariant.step same);
      over = λ is. c.in_ok-put_read.ensures.over (c.loop-name.invariant.over is);
      overlaid = λ same gone few.
          let more = c.in_ok-put_read.ensures.more in
          let room : length c.loop-name.self.texts < 4096 = omega (arith, more, few) in
          one_more now c.loop-name.name-index e within is (λ name. held c.args.open.now name ≡ None) (text_of now) c.loop-name.self.texts c.put_read.new.self.texts (c.loop-name.invariant.overlaid same gone room) c.in_ok-put_read.ensures.others
          (λ shut. c.in_ok-put_read.ensures.there (c.loop-name.invariant.step same) (subst (λ t. IsFile (e.0, t)) (sym text) file) shut few ∙ ap Some text ∙ sym (at_place now c.loop-name.name-index e within is c.in_ok-shared.ensures.ascend));
    }
