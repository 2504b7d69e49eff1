use Rattle.std.proofs.Common.{List, [], map, take, cond, ◌&&◌, not, is_some, ap, ◌∙◌}
use Rattle.std.specs.List.{list_any}
use Rattle.std.specs.Str.{bytes_eq}
use Rattle.std.proofs.lemmas.List.{take_all}
use Rattle.al_lsp_served.specs.Named.{held}
use Rattle.al_lsp_served.specs.Pictures.{after_messages}
use Rattle.al_lsp_served.specs.Told.{list_data}
use Rattle.al_lsp_served.proofs.Pictured.{any_all, clear_more}
use Rattle.al_lsp_served.proofs.server.Server.clear_all.Goals as goal

pub loop-name-preserved : goal.loop-name-preserved
loop-name-preserved g c = record {
  answers = c.in_ok-clear_file.ensures.answers ∙ c.loop-name.invariant.answers;
  picture = λ name had. clear_more c.as_slice-name-items.result.now c.loop-name.name-index _ name (not (is_some (held c.args.picture.now name))) _ _ (after_messages name had c.args.out.now.items) (list_data []) c.loop-name-test.true (c.loop-name.invariant.picture name had) (c.in_ok-clear_file.ensures.picture name had);
}

pub returns-clause-picture : goal.returns-clause-picture
returns-clause-picture g c = λ name had.
    let items = c.as_slice-name-items.result.now in
    let all = take_all c.loop-name.name-index items c.loop-name-test.false in
    c.loop-name.invariant.picture name had
    ∙ ap (λ b. cond (b && not (is_some (held c.args.picture.now name))) (list_data []) (after_messages name had c.args.out.now.items)) (any_all c.args.self.now.told items (take c.loop-name.name-index items) name all (ap (map (λ k. k.now)) c.as_slice-name-items.ensures.value ∙ c.in_ok-names_of.ensures))
