use Rattle.std.proofs.Common.{List, map, take, cond, ap, ◌∙◌}
use Rattle.std.specs.List.{list_any}
use Rattle.std.specs.Str.{bytes_eq}
use Rattle.std.proofs.lemmas.List.{take_all}
use Rattle.al_lsp_served.specs.Told.{told_of, list_data}
use Rattle.al_lsp_served.proofs.Pictured.{any_all, tell_more}
use Rattle.al_lsp_served.proofs.server.Server.tell_all.Goals as goal

pub loop-name-preserved : goal.loop-name-preserved
loop-name-preserved g c = record {
  answers = c.in_ok-tell_file.ensures.answers ∙ c.loop-name.invariant.answers;
  picture = λ name had was. tell_more c.as_slice-name-items.result.now c.loop-name.name-index _ name _ _ (list_data (told_of c.args.self.now.told name)) (list_data (told_of c.args.picture.now name)) c.loop-name-test.true (c.loop-name.invariant.picture name had was) (c.in_ok-tell_file.ensures.picture name had);
}

pub returns-clause-picture : goal.returns-clause-picture
returns-clause-picture g c = λ name had was.
    let items = c.as_slice-name-items.result.now in
    let all = take_all c.loop-name.name-index items c.loop-name-test.false in
    c.loop-name.invariant.picture name had was
    ∙ ap (λ b. cond b (list_data (told_of c.args.picture.now name)) (list_data (told_of c.args.self.now.told name))) (any_all c.args.picture.now items (take c.loop-name.name-index items) name all (ap (map (λ k. k.now)) c.as_slice-name-items.ensures.value ∙ c.in_ok-names_of.ensures))
