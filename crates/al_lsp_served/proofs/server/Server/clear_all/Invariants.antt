use Rattle.std.proofs.Common.{◌≡◌, ℕ, List, [], map, take, cond, ◌&&◌, not, is_some}
use Rattle.std.specs.List.{list_any}
use Rattle.std.specs.Str.{bytes_eq}
use Rattle.serde_json.specs.Data.{Data}
use Rattle.al_lsp_served.specs.Answers.{AddsNone}
use Rattle.al_lsp_served.specs.Named.{held}
use Rattle.al_lsp_served.specs.Pictures.{after_messages}
use Rattle.al_lsp_served.specs.Told.{list_data}
use Rattle.al_lsp_served.proofs.server.Server.clear_all.Given as goal

abbrev pub invariant-loop-name : goal.invariant-loop-name
invariant-loop-name g l = record {
  answers : AddsNone l.fn.out.items l.out.items;
  picture : (name : List ℕ) (had : Data) → after_messages name had l.out.items ≡ cond (list_any (λ k. bytes_eq k name) (map (λ k. k.now) (take l.name-index l.name-items)) && not (is_some (held l.picture name))) (list_data []) (after_messages name had l.fn.out.items);
}
