use Rattle.std.proofs.Common.{◌≡◌, ℕ, List, IsTrue}
use Rattle.std.proofs.lemmas.Bool.{cond-true}
use Rattle.al_base.specs.Batch.{Key}
use Rattle.al_base.specs.declared.unit_key.UnitKind.TheVariants.{Decl, Body}
use Rattle.al_unit_graph.specs.Headers.{Library}
use Rattle.al_bind.specs.Elaboration.{is_pair, node_of}
use Rattle.al_bind.proofs.laws.pair_is_one_node.Goals as goal

same_node : (lib : Library) (name : List ℕ) → IsTrue (is_pair lib name) → node_of lib (name, Body) ≡ node_of lib (name, Decl)
same_node lib name is = let d : Key = (name, Decl) in let b : Key = (name, Body) in cond-true (is_pair lib name) d b is

pub returns : goal.returns
returns c = record { one = same_node; no_edge = λ lib main name reason is carries. carries.apart (same_node lib name is) }
