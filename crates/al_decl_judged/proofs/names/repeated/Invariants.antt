use Rattle.std.proofs.Common.{◌≡◌, [], take, drop}
use Rattle.al_decl_judged.specs.DefiningNames.{names_of, repeated}
use Rattle.al_decl_judged.proofs.names.repeated.Given as goal

-- none of those so far comes before itself
abbrev pub invariant-loop-name : goal.invariant-loop-name
invariant-loop-name l = record {
  once : repeated (take l.name-index l.names) (drop l.name-index l.names) ≡ repeated [] l.names;
  seen : l.seen.keys ≡ names_of (take l.name-index l.names);
}
