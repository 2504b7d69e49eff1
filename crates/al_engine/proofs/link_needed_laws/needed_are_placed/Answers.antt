use Rattle.al_engine.proofs.RebuildPlacing.{only_needed, stands}
use Rattle.al_engine.proofs.link_needed_laws.needed_are_placed.Goals as goal

pub returns : goal.returns
returns c = λ lib main items placed whole elaboration are.
    record {
      stand = stands lib main whole.named whole.faultless whole.direct_there items placed elaboration are;
      needed = only_needed lib main whole.named whole.faultless whole.direct_there items placed elaboration are;
    }
