use Rattle.std.proofs.Common.{rules}
use Rattle.al_folder_served.proofs.Voices.{finishes_well}
use Rattle.al_folder_served.proofs.voice.Voice.pass.Goals as goal

pub invariant_of-self : goal.invariant_of-self
invariant_of-self g c = record {
  ready = λ ok.
      let same = finishes_well g.K.Sink.written g.K.Sink.faults g.K.Sink.waits c.args.self.now.sink c.finish-self.new.writer c.finish-self.result c.finish-self.ensures.adds ok in
      rw same (c.args.self.now.ready (search rules));
}
