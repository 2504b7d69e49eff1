use Rattle.std.proofs.Common.{ℕ, List, sym, subst}
use Rattle.std.proofs.lemmas.Result.{IfOk-weaker}
use Rattle.al_query.specs.Reads.{Log}
use Rattle.al_engine_refresh.specs.EntryLaw.{KeepsLaw}
use Rattle.al_engine_refresh.specs.Stored.{Stored}
use Rattle.al_engine_refresh.proofs.unit.check_read.Goals as goal

pub returns-clause-keeps : goal.returns-clause-keeps
returns-clause-keeps g c =
    let meaning = g.C.UnitCheck.meaning in
    let header = g.C.Text.ReadText.header in
    let unit = c.args.unit.now in
    let text = g.C.Text.ReadText.text c.args.read.now in
    let log = c.check.new.recorder.log in
    let checked = c.in_ok-checked.checked in
    let k = c.in_ok-checked.ensures in
    let asked : Stored = record { text = text; log = log; checked = checked } in
    let law : KeepsLaw meaning header unit asked = record {
      reads = k.meaning;
      others = k.others;
      grounded = k.grounded;
      words = k.words;
      names = k.names;
      uses = k.uses;
      defines = k.defines;
      shows = k.shows;
      parts = k.parts;
      code = k.code;
      faults = k.faults;
    } in
    let with_text = subst (λ (x : List ℕ). let e : Stored = record { text = x; log = log; checked = checked } in KeepsLaw meaning header unit e) c.requires law in
    let with_log = subst (λ (l : Log). let e : Stored = record { text = c.args.text.value.items; log = l; checked = checked } in KeepsLaw meaning header unit e) (sym c.into_log-log.ensures.log) with_text in
    IfOk-weaker c.new.result _ _ (λ e is. subst (λ (x : Stored). KeepsLaw meaning header unit x) (sym is) with_log) c.new.ensures
