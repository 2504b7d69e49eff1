use Rattle.std.proofs.Common.{◌∙◌, sym}
use Rattle.al_link_image.proofs.LineReaders.{version_first, version_none, version_second, version_short}
use Rattle.al_link_image.proofs.reading.version_at.Goals as goal

pub returns-then-bytes-lt6 : goal.returns-then-bytes-lt6
returns-then-bytes-lt6 c = version_short c.args.bytes.now c.if-bytes-lt6.true

pub returns-then-eq : goal.returns-then-eq
returns-then-eq c =
    version_first c.args.bytes.now c.split_at.result.0.now c.split_at.result.1.now c.split_at.ensures.front c.split_at.ensures.back (rw (← c.as_slice.ensures) (sym c.eq.ensures ∙ c.if-eq.true))

pub returns-then-eq-2 : goal.returns-then-eq-2
returns-then-eq-2 c =
    version_second c.args.bytes.now c.split_at.result.0.now c.split_at.result.1.now c.split_at.ensures.front c.split_at.ensures.back (rw (← c.as_slice.ensures) (sym c.eq.ensures ∙ c.if-eq.false)) (rw (← c.as_slice-2.ensures) (sym c.eq-2.ensures ∙ c.if-eq-2.true))

pub returns : goal.returns
returns c =
    version_none c.args.bytes.now c.split_at.result.0.now c.split_at.ensures.front (rw (← c.as_slice.ensures) (sym c.eq.ensures ∙ c.if-eq.false)) (rw (← c.as_slice-2.ensures) (sym c.eq-2.ensures ∙ c.if-eq-2.false))
