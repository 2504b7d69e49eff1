use Rattle.std.proofs.Common.{◌≡◌, Some, get_or, slice_index, ap, sym, ◌∙◌, arith}
use Rattle.std.proofs.lemmas.Bool.Decides.{Decides-ltb}
use Rattle.al_base.specs.ReservedPlaces.{place_of}
use Rattle.al_base.specs.ReservedWords.{spelling, reserved_words}
use Rattle.al_base.specs.declared.reserved.ReservedWord.TheVariants.{Abort}
use Rattle.al_base.proofs.ReservedLemmas.{numbers, number-below, number-word}
use Rattle.al_base.proofs.reserved.word_at.Goals as goal

pub returns-then-number-lt73 : goal.returns-then-number-lt73
unfolding numbers reserved_words
returns-then-number-lt73 c = λ w is.
    let number : c.from-number.result ≡ slice_index numbers c.args.place = c.from-number.ensures in
    ap Some (ap (λ i. get_or reserved_words i Abort) (number ∙ ap (slice_index numbers) (sym is)) ∙ number-word w)

pub returns-else-number-lt73 : goal.returns-else-number-lt73
unfolding numbers
returns-else-number-lt73 c = λ w is.
    let number : c.from-number.result ≡ slice_index numbers c.args.place = c.from-number.ensures in
    let same : c.from-number.result ≡ slice_index numbers (place_of (spelling w)) = number ∙ ap (slice_index numbers) (sym is) in
    let below = (Decides-ltb (slice_index numbers (place_of (spelling w))) 73).0 (number-below w) in
    absurd (omega (arith, same, below, c.if-number-lt73.false))
