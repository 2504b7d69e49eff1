-- Values that tell of what names mean.
use Rattle.std.specs.Prelude.{List, ℕ, codes}
use Rattle.std.specs.Str.Lossy.{utf8_lossy}
use Rattle.serde_json.specs.Data.{Data, string, object, Members, no_members, put}

abbrev pub with_contents : List ℕ → Members → Members
with_contents words ms = put (codes "value") (string (utf8_lossy words)) (put (codes "kind") (string (codes "plaintext")) ms)

abbrev pub with_hover : List ℕ → Members → Members
with_hover words ms = put (codes "contents") (object (with_contents words no_members)) ms

-- plain words on what a name means
abbrev pub hover_data : List ℕ → Data
hover_data words = object (with_hover words no_members)

abbrev pub with_proposed : List ℕ → List ℕ → Members → Members
with_proposed name words ms = put (codes "detail") (string (utf8_lossy words)) (put (codes "label") (string (utf8_lossy name)) ms)

-- a name that may stand at a place
abbrev pub proposed_data : List ℕ → List ℕ → Data
proposed_data name words = object (with_proposed name words no_members)
