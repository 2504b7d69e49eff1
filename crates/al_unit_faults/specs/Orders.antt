-- The order of what is found wrong.
use Rattle.std.specs.Prelude.{List, []}
use Rattle.std.specs.List.{fold}
use Rattle.std.specs.Ordering.{nat_cmp, then_cmp}
use Rattle.std.specs.BTreeSet.{insert_key}
use Rattle.std.specs.declared.cmp.Ordering.{Ordering}
use Rattle.al_base.specs.Batch.{Finding}
use Rattle.al_base.specs.Files.{name_cmp}

-- the order of errors by file, place and number
abbrev pub finding_cmp : Finding → Finding → Ordering
finding_cmp =
    then_cmp (λ f g. name_cmp f.file g.file) (then_cmp (λ f g. nat_cmp f.line g.line) (then_cmp (λ f g. nat_cmp f.col g.col) (λ f g. nat_cmp f.code g.code)))

-- the findings in this order, none twice
unfoldable pub ascending : List Finding → List Finding
ascending fs = fold (insert_key finding_cmp) [] fs
