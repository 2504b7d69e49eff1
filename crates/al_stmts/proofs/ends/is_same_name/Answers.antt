-- Both say whether the names in lower case are the same.
use Rattle.std.proofs.Common.{map}
use Rattle.std.specs.Char.{to_ascii_lowercase}
use Rattle.std.specs.Cmp.Lexicographic.{bytes_decides}
use Rattle.std.proofs.lemmas.Bool.Decides.{same_from_decides}
use Rattle.al_stmts.proofs.ends.is_same_name.Goals as goal

pub returns : goal.returns
returns c =
    same_from_decides _ _ c.eq_ignore_ascii_case.ensures.test (bytes_decides (map to_ascii_lowercase c.args.name.now) (map to_ascii_lowercase c.args.spelled.now))
