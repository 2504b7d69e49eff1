use Rattle.al_query_store.proofs.TestLemmas.{marks-test}
use Rattle.al_query_store.proofs.slots_laws.marks_are_tests.Goals as goal

pub returns : goal.returns
returns c t log marks tell = marks-test t log marks tell
