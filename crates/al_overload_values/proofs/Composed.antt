-- Two calls that ask, one after the other.
use Rattle.std.proofs.Common.{List, IfOk, Result, Ok, Err, rules}
use Rattle.al_base.specs.declared.unit_key.UnitKey.{UnitKey}
use Rattle.al_query.proofs.AskLemmas.{asks_then}
use Rattle.al_query.specs.Asked.{AsksOf, OfKnown, by_some_name}
use Rattle.al_query.specs.Reads.{Log}

-- the questions of one call, and then those of another
pub asks_more : (us : List UnitKey) (old mid new : Log) → AsksOf us by_some_name old mid → AsksOf us by_some_name mid new → AsksOf us by_some_name old new
asks_more us = asks_then (OfKnown us by_some_name)

-- what follows from a value follows from a result that may have it
pub if_ok : {A E : Type 0} (r : Result A E) (P Q : A → Type 0) → ((a : A) → P a → Q a) → IfOk r P → IfOk r Q
if_ok (Ok a) P Q f h = f a h
if_ok (Err e) P Q f h = search rules
