-- The obsolete units of two libraries that read equal sources alike.
use Rattle.std.proofs.Common.{◌≡◌, ℕ, List, subst}
use Rattle.al_base.specs.Batch.{Key}
use Rattle.al_unit_graph.specs.Headers.{Library}
use Rattle.al_unit_graph.specs.Traces.{AreReadAlike}
use Rattle.al_unit_faults.specs.Obsolete.{obsolete_of}
use Rattle.al_unit_faults.specs.Wanted.{ListsObsolete}

pub listed : (old built new now : Library) (found faulty : List (List ℕ)) (keys : List Key) → old ≡ built → new ≡ now → found ≡ faulty → AreReadAlike built now → ListsObsolete old found new keys → keys ≡ obsolete_of built faulty now
listed old built new now found faulty keys o n f alike lists =
    let at_built : ListsObsolete built found new keys = subst (λ (l : Library). ListsObsolete l found new keys) o lists in
    let at_now : ListsObsolete built found now keys = subst (λ (l : Library). ListsObsolete built found l keys) n at_built in
    let at_faulty : ListsObsolete built faulty now keys = subst (λ (ns : List (List ℕ)). ListsObsolete built ns now keys) f at_now in
    at_faulty alike
