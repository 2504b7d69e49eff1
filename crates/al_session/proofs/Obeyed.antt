-- The order of what compiling gives is an order of elaboration.
use Rattle.std.proofs.Common.{◌≡◌, ℕ, List, Option, Some, sym, ap, subst, ◌∙◌, map}
use Rattle.al_base.specs.Batch.{Key, key_of}
use Rattle.al_base.specs.Files.{Texts}
use Rattle.al_bind.specs.Binding.{IsElaboration}
use Rattle.al_bind.specs.declared.binding.BindFault.{BindFault}
use Rattle.al_bind.specs.declared.binding.BindFault.TheVariants.{Lacks, Cycle}
use Rattle.al_bind.specs.declared.lacking.MissingItem.TheVariants.{Main, Body, Subunit}
use Rattle.al_session.specs.TextOrders.{Obeys, OrdersOfTextsObey}
use Rattle.al_unit_graph.specs.Headers.{Header}
use Rattle.al_unit.specs.Libraries.{library_of}
use Rattle.al_engine_refresh.specs.EntryLaw.{TextMeaning}
use Rattle.al_engine.specs.declared.compiled.Compiled.{Compiled}
use Rattle.al_engine.specs.declared.compiled.Compiled.TheVariants as compiled
use Rattle.al_engine_files.specs.PredefinedUnits.{predefined_answer}
use Rattle.al_session.specs.EngineMeanings.{Compiles, CompilesTo}
use Rattle.al_session.specs.Results.{fault_result, result_of}
use Rattle.al_session_served.specs.Builds as adds

no_order : (fault : BindFault) (order : List Key) → adds.order_of (fault_result fault) ≡ Some order → ⊥
no_order (Lacks Main) order is = cc
no_order (Lacks (Body name)) order is = cc
no_order (Lacks (Subunit name)) order is = cc
no_order (Cycle lines) order is = cc

module _ (obey : OrdersOfTextsObey) (meaning : TextMeaning) (header : List ℕ → Header) (files : Texts) (main : List ℕ) (order : List Key) where
  by_order : (keys : List Key) → IsElaboration (library_of files) main keys → Some keys ≡ Some order → Obeys (library_of files) main order
  by_order keys ordered is =
      let same : keys ≡ order = cc in
      subst (λ (ks : List Key). Obeys (library_of files) main ks) same (obey files main keys ordered)

  compiled_obeys : (c : Compiled) → CompilesTo meaning header predefined_answer library_of files main c → adds.order_of (result_of c) ≡ Some order → Obeys (library_of files) main order
  compiled_obeys (compiled.Faulty diagnostics) to is = absurd (cc)
  compiled_obeys (compiled.Unbound fault) to is = absurd (no_order fault order is)
  compiled_obeys (compiled.TooLarge kept) to is = by_order (map key_of kept.items) to.is_batch.1.ordered is
  compiled_obeys (compiled.Made program) to is = by_order (map key_of program.order.items) to.is_batch.1.ordered is

  pub gave_obeys : (gave : adds.BuildResult) → Compiles meaning header predefined_answer library_of files main gave → adds.order_of gave ≡ Some order → Obeys (library_of files) main order
  gave_obeys gave to is = compiled_obeys to.compiled to.compiles (ap adds.order_of (sym to.gave_is) ∙ is)
