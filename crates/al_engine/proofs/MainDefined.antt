-- The main subprogram's code is defined.
use Rattle.std.proofs.Common.{◌≡◌, ◌⊎◌, inl, inr, ℕ, Bool, true, false, List, Option, Some, None, if◌then◌else◌, unwrap_or, refl, ap, subst, sym, ◌∙◌}
use Rattle.std.specs.Option.{is_some, option_map, option_map_or}
use Rattle.al_base.specs.Batch.{Key}
use Rattle.al_base.specs.declared.unit_key.UnitKey.{UnitKey}
use Rattle.al_base.specs.declared.unit_key.UnitKind.{UnitKind}
use Rattle.al_base.specs.declared.unit_key.UnitKind.TheVariants.{Decl, Body, Sub}
use Rattle.al_view.specs.declared.link.LinkSymbol.{LinkSymbol}
use Rattle.al_query.specs.Answers.{declaration, own_view_of}
use Rattle.al_query.specs.Known.{body, has_unit, predefined_units}
use Rattle.al_query.specs.declared.query.Property.TheVariants.{Kind}
use Rattle.al_query.specs.declared.query.Query.TheVariants.{Of}
use Rattle.al_unit_graph.specs.Headers.{Header, Library, is_subprogram_body}
use Rattle.al_unit_graph.specs.Library.{declaration_of, has_declaration_file, unit_at}
use Rattle.al_unit_graph.specs.Needed.Needed.{main_unit}
use Rattle.al_unit_graph.proofs.BoolLemmas.{not_both}
use Rattle.al_query_outcome.specs.Defines.{AllAccountedDefined, DeclaresItself, IsDefined, main_symbol}
use Rattle.al_query_outcome.specs.Equations.{IsSetting, Meaning, Setting, Solves, table, unit_named}
use Rattle.al_query_outcome.specs.Left.{own_code}
use Rattle.al_query_outcome.specs.Results.{Outcome}
use Rattle.al_bind.specs.Faults.{IsComplete}
use Rattle.al_engine.specs.Completing.{AreAllSound, KeepParts}
use Rattle.al_engine.proofs.Completing.{faultless, silent, sound_unit, unit_is}

some_is : (g h : Header) → Some g ≡ Some h → g ≡ h
some_is g h same = cc

abbrev kind_in : Option Key → Option UnitKind
kind_in o = option_map (λ k. k.1) o

kinds_apart : (n : List ℕ) (o : Option Key) → o ≡ Some (n, Decl) → o ≡ Some (n, Body) → ⊥
kinds_apart n o one two = let same : Some Decl ≡ Some Body = ap kind_in (sym one ∙ two) in absurd (cc)

no_subunit : (n : List ℕ) (k : Key) → k ≡ (n, Sub) → (k ≡ (n, Decl)) ⊎ (k ≡ (n, Body)) → ⊥
no_subunit n k is (inl one) = let same : Sub ≡ Decl = ap (λ (x : Key). x.1) (sym is ∙ one) in absurd (cc)
no_subunit n k is (inr one) = let same : Sub ≡ Body = ap (λ (x : Key). x.1) (sym is ∙ one) in absurd (cc)

-- a declaration or a body declares a name
declared_by : (n : List ℕ) (a b : Bool) (k : Key) → (if a then Some (n, Decl) else if b then Some (n, Body) else None) ≡ Some k → (k ≡ (n, Decl)) ⊎ (k ≡ (n, Body))
declared_by n true b k is = inl (cc)
declared_by n false true k is = inr (cc)
declared_by n false false k is = absurd (cc)

declared_key : (lib : Library) (n : List ℕ) (k : Key) → declaration_of lib n ≡ Some k → (k ≡ (n, Decl)) ⊎ (k ≡ (n, Body))
unfolding declaration_of
declared_key lib n k is = declared_by n (has_declaration_file lib n) (option_map_or (λ (h : Header). is_subprogram_body h.form) (unit_at lib (n, Body)) false) k is

module _ (meaning : Meaning) (s : Setting) (is_setting : IsSetting s) (main : List ℕ) (f : UnitKey → Option Outcome) (solves : Solves meaning s f) (sound : AreAllSound s f) (parts : KeepParts s f) (complete : IsComplete s.files main) (accounted : AllAccountedDefined s main f) where
  -- if the body acts as its declaration, there is no declaration
  not_predefined : s.is_faultless (body main) ≡ true → has_unit predefined_units (declaration main) ≡ false
  not_predefined there = by (has_unit predefined_units (declaration main)) refl
    where
      by : (b : Bool) → has_unit predefined_units (declaration main) ≡ b → b ≡ false
      by true is = absurd (not_both (s.is_faultless (body main)) there (is_setting.without_files (declaration main) is).1)
      by false is = refl

  no_declaration : declaration_of s.files main ≡ Some (main, Body) → s.is_faultless (declaration main) ≡ false
  no_declaration acts = by (s.is_faultless (declaration main)) refl
    where
      by : (b : Bool) → s.is_faultless (declaration main) ≡ b → b ≡ false
      by true is = absurd (kinds_apart main (declaration_of s.files main) (is_setting.declared main is) acts)
      by false is = refl

  unseen : declaration_of s.files main ≡ Some (main, Body) → s.is_faultless (body main) ≡ true → own_view_of (table s f (Of (declaration main) Kind)) ≡ None
  unseen acts there = ap own_view_of (silent meaning s is_setting main f solves sound parts complete (Of (declaration main) Kind) (not_predefined there) (no_declaration acts))

  itself : (k : UnitKind) → declaration_of s.files main ≡ Some (main, k) → s.is_faultless (unit_named (main, k)) ≡ true → DeclaresItself (unit_named (main, k)) (table s f)
  itself Decl declared there = inl refl
  itself Body declared there = inr (refl, unseen declared there)
  itself Sub declared there = absurd (no_subunit main (main, Sub) refl (declared_key s.files main (main, Sub) declared))

  of_kind : (k : UnitKind) (h : Header) → declaration_of s.files main ≡ Some (main, k) → unit_at s.files (main, k) ≡ Some h → h.is_parameterless_procedure ≡ true → IsDefined s main f (main_symbol s.files main)
  of_kind k h declared at procedure =
      let u = unit_named (main, k) in
      let o = sound_unit meaning s is_setting main f solves sound parts complete u (ap is_some at) in
      let header : s.header_of u ≡ h = some_is (s.header_of u) h (sym (unit_is meaning s is_setting main f solves sound parts complete u o.interface o.tree o.has) ∙ at) in
      let fits : (s.header_of u).is_parameterless_procedure ≡ true = ap (λ (x : Header). x.is_parameterless_procedure) header ∙ procedure in
      let there = faultless meaning s is_setting main f solves sound parts complete u o.interface o.tree o.has in
      let has_code = (parts u o.interface o.tree o.has).main fits (itself k declared there) in
      let defined = accounted u o.interface o.tree (main_unit declared) o.has (own_code u) has_code in
      subst (λ (x : LinkSymbol). IsDefined s main f x) (ap (λ (d : Option Key). own_code (unit_named (unwrap_or d (main, Body)))) (sym declared)) defined

  with_header : (x : Key) → declaration_of s.files main ≡ Some x → (o : Option Header) → unit_at s.files x ≡ o → option_map_or (λ (h : Header). h.is_parameterless_procedure) o false ≡ true → IsDefined s main f (main_symbol s.files main)
  with_header x declared None at is = absurd (cc)
  with_header x declared (Some h) at is =
      elim (declared_key s.files main x declared) as (λ _. IsDefined s main f (main_symbol s.files main)) [
        | inl e ↦ of_kind Decl h (subst (λ (k : Key). declaration_of s.files main ≡ Some k) e declared) (subst (λ (k : Key). unit_at s.files k ≡ Some h) e at) is
        | inr e ↦ of_kind Body h (subst (λ (k : Key). declaration_of s.files main ≡ Some k) e declared) (subst (λ (k : Key). unit_at s.files k ≡ Some h) e at) is
      ]

  found : (o : Option Key) → declaration_of s.files main ≡ o → option_map_or (λ (x : Key). option_map_or (λ (h : Header). h.is_parameterless_procedure) (unit_at s.files x) false) o false ≡ true → IsDefined s main f (main_symbol s.files main)
  found None declared is = absurd (cc)
  found (Some x) declared is = with_header x declared (unit_at s.files x) refl is

  pub main_defined : IsDefined s main f (main_symbol s.files main)
  main_defined = found (declaration_of s.files main) refl complete.0
