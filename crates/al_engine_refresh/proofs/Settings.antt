-- A library and an order of dependence are a setting.
use Rattle.std.proofs.Common.{◌≡◌, ℕ, ◌<◌, ◌⊎◌, inl, inr, Bool, true, false, List, [], ◌∷◌, ◌++◌, map, length, Option, Some, None, refl, ap, subst, sym, ◌∙◌, append_assoc, arith}
use Rattle.std.specs.Option.{option_map_or}
use Rattle.std.specs.List.{Contains}
use Rattle.std.proofs.lemmas.List.{map-append}
use Rattle.std.proofs.lemmas.List.Elements.{Contains-append_right}
use Rattle.al_base.specs.Batch.{Key, key_of}
use Rattle.al_base.specs.FileNames.{file_name_of}
use Rattle.al_base.specs.declared.unit_key.UnitKey.{UnitKey}
use Rattle.al_base.specs.declared.unit_key.UnitKind.TheVariants.{Decl, Body}
use Rattle.al_base_graph.proofs.Members.{first, first_or_later, nowhere}
use Rattle.al_query.specs.Answers.{declaration}
use Rattle.al_query.specs.Known.{body, has_unit, predefined_units}
use Rattle.al_query.specs.declared.answer.AnswerKind.{AnswerKind}
use Rattle.al_query.specs.declared.query.Query.{Query}
use Rattle.al_unit_graph.specs.Headers.{Header, Library, Source, key_of_unit}
use Rattle.al_unit_graph.specs.Library.{source_at, unit_at}
use Rattle.al_unit_graph.specs.Names.{is_reserved}
use Rattle.al_unit_graph.specs.Dependence.{direct}
use Rattle.al_unit_graph.proofs.BoolLemmas.{not_both}
use Rattle.al_unit_graph.proofs.Lists.{from_map, into_map}
use Rattle.al_query_outcome.specs.Equations.{IsSetting, Setting, unit_named}
use Rattle.al_query_outcome.specs.ReadsLaw.{subunit}
use Rattle.al_query_outcome.proofs.Members.{has-contains}
use Rattle.al_unit_faults.specs.Reached.{is_faultless, IsDependenceOrder}
use Rattle.al_unit_faults.specs.Read.{AreHeaded, NameParentBodies}
use Rattle.al_engine_refresh.specs.Settings.{ArePredefined, library_setting, text_of}
use Rattle.al_unit_faults.specs.OrderLaws.{rank_in}
use Rattle.al_unit_faults.proofs.Ranks.{order_gives_ranks}
use Rattle.al_unit_faults.proofs.SoundUnits.{Stands, acting, body_there, completes, declared, reserved_is_not, stands, subunit_there}

-- the predefined units have reserved names
AllReserved : List UnitKey → Type 0
AllReserved [] = Unit {0}
AllReserved (v ∷ vs) = (is_reserved v.name ≡ true) × AllReserved vs

one_reserved : (vs : List UnitKey) (u : UnitKey) → Contains vs u → AllReserved vs → is_reserved u.name ≡ true
unfolding AllReserved
one_reserved [] u c all = absurd (nowhere u c)
one_reserved (v ∷ vs) u c all = elim (first_or_later v vs u c) [ inl same ↦ subst (λ (w : UnitKey). is_reserved w.name ≡ true) same all.0 | inr h ↦ one_reserved vs u h all.1 ]

all_reserved : AllReserved predefined_units
unfolding AllReserved
all_reserved = (refl, (refl, (refl, (refl, tt))))

reserved_name : (u : UnitKey) → has_unit predefined_units u ≡ true → is_reserved u.name ≡ true
reserved_name u h = one_reserved predefined_units u (has-contains predefined_units u h) all_reserved

module _ (header : List ℕ → Header) (lib : Library) (predefined : Query → AnswerKind) (order : List UnitKey) (headed : AreHeaded header lib) (named : NameParentBodies lib) (answers : ArePredefined predefined) (ordered : IsDependenceOrder lib (map key_of order)) where
  abbrev s : Setting
  s = library_setting header lib predefined

  abbrev pub rank : UnitKey → ℕ
  rank u = rank_in (map key_of order) (key_of u)

  text_is : (u : UnitKey) (source : Source) → source_at lib (file_name_of (key_of u)) ≡ Some source → text_of lib u ≡ source.text
  text_is u source there = ap (λ o. option_map_or (λ (x : Source). x.text) o []) there

  header_is : (u : UnitKey) (st : Stands lib (key_of u)) → header (text_of lib u) ≡ st.unit
  header_is u st = ap header (text_is u st.source st.there) ∙ headed (file_name_of (key_of u)) st.source st.unit st.there st.headed

  headed_at : (u : UnitKey) → is_faultless lib (key_of u) ≡ true → unit_at lib (key_of u) ≡ Some (header (text_of lib u))
  headed_at u is = let st = stands lib (key_of u) is in st.at ∙ ap (λ (h : Header). Some h) (sym (header_is u st))

  keyed_at : (u : UnitKey) → is_faultless lib (key_of u) ≡ true → key_of_unit (header (text_of lib u)) ≡ key_of u
  keyed_at u is = let st = stands lib (key_of u) is in ap key_of_unit (header_is u st) ∙ st.key_is

  pub is_setting : IsSetting s
  is_setting = record {
    rank = rank;
    bound = length (map key_of order);
    bounded = λ u is. (order_gives_ranks lib (map key_of order) ordered).bounded (key_of u) is;
    ordered = λ u d is sound on. (order_gives_ranks lib (map key_of order) ordered).lower (key_of u) (key_of d) is sound on;
    headed = headed_at;
    keyed = keyed_at;
    declared = λ n is. declared lib n is;
    acting = λ n is no. acting lib n is;
    completes = λ n is decl. completes lib n named is decl;
    body_there = λ n is. body_there lib n is;
    subunit_there = λ n is. subunit_there lib n is;
    without_files = λ u h. (reserved_is_not lib (key_of u) (reserved_name u h), reserved_is_not lib (u.name, Body) (reserved_name u h));
    packages = answers.packages;
    closed = answers.closed;
  }
