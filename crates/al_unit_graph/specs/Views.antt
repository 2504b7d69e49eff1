-- The program's headers and files as plain data.
use Rattle.std.specs.Prelude.{ℕ, List, map, Vec}
use Rattle.std.specs.Option.{option_map}
use Rattle.std.specs.declared.rc.Rc.{Rc}
use Rattle.al_unit_graph.specs.Headers as plain
use Rattle.al_unit_graph.specs.declared.header.Mention.{Mention}
use Rattle.al_unit_graph.specs.declared.header.Header.{Header}
use Rattle.al_unit_graph.specs.declared.source.Contents.{Contents}
use Rattle.al_unit_graph.specs.declared.source.Contents.TheVariants.{Headed, Unread}
use Rattle.al_unit_graph.specs.declared.source.Source.{Source}

abbrev pub mention_model : Mention → plain.Mention
mention_model m = record { name = m.name; place = m.place }

abbrev pub header_model : Header → plain.Header
header_model h = record {
  name = h.name;
  place = h.place;
  form = h.form;
  is_private = h.is_private;
  needs_body = h.needs_body;
  parent_body = option_map mention_model h.parent_body;
  designator = h.designator;
  mentions = map mention_model h.mentions.items;
  stubs = h.stubs.items;
  elaborate = h.elaborate.items;
  elaborate_all = h.elaborate_all.items;
  has_elaborate_body = h.has_elaborate_body;
  is_parameterless_procedure = h.is_parameterless_procedure;
}

abbrev pub contents_model : Contents → plain.Contents
contents_model (Headed h) = plain.Headed (header_model h)
contents_model (Unread place code) = plain.Unread place code

abbrev pub source_model : Source → plain.Source
source_model s = record { text = s.text.value.items; contents = contents_model s.contents }

abbrev pub library_of : {Y W : Type 0} → List (Vec ℕ Y × Rc Source W) → plain.Library
library_of entries = map (λ e. (e.0.items, source_model e.1.value)) entries
