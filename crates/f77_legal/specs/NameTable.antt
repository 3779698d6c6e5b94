-- The table of names: each name once, in order of first appearance, with what the program says of
-- it.
use Rattle.std.specs.Prelude.{◌≡◌, ℕ, Bool, List, [], ◌∷◌, map, is_some}
use Rattle.std.specs.Option.{option_map_or}
use Rattle.std.specs.Str.{bytes_eq}
use Rattle.indexmap.specs.IndexMap.{get}
use Rattle.f77_program.specs.Program.{LineFields}
use Rattle.f77_tree.specs.declared.tree.Kind.{Kind}
use Rattle.f77_tree.specs.declared.tree.Kind.TheVariants.{Integer}
use Rattle.f77_legal.specs.declared.names.Facts.{Facts}
use Rattle.f77_legal.specs.declared.names.Names.{Names}
use Rattle.f77_legal.specs.declared.names.Times.{Times}
use Rattle.f77_legal.specs.declared.names.Times.TheVariants.{Never, Once, More}
use Rattle.f77_legal.specs.Names.{Symbol, NameUse, name_in, uses, names_once, dummies_given}
use Rattle.f77_legal.specs.Names.{kinds_given, bounds_given, first_item_or}

-- the name is in the table
abbrev pub has_name : Names → Symbol → Bool
has_name names name = is_some (get bytes_eq names.facts name)

-- the kind that the table has for a name: INTEGER if the name is not in it
abbrev pub kind_at : Names → Symbol → Kind
kind_at names name = option_map_or (λ facts. facts.kind) (get bytes_eq names.facts name) Integer

-- the bounds that the table has for a name: none if the name is not in it
abbrev pub array_bounds : Names → Symbol → List ℕ
array_bounds names name =
    option_map_or (λ facts. facts.bounds.items) (get bytes_eq names.facts name) []

-- what the program says of a name
pub record FactsFields : Type 0 where
  pub dummy : Times
  pub typed : Times
  pub kind : Kind
  pub dimensioned : Times
  pub bounds : List ℕ

-- the view of what is said of a name
abbrev pub facts_fields : Facts → FactsFields
facts_fields facts = record {
  dummy = facts.dummy;
  typed = facts.typed;
  kind = facts.kind;
  dimensioned = facts.dimensioned;
  bounds = facts.bounds.items;
}

-- how often something was said: never, once, or more often
abbrev pub how_often : {X : Type 0} → List X → Times
how_often [] = Never
how_often (x ∷ []) = Once
how_often (x ∷ (y ∷ xs)) = More

-- what its uses say of a name: its kind and its bounds are the first that are given
abbrev pub facts_of : List NameUse → Symbol → FactsFields
facts_of all name = record {
  dummy = how_often (dummies_given all name);
  typed = how_often (kinds_given all name);
  kind = first_item_or Integer (kinds_given all name);
  dimensioned = how_often (bounds_given all name);
  bounds = first_item_or [] (bounds_given all name);
}

abbrev pub Entries : Type 0
Entries = List (Symbol × FactsFields)

abbrev pub entry_of : Symbol × Facts → Symbol × FactsFields
entry_of entry = (entry.0, facts_fields entry.1)

-- the entries of a table of names, in order
abbrev pub table_entries : Names → Entries
table_entries names = map entry_of names.facts.entries

-- the table that a list of uses makes
abbrev pub table : List NameUse → Entries
table all = map (λ name. (name, facts_of all name)) (names_once (map name_in all))

-- the table has the names of the program, each with what the program says of it
abbrev pub IsNameTable : Names → List LineFields → Type 0
IsNameTable names program = table_entries names ≡ table (uses program)
