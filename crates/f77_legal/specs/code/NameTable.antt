-- The table of names: each name once, in order of first appearance, with what the program says of it.
-- Private functions and proofs alone cite what stands here.
use Rattle.std.specs.Prelude.{ℕ, ◌&&◌, ◌||◌, Bool, true, false, not, List, [], ◌∷◌}
use Rattle.std.specs.Prelude.{fold, if◌then◌else◌, Option, is_some}
use Rattle.std.specs.Option.{option_map_or}
use Rattle.std.specs.Str.{bytes_eq}
use Rattle.indexmap.specs.IndexMap.{get}
use Rattle.f77_tree.specs.Intrinsic.{function_named}
use Rattle.f77_tree.specs.declared.tree.Kind.{Kind}
use Rattle.f77_tree.specs.declared.tree.Kind.TheVariants.{Integer}
use Rattle.f77_legal.specs.declared.names.Names.{Names}
use Rattle.f77_legal.specs.declared.names.Times.{Times}
use Rattle.f77_legal.specs.declared.names.Times.TheVariants.{Never, Once, More}
use Rattle.f77_legal.specs.declared.uses.Said.{Said}
use Rattle.f77_legal.specs.declared.uses.Said.TheVariants as said
use Rattle.f77_legal.specs.Names.{Symbol, NameUse, name_in}
use Rattle.f77_legal.specs.Names.{some_items, is_integer_name}
use Rattle.f77_legal.specs.InitialValues.{product}
use Rattle.f77_legal.specs.NameTable.{FactsFields, Entries}

-- how often something was said, after it is said once more
abbrev pub once_more : Times → Times
once_more Never = Once
once_more _ = More

abbrev pub is_never : Times → Bool
is_never Never = true
is_never _ = false

abbrev pub is_more : Times → Bool
is_more More = true
is_more _ = false

-- what was said first, where `new` is said now and `old` was said before
abbrev pub first_said : {X : Type 0} → Times → X → X → X
first_said before new old = if is_never before then new else old

abbrev pub with_kind : FactsFields → Kind → FactsFields
with_kind facts kind = record facts { typed = once_more facts.typed; kind = first_said facts.typed kind facts.kind }

abbrev pub with_shape : FactsFields → List ℕ → FactsFields
with_shape facts bounds = record facts {
  dimensioned = once_more facts.dimensioned;
  bounds = first_said
      facts.dimensioned bounds facts.bounds;
}

abbrev pub facts_with_bounds : FactsFields → List ℕ → FactsFields
facts_with_bounds facts [] = facts
facts_with_bounds facts (bound ∷ bounds) = with_shape facts (bound ∷ bounds)

abbrev pub with_fact : FactsFields → NameUse → FactsFields
with_fact facts (NameUse.Dummy name) = record facts { dummy = once_more facts.dummy }
with_fact facts (NameUse.Typed kind declaration) = facts_with_bounds (with_kind facts kind) declaration.bounds
with_fact facts (NameUse.Dimensioned declaration) = facts_with_bounds facts declaration.bounds
with_fact facts (NameUse.Plain name) = facts

abbrev pub no_facts : FactsFields
no_facts = record { dummy = Never; typed = Never; kind = Integer; dimensioned = Never; bounds = [] }

-- the table after one more use of a name: a name that is there keeps its place, and a new one goes last
abbrev pub with_use : Entries → NameUse → Entries
with_use [] name_use = (name_in name_use, with_fact no_facts name_use) ∷ []
with_use (entry ∷ entries) name_use =
    if bytes_eq (name_in name_use) entry.0
    then (entry.0, with_fact entry.1 name_use) ∷ entries else entry ∷ with_use entries name_use

abbrev pub with_uses : Entries → List NameUse → Entries
with_uses = fold with_use

-- the use of a name, from what is said of it
abbrev pub use_of : Symbol → Said → NameUse
use_of name said.Dummy = NameUse.Dummy name
use_of name (said.Typed kind bounds) = NameUse.Typed kind (record { name = name; bounds = bounds.now })
use_of name (said.Dimensioned bounds) = NameUse.Dimensioned (record { name = name; bounds = bounds.now })
use_of name said.Plain = NameUse.Plain name

-- What is read off the entries: whether a name is REAL by its first letter, or is declared twice where the unit has
-- this name; the number of elements of an array.
abbrev pub dummy_at : Names → Symbol → Bool
dummy_at names name = option_map_or (λ facts. not (is_never facts.dummy)) (get bytes_eq names.facts name) false

abbrev pub is_real_entry : Symbol × FactsFields → Bool
is_real_entry entry = is_never entry.1.typed && not (is_integer_name entry.0)

abbrev pub is_twice_entry : Option Symbol → Symbol × FactsFields → Bool
is_twice_entry unit entry =
    is_more entry.1.typed
    || (is_more entry.1.dimensioned
    || (is_more entry.1.dummy
    || (option_map_or (bytes_eq entry.0) unit false || is_some (function_named entry.0))))

abbrev pub array_size : FactsFields → ℕ
array_size facts = if is_some (some_items facts.bounds) then product facts.bounds else 0
