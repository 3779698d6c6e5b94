use Rattle.f77_legal.proofs.Common.{◌≡◌, ◌∙◌, ap, sym, List, ℕ, Some, slice_get, slice_get-map, lookup, keys_of, option_copied, bytes_eq, Symbol, Facts}
use Rattle.std.proofs.Common.{position}
use Rattle.std.specs.Option.{option_map}
use Rattle.indexmap.proofs.MapLemmas.{Found-position, Missing-position}
use Rattle.f77_legal.proofs.names.Names.said_of.Goals as goal

abbrev said : Symbol × Facts → Facts
said entry = entry.1

-- the entry at the place of a name has what is said of it
at_place : (name : Symbol) (entries : List (Symbol × Facts)) (i : ℕ) (entry : Symbol × Facts)
    → position (bytes_eq name) (keys_of entries) ≡ Some i → slice_get entries i ≡ Some entry → Some entry.1 ≡ lookup (bytes_eq name) entries
at_place name entries i entry place at =
    sym ((Found-position (bytes_eq name) entries i place).value ∙ slice_get-map said entries i ∙ ap (option_map said) at)

pub returns-in_err-place : goal.returns-in_err-place
returns-in_err-place c =
    ap option_copied c.from_residual.ensures
    ∙ sym (Missing-position (bytes_eq c.args.name.now) c.args.self.now.facts.entries (sym c.in_err-place.ensures)).value

pub returns-in-Some : goal.returns-in-Some
returns-in-Some c =
    at_place c.args.name.now c.args.self.now.facts.entries c.in_ok-place.field-0 (c.in-Some.field-0-0.now, c.in-Some.facts.now)
    (sym c.in_ok-place.ensures) (sym c.in-Some.ensures.entry)
