-- Where a command line is taken, each option of a number has a number within its bounds.
use Rattle.mothra_cli.proofs.Common.{◌≡◌, ap, ◌∙◌, None, Some, refl, List, Option, false, true, ℕ, ◌≤◌, [], subst, ◌++◌, Bool, bytes_eq, codes, cond, sym, ◌∷◌}
use Rattle.mothra_cli.proofs.Common.{IfSome, ap₂, arith, find, lt-ltb, option_and_then, ◌&&◌, ◌<◌, fold, not, option_map, slice_get, true≢false, ◌^◌, leb-true}
use Rattle.mothra_cli.proofs.Common.{lt_of_le_of_lt, ◌||◌, list_any, option_map_or, digits_value, without_leading_plus, Shape, built, argument_words, entered}
use Rattle.mothra_cli.proofs.Common.{label_of, names_of, rows_at, is_unsigned_in, mothra, number_meant}
use Rattle.std.proofs.lemmas.Bool.{and_parts, or_parts}
use Rattle.clap.specs.Facts.{explicit_source, parser_of_value}
use Rattle.clap.specs.Values.{read_as, reading_of}
use Rattle.clap.specs.Walk.{Row, Rule, Text, action_of, answers_to, default_rows, has_row, is_empty, more_values, nothing_held, reading_by, row_text}
use Rattle.clap.specs.Walk.{rows_after, settled, stop_after, walk, walk_from, with_default, with_values}
use Rattle.clap.specs.Simple.{App, subcommand_of}
use Rattle.clap.specs.Takes.{is_given}
use Rattle.clap.specs.Kinds.{check_kinds, request_kinds}
use Rattle.clap.specs.Faults.{check_fault, default_fault, defaults_fault, entered_fault, fault_of, given_default_fault, level_fault, settle_fault, values_fault}
use Rattle.clap.specs.Faults.{walk_fault}
use Rattle.clap.specs.declared.builder.value_parser.Reading.{Reading}
use Rattle.clap.specs.declared.parser.matches.ValueSource.TheVariants.{DefaultValue}
use Rattle.clap.proofs.OnLiterals.{clap_on_literals}
use Rattle.clap.specs.declared.builder.value_parser.Reading.TheVariants as reading
use Rattle.mothra_cli.proofs.OptionRows.{Each, Fine, HasNumber, IsFirst, Serves, first_accepted, found, has_default, id_same, is_required, none_left, same_id}
use Rattle.mothra_cli.proofs.OptionRows.{settle_fine, some_kind, some_values, values_fine, walk_fine}

-- ---- after the walk

-- where a level is taken, each of its parts is
level_parts : (s : Shape) (words : List Text) → level_fault s [] nothing_held words false [] ≡ []
    → let end = (walk s.rules [] nothing_held words).held in
    (walk_fault s [] (walk_from nothing_held) words ≡ []) × (settle_fault s.rules s.args_override_self end ≡ [])
    × (defaults_fault (settled s.rules end).rows s.rules ≡ []) × (check_fault s (rows_after s.rules [] words) false ≡ [])
level_parts s words e =
    let end = (walk s.rules [] nothing_held words).held in
    let walks = none_left (walk_fault s [] (walk_from nothing_held) words) _ e in
    let settles = none_left (settle_fault s.rules s.args_override_self end) _ walks.1 in
    let defaults = none_left (defaults_fault (settled s.rules end).rows s.rules) _ settles.1 in
    (walks.0, settles.0, defaults.0, defaults.1)

module _ (id : Text) (low high : ℕ) where
  default_fine : (a : Rule) (rows : List Row) → Serves id low high a → default_fault rows a ≡ [] → Fine id low high rows
      → Fine id low high (with_default rows a)
  default_fine a rows serves e fine = go (has_row a.id rows) a.defaults e
    where
      go : (b : Bool) (ds : List Text) → cond (b || is_empty ds) [] (given_default_fault a ds) ≡ []
          → Fine id low high (cond b rows (default_rows a.id (reading_by a) ds rows))
      go true ds f = fine
      go false [] f = fine
      go false (v ∷ vs) f =
          let passed = sym (ap (λ b. cond b [] (given_default_fault a (v ∷ vs))) (some_values v vs)) ∙ f in
          let accepts = (none_left (request_kinds (action_of a)) (values_fault a (v ∷ vs)) passed).1 in
          values_fine id low high a.id (reading_by a) DefaultValue (v ∷ vs) rows
          (λ same. (ap reading_of (serves same).parser, first_accepted low high a.ignore_case (parser_of_value a.parser) v vs (serves same).parser accepts)) fine

  defaults_fine : (c : List Rule) (rows : List Row) → Each (Serves id low high) c → defaults_fault rows c ≡ [] → Fine id low high rows
      → Fine id low high (fold with_default rows c)
  unfolding defaults_fault
  defaults_fine [] rows serves e fine = fine
  defaults_fine (a ∷ rest) rows serves e fine =
      let parts = none_left _ _ e in
      defaults_fine rest (with_default rows a) serves.1 parts.1 (default_fine a rows serves.0 parts.0 fine)

  level_fine : (s : Shape) (words : List Text) → Each (Serves id low high) s.rules → level_fault s [] nothing_held words false [] ≡ []
      → Fine id low high (rows_after s.rules [] words)
  level_fine s words serves e =
      let end = (walk s.rules [] nothing_held words).held in
      let parts = level_parts s words e in
      let walked_fine = walk_fine id low high s serves [] (walk_from nothing_held) words parts.0 tt in
      let rows_fine = settle_fine id low high s.rules s.args_override_self serves end.pending end.rows parts.1 walked_fine in
      defaults_fine s.rules (settled s.rules end).rows serves parts.2 rows_fine

  -- ---- the row is there

  given_row : (rows : List Row) → is_given id rows ≡ true → has_row id rows ≡ true
  given_row [] e = e
  given_row (r ∷ rs) e = go (bytes_eq r.id id) (given_row rs) e
    where
      go : (b : Bool) → (is_given id rs ≡ true → has_row id rs ≡ true)
          → option_map_or (λ (x : Row). explicit_source x.source) (cond b (Some r) (find (λ x. bytes_eq x.id id) rs)) false ≡ true
          → (b || has_row id rs) ≡ true
      go true rest f = refl
      go false rest f = rest f

  needed : (a b : Bool) → (a && not b) ≡ false → a ≡ true → b ≡ true
  needed true true e t = refl
  needed true false e t = absurd (true≢false e)
  needed false b e t = absurd (true≢false (sym t))

  -- where nothing that is required is missing, each required argument is there
  required_row : (c : List Rule) (rows : List Row) → list_any (λ a. a.required && not (is_given a.id rows)) c ≡ false
      → list_any (is_required id) c ≡ true → has_row id rows ≡ true
  required_row [] rows none e = absurd (true≢false (sym e))
  required_row (a ∷ rest) rows none e =
      let parts = or_parts _ _ none in
      go (is_required id a) refl (required_row rest rows parts.1) e
    where
      go : (b : Bool) → is_required id a ≡ b → (list_any (is_required id) rest ≡ true → has_row id rows ≡ true)
          → (b || list_any (is_required id) rest) ≡ true → has_row id rows ≡ true
      go true here later f =
          let is = and_parts _ _ here in
          given_row rows (subst (λ own. is_given own rows ≡ true) (same_id a.id id is.0) (needed a.required _ (or_parts _ _ none).0 is.1))
      go false here later f = later f

  or_more : (a b c : Bool) → (b ≡ true → c ≡ true) → (a || b) ≡ true → (a || c) ≡ true
  or_more true b c f e = refl
  or_more false b c f e = f e

  values_row : (own : Text) (how : Reading) (values : List Text) (rows : List Row) → has_row id rows ≡ true
      → has_row id (with_values own how DefaultValue values rows) ≡ true
  values_row own how values [] e = absurd (true≢false (sym e))
  values_row own how values (r ∷ rs) e = go (bytes_eq r.id own) (values_row own how values rs)
    where
      go : (b : Bool) → (has_row id rs ≡ true → has_row id (with_values own how DefaultValue values rs) ≡ true)
          → has_row id (cond b (more_values DefaultValue values r ++ rs) (r ∷ with_values own how DefaultValue values rs)) ≡ true
      go true rest = e
      go false rest = or_more (bytes_eq r.id id) _ _ rest e

  default_kept : (a : Rule) (rows : List Row) → has_row id rows ≡ true → has_row id (with_default rows a) ≡ true
  default_kept a rows e = go (has_row a.id rows) a.defaults
    where
      go : (b : Bool) (ds : List Text) → has_row id (cond b rows (default_rows a.id (reading_by a) ds rows)) ≡ true
      go true ds = e
      go false [] = e
      go false (v ∷ vs) = values_row a.id (reading_by a) (v ∷ vs) rows e

  defaults_kept : (c : List Rule) (rows : List Row) → has_row id rows ≡ true → has_row id (fold with_default rows c) ≡ true
  defaults_kept [] rows e = e
  defaults_kept (a ∷ rest) rows e = defaults_kept rest (with_default rows a) (default_kept a rows e)

  own_row : (how : Reading) (values : List Text) (rows : List Row) → has_row id (with_values id how DefaultValue values rows) ≡ true
  own_row how values [] = rw (id_same id) refl
  own_row how values (r ∷ rs) = go (bytes_eq r.id id) refl (own_row how values rs)
    where
      go : (b : Bool) → bytes_eq r.id id ≡ b → has_row id (with_values id how DefaultValue values rs) ≡ true
          → has_row id (cond b (more_values DefaultValue values r ++ rs) (r ∷ with_values id how DefaultValue values rs)) ≡ true
      go true is rest = rw is refl
      go false is rest = rw is rest

  default_given : (a : Rule) (rows : List Row) → bytes_eq a.id id ≡ true → not (is_empty a.defaults) ≡ true → has_row id (with_default rows a) ≡ true
  default_given a rows same some = subst (λ own. has_row id (cond (has_row own rows) rows (default_rows own (reading_by a) a.defaults rows)) ≡ true) (sym (same_id a.id id same))
      (go (has_row id rows) refl a.defaults some)
    where
      go : (b : Bool) → has_row id rows ≡ b → (ds : List Text) → not (is_empty ds) ≡ true
          → has_row id (cond b rows (default_rows id (reading_by a) ds rows)) ≡ true
      go true is ds f = is
      go false is [] f = absurd (true≢false (sym f))
      go false is (v ∷ vs) f = own_row (reading_by a) (v ∷ vs) rows

  default_row : (c : List Rule) (rows : List Row) → list_any (has_default id) c ≡ true → has_row id (fold with_default rows c) ≡ true
  default_row [] rows e = absurd (true≢false (sym e))
  default_row (a ∷ rest) rows e = go (has_default id a) refl (default_row rest (with_default rows a)) e
    where
      go : (b : Bool) → has_default id a ≡ b
          → (list_any (has_default id) rest ≡ true → has_row id (fold with_default (with_default rows a) rest) ≡ true)
          → (b || list_any (has_default id) rest) ≡ true → has_row id (fold with_default (with_default rows a) rest) ≡ true
      go true here later f =
          let is = and_parts _ _ here in
          defaults_kept rest (with_default rows a) (default_given a rows is.0 is.1)
      go false here later f = later f

  -- a check that passes misses no required argument
  nothing_missing : (s : Shape) (rows : List Row) → check_fault s rows false ≡ []
      → list_any (λ a. a.required && not (is_given a.id rows)) s.rules ≡ false
  nothing_missing s rows e = past (s.subcommand_negates_reqs) _ (last _ _ _ e)
    where
      last : (x y z : Bool) → check_kinds x y z ≡ [] → z ≡ false
      last true y z f = absurd (some_kind _ _ f)
      last false true z f = absurd (some_kind _ _ f)
      last false false true f = absurd (some_kind _ _ f)
      last false false false f = refl

      past : (x z : Bool) → (not (x && false) && z) ≡ false → z ≡ false
      past true z f = f
      past false z f = f

  -- ---- the number

  text_read : (v : Text) → high < 2 ^ 32 → is_unsigned_in low high v ≡ true → (n : ℕ) × (number_meant v ≡ Some n) × (low ≤ n) × (n ≤ high)
  text_read v small e =
      let n = digits_value 10 (without_leading_plus v) in
      let all = and_parts _ _ e in
      let bounds = and_parts _ _ (and_parts _ _ all.1).1 in
      let above : n ≤ high = leb-true _ _ bounds.1 in
      (n, ap₂ (λ x y. cond (x && y) (Some n) None) all.0 (lt-ltb n (2 ^ 32) (lt_of_le_of_lt above small)), leb-true _ _ bounds.0, above)

  row_read : (how : Reading) (vs : List Text) → high < 2 ^ 32 → how ≡ reading.AsWritten → IsFirst low high vs
      → (n : ℕ) × (option_and_then number_meant (option_map (read_as how) (slice_get vs 0)) ≡ Some n) × (low ≤ n) × (n ≤ high)
  row_read how [] small is h = absurd h
  row_read how (v ∷ vs) small is h =
      let text = text_read v small h in
      (text.0, ap (λ x. number_meant (read_as x v)) is ∙ text.1, text.2, text.3)

  number_read : (rows : List Row) → high < 2 ^ 32 → Fine id low high rows → has_row id rows ≡ true → HasNumber id low high rows
  number_read [] small fine e = absurd (true≢false (sym e))
  number_read (r ∷ rs) small fine e = go (bytes_eq r.id id) fine.0 (number_read rs small fine.1) e
    where
      go : (b : Bool) → (b ≡ true → (r.reading ≡ reading.AsWritten) × IsFirst low high r.values)
          → (has_row id rs ≡ true → HasNumber id low high rs) → (b || has_row id rs) ≡ true
          → (n : ℕ) × (option_and_then number_meant (option_and_then row_text (cond b (Some r) (find (λ x. bytes_eq x.id id) rs))) ≡ Some n) × (low ≤ n) × (n ≤ high)
      go true here rest f = row_read r.reading r.values small (here refl).0 (here refl).1
      go false here rest f = rest f

-- where the words after a subcommand are taken, an option that is required has a number within its bounds
pub required_number : (s : Shape) (words : List Text) (id : Text) (low high : ℕ) → high < 2 ^ 32 → Each (Serves id low high) s.rules
    → list_any (is_required id) s.rules ≡ true
    → level_fault s [] nothing_held words false [] ≡ [] → HasNumber id low high (rows_after s.rules [] words)
required_number s words id low high small serves required e =
    let rows = rows_after s.rules [] words in
    let missing = nothing_missing id low high s rows (level_parts s words e).3 in
    number_read id low high rows small (level_fine id low high s words serves e) (required_row id low high s.rules rows missing required)

-- where the words after a subcommand are taken, an option that has a default has a number within its bounds
pub default_number : (s : Shape) (words : List Text) (id : Text) (low high : ℕ) → high < 2 ^ 32 → Each (Serves id low high) s.rules
    → list_any (has_default id) s.rules ≡ true
    → level_fault s [] nothing_held words false [] ≡ [] → HasNumber id low high (rows_after s.rules [] words)
default_number s words id low high small serves given e =
    let end = (walk s.rules [] nothing_held words).held in
    number_read id low high (rows_after s.rules [] words) small (level_fine id low high s words serves e)
    (default_row id low high s.rules (settled s.rules end).rows given)

-- ---- at a subcommand

same_parts : {A B : Type 0} (p q : A × B) → Some p ≡ Some q → (p.0 ≡ q.0) × (p.1 ≡ q.1)
same_parts p q e = let same : p ≡ q = cc in (ap (λ x. x.0) same, ap (λ x. x.1) same)

-- the subcommand that is entered under a name has a property that each subcommand of that name has
entered_level : (a : App) (name : Text) (P : Shape → Type 0) → Each (λ s. bytes_eq s.name name ≡ true → P s) a.subs
    → (stop : Option (Text × List Text)) (rows : List Row)
    → entered_fault a stop ≡ [] → entered a stop ≡ Some (name, rows)
    → (s : Shape) × (words : List Text) × P s × (level_fault s [] nothing_held words false [] ≡ []) × (rows_after s.rules [] words ≡ rows)
entered_level a name P each None rows e is = cc
entered_level a name P each (Some p) rows e is = go (find (λ s. answers_to p.0 (label_of s)) a.subs) (found (λ s. bytes_eq s.name name ≡ true → P s) _ a.subs each) e is
  where
    go : (o : Option Shape) → IfSome o (λ s. bytes_eq s.name name ≡ true → P s)
        → option_map_or (λ s. level_fault s [] nothing_held p.1 false []) o [] ≡ []
        → option_map (λ s. rows_at s p.1) o ≡ Some (name, rows)
        → (s : Shape) × (words : List Text) × P s × (level_fault s [] nothing_held words false [] ≡ []) × (rows_after s.rules [] words ≡ rows)
    go None has f same = cc
    go (Some s) has f same =
        let parts = same_parts (rows_at s p.1) (name, rows) same in
        (s, p.1, has (subst (λ own. bytes_eq own name ≡ true) (sym parts.0) (id_same name)), f, parts.1)

pub accepted_level : (a : App) (name : Text) (P : Shape → Type 0) → Each (λ s. bytes_eq s.name name ≡ true → P s) (built a).subs
    → (words : List Text) (rows : List Row)
    → fault_of a words ≡ [] → subcommand_of a words ≡ Some (name, rows)
    → (s : Shape) × (rest : List Text) × P s × (level_fault s [] nothing_held rest false [] ≡ []) × (rows_after s.rules [] rest ≡ rows)
accepted_level a name P each words rows e is =
    let stop = stop_after (built a).top.rules (names_of (built a)) (argument_words a words) in
    entered_level (built a) name P each stop rows (none_left _ _ (none_left _ _ e).1).0 is

apart : {X : Type 0} → false ≡ true → X
apart e = absurd (true≢false (sym e))

-- the options of `exec`
abbrev IsExec : Shape → Type 0
IsExec s = Each (Serves (codes "test") 1 256) s.rules × (list_any (is_required (codes "test")) s.rules ≡ true)
    × Each (Serves (codes "steps") 1 1000000) s.rules × (list_any (has_default (codes "steps")) s.rules ≡ true)

exec_shapes : Each (λ s. bytes_eq s.name (codes "exec") ≡ true → IsExec s) (built mothra).subs
unfolding clap_on_literals mothra
exec_shapes = (
  apart,
  (
    λ e. (
      (λ f. record { action = refl; parser = refl; range = omega arith }, (apart, (apart, tt))),
      refl,
      (apart, (λ f. record { action = refl; parser = refl; range = omega arith }, (apart, tt))),
      refl,
    ),
    (apart, (apart, tt)),
  ),
)

-- where a request for `exec` is taken, it has both of its numbers
pub exec_numbers : (words : List Text) (rows : List Row) → fault_of mothra words ≡ [] → subcommand_of mothra words ≡ Some (codes "exec", rows)
    → HasNumber (codes "test") 1 256 rows × HasNumber (codes "steps") 1 1000000 rows
exec_numbers words rows e is =
    let level = accepted_level mothra (codes "exec") IsExec exec_shapes words rows e is in
    let asks = level.2 in (
      subst (HasNumber (codes "test") 1 256) level.4 (required_number level.0 level.1 (codes "test") 1 256 (omega arith) asks.0 asks.1 level.3),
      subst (HasNumber (codes "steps") 1 1000000) level.4 (default_number level.0 level.1 (codes "steps") 1 1000000 (omega arith) asks.2 asks.3 level.3),
    )

-- the options of `list`
abbrev IsList : Shape → Type 0
IsList s = Each (Serves (codes "every") 1 1048575) s.rules × (list_any (has_default (codes "every")) s.rules ≡ true)

list_shapes : Each (λ s. bytes_eq s.name (codes "list") ≡ true → IsList s) (built mothra).subs
unfolding clap_on_literals mothra
list_shapes = (
  apart,
  (
    apart,
    (λ e. ((apart, (λ f. record { action = refl; parser = refl; range = omega arith }, (apart, tt))), refl), (apart, tt)),
  ),
)

-- where a request for `list` is taken, it has its number
pub list_number : (words : List Text) (rows : List Row) → fault_of mothra words ≡ [] → subcommand_of mothra words ≡ Some (codes "list", rows)
    → HasNumber (codes "every") 1 1048575 rows
list_number words rows e is =
    let level = accepted_level mothra (codes "list") IsList list_shapes words rows e is in
    subst (HasNumber (codes "every") 1 1048575) level.4 (default_number level.0 level.1 (codes "every") 1 1048575 (omega arith) level.2.0 level.2.1 level.3)

-- the options of `run`
abbrev IsRun : Shape → Type 0
IsRun s = Each (Serves (codes "every") 1 1048575) s.rules × (list_any (has_default (codes "every")) s.rules ≡ true)
    × Each (Serves (codes "steps") 1 1000000) s.rules × (list_any (has_default (codes "steps")) s.rules ≡ true)
    × Each (Serves (codes "workers") 1 32) s.rules × (list_any (has_default (codes "workers")) s.rules ≡ true)

run_shapes : Each (λ s. bytes_eq s.name (codes "run") ≡ true → IsRun s) (built mothra).subs
unfolding clap_on_literals mothra
run_shapes = (
  apart,
  (
    apart,
    (
      apart,
      (
        λ e. (
          (apart, (λ f. record { action = refl; parser = refl; range = omega arith }, (apart, (apart, (apart, tt))))),
          refl,
          (apart, (apart, (λ f. record { action = refl; parser = refl; range = omega arith }, (apart, (apart, tt))))),
          refl,
          (apart, (apart, (apart, (λ f. record { action = refl; parser = refl; range = omega arith }, (apart, tt))))),
          refl,
        ),
        tt,
      ),
    ),
  ),
)

-- where a request for `run` is taken, it has its three numbers
pub run_numbers : (words : List Text) (rows : List Row) → fault_of mothra words ≡ [] → subcommand_of mothra words ≡ Some (codes "run", rows)
    → HasNumber (codes "every") 1 1048575 rows × HasNumber (codes "steps") 1 1000000 rows × HasNumber (codes "workers") 1 32 rows
run_numbers words rows e is =
    let level = accepted_level mothra (codes "run") IsRun run_shapes words rows e is in
    let asks = level.2 in (
      subst (HasNumber (codes "every") 1 1048575) level.4 (default_number level.0 level.1 (codes "every") 1 1048575 (omega arith) asks.0 asks.1 level.3),
      subst (HasNumber (codes "steps") 1 1000000) level.4 (default_number level.0 level.1 (codes "steps") 1 1000000 (omega arith) asks.2 asks.3 level.3),
      subst (HasNumber (codes "workers") 1 32) level.4 (default_number level.0 level.1 (codes "workers") 1 32 (omega arith) asks.4 asks.5 level.3),
    )
