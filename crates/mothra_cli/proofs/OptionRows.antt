-- What the walk over words that are taken keeps of an option of one number.
use Rattle.mothra_cli.proofs.Common.{◌≡◌, ap, None, Some, refl, List, Option, false, true, ℕ, ◌≤◌, [], subst, ◌++◌, Bool, bytes_eq, cond, length, ◌∷◌, IfSome}
use Rattle.mothra_cli.proofs.Common.{arith, find, is_some, lt-ltb, option_and_then, ◌&&◌, ◌+◌, ◌<◌, drop, fold, not, slice_get, encode_utf8, min, ne_eqb, suc}
use Rattle.mothra_cli.proofs.Common.{zero, option_map_or, Shape, is_unsigned_in, accepts, number_meant}
use Rattle.std.proofs.lemmas.Slice.Eq.{bytes_eq-Decides}
use Rattle.std.specs.Str.{chars}
use Rattle.clap.specs.Facts.{parser_of_value, unwrap_or_range}
use Rattle.clap.specs.Lexer.{long_of, short_of}
use Rattle.clap.specs.Values.{reading_of, refused_kind}
use Rattle.clap.specs.Walk.{Held, Names, Outcome, Row, Rule, Step, Text, Waiting, Walk, action_of, after_flag, after_step, arg_by_id, arg_by_index, arg_by_long}
use Rattle.clap.specs.Walk.{arg_by_short, at_row, attached_value, bundle_met, bundle_step, count_of, done, flag_met, idle, is_empty, is_pending, long_met}
use Rattle.clap.specs.Walk.{long_or_other, more_values, new_count, next, one_of, option, option_met, option_word, plain, plain_word, positional}
use Rattle.clap.specs.Walk.{positional_held, reacted, reading_by, refused, settled, settled_rows, short_met, short_or_plain, subcommand, subcommand_met}
use Rattle.clap.specs.Walk.{subcommand_or_other, takes_several, takes_values, to_positional, trailing, used, used_as, used_by_id, value, values_or_missing}
use Rattle.clap.specs.Walk.{waits, walked, walked_from, with_count, with_values, without, word_met}
use Rattle.clap.specs.Kinds.{Kinds, or_else, range_kinds, value_kinds, values_kinds}
use Rattle.clap.specs.Faults.{action_fault, bundle_fault, bundle_step_fault, flag_word_fault, flags_fault, long_fault, option_fault, other_fault}
use Rattle.clap.specs.Faults.{positional_fault, react_fault, settle_fault, short_fault, step_fault, stray_fault, turn_fault, use_fault, walk_fault, word_fault}
use Rattle.clap.specs.declared.builder.action.ArgAction.{ArgAction}
use Rattle.clap.specs.declared.builder.value_parser.Reading.{Reading}
use Rattle.clap.specs.declared.builder.value_parser.ValueParser.{ValueParser}
use Rattle.clap.specs.declared.error.kind.ErrorKind.{ErrorKind}
use Rattle.clap.specs.declared.parser.matches.ValueSource.{ValueSource}
use Rattle.clap.specs.declared.parser.matches.ValueSource.TheVariants.{CommandLine}
use Rattle.clap.specs.declared.builder.action.ArgAction.TheVariants as action
use Rattle.clap.specs.declared.builder.value_parser.Reading.TheVariants as reading
use Rattle.clap.specs.declared.builder.value_parser.ValueParser.TheVariants as parser
use Rattle.clap.specs.declared.error.kind.ErrorKind.TheVariants as kind

-- ---- lists, kinds and ids

abbrev pub Each : {X : Type 0} → (X → Type 0) → List X → Type 0
Each P [] = Unit {0}
Each P (x ∷ xs) = P x × Each P xs

each_append : {X : Type 0} (P : X → Type 0) (xs ys : List X) → Each P xs → Each P ys → Each P (xs ++ ys)
each_append P [] ys a b = b
each_append P (x ∷ xs) ys a b = (a.0, each_append P xs ys a.1 b)

-- what holds of each item holds of the one that a search finds
pub found : {X : Type 0} (P : X → Type 0) (p : X → Bool) (xs : List X) → Each P xs → IfSome (find p xs) P
found P p [] h = tt
found P p (x ∷ xs) h = go (p x) (found P p xs h.1)
  where
    go : (b : Bool) → IfSome (find p xs) P → IfSome (cond b (Some x) (find p xs)) P
    go true rest = h.0
    go false rest = rest

pub none_left : (a b : Kinds) → or_else a b ≡ [] → (a ≡ []) × (b ≡ [])
none_left [] b e = (refl, e)
none_left (k ∷ ks) b e = cc

pub some_kind : (k : ErrorKind) (ks : Kinds) → k ∷ ks ≡ [] → ⊥
some_kind k ks e = cc

accepted : (i : Bool) (p : ValueParser) (text : Text) → value_kinds i p text ≡ [] → accepts i p text ≡ true
accepted i p text e = go (accepts i p text) e
  where
    go : (b : Bool) → cond b [] (refused_kind p ∷ []) ≡ [] → b ≡ true
    go true e = refl
    go false e = absurd (some_kind _ _ e)

pub some_values : (v : Text) (vs : List Text) → is_empty (v ∷ vs) ≡ false
some_values v vs = ne_eqb (suc (length vs)) 0 (λ none. absurd (omega arith))

pub same_id : (a b : Text) → bytes_eq a b ≡ true → a ≡ b
same_id a b = (bytes_eq-Decides a b).0

pub id_same : (a : Text) → bytes_eq a a ≡ true
id_same a = (bytes_eq-Decides a a).1 refl

-- ---- an option of one number

-- the first value is a number within the bounds
abbrev pub IsFirst : ℕ → ℕ → List Text → Type 0
IsFirst low high [] = ⊥
IsFirst low high (v ∷ vs) = is_unsigned_in low high v ≡ true

-- a row of this id has such a first value
abbrev IsFine : Text → ℕ → ℕ → Row → Type 0
IsFine id low high r = bytes_eq r.id id ≡ true → (r.reading ≡ reading.AsWritten) × IsFirst low high r.values

-- the option takes a value each time, and a number within the bounds is all that its parser takes
pub record IsNumber (low high : ℕ) (a : Rule) : Type 0 where
  pub action : action_of a ≡ action.Set
  pub parser : parser_of_value a.parser ≡ parser.Unsigned low high
  pub range : 0 < (unwrap_or_range a.range).start_inclusive

-- a rule of this id is that of an option of one number
abbrev pub Serves : Text → ℕ → ℕ → Rule → Type 0
Serves id low high a = bytes_eq a.id id ≡ true → IsNumber low high a

-- the number that is read for the option is within the bounds
abbrev pub HasNumber : Text → ℕ → ℕ → List Row → Type 0
HasNumber id low high rows = (n : ℕ) × (option_and_then number_meant (one_of id rows) ≡ Some n) × (low ≤ n) × (n ≤ high)

-- a rule of this id is required, or has a default
abbrev pub is_required : Text → Rule → Bool
is_required id a = bytes_eq a.id id && a.required

abbrev pub has_default : Text → Rule → Bool
has_default id a = bytes_eq a.id id && not (is_empty a.defaults)

module _ (low high : ℕ) where
  more_first : (vs ws : List Text) → IsFirst low high vs → IsFirst low high (vs ++ ws)
  more_first [] ws h = absurd h
  more_first (v ∷ vs) ws h = h

  -- where the parser takes the values, the first is a number within the bounds
  pub first_accepted : (i : Bool) (p : ValueParser) (v : Text) (vs : List Text) → p ≡ parser.Unsigned low high → values_kinds i p (v ∷ vs) ≡ []
      → IsFirst low high (v ∷ vs)
  first_accepted i p v vs is e = subst (λ q. accepts i q v ≡ true) is (accepted i p v (none_left _ _ e).0)

  none_given : (least most : ℕ) → 0 < least → range_kinds least most 0 ≡ [] → ⊥
  none_given least most lt e = some_kind _ _ (rw (lt-ltb 0 least lt) at e)

  -- a use of the option that is taken has a number within the bounds
  number_used : (again : Bool) (a : Rule) (values : List Text) (rows : List Row) → IsNumber low high a → use_fault again a values rows ≡ []
      → (action_of a ≡ action.Set) × (reading_by a ≡ reading.AsWritten) × IsFirst low high (values_or_missing a values)
  number_used again a [] rows n e = absurd (none_given _ _ n.range (none_left _ _ e).0)
  number_used again a (v ∷ vs) rows n e =
      let set = subst (λ x. action_fault x again a (v ∷ vs) rows ≡ []) n.action (none_left _ _ e).1 in
      (n.action, ap reading_of n.parser, first_accepted a.ignore_case _ v vs n.parser (none_left _ _ set).1)

-- ---- rows

module _ (id : Text) (low high : ℕ) where
  abbrev pub Fine : List Row → Type 0
  Fine = Each (IsFine id low high)

  at_fine : (own : Text) (change : Row → List Row) (missing rows : List Row) → ((r : Row) → IsFine id low high r → Fine (change r))
      → Fine missing → Fine rows
      → Fine (at_row own change missing rows)
  at_fine own change missing [] kept new h = new
  at_fine own change missing (r ∷ rs) kept new h = go (bytes_eq r.id own) (at_fine own change missing rs kept new h.1)
    where
      go : (b : Bool) → Fine (at_row own change missing rs) → Fine (cond b (change r ++ rs) (r ∷ at_row own change missing rs))
      go true rest = each_append (IsFine id low high) (change r) rs (kept r h.0) h.1
      go false rest = (h.0, rest)

  without_fine : (own : Text) (rows : List Row) → Fine rows → Fine (without own rows)
  without_fine own rows h = at_fine own (λ _. []) [] rows (λ r fine. tt) tt h

  pub values_fine : (own : Text) (how : Reading) (s : ValueSource) (values : List Text) (rows : List Row)
      → (bytes_eq own id ≡ true → (how ≡ reading.AsWritten) × IsFirst low high values) → Fine rows → Fine (with_values own how s values rows)
  values_fine own how s values rows new h =
      at_fine own (more_values s values) _ rows (λ r fine. (λ e. ((fine e).0, more_first low high r.values values (fine e).1), tt)) (new, tt) h

  count_fine : (own : Text) (how : Reading) (s : ValueSource) (n : ℕ) (rows : List Row) → (bytes_eq own id ≡ true → ⊥) → Fine rows
      → Fine (with_count own how s n rows)
  count_fine own how s n rows apart h =
      at_fine own (new_count s n) _ rows (λ r fine. (λ e. ((fine e).0, more_first low high r.values _ (fine e).1), tt)) (λ e. absurd (apart e), tt) h

  -- after a use of any argument the rows of this id still have such a first value
  used_fine : (x : ArgAction) (own : Text) (how : Reading) (values : List Text) (rows : List Row)
      → (bytes_eq own id ≡ true → (x ≡ action.Set) × (how ≡ reading.AsWritten) × IsFirst low high values) → Fine rows
      → Fine (used_as x own how values rows)
  used_fine action.Set own how values rows new h = values_fine own how CommandLine values _ (λ e. ((new e).1, (new e).2)) (without_fine own rows h)
  used_fine action.SetTrue own how values rows new h = values_fine own how CommandLine values _ (λ e. ((new e).1, (new e).2)) (without_fine own rows h)
  used_fine action.SetFalse own how values rows new h = values_fine own how CommandLine values _ (λ e. ((new e).1, (new e).2)) (without_fine own rows h)
  used_fine action.Append own how values rows new h = values_fine own how CommandLine values rows (λ e. ((new e).1, (new e).2)) h
  used_fine action.Count own how [] rows new h = count_fine own how CommandLine (min (count_of own rows + 1) 255) _ (λ e. (new e).2) (without_fine own rows h)
  used_fine action.Count own how (v ∷ vs) rows new h = values_fine own how CommandLine (v ∷ vs) _ (λ e. ((new e).1, (new e).2)) (without_fine own rows h)
  used_fine action.Help own how values rows new h = h
  used_fine action.HelpShort own how values rows new h = h
  used_fine action.HelpLong own how values rows new h = h
  used_fine action.Version own how values rows new h = h

  use_fine : (again : Bool) (a : Rule) (values : List Text) (rows : List Row) → Serves id low high a → use_fault again a values rows ≡ []
      → Fine rows → Fine (used a values rows)
  use_fine again a values rows serves e h =
      used_fine (action_of a) a.id (reading_by a) (values_or_missing a values) rows (λ same. number_used low high again a values rows (serves same) e) h

-- ---- one word

module _ (id : Text) (low high : ℕ) (c : List Rule) (again : Bool) (serves : Each (Serves id low high) c) where
  pub settle_fine : (p : Option (Text × List Text)) (rows : List Row)
      → option_map_or (λ q. option_map_or (λ a. use_fault again a q.1 rows) (arg_by_id c q.0) []) p [] ≡ [] → Fine id low high rows
      → Fine id low high (settled_rows c p rows)
  settle_fine None rows e h = h
  settle_fine (Some p) rows e h = go (arg_by_id c p.0) (found (Serves id low high) _ c serves) e
    where
      go : (o : Option Rule) → IfSome o (Serves id low high) → option_map_or (λ a. use_fault again a p.1 rows) o [] ≡ []
          → Fine id low high (used_by_id o p.1 rows)
      go None serve f = h
      go (Some a) serve f = use_fine id low high again a p.1 rows serve f h

  react_fine : (a : Rule) (values : List Text) (h : Held) → Serves id low high a → react_fault c again a values h ≡ [] → Fine id low high h.rows
      → Fine id low high (reacted c a values h).rows
  react_fine a values h serve e fine =
      let parts = none_left _ _ e in
      use_fine id low high again a values _ serve parts.1 (settle_fine h.pending h.rows parts.0 fine)

  option_fine : (a : Rule) (v : Option Text) (h : Held) → Serves id low high a → option_fault c again a v h ≡ [] → Fine id low high h.rows
      → Fine id low high (option_met c a v h).0.rows
  option_fine a None h serve e fine = settle_fine h.pending h.rows e fine
  option_fine a (Some v) h serve e fine = react_fine a (v ∷ []) h serve e fine

  flag_fine : (a : Rule) (v : Option Text) (h : Held) → Serves id low high a
      → cond (is_some v) (kind.TooManyValues ∷ []) (react_fault c again a [] h) ≡ [] → Fine id low high h.rows
      → Fine id low high (flag_met c a v h).0.rows
  flag_fine a None h serve e fine = react_fine a [] h serve e fine
  flag_fine a (Some v) h serve e fine = fine

  long_fine : (o : Option Rule) (v : Option Text) (h : Held) → IfSome o (Serves id low high) → long_fault c again o v h ≡ [] → Fine id low high h.rows
      → Fine id low high (long_met c o v h).0.rows
  long_fine None v h serve e fine = fine
  long_fine (Some a) v h serve e fine = go (takes_values a) e
    where
      go : (b : Bool) → cond b (option_fault c again a v h) (cond (is_some v) (kind.TooManyValues ∷ []) (react_fault c again a [] h)) ≡ []
          → Fine id low high (cond b (option_met c a v h) (flag_met c a v h)).0.rows
      go true f = option_fine a v h serve f fine
      go false f = flag_fine a v h serve f fine

  short_fine : (o : Option Rule) (rest : Text) (h : Held) (after : Held → Held × Outcome) (fails : Held → Kinds) → IfSome o (Serves id low high)
      → ((k : Held) → fails k ≡ [] → Fine id low high k.rows → Fine id low high (after k).0.rows)
      → short_fault c again o rest h fails ≡ [] → Fine id low high h.rows → Fine id low high (short_met c o rest h after).0.rows
  short_fine None rest h after fails serve more e fine = fine
  short_fine (Some a) rest h after fails serve more e fine = go (takes_values a) e
    where
      go : (b : Bool) → cond b (option_fault c again a (attached_value rest) h) (or_else (react_fault c again a [] h) (fails (reacted c a [] h))) ≡ []
          → Fine id low high (cond b (option_met c a (attached_value rest) h) (after (reacted c a [] h))).0.rows
      go true f = option_fine a (attached_value rest) h serve f fine
      go false f =
          let parts = none_left _ _ f in
          more _ parts.1 (react_fine a [] h serve parts.0 fine)

  -- one character of a bundle, where the characters after it keep the rows so
  step_fine : (o : Option ℕ) (flags : Text) (skip : ℕ) (so_far : Outcome) (h : Held) (after : Text → ℕ → Outcome → Held → Held × Outcome) (fails : Text → ℕ → Held → Kinds)
      → ((rest : Text) (n : ℕ) (x : Outcome) (k : Held) → fails rest n k ≡ [] → Fine id low high k.rows → Fine id low high (after rest n x k).0.rows)
      → bundle_step_fault c again o flags skip h fails ≡ [] → Fine id low high h.rows
      → Fine id low high (bundle_step c o flags skip so_far h after).0.rows
  step_fine None flags skip so_far h after fails more e fine = fine
  step_fine (Some x) flags (suc skip) so_far h after fails more e fine = more _ skip so_far h e fine
  step_fine (Some x) flags zero so_far h after fails more e fine =
      let rest = drop (length (encode_utf8 x)) flags in
      short_fine (arg_by_short c x) rest h (after rest 0 done) (fails rest 0) (found (Serves id low high) _ c serves) (more rest 0 done) e fine

  bundle_fine : (k : ℕ) (flags : Text) (skip : ℕ) (so_far : Outcome) (h : Held) → flags_fault c again k flags skip h ≡ [] → Fine id low high h.rows
      → Fine id low high (bundle_met c k flags skip so_far h).0.rows
  unfolding bundle_met flags_fault
  bundle_fine zero flags skip so_far h e fine = fine
  bundle_fine (suc k) flags skip so_far h e fine = step_fine (slice_get (chars flags) 0) flags skip so_far h (bundle_met c k) (flags_fault c again k) (bundle_fine k) e fine

  plain_fine : (waiting : Waiting) (word : Text) (h : Held) → Fine id low high h.rows → Fine id low high (plain_word c waiting word h).0.rows
  plain_fine idle word h fine = fine
  plain_fine positional word h fine = fine
  plain_fine (option own) word h fine = go (arg_by_id c own)
    where
      go : (o : Option Rule) → Fine id low high (option_word o own word h).0.rows
      go None = fine
      go (Some a) = fine

  after_fine : (waiting : Waiting) (word : Text) (h : Held) (x : Outcome) → Fine id low high h.rows
      → Fine id low high (after_flag c waiting word h x).0.rows
  after_fine waiting word h done fine = fine
  after_fine waiting word h (waits own) fine = fine
  after_fine waiting word h plain fine = plain_fine waiting word h fine
  after_fine waiting word h refused fine = plain_fine waiting word h fine

  flag_word_fine : (p : Option (Text × Option Text)) (waiting : Waiting) (word : Text) (h : Held) → flag_word_fault c again p word h ≡ []
      → Fine id low high h.rows
      → Fine id low high (long_or_other c waiting word p h).0.rows
  flag_word_fine (Some p) waiting word h e fine = after_fine waiting word _ _ (long_fine (arg_by_long c p.0) p.1 h (found (Serves id low high) _ c serves) e fine)
  flag_word_fine None waiting word h e fine = go (short_of word) e
    where
      go : (o : Option Text) → option_map_or (λ flags. bundle_fault c again flags h) o [] ≡ []
          → Fine id low high (short_or_plain c waiting word o h).0.rows
      go None f = plain_fine waiting word h fine
      go (Some flags) f = after_fine waiting word _ _ (bundle_fine (length flags) flags h.skip plain (record h { skip = 0 }) f fine)

  positional_fine : (a : Rule) (word : Text) (h : Held) → positional_fault c again a h ≡ [] → Fine id low high h.rows
      → Fine id low high (positional_held c a word h).rows
  positional_fine a word h e fine = go (is_pending a h.pending && takes_several a) e
    where
      go : (b : Bool) → cond b [] (settle_fault c again h) ≡ [] → Fine id low high (cond b h (settled c h)).rows
      go true f = fine
      go false f = settle_fine h.pending h.rows f fine

-- ---- the walk

module _ (id : Text) (low high : ℕ) (s : Shape) (serves : Each (Serves id low high) s.rules) where
  other_fine : (o : Option Text) (waiting : Waiting) (position : ℕ) (word : Text) (h : Held) → other_fault s o word h ≡ [] → Fine id low high h.rows
      → Fine id low high (subcommand_or_other s.rules o waiting position word h).0.rows
  other_fine (Some name) waiting position word h e fine = fine
  other_fine None waiting position word h e fine = go (bytes_eq word (45 ∷ 45 ∷ [])) e
    where
      go : (b : Bool) → cond b [] (flag_word_fault s.rules s.args_override_self (long_of word) word h) ≡ []
          → Fine id low high (cond b (h, trailing position) (long_or_other s.rules waiting word (long_of word) h)).0.rows
      go true f = fine
      go false f = flag_word_fine id low high s.rules s.args_override_self serves (long_of word) waiting word h f fine

  word_fine : (names : Names) (is_trailing : Bool) (waiting : Waiting) (position : ℕ) (word : Text) (h : Held)
      → word_fault s names is_trailing waiting word h ≡ []
      → Fine id low high h.rows → Fine id low high (word_met s.rules names is_trailing waiting position word h).0.rows
  word_fine names true waiting position word h e fine = fine
  word_fine names false waiting position word h e fine = other_fine (subcommand_met names waiting word) waiting position word h e fine

  taken_fine : (w : Walk) (word : Text) (h : Held) (step : Step) → step_fault s w.position h step ≡ [] → Fine id low high h.rows
      → Fine id low high (after_step s.rules word w h step).held.rows
  taken_fine w word h (next waiting) e fine = fine
  taken_fine w word h (trailing position) e fine = fine
  taken_fine w word h (subcommand name) e fine = fine
  taken_fine w word h value e fine = go (arg_by_index s.rules w.position) e
    where
      go : (o : Option Rule) → option_map_or (λ a. positional_fault s.rules s.args_override_self a h) o (stray_fault s) ≡ []
          → Fine id low high (to_positional s.rules o word w h).held.rows
      go None f = fine
      go (Some a) f = positional_fine id low high s.rules s.args_override_self serves a word h f fine

  turn_fine : (names : Names) (w : Walk) (word : Text) → turn_fault s names w word ≡ [] → Fine id low high w.held.rows
      → Fine id low high (walked s.rules names w word).held.rows
  unfolding walked
  turn_fine names w word e fine = go w.stopped e
    where
      go : (o : Option (Text × List Text)) →
          let met = word_met s.rules names w.is_trailing w.waiting w.position word w.held in
          cond (is_some o) [] (or_else (word_fault s names w.is_trailing w.waiting word w.held) (step_fault s w.position met.0 met.1)) ≡ []
          → Fine id low high (walked_from s.rules names o w word).held.rows
      go (Some p) f = fine
      go None f =
          let parts = none_left _ _ f in
          taken_fine w word _ _ parts.1 (word_fine names w.is_trailing w.waiting w.position word w.held parts.0 fine)

  pub walk_fine : (names : Names) (w : Walk) (words : List Text) → walk_fault s names w words ≡ [] → Fine id low high w.held.rows
      → Fine id low high (fold (walked s.rules names) w words).held.rows
  unfolding walk_fault
  walk_fine names w [] e fine = fine
  walk_fine names w (word ∷ rest) e fine =
      let parts = none_left _ _ e in
      walk_fine names (walked s.rules names w word) rest parts.1 (turn_fine names w word parts.0 fine)
