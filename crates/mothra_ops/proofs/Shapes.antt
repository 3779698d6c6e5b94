-- A mutant takes the arguments of its program: what an edit changes says nothing of the dummy arguments.
use Rattle.mothra_ops.proofs.Common.{◌≡◌, ◌∙◌, ap, sym, List, map, refl, Some, subst, ℕ, None, [], ◌-◌, suc, slice_get, zero, ◌∷◌, Option, IfSome, ◌++◌, true}
use Rattle.mothra_ops.proofs.Common.{Bool, false, cond, filter, true≢false, is_some, if◌then◌else◌, filter-append, filter_map-append, same_Some, none-some}
use Rattle.mothra_ops.proofs.Common.{option_and_then_some, Bor, filter_map, option_and_then, CheckedFields, shapes, Fits, patched, replaced, line_of}
use Rattle.mothra_ops.proofs.Common.{LineFields, NodeOf, names_of, Site, sites, statement_of, Statement, is_executable_statement, Op, Der, Dsa, Glr, numbered}
use Rattle.mothra_ops.proofs.Common.{IsMadeMutant, made, Edit, Mutant, pools_of, PoolFields, gives, replacements, stands_in}
use Rattle.std.specs.Str.{bytes_eq}
use Rattle.f77_program.specs.Group.{group_of}
use Rattle.f77_program.specs.declared.group.Group.{Group}
use Rattle.f77_program.specs.declared.group.Group.TheVariants.{Subroutine, Declaration}
use Rattle.f77_tree.specs.declared.tree.Kind.TheVariants.{Integer}
use Rattle.f77_legal.specs.Heading.{dummies_of, dummies}
use Rattle.f77_legal.specs.Names.{Symbol, NameUse, Plain, name_in, uses_of, uses, kind_in, bounds_in, some_items, first_item_or}
use Rattle.f77_legal.specs.InitialValues.{product}
use Rattle.mothra_ops.proofs.MakesMutant.{counted_at}
use Rattle.mothra_ops.proofs.Numbered.{nothing_numbered}

-- a statement of the group neither has dummy arguments nor declares
abbrev is_quiet : Group → Bool
is_quiet Subroutine = false
is_quiet Declaration = false
is_quiet _ = true

quiet_uses : (s : Statement) → is_quiet (group_of s) ≡ true → uses_of s ≡ map Plain (names_of s)
quiet_uses (Statement.Subroutine name names) quiet = absurd (true≢false (sym quiet))
quiet_uses (Statement.Declare kind declarations) quiet = absurd (true≢false (sym quiet))
quiet_uses (Statement.Dimension declarations) quiet = absurd (true≢false (sym quiet))
quiet_uses _ quiet = refl

quiet_dummies : (s : Statement) → is_quiet (group_of s) ≡ true → dummies_of s ≡ []
quiet_dummies (Statement.Subroutine name names) quiet = absurd (true≢false (sym quiet))
quiet_dummies _ quiet = refl

dummies_replaced : (p : List LineFields) (i : ℕ) (line : LineFields) (s : Statement) → slice_get p i ≡ Some line → is_quiet (group_of line.stmt) ≡ true
    → is_quiet (group_of s) ≡ true → dummies (replaced p i s) ≡ dummies p
dummies_replaced [] i line s at old new = refl
dummies_replaced (first ∷ lines) zero line s at old new =
    quiet_dummies s new ∙ sym (quiet_dummies line.stmt old) ∙ ap (λ (l : LineFields). dummies_of l.stmt) (sym (same_Some first line at))
dummies_replaced (first ∷ lines) (suc i) line s at old new = refl

-- what the uses of a name give, where a plain use gives nothing
module _ {Y : Type 0} (give : NameUse → Option Y) (plain : (name : Symbol) → give (Plain name) ≡ None) (name : Symbol) where
  abbrev given_in : List NameUse → List Y
  given_in all = filter_map give (filter (λ name_use. bytes_eq name (name_in name_use)) all)

  given-append : (one other : List NameUse) → given_in (one ++ other) ≡ given_in one ++ given_in other
  given-append one other =
      ap (filter_map give) (filter-append (λ name_use. bytes_eq name (name_in name_use)) one other)
      ∙ filter_map-append give (filter (λ name_use. bytes_eq name (name_in name_use)) one) (filter (λ name_use. bytes_eq name (name_in name_use)) other)

  none_given : (names : List Symbol) → given_in (map Plain names) ≡ []
  none_given [] = refl
  none_given (other ∷ names) = by (bytes_eq name other) refl (none_given names)
    where
      by : (b : Bool) → bytes_eq name other ≡ b → given_in (map Plain names) ≡ [] → given_in (map Plain (other ∷ names)) ≡ []
      by true same rest = rw (same, plain other) rest
      by false same rest = rw same rest

  quiet_gives : (s : Statement) → is_quiet (group_of s) ≡ true → given_in (uses_of s) ≡ []
  quiet_gives s quiet = ap given_in (quiet_uses s quiet) ∙ none_given (names_of s)

  given_replaced : (p : List LineFields) (i : ℕ) (line : LineFields) (s : Statement) → slice_get p i ≡ Some line → is_quiet (group_of line.stmt) ≡ true
      → is_quiet (group_of s) ≡ true → given_in (uses (replaced p i s)) ≡ given_in (uses p)
  given_replaced [] i line s at old new = refl
  given_replaced (first ∷ lines) zero line s at old new =
      let before : given_in (uses_of first.stmt) ≡ [] = ap (λ (l : LineFields). given_in (uses_of l.stmt)) (same_Some first line at) ∙ quiet_gives line.stmt old in
      given-append (uses_of s) (uses lines)
      ∙ ap (λ ys. ys ++ given_in (uses lines)) (quiet_gives s new ∙ sym before)
      ∙ sym (given-append (uses_of first.stmt) (uses lines))
  given_replaced (first ∷ lines) (suc i) line s at old new =
      given-append (uses_of first.stmt) (uses (replaced lines i s))
      ∙ ap (λ ys. given_in (uses_of first.stmt) ++ ys) (given_replaced lines i line s at old new)
      ∙ sym (given-append (uses_of first.stmt) (uses lines))

shapes_replaced : (p : List LineFields) (i : ℕ) (line : LineFields) (s : Statement) → slice_get p i ≡ Some line → is_quiet (group_of line.stmt) ≡ true
    → is_quiet (group_of s) ≡ true → shapes (replaced p i s) ≡ shapes p
shapes_replaced p i line s at old new =
    λ k. map (λ name. record {
      kind = first_item_or Integer (given_replaced kind_in (λ other. refl) name p i line s at old new k);
      elements = if is_some (some_items (first_item_or [] (given_replaced bounds_in (λ other. refl) name p i line s at old new k)))
          then Some (product (first_item_or [] (given_replaced bounds_in (λ other. refl) name p i line s at old new k)))
          else None;
    }) (dummies_replaced p i line s at old new k)

-- a statement in which an operator has sites is quiet
executable_quiet : (s : Statement) → is_executable_statement s ≡ true → is_quiet (group_of s) ≡ true
executable_quiet (Statement.Subroutine name names) stands = absurd (true≢false (sym stands))
executable_quiet (Statement.Declare kind declarations) stands = absurd (true≢false (sym stands))
executable_quiet (Statement.Dimension declarations) stands = absurd (true≢false (sym stands))
executable_quiet _ stands = refl

loop_quiet : (s : Statement) → stands_in Der s ≡ true → is_quiet (group_of s) ≡ true
loop_quiet (Statement.Subroutine name names) stands = absurd (true≢false (sym stands))
loop_quiet (Statement.Declare kind declarations) stands = absurd (true≢false (sym stands))
loop_quiet (Statement.Dimension declarations) stands = absurd (true≢false (sym stands))
loop_quiet _ stands = refl

preset_quiet : (s : Statement) → stands_in Dsa s ≡ true → is_quiet (group_of s) ≡ true
preset_quiet (Statement.Subroutine name names) stands = absurd (true≢false (sym stands))
preset_quiet (Statement.Declare kind declarations) stands = absurd (true≢false (sym stands))
preset_quiet (Statement.Dimension declarations) stands = absurd (true≢false (sym stands))
preset_quiet _ stands = refl

jump_quiet : (s : Statement) → stands_in Glr s ≡ true → is_quiet (group_of s) ≡ true
jump_quiet (Statement.Subroutine name names) stands = absurd (true≢false (sym stands))
jump_quiet (Statement.Declare kind declarations) stands = absurd (true≢false (sym stands))
jump_quiet (Statement.Dimension declarations) stands = absurd (true≢false (sym stands))
jump_quiet _ stands = refl

site_quiet : (op : Op) (s : Statement) → stands_in op s ≡ true → is_quiet (group_of s) ≡ true
site_quiet Der s stands = loop_quiet s stands
site_quiet Dsa s stands = preset_quiet s stands
site_quiet Glr s stands = jump_quiet s stands
site_quiet _ s stands = executable_quiet s stands

-- an operator that gives something has a site there
candidate_stands : (op : Op) (pools : PoolFields) (s : Statement) (node new : NodeOf) (rank : ℕ) → numbered (gives op pools s node) rank ≡ Some new
    → stands_in op s ≡ true
candidate_stands op pools s node new rank candidate = by (stands_in op s) refl
  where
    by : (b : Bool) → stands_in op s ≡ b → stands_in op s ≡ true
    by true stands = stands
    by false not_there =
        absurd (none-some new (sym (nothing_numbered rank)
        ∙ ap (λ b. numbered (cond b (replacements op pools node) []) rank) (sym not_there) ∙ candidate))

-- the statement that an edit changes is one in which its operator has sites
module _ (program : List LineFields) (edit : Edit) (statement : Statement) (makes : made (pools_of program) program edit ≡ Some statement) where
  changes_quiet : (line : LineFields) → numbered program edit.statement ≡ Some line → is_quiet (group_of line.stmt) ≡ true
  changes_quiet line of_line =
      option_and_then_some at_line (numbered program edit.statement) statement makes
      (λ there of_there h. option_and_then_some (at_site there.stmt) (slice_get (sites there.stmt) edit.position) statement h
      (λ site of_site h. option_and_then_some (λ node. Some (site.1 node)) (numbered (gives edit.op (pools_of program) there.stmt site.0) edit.rank) statement h
      (λ new of_new h.
      let quiet = site_quiet edit.op there.stmt (candidate_stands edit.op (pools_of program) there.stmt site.0 new edit.rank of_new) in
      subst (λ (l : LineFields). is_quiet (group_of l.stmt) ≡ true) (same_Some there line (sym of_there ∙ of_line)) quiet)))
    where
      at_site : Statement → Site Statement → Option Statement
      at_site s site = option_and_then (λ node. Some (site.1 node)) (numbered (gives edit.op (pools_of program) s site.0) edit.rank)

      at_line : LineFields → Option Statement
      at_line line = option_and_then (at_site line.stmt) (slice_get (sites line.stmt) edit.position)

  -- what an edit makes takes the arguments of the program
  pub made_shapes : Fits program edit.statement statement → shapes (patched program edit.statement statement) ≡ shapes program
  made_shapes fits =
      let old = changes_quiet fits.line (sym (counted_at program edit.statement fits.counted) ∙ fits.at) in
      shapes_replaced program (edit.statement - 1) fits.line statement fits.at old (ap is_quiet fits.group ∙ old)

-- so does each mutant that is found
pub shapes_found : (checked : CheckedFields) (found : Option (Bor Mutant)) → IfSome found (λ (mutant : Bor Mutant). IsMadeMutant checked mutant.now)
    → IfSome found (λ (mutant : Bor Mutant). shapes (patched (map line_of checked.program) mutant.now.edit.statement (statement_of mutant.now.stmt.value)) ≡ shapes (map line_of checked.program))
shapes_found checked (Some mutant) own = made_shapes (map line_of checked.program) mutant.now.edit (statement_of mutant.now.stmt.value) own.makes own.mutant.fits
shapes_found checked None own = tt
