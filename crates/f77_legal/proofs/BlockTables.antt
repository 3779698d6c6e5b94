-- What the table of blocks says of a statement.
use Rattle.f77_legal.proofs.Common.{◌≡◌, ◌∙◌, ap, map, sym, List, refl, ℕ, false, length, Bool, arith, true, Some, None, ◌||◌, take, Option, ◌&&◌, ◌<◌, not}
use Rattle.f77_legal.proofs.Common.{cond, get_or, ◌≤◌, nat_lt, ◌==◌, inr, is_some, inl, ◌⊎◌, cases_lt, and_left, and_right, nat_tests, get_or_past}
use Rattle.f77_legal.proofs.Common.{slice_get_past, list_any, option_map_or, nth_statement, first_numbers, is_block_if, is_alternative, block_end, has_at}
use Rattle.f77_legal.proofs.Common.{is_end_if, branch_end_at, is_in_block, statement_numbers, block_end_at, branch_end, else_end_at, is_else, IsBlockTable}
use Rattle.f77_legal.proofs.Common.{begins_branch, branch_holds, breaks_block, ends_else, is_end_of_block, end_of, is_before_end, is_end_among, is_misplaced}
use Rattle.f77_legal.proofs.Common.{Blocks, LineFields, Statement}
use Rattle.std.specs.List.{slice_get}
use Rattle.f77_legal.specs.declared.blocks.Extent.TheVariants.{Block, Branch}
use Rattle.f77_legal.proofs.BlockScan.{branch_end_is}
use Rattle.f77_legal.proofs.FirstNumbers.{length-table, get_or-table, take-table, any_same, any_below, any_end, or_false}

-- only a block IF before k can have k in its block
opened_before : (p : List LineFields) (k : ℕ) → k ≤ length p
    → list_any (λ b. has_at is_block_if p b && option_map_or (nat_lt k) (block_end p b) false) (first_numbers k) ≡ is_in_block p k
opened_before p k within =
    any_same _ (λ b. has_at is_block_if p b && (nat_lt b k && option_map_or (nat_lt k) (block_end p b) false)) k (λ b h. before b (has_at is_block_if p b) _ h)
    ∙ sym (any_below (λ b. has_at is_block_if p b && (nat_lt b k && option_map_or (nat_lt k) (block_end p b) false)) k (length p) within
    (λ b h. and_right (has_at is_block_if p b) _ (and_left (nat_lt b k) _ (grind (arith, nat_tests)))))
  where
    before : (b : ℕ) (c q : Bool) → b < k → (c && q) ≡ (c && (nat_lt b k && q))
    before b c q h = let e : nat_lt b k ≡ true = grind (arith, nat_tests) in rw e refl

-- by the ends of the first n statements, k stands in a block
pub inside_at : (p : List LineFields) (ends : List (Option ℕ)) (n k : ℕ) → ends ≡ map (block_end_at p) (first_numbers n) → k ≤ n → k ≤ length p
    → is_before_end (take k ends) k ≡ is_in_block p k
inside_at p ends n k e before within =
    ap (λ es. is_before_end (take k es) k) e
    ∙ (ap (λ es. is_before_end es k) (take-table (block_end_at p) n k before)
    ∙ (any_end (nat_lt k) (has_at is_block_if p) (block_end p) (first_numbers k) ∙ opened_before p k within))

-- the ends that begin at a statement, by what it is
module _ (p : List LineFields) (i : ℕ) (s : Statement) (at : nth_statement p i ≡ Some s) where
  pub block_at : (begins : Bool) → begins ≡ is_block_if s → cond begins (end_of p Block i) None ≡ block_end_at p i
  block_at begins e = ap (λ b. cond b (block_end p i) None) e ∙ sym (ap (λ o. cond (option_map_or is_block_if o false) (block_end p i) None) at)

  pub else_at : (begins : Bool) → begins ≡ is_else s → cond begins (end_of p Branch i) None ≡ else_end_at p i
  else_at begins e = (λ k. cond (e k) (branch_end_is p i k) None) ∙ sym (ap (λ o. cond (option_map_or is_else o false) (branch_end p i) None) at)

  begins_at : (is_some (block_end_at p i) || (is_alternative s && is_in_block p i)) ≡ begins_branch p i
  begins_at =
      ap (λ b. b || (is_alternative s && is_in_block p i)) (closed (has_at is_block_if p i) (block_end p i))
      ∙ sym (ap (λ o. (has_at is_block_if p i && is_some (block_end p i)) || (option_map_or is_alternative o false && is_in_block p i)) at)
    where
      closed : (b : Bool) (end : Option ℕ) → is_some (cond b end None) ≡ (b && is_some end)
      closed true end = refl
      closed false end = refl

  pub branch_at : (begins : Bool) (end : Option ℕ) (inside : Bool) → begins ≡ (is_some end || (is_alternative s && inside)) → end ≡ block_end_at p i → inside ≡ is_in_block p i
      → cond begins (end_of p Branch i) None ≡ branch_end_at p i
  branch_at begins end inside e f g =
      ap (λ end. cond begins end None) (branch_end_is p i)
      ∙ ap (λ b. cond b (branch_end p i) None) (e ∙ (λ k. is_some (f k) || (is_alternative s && g k)) ∙ begins_at)

-- what a statement breaks, by what it is
breaks_by : (s : Statement) (x y z : Bool)
    → ((is_block_if s && x) || ((is_end_if s && y) || (is_alternative s && z))) ≡ cond (is_block_if s) x (cond (is_end_if s) y (is_alternative s && z))
breaks_by (Statement.BlockIf t) x y z = or_false x
breaks_by Statement.EndIf x y z = or_false y
breaks_by _ x y z = refl

pub breaks_here : (t : Blocks) (p : List LineFields) (i : ℕ) (s : Statement) → i < length p → nth_statement p i ≡ Some s → IsBlockTable t p
    → breaks_block p i ≡ is_misplaced t s i
breaks_here t p i s within is table =
    let e : get_or t.ends.items i None ≡ block_end_at p i = ap (λ xs. get_or xs i None) table.ends ∙ get_or-table (block_end_at p) (length p) i None within in
    let c : is_end_among t.ends.items i ≡ is_end_of_block p i =
    ap (λ es. is_end_among es i) table.ends ∙ any_end (λ e. e == i) (has_at is_block_if p) (block_end p) (statement_numbers p) in
    let n : is_before_end (take i t.ends.items) i ≡ is_in_block p i = inside_at p t.ends.items (length p) i table.ends (omega arith) (omega arith) in
    let a : is_end_among t.else_ends.items i ≡ ends_else p i =
    ap (λ es. is_end_among es i) table.else_ends ∙ any_end (λ e. e == i) (has_at is_else p) (branch_end p) (statement_numbers p) in
    by (nth_statement p i) is
    ∙ (breaks_by s (not (is_some (block_end p i))) (not (is_end_of_block p i)) (not (is_in_block p i) || ends_else p i)
    ∙ rw e (rw c (rw n (rw a (opened (nth_statement p i) (is_end_of_block p i) (is_in_block p i) (ends_else p i) is)))))
  where
    by : (o : Option Statement) → o ≡ Some s
        → ((option_map_or is_block_if o false && not (is_some (block_end p i))) || ((option_map_or is_end_if o false && not (is_end_of_block p i))
        || (option_map_or is_alternative o false && (not (is_in_block p i) || ends_else p i))))
        ≡ ((is_block_if s && not (is_some (block_end p i))) || ((is_end_if s && not (is_end_of_block p i)) || (is_alternative s && (not (is_in_block p i) || ends_else p i))))
    by o is = rw is refl

    same_end : (b : Bool) (x : Option ℕ) (y : Bool) → cond b (not (is_some x)) y ≡ cond b (not (is_some (cond b x None))) y
    same_end true x y = refl
    same_end false x y = refl

    opened : (o : Option Statement) (c n a : Bool) → o ≡ Some s
        → cond (is_block_if s) (not (is_some (block_end p i))) (cond (is_end_if s) (not c) (is_alternative s && (not n || a)))
        ≡ cond (is_block_if s) (not (is_some (cond (option_map_or is_block_if o false) (block_end p i) None))) (cond (is_end_if s) (not c) (is_alternative s && (not n || a)))
    opened o c n a is = rw is (same_end (is_block_if s) (block_end p i) (cond (is_end_if s) (not c) (is_alternative s && (not n || a))))

branch_end_past : (p : List LineFields) (i : ℕ) → length p ≤ i → None ≡ branch_end_at p i
branch_end_past p i past = let e : slice_get p i ≡ None = slice_get_past p i past in rw e refl

pub branch_end_held : (t : Blocks) (p : List LineFields) (i : ℕ) → IsBlockTable t p → get_or t.branch_ends.items i None ≡ branch_end_at p i
branch_end_held t p i table = ap (λ xs. get_or xs i None) table.branch_ends ∙ either (cases_lt i (length p))
  where
    either : (i < length p) ⊎ (length p ≤ i) → get_or (map (branch_end_at p) (statement_numbers p)) i None ≡ branch_end_at p i
    either (inl within) = get_or-table (branch_end_at p) (length p) i None within
    either (inr past) =
        get_or_past (map (branch_end_at p) (statement_numbers p)) i None (omega (arith, length-table (branch_end_at p) (length p))) ∙ branch_end_past p i past

-- what stands in the branch that i begins
pub branch_holds_at : (p : List LineFields) (i k : ℕ) → (nat_lt i k && option_map_or (nat_lt k) (branch_end_at p i) false) ≡ branch_holds p i k
branch_holds_at p i k = by (begins_branch p i) (branch_end p i) (nat_lt i k)
  where
    by : (b : Bool) (e : Option ℕ) (x : Bool) → (x && option_map_or (nat_lt k) (cond b e None) false) ≡ (b && (x && option_map_or (nat_lt k) e false))
    by true e x = refl
    by false e x = and_right x false refl
