-- Keeping trees, declared names and initial values changes no limit, and within the limits it changes nothing.
use Rattle.f77_syntax.proofs.Common.{refl, ap, ◌≡◌, List, ℕ, true, [], ◌∷◌, false, length, arith, Bool, ◌≤◌, map, cond, suc, zero, ◌&&◌, nat_le, take_all, ℤ}
use Rattle.f77_syntax.proofs.Common.{negsuc, nat_tests, length-map, list_all, clipped, clip, clip_value, clip_all, clip_decl, clip_group, clip_constant}
use Rattle.f77_syntax.proofs.Common.{clipped_constant, all_small_constants, small_bound, small_constants, data_constants, decl_constants, declaration_constants}
use Rattle.f77_syntax.proofs.Common.{group_constants, small_value, and_true, all_bounded, has_bounds, largest_integer, magnitude, small_constant, cut, is_short}
use Rattle.f77_syntax.proofs.Common.{all_short_names, short_names, data_names, decl_name, declaration_names, has_short_group_names, Tree, Trees, GroupFields}
use Rattle.f77_syntax.proofs.Common.{DeclFields, Constant, Value}
use Rattle.f77_tree.specs.declared.data.Constant.TheVariants.{Number, Truth}

pub constant_clip : (n : ℕ) → nat_le (clipped n) 2147483647 ≡ nat_le n 2147483647
constant_clip n = either (nat_le n 2147483647) refl
  where
    either : (b : Bool) → nat_le n 2147483647 ≡ b → nat_le (clipped n) 2147483647 ≡ b
    either true e = grind (arith, nat_tests)
    either false e = grind (arith, nat_tests)

-- lists whose items keep what is asked of them, and lists whose items are kept
pub each_clip : {A : Type 0} (p : A → Bool) (keep : A → A) → ((x : A) → p (keep x) ≡ p x) → (xs : List A) → list_all p (map keep xs) ≡ list_all p xs
each_clip p keep same [] = refl
each_clip p keep same (x ∷ xs) = rw (same x, each_clip p keep same xs) refl

each_kept : {A : Type 0} (p : A → Bool) (keep : A → A) → ((x : A) → p x ≡ true → keep x ≡ x) → (xs : List A) → list_all p xs ≡ true → map keep xs ≡ xs
each_kept p keep same [] h = refl
each_kept p keep same (x ∷ xs) h = let (first, others) = and_true (p x) (list_all p xs) h in rw (same x first, each_kept p keep same xs others) refl

pub small_clipped : (n : ℕ) → nat_le n 2147483647 ≡ true → clipped n ≡ n
small_clipped n e = grind (arith, nat_tests)

pub short_cut : (name : List ℕ) → is_short name ≡ true → cut name ≡ name
short_cut name e = let few : length name ≤ 7 = grind (arith, nat_tests) in take_all 7 name few

pub short_cuts : (names : List (List ℕ)) → list_all is_short names ≡ true → map cut names ≡ names
short_cuts names h = each_kept is_short cut short_cut names h

mutual
  pub kept : (t : Tree) → short_names t ≡ true → small_constants t ≡ true → clip t ≡ t
  kept (Tree.Number n) s h = ap Tree.Number (small_clipped n h)
  kept (Tree.Truth b) s h = refl
  kept (Tree.Reference name items) s h =
      let (first, others) = and_true (is_short name) (all_short_names items) s in rw (short_cut name first, all_kept items others h) refl
  kept (Tree.Call f items) s h = rw (all_kept items s h) refl
  kept (Tree.Signed sign t) s h = rw (kept t s h) refl
  kept (Tree.Not t) s h = rw (kept t s h) refl
  kept (Tree.Binary op a b) s h =
      let (left, right) = and_true (short_names a) (short_names b) s in
      let (l, r) = and_true (small_constants a) (small_constants b) h in rw (kept a left l) (rw (kept b right r) refl)
  kept (Tree.ZeroPush t) s h = rw (kept t s h) refl

  pub all_kept : (ts : Trees) → all_short_names ts ≡ true → all_small_constants ts ≡ true → clip_all ts ≡ ts
  all_kept Trees.None s h = refl
  all_kept (Trees.Then t ts) s h =
      let (first, others) = and_true (short_names t) (all_short_names ts) s in
      let (l, r) = and_true (small_constants t) (all_small_constants ts) h in rw (kept t first l) (rw (all_kept ts others r) refl)

-- declared names
pub all_bounded_clip : (ds : List DeclFields) → all_bounded (map clip_decl ds) ≡ all_bounded ds
all_bounded_clip ds = each_clip has_bounds clip_decl (λ d. rw (length-map d.bounds clipped) refl) ds

pub declaration_kept : (ds : List DeclFields) → declaration_names ds ≡ true → declaration_constants ds ≡ true → map clip_decl ds ≡ ds
declaration_kept [] n h = refl
declaration_kept (d ∷ ds) n h =
    let (named, others_named) = and_true (decl_name d) (declaration_names ds) n in
    let (first, others) = and_true (decl_constants d) (declaration_constants ds) h in
    rw (short_cut d.name named, each_kept small_bound clipped small_clipped d.bounds first, declaration_kept ds others_named others) refl

-- initial values
number_clip : (z : ℤ) → nat_le (magnitude (clipped_constant z)) largest_integer ≡ nat_le (magnitude z) largest_integer
number_clip z = either (nat_le (magnitude z) largest_integer) refl
  where
    either : (b : Bool) → nat_le (magnitude z) largest_integer ≡ b → nat_le (magnitude (cond b z (negsuc largest_integer))) largest_integer ≡ b
    either true e = e
    either false e = grind (arith, nat_tests)

pub constant_limit : (c : Constant) → small_constant (clip_constant c) ≡ small_constant c
constant_limit (Number z) = number_clip z
constant_limit (Truth b) = refl

pub least_clip : (n : ℕ) → nat_le 1 (clipped n) ≡ nat_le 1 n
least_clip zero = refl
least_clip (suc n) = grind (arith, nat_tests)

constant_same : (c : Constant) → small_constant c ≡ true → clip_constant c ≡ c
constant_same (Number z) h = rw h refl
constant_same (Truth b) h = refl

value_same : (v : Value) → small_value v ≡ true → clip_value v ≡ v
value_same v h =
    let (least, rest) = and_true (nat_le 1 v.times) (nat_le v.times largest_integer && small_constant v.constant) h in
    let (most, fits) = and_true (nat_le v.times largest_integer) (small_constant v.constant) rest in
    rw (small_clipped v.times most, constant_same v.constant fits) refl

pub data_kept : (gs : List GroupFields) → data_names gs ≡ true → data_constants gs ≡ true → map clip_group gs ≡ gs
data_kept [] n h = refl
data_kept (g ∷ gs) n h =
    let (named, others_named) = and_true (has_short_group_names g) (data_names gs) n in
    let (first, others) = and_true (group_constants g) (data_constants gs) h in
    rw (short_cuts g.names named, each_kept small_value clip_value value_same g.values first, data_kept gs others_named others) refl
