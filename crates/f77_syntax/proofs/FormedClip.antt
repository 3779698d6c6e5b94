-- Keeping a statement makes it neither formed nor unformed: a name that is too long is too long as it is kept.
use Rattle.f77_syntax.proofs.Common.{refl, ◌∙◌, sym, ap, ◌≡◌, List, ℕ, true, [], ◌∷◌, Some, None, false, arith, Option, Bool, map, ◌&&◌, option_map, not}
use Rattle.f77_syntax.proofs.Common.{length-take, nat_tests, spelled_is_formed, formed_spelled, is_symbolic_formed, clip, clip_statement, clip_value, clip_all}
use Rattle.f77_syntax.proofs.Common.{clip_decl, clip_group, is_name, is_call, cut, is_short, is_symbolic, statement_names, Statement, SpellsStatement, IsFormed}
use Rattle.f77_syntax.proofs.Common.{Tree, Trees, GroupFields}
use Rattle.f77_tree.specs.code.Joined.{some_all}
use Rattle.f77_program.specs.code.Data.{any_value, is_group}
use Rattle.f77_program.specs.code.Declaration.{is_decl}
use Rattle.f77_program.specs.code.Formed.{is_some_list, is_reference, formed, all_formed, value_formed, statement_formed}
use Rattle.f77_syntax.proofs.BranchGives.{action_clip}
use Rattle.f77_syntax.proofs.Clip.{short_cut, each_clip, all_bounded_clip}

short_clip : (name : List ℕ) → is_short name ≡ false → is_short (cut name) ≡ false
short_clip name e = let k = length-take 7 name in grind (arith, nat_tests)

long_name : (named called : Bool) → ((named && false) && called) ≡ false
long_name true called = refl
long_name false called = refl

call_clip : (name : List ℕ) (items : Trees) → is_call name (clip_all items) ≡ is_call name items
call_clip name Trees.None = refl
call_clip name (Trees.Then t ts) = refl

list_clip : (items : Trees) → is_some_list (clip_all items) ≡ is_some_list items
unfolding is_some_list
list_clip Trees.None = refl
list_clip (Trees.Then t ts) = refl

reference_clip : (name : List ℕ) (items : Trees) → is_reference is_symbolic (cut name) (clip_all items) ≡ is_reference is_symbolic name items
unfolding is_reference
reference_clip name items = by (is_short name) refl
  where
    by : (b : Bool) → is_short name ≡ b
        → ((is_name (cut name) && is_short (cut name)) && not (is_call (cut name) (clip_all items))) ≡ ((is_name name && is_short name) && not (is_call name items))
    by true e = rw (short_cut name e, call_clip name items) refl
    by false e =
        ap (λ b. (is_name (cut name) && b) && not (is_call (cut name) (clip_all items))) (short_clip name e)
        ∙ long_name (is_name (cut name)) (not (is_call (cut name) (clip_all items)))
        ∙ sym (ap (λ b. (is_name name && b) && not (is_call name items)) e ∙ long_name (is_name name) (not (is_call name items)))

name_clip : (name : List ℕ) → is_symbolic (cut name) ≡ is_symbolic name
name_clip name = by (is_short name) refl
  where
    no : (b : Bool) → (b && false) ≡ false
    no true = refl
    no false = refl

    by : (b : Bool) → is_short name ≡ b → (is_name (cut name) && is_short (cut name)) ≡ (is_name name && is_short name)
    by true e = rw (short_cut name e) refl
    by false e =
        ap (λ b. is_name (cut name) && b) (short_clip name e) ∙ no (is_name (cut name)) ∙ sym (ap (λ b. is_name name && b) e ∙ no (is_name name))

mutual
  tree_clip : (t : Tree) → formed is_symbolic (clip t) ≡ formed is_symbolic t
  tree_clip (Tree.Number n) = refl
  tree_clip (Tree.Truth b) = refl
  tree_clip (Tree.Reference name items) = rw (reference_clip name items, trees_clip items) refl
  tree_clip (Tree.Call f items) = rw (list_clip items, trees_clip items) refl
  tree_clip (Tree.Signed sign t) = tree_clip t
  tree_clip (Tree.Not t) = tree_clip t
  tree_clip (Tree.Binary op a b) = rw (tree_clip a, tree_clip b) refl
  tree_clip (Tree.ZeroPush t) = tree_clip t

  trees_clip : (ts : Trees) → all_formed is_symbolic (clip_all ts) ≡ all_formed is_symbolic ts
  trees_clip Trees.None = refl
  trees_clip (Trees.Then t ts) = rw (tree_clip t, trees_clip ts) refl

step_clip : (c : Option Tree) → value_formed is_symbolic (option_map clip c) ≡ value_formed is_symbolic c
step_clip None = refl
step_clip (Some t) = tree_clip t

-- lists whose items keep what is asked of them
some_clip : {X : Type 0} (p : X → Bool) (keep : X → X) → ((x : X) → p (keep x) ≡ p x) → (xs : List X) → some_all p (map keep xs) ≡ some_all p xs
some_clip p keep same [] = refl
some_clip p keep same (x ∷ xs) = each_clip p keep same (x ∷ xs)

group_clip : (g : GroupFields) → is_group is_symbolic (clip_group g) ≡ is_group is_symbolic g
group_clip g = rw (some_clip is_symbolic cut name_clip g.names, some_clip any_value clip_value (λ v. refl) g.values) refl

statement_clip : (s : Statement) → statement_formed is_symbolic (clip_statement s) ≡ statement_formed is_symbolic s
statement_clip (Statement.Subroutine name names) = rw (name_clip name, each_clip is_symbolic cut name_clip names) refl
statement_clip (Statement.Declare kind ds) = some_clip (is_decl is_symbolic) clip_decl (λ d. name_clip d.name) ds
statement_clip (Statement.Dimension ds) = rw (some_clip (is_decl is_symbolic) clip_decl (λ d. name_clip d.name) ds, all_bounded_clip ds) refl
statement_clip (Statement.Preset gs) = some_clip (is_group is_symbolic) clip_group group_clip gs
statement_clip (Statement.Assign name items t) = rw (name_clip name, trees_clip items, tree_clip t) refl
statement_clip (Statement.Goto label) = refl
statement_clip (Statement.ComputedGoto labels t) = rw (tree_clip t) refl
statement_clip (Statement.ArithIf t l m n) = tree_clip t
statement_clip (Statement.LogicalIf t s) = rw (tree_clip t, action_clip s, statement_clip s) refl
statement_clip (Statement.BlockIf t) = tree_clip t
statement_clip (Statement.ElseIf t) = tree_clip t
statement_clip (Statement.Loop label name a b c) = rw (name_clip name, tree_clip a, tree_clip b, step_clip c) refl
statement_clip _ = refl

-- what is kept of a statement that a text spells is formed exactly where its names have at most six characters
pub formed_short : (got s : Statement) → IsFormed got → got ≡ clip_statement s → statement_names s ≡ true
formed_short got s formed same =
    let own = formed_spelled s (sym (statement_clip s) ∙ ap (statement_formed is_symbolic) (sym same) ∙ is_symbolic_formed got formed) in own.2

pub unformed_long : {text : List ℕ} (got s : Statement) → ¬ (IsFormed got) → SpellsStatement text s → got ≡ clip_statement s → statement_names s ≡ false
unformed_long got s unformed p same = by (statement_names s) refl
  where
    by : (b : Bool) → statement_names s ≡ b → statement_names s ≡ false
    by true n =
        let own = is_symbolic_formed s (spelled_is_formed p n) in
        absurd (unformed (formed_spelled got (ap (statement_formed is_symbolic) same ∙ statement_clip s ∙ own)))
    by false n = n
