-- The names of the intrinsic functions.
use Rattle.f77_syntax.proofs.Common.{refl, ◌∙◌, ap, ◌≡◌, List, ℕ, true, Some, None, false, Option, Bool, codes, cond, is_some, bytes_eq-Decides, bytes_eq}
use Rattle.f77_syntax.proofs.Common.{is_name, is_call, function_name, function_named, Tree, Trees, Intrinsic}
use Rattle.f77_tree.specs.declared.intrinsic.Intrinsic.TheVariants.{Mod, Iabs, Min0, Max0}

-- a function is found by its own name alone
pub named_is : (name : List ℕ) (f : Intrinsic) → function_named name ≡ Some f → name ≡ function_name f
unfolding function_named
named_is name f e = by_tests (bytes_eq name (codes "MOD")) refl (bytes_eq name (codes "IABS")) refl (bytes_eq name (codes "MIN0")) refl (bytes_eq name (codes "MAX0")) refl e
  where
    found : (g : Intrinsic) → bytes_eq name (function_name g) ≡ true → Some g ≡ Some f → name ≡ function_name f
    found g is e = let same : g ≡ f = cc in (bytes_eq-Decides name (function_name g)).0 is ∙ ap function_name same

    by_tests : (a : Bool) → bytes_eq name (codes "MOD") ≡ a → (b : Bool) → bytes_eq name (codes "IABS") ≡ b
        → (c : Bool) → bytes_eq name (codes "MIN0") ≡ c → (d : Bool) → bytes_eq name (codes "MAX0") ≡ d
        → cond a (Some Mod) (cond b (Some Iabs) (cond c (Some Min0) (cond d (Some Max0) None))) ≡ Some f → name ≡ function_name f
    by_tests true p b q c r d s e = found Mod p e
    by_tests false p true q c r d s e = found Iabs q e
    by_tests false p false q true r d s e = found Min0 r e
    by_tests false p false q false r true s e = found Max0 s e
    by_tests false p false q false r false s e = absurd cc

pub function_found : (f : Intrinsic) → function_named (function_name f) ≡ Some f
unfolding function_named
function_found Mod = refl
function_found _ = refl

pub function_is_name : (f : Intrinsic) → is_name (function_name f) ≡ true
function_is_name Mod = refl
function_is_name _ = refl

-- another name is not called
pub no_call : (name : List ℕ) (items : Trees) → function_named name ≡ None → is_call name items ≡ false
no_call name Trees.None h = refl
no_call name (Trees.Then t ts) h = rw h refl

pub not_function : (name : List ℕ) (t : Tree) (ts : Trees) → is_call name (Trees.Then t ts) ≡ false → function_named name ≡ None
not_function name t ts h = by_name (function_named name) refl h
  where
    by_name : (o : Option Intrinsic) → function_named name ≡ o → is_some o ≡ false → function_named name ≡ None
    by_name None is h = is
    by_name (Some f) is h = cc
