-- The least or the greatest of numbers, from the last of them to the first.
use Rattle.f77_check.proofs.Common.{◌≡◌, map, List, refl, ℕ, [], arith, length, ◌+◌, ◌<◌, get_or, ◌≤◌, ◌-◌, suc, drop, drop_all, Arithmetic, IsChosen, IsNumber}
use Rattle.f77_check.proofs.Common.{tree_count, Symbol, Tree, Trees, tree_of, trees, Expr}
use Rattle.std.proofs.Math.Seq.{drop-cons}
use Rattle.f77_actions.specs.declared.expression.Number.{Number, Binary'}

pub chosen_first : (bounds : Symbol → List ℕ) (names : List Symbol) (op : Arithmetic) (t : Tree) (ts : Trees) (p : _) (x : Number) (q : _) (y : Number)
    → 1 ≤ tree_count ts → IsNumber bounds names t x → IsChosen bounds names op ts y → IsChosen bounds names op (Trees.Then t ts) (Binary' op p x q y)
chosen_first bounds names op t Trees.None p x q y some h k = absurd k
chosen_first bounds names op t (Trees.Then u us) p x q y some h k = (refl, h, k)

-- the last item, and one more before the others
pub chosen_last : (bounds : Symbol → List ℕ) (names : List Symbol) (op : Arithmetic) (xs : List Expr) (x : Expr) (y : Number)
    → 0 < length xs → x ≡ get_or xs (length xs - 1) x → IsNumber bounds names (tree_of x) y
    → IsChosen bounds names op (trees (map tree_of (drop (length xs - 1) xs))) y
chosen_last bounds names op xs x y some is h =
    let below : length xs - 1 < length xs = omega (arith, some) in
    let split = drop-cons xs (length xs - 1) x below in
    let none : drop (suc (length xs - 1)) xs ≡ [] = drop_all (suc (length xs - 1)) xs (omega arith) in
    rw (split, none, ← is) h

pub chosen_more : (bounds : Symbol → List ℕ) (names : List Symbol) (op : Arithmetic) (xs : List Expr) (i : ℕ) (x : Expr) (p : _) (y : Number) (q : _) (z : Number)
    → i + 1 < length xs → x ≡ get_or xs i x → IsNumber bounds names (tree_of x) y → IsChosen bounds names op (trees (map tree_of (drop (suc i) xs))) z
    → IsChosen bounds names op (trees (map tree_of (drop i xs))) (Binary' op p y q z)
chosen_more bounds names op xs i x p y q z below is h k =
    let here : i < length xs = omega (arith, below) in
    let split = drop-cons xs i x here in
    let next : suc i < length xs = omega (arith, below) in
    let rest = drop-cons xs (suc i) x next in
    rw (split, ← is)
    (chosen_first bounds names op (tree_of x) (trees (map tree_of (drop (suc i) xs))) p y q z (rw rest (omega arith)) h k)
