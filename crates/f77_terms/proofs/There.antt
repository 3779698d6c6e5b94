-- What is there in a list, and what stays there.
use Rattle.f77_terms.proofs.Common.{◌≡◌, ◌<◌, ℕ, List, ◌++◌, length, take, get_or, sym, subst, All}
use Rattle.std.proofs.Math.Seq.{take-append_seam}

pub at_item : {X : Type 0} (P : X → Type 0) (xs : List X) (i : ℕ) (x : X) → i < length xs → x ≡ get_or xs i x → All P xs → P x
at_item P xs i x within is all = subst P (sym is) (all i x within)

-- a slice is written back as it is
pub written_back : {A : Type 0} (xs rest : List A) (n : ℕ) → length xs ≡ n → take n (xs ++ rest) ≡ xs
written_back xs rest n long = subst (λ k. take k (xs ++ rest) ≡ xs) long (take-append_seam xs rest)
