-- The lines of the operators asked for, with one operator more.
use Rattle.mothra_bench.proofs.Common.{◌≡◌, ◌∙◌, ap, List, ◌++◌, refl, [], ℕ, true, take, ◌∷◌, ◌+◌, ◌<◌, Bool, false, cond, append_assoc, append-nil, take_more}
use Rattle.mothra_bench.proofs.Common.{filter-append, flat_map, filter, all_ops, op_at, Op, Aar}
use Rattle.std.proofs.lemmas.Grind.{flat_map-append}

kept : (f : Op → List ℕ) (op : Op) (b : Bool) → flat_map f (cond b (op ∷ []) []) ≡ cond b (f op) []
kept f op true = append-nil (f op)
kept f op false = refl

pub lines_more : (f : Op → List ℕ) (p : Op → Bool) (i : ℕ) → i < 22
    → flat_map f (filter p (take (i + 1) all_ops)) ≡ flat_map f (filter p (take i all_ops)) ++ cond (p (op_at i)) (f (op_at i)) []
lines_more f p i below =
    ap (λ ops. flat_map f (filter p ops)) (take_more all_ops i Aar below)
    ∙ (ap (flat_map f) (filter-append p (take i all_ops) (op_at i ∷ []))
    ∙ (flat_map-append f (filter p (take i all_ops)) (filter p (op_at i ∷ []))
    ∙ ap (λ text. flat_map f (filter p (take i all_ops)) ++ text) (kept f (op_at i) (p (op_at i)))))

pub with_line : (f : Op → List ℕ) (p : Op → Bool) (i : ℕ) → i < 22 → p (op_at i) ≡ true → (start old new : List ℕ)
    → old ≡ start ++ flat_map f (filter p (take i all_ops)) → new ≡ old ++ f (op_at i) → new ≡ start ++ flat_map f (filter p (take (i + 1) all_ops))
with_line f p i below asked start old new before added =
    let more = lines_more f p i below in
    let line = ap (λ b. cond b (f (op_at i)) []) asked in
    let joined = append_assoc start (flat_map f (filter p (take i all_ops))) (f (op_at i)) in
    cc

pub without_line : (f : Op → List ℕ) (p : Op → Bool) (i : ℕ) → i < 22 → p (op_at i) ≡ false → (start old new : List ℕ)
    → old ≡ start ++ flat_map f (filter p (take i all_ops)) → new ≡ old → new ≡ start ++ flat_map f (filter p (take (i + 1) all_ops))
without_line f p i below unasked start old new before same =
    let more = lines_more f p i below in
    let line = ap (λ b. cond b (f (op_at i)) []) unasked in
    let ended = append-nil (flat_map f (filter p (take i all_ops))) in
    cc
