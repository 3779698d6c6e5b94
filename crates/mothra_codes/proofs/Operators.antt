-- An operator and its number.
use Rattle.std.proofs.Common.{◌≡◌, ℕ, zero, suc, ◌+◌, List, [], ◌∷◌, length, get_or, Bool, true, false, ◌&&◌, eqb, ◌<◌, refl, sym, ap, ◌∙◌, arith}
use Rattle.std.proofs.lemmas.Bool.Decides.{nat_tests}
use Rattle.mothra_codes.specs.declared.op.Op.{Op}
use Rattle.mothra_codes.specs.declared.op.Op.TheVariants.{Aar, Abs, Acr, Aor, Asr, Car, Cnr, Crp, Csr, Der, Dsa, Glr, Lcr, Ror, Rsr, San, Sar, Scr, Sdl, Src, Svr, Uoi}
use Rattle.mothra_codes.specs.Op.{index, all_ops}
use Rattle.mothra_codes.specs.code.Op.{op_at}

pub op_at-index : (op : Op) → op_at (index op) ≡ op
op_at-index Aar = refl
op_at-index Abs = refl
op_at-index Acr = refl
op_at-index Aor = refl
op_at-index Asr = refl
op_at-index Car = refl
op_at-index Cnr = refl
op_at-index Crp = refl
op_at-index Csr = refl
op_at-index Der = refl
op_at-index Dsa = refl
op_at-index Glr = refl
op_at-index Lcr = refl
op_at-index Ror = refl
op_at-index Rsr = refl
op_at-index San = refl
op_at-index Sar = refl
op_at-index Scr = refl
op_at-index Sdl = refl
op_at-index Src = refl
op_at-index Svr = refl
op_at-index Uoi = refl

pub index_below : (op : Op) → index op < 22
index_below Aar = omega arith
index_below Abs = omega arith
index_below Acr = omega arith
index_below Aor = omega arith
index_below Asr = omega arith
index_below Car = omega arith
index_below Cnr = omega arith
index_below Crp = omega arith
index_below Csr = omega arith
index_below Der = omega arith
index_below Dsa = omega arith
index_below Glr = omega arith
index_below Lcr = omega arith
index_below Ror = omega arith
index_below Rsr = omega arith
index_below San = omega arith
index_below Sar = omega arith
index_below Scr = omega arith
index_below Sdl = omega arith
index_below Src = omega arith
index_below Svr = omega arith
index_below Uoi = omega arith

-- two operators with the same number are the same
pub same_op : (a b : Op) → index a ≡ index b → a ≡ b
same_op a b e = sym (op_at-index a) ∙ ap op_at e ∙ op_at-index b

numbered : List Op → ℕ → Bool
numbered [] k = true
numbered (x ∷ xs) k = eqb (index x) k && numbered xs (suc k)

eqb_true : (a b : ℕ) → eqb a b ≡ true → a ≡ b
eqb_true a b e = grind (arith, nat_tests)

and_left : (a b : Bool) → (a && b) ≡ true → a ≡ true
and_left true b e = refl
and_left false b e = absurd (cc)

and_right : (a b : Bool) → (a && b) ≡ true → b ≡ true
and_right true b e = e
and_right false b e = absurd (cc)

number_at : (xs : List Op) (k i : ℕ) → numbered xs k ≡ true → i < length xs → index (get_or xs i (op_at 0)) ≡ k + i
unfolding numbered
number_at [] k i e h = absurd (omega arith)
number_at (x ∷ xs) k zero e h = let f = eqb_true (index x) k (and_left (eqb (index x) k) (numbered xs (suc k)) e) in omega arith
number_at (x ∷ xs) k (suc i) e h = let f = number_at xs (suc k) i (and_right (eqb (index x) k) (numbered xs (suc k)) e) (omega arith) in omega arith

pub index-op_at : (i : ℕ) → i < 22 → index (op_at i) ≡ i
unfolding numbered
index-op_at i h = let e = number_at all_ops 0 i refl h in omega arith
