-- The operators by number and by code.
use Rattle.std.specs.Prelude.{ℕ, List, [], ◌∷◌, codes}
use Rattle.mothra_codes.specs.declared.op.Op.{Op}
use Rattle.mothra_codes.specs.declared.op.Op.TheVariants.{Aar, Abs, Acr, Aor, Asr, Car, Cnr, Crp, Csr, Der, Dsa}
use Rattle.mothra_codes.specs.declared.op.Op.TheVariants.{Glr, Lcr, Ror, Rsr, San, Sar, Scr, Sdl, Src, Svr, Uoi}

-- Rule: codes of operators
-- the operator's place in the order, from 0
abbrev pub index : Op → ℕ
index Aar = 0
index Abs = 1
index Acr = 2
index Aor = 3
index Asr = 4
index Car = 5
index Cnr = 6
index Crp = 7
index Csr = 8
index Der = 9
index Dsa = 10
index Glr = 11
index Lcr = 12
index Ror = 13
index Rsr = 14
index San = 15
index Sar = 16
index Scr = 17
index Sdl = 18
index Src = 19
index Svr = 20
index Uoi = 21

-- all operators in their order
abbrev pub all_ops : List Op
all_ops = Aar ∷ Abs ∷ Acr ∷ Aor ∷ Asr ∷ Car ∷ Cnr
    ∷ Crp ∷ Csr ∷ Der ∷ Dsa ∷ Glr ∷ Lcr ∷ Ror ∷ Rsr ∷ San ∷ Sar ∷ Scr ∷ Sdl ∷ Src ∷ Svr ∷ Uoi ∷ []

-- Rule: codes of operators
-- the operator's code: three letters (King and Offutt 1991)
abbrev pub code_of : Op → List ℕ
code_of Aar = codes "AAR"
code_of Abs = codes "ABS"
code_of Acr = codes "ACR"
code_of Aor = codes "AOR"
code_of Asr = codes "ASR"
code_of Car = codes "CAR"
code_of Cnr = codes "CNR"
code_of Crp = codes "CRP"
code_of Csr = codes "CSR"
code_of Der = codes "DER"
code_of Dsa = codes "DSA"
code_of Glr = codes "GLR"
code_of Lcr = codes "LCR"
code_of Ror = codes "ROR"
code_of Rsr = codes "RSR"
code_of San = codes "SAN"
code_of Sar = codes "SAR"
code_of Scr = codes "SCR"
code_of Sdl = codes "SDL"
code_of Src = codes "SRC"
code_of Svr = codes "SVR"
code_of Uoi = codes "UOI"
