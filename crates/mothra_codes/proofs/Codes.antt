-- An operator is found by its code.
use Rattle.std.proofs.Common.{◌≡◌, Some, refl}
use Rattle.std.specs.List.{find}
use Rattle.std.specs.Str.{bytes_eq}
use Rattle.mothra_codes.specs.declared.op.Op.{Op}
use Rattle.mothra_codes.specs.declared.op.Op.TheVariants.{Aar, Abs, Acr, Aor, Asr, Car, Cnr, Crp, Csr, Der, Dsa, Glr, Lcr, Ror, Rsr, San, Sar, Scr, Sdl, Src, Svr, Uoi}
use Rattle.mothra_codes.specs.Op.{all_ops, code_of}

pub op_found : (op : Op) → find (λ x. bytes_eq (code_of x) (code_of op)) all_ops ≡ Some op
op_found Aar = refl
op_found Abs = refl
op_found Acr = refl
op_found Aor = refl
op_found Asr = refl
op_found Car = refl
op_found Cnr = refl
op_found Crp = refl
op_found Csr = refl
op_found Der = refl
op_found Dsa = refl
op_found Glr = refl
op_found Lcr = refl
op_found Ror = refl
op_found Rsr = refl
op_found San = refl
op_found Sar = refl
op_found Scr = refl
op_found Sdl = refl
op_found Src = refl
op_found Svr = refl
op_found Uoi = refl
