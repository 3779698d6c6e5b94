-- A legal program is short.
use Rattle.f77_run.proofs.Common.{◌≡◌, length, List, arith, refl, true, [], ◌≤◌, Bool, false, nat_lt, or_parts, IsLegal, is_too_large, too_large_faults}
use Rattle.f77_run.proofs.Common.{LineFields}
use Rattle.std.proofs.lemmas.Bool.Decides.{nat_tests}
use Rattle.f77_legal.proofs.LegalGives.{kept_by}

pub few_lines : (p : List LineFields) → IsLegal p → length p ≤ 500
few_lines p legal = by (is_too_large p) refl (kept_by p legal).sizes
  where
    by : (b : Bool) → is_too_large p ≡ b → too_large_faults p ≡ [] → length p ≤ 500
    by true e none = let some = rw e at none in absurd (cc (some))
    by false e none = let few = (or_parts (nat_lt 500 (length p)) _ e).0 in grind (arith, nat_tests)
