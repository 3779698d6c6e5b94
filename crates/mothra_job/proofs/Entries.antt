-- Which mutant a text names.
use Rattle.mothra_job.proofs.Common.{◌≡◌, Some, ◌++◌, ap, ◌∙◌, List, [], drop, sym, ◌∷◌, refl, Option, length, ℕ, Err, None, false, subst, ◌≤◌, Bool, Ok, true}
use Rattle.mothra_job.proofs.Common.{◌<◌, Result, arith, suc, ap₂, codes, cond, get_or, option_and_then, true≢false, IfSome, bytes_eq, le-leb, leb-true, lit<}
use Rattle.mothra_job.proofs.Common.{nat_le, take, zero, ◌&&◌, ◌^◌, ◌≢◌, named, if_named, ticket_text}
use Rattle.std.specs.Fmt.{decimal}
use Rattle.std.specs.Bool.{Decides}
use Rattle.std.specs.Borrow.{Bor}
use Rattle.std.specs.Option.{MatchOption}
use Rattle.std.specs.Result.{result_ok}
use Rattle.std.specs.Str.Parse.{IsNumeral, ParsesUnsigned, digits_value, without_leading_plus}
use Rattle.std.proofs.lemmas.Bool.{and_parts}
use Rattle.std.proofs.lemmas.Fmt.{decimal-digits_value, decimal_digit, digits_value-decimal, first_decimal, parse-decimal}
use Rattle.std.proofs.lemmas.Slice.Eq.{bytes_eq-Decides}
use Rattle.std.proofs.lemmas.Str.Parse.{numerals_by_value, tells_digits, without_leading_plus_none}
use Rattle.std.proofs.lemmas.Str.Pattern.{IsSplitOnceResult, split_after}
use Rattle.mothra_cli.specs.Operators.{operator_of}
use Rattle.mothra_codes.proofs.Codes.{op_found}
use Rattle.mothra_codes.specs.Op.{code_of}
use Rattle.mothra_codes.specs.declared.op.Op.{Op}
use Rattle.mothra_codes.specs.declared.op.Op.TheVariants.{Aar, Abs, Acr, Aor, Asr, Car, Cnr, Crp, Csr, Der, Dsa, Glr, Lcr, Ror, Rsr, San, Sar, Scr, Sdl, Src}
use Rattle.mothra_codes.specs.declared.op.Op.TheVariants.{Svr, Uoi}
use Rattle.mothra_codes.specs.Ticket.{ticket}
use Rattle.mothra_codes.specs.declared.ticket.Ticket.{Ticket}
use Rattle.mothra_job.specs.code.{Names}

-- ---- a code has three letters, none of them a blank

letters : (op : Op) → (a : ℕ) × (b : ℕ) × (c : ℕ) × (code_of op ≡ a ∷ b ∷ c ∷ []) × ((32 < a) × (32 < b) × (32 < c))
letters Aar = (65, 65, 82, refl, (lit< tt, lit< tt, lit< tt))
letters Abs = (65, 66, 83, refl, (lit< tt, lit< tt, lit< tt))
letters Acr = (65, 67, 82, refl, (lit< tt, lit< tt, lit< tt))
letters Aor = (65, 79, 82, refl, (lit< tt, lit< tt, lit< tt))
letters Asr = (65, 83, 82, refl, (lit< tt, lit< tt, lit< tt))
letters Car = (67, 65, 82, refl, (lit< tt, lit< tt, lit< tt))
letters Cnr = (67, 78, 82, refl, (lit< tt, lit< tt, lit< tt))
letters Crp = (67, 82, 80, refl, (lit< tt, lit< tt, lit< tt))
letters Csr = (67, 83, 82, refl, (lit< tt, lit< tt, lit< tt))
letters Der = (68, 69, 82, refl, (lit< tt, lit< tt, lit< tt))
letters Dsa = (68, 83, 65, refl, (lit< tt, lit< tt, lit< tt))
letters Glr = (71, 76, 82, refl, (lit< tt, lit< tt, lit< tt))
letters Lcr = (76, 67, 82, refl, (lit< tt, lit< tt, lit< tt))
letters Ror = (82, 79, 82, refl, (lit< tt, lit< tt, lit< tt))
letters Rsr = (82, 83, 82, refl, (lit< tt, lit< tt, lit< tt))
letters San = (83, 65, 78, refl, (lit< tt, lit< tt, lit< tt))
letters Sar = (83, 65, 82, refl, (lit< tt, lit< tt, lit< tt))
letters Scr = (83, 67, 82, refl, (lit< tt, lit< tt, lit< tt))
letters Sdl = (83, 68, 76, refl, (lit< tt, lit< tt, lit< tt))
letters Src = (83, 82, 67, refl, (lit< tt, lit< tt, lit< tt))
letters Svr = (83, 86, 82, refl, (lit< tt, lit< tt, lit< tt))
letters Uoi = (85, 79, 73, refl, (lit< tt, lit< tt, lit< tt))

pub no_blank : (op : Op) (i : ℕ) → i < length (code_of op) → get_or (code_of op) i 0 ≢ 32
no_blank op i low e =
    let l = letters op in
    at l.0 l.1 l.2 l.4 i (subst (λ xs. i < length xs) l.3 low) (subst (λ xs. get_or xs i 0 ≡ 32) l.3 e)
  where
    at : (a b c : ℕ) → (32 < a) × (32 < b) × (32 < c) → (i : ℕ) → i < length (a ∷ b ∷ c ∷ []) → get_or (a ∷ b ∷ c ∷ []) i 0 ≡ 32 → ⊥
    at a b c h zero low e = omega (arith, h.0, e)
    at a b c h (suc zero) low e = omega (arith, h.1, e)
    at a b c h (suc (suc zero)) low e = omega (arith, h.2, e)
    at a b c h (suc (suc (suc i))) low e = omega (arith, low)

parts : (text : List ℕ) (op : Op) (digits : List ℕ) → text ≡ code_of op ++ (codes " " ++ digits)
    → (take 3 text ≡ code_of op) × (drop 4 text ≡ digits)
parts text op digits is =
    let l = letters op in (
      ap (take 3) is ∙ ap (λ code. take 3 (code ++ (codes " " ++ digits))) l.3 ∙ sym l.3,
      ap (drop 4) is ∙ ap (λ code. drop 4 (code ++ (codes " " ++ digits))) l.3,
    )

-- ---- the mutant that a text names

in_bounds : (text : List ℕ) (t u : Ticket) → if_named text u ≡ Some t → Names text t
in_bounds text t u e = go ((nat_le 1 u.number && nat_le u.number 1048575) && bytes_eq (ticket_text u) text) refl e
  where
    go : (b : Bool) → ((nat_le 1 u.number && nat_le u.number 1048575) && bytes_eq (ticket_text u) text) ≡ b
        → cond b (Some u) None ≡ Some t → Names text t
    go false is f = cc
    go true is f =
        let same : u ≡ t = cc in
        let all = and_parts _ _ is in
        let bounds = and_parts _ _ all.0 in
        subst (Names text) same (sym ((bytes_eq-Decides (ticket_text u) text).0 all.1), leb-true _ _ bounds.0, leb-true _ _ bounds.1)

pub named_sound : (text : List ℕ) (t : Ticket) → named text ≡ Some t → Names text t
unfolding named
named_sound text t e = go (operator_of (take 3 text)) e
  where
    go : (o : Option Op) → option_and_then (λ op. if_named text (ticket op (digits_value 10 (drop 4 text)))) o ≡ Some t → Names text t
    go None f = cc
    go (Some op) f = in_bounds text t (ticket op (digits_value 10 (drop 4 text))) f

pub named_complete : (text : List ℕ) (t : Ticket) → Names text t → named text ≡ Some t
unfolding named
named_complete text t names =
    let is = parts text t.op (decimal t.number) names.0 in
    let small : t.number < 2 ^ 64 = omega (arith, names.2) in
    let front : operator_of (take 3 text) ≡ Some t.op = ap operator_of is.0 ∙ op_found t.op in
    let back : digits_value 10 (drop 4 text) ≡ t.number =
    ap (λ ds. digits_value 10 ds) is.1 ∙ digits_value-decimal (numerals_by_value _ tells_digits) t.number small in
    let same : bytes_eq (ticket_text t) text ≡ true = (bytes_eq-Decides (ticket_text t) text).1 (sym names.0) in
    ap₂ (λ o n. option_and_then (λ op. if_named text (ticket op n)) o) front back
    ∙ rw (le-leb 1 t.number names.1, le-leb t.number 1048575 names.2, same) refl

-- a search that finds each mutant which the text names, and no other, is the definition
pub is_named : (text : List ℕ) (r : Option Ticket) → ((t : Ticket) → Names text t → r ≡ Some t) → IfSome r (Names text) → r ≡ named text
is_named text (Some t) known only = sym (named_complete text t only)
is_named text None known only = go (named text) refl
  where
    go : (o : Option Ticket) → named text ≡ o → None ≡ named text
    go None is = sym is
    go (Some t) is = known t (named_sound text t is) ∙ sym is

-- ---- its parts

-- the text before the first blank is the code, and that after it the number
pub cut : (text : List ℕ) (r : Option (Bor (List ℕ) × Bor (List ℕ))) → IsSplitOnceResult 32 text r → (t : Ticket) → Names text t
    → MatchOption r ⊥ (λ x. (x.0.now ≡ code_of t.op) × (x.1.now ≡ decimal t.number))
cut text r split t names = split_after 32 text (code_of t.op) (decimal t.number) r split (lit< tt) names.0 (no_blank t.op)

-- a code, a blank and a number are the text
pub joined : (text code digits : List ℕ) (t : Ticket) → text ≡ code ++ (32 ∷ digits) → code ≡ code_of t.op → digits ≡ decimal t.number
    → 1 ≤ t.number → t.number ≤ 1048575 → Names text t
joined text code digits t is front back some few = (is ∙ ap₂ (λ a b. a ++ (32 ∷ b)) front back, some, few)

-- ---- the number

no_sign : (digits : List ℕ) (n : ℕ) → 1 ≤ n → n ≤ 1048575 → digits ≡ decimal n → 48 < get_or digits 0 0
no_sign digits n some few is =
    subst (λ ds. 48 < get_or ds 0 0) (sym is) (first_decimal n (omega (arith, some)) (omega (arith, few)))

-- no such number begins with a sign or a zero
pub never_led_by : (digits : List ℕ) (n c : ℕ) (led : Bool) → Decides led (get_or digits 0 0 ≡ c) → led ≡ true → c ≤ 48 → 1 ≤ n → n ≤ 1048575
    → digits ≡ decimal n → ⊥
never_led_by digits n c led decides is low some few same =
    let first : get_or digits 0 0 ≡ c = decides.0 is in
    let above : 48 < get_or digits 0 0 = no_sign digits n some few same in
    omega (arith, first, above, low)

pub not_led_by : (led : Bool) (P : Type 0) → Decides led P → led ≡ false → ¬ P
not_led_by led P decides is holds = true≢false (sym (decides.1 holds) ∙ is)

pub ok_is : {E : Type 0} (r : Result ℕ E) (n : ℕ) → Some n ≡ result_ok r → r ≡ Ok n
ok_is (Ok m) n e = let same : n ≡ m = cc in ap Ok (sym same)
ok_is (Err f) n e = cc

pub read_back : {E : Type 0} (digits : List ℕ) (r : Result ℕ E) (n : ℕ) → ParsesUnsigned 32 10 digits r → n ≤ 1048575 → digits ≡ decimal n
    → r ≡ Ok n
read_back digits r n parses few is = parse-decimal 32 n digits r (omega (arith, few)) (omega (arith, few)) is parses

-- digits that begin with no sign and no zero are the decimal text of their number
pub written : {E : Type 0} (digits : List ℕ) (n : ℕ) (r : Result ℕ E) → r ≡ Ok n → ParsesUnsigned 32 10 digits r
    → get_or digits 0 0 ≢ 43 → get_or digits 0 0 ≢ 48 → (digits ≡ decimal n) × (1 ≤ n)
written digits n r is parses no_plus no_zero =
    let read : (IsNumeral 10 (without_leading_plus digits) × (digits_value 10 (without_leading_plus digits) < 2 ^ 32))
    × (n ≡ digits_value 10 (without_leading_plus digits)) =
    subst (λ x. ParsesUnsigned 32 10 digits x) is parses in
    let plain = without_leading_plus_none digits no_plus in
    let numeral : IsNumeral 10 digits × (digits_value 10 digits < 2 ^ 32) =
    subst (λ ds. IsNumeral 10 ds × (digits_value 10 ds < 2 ^ 32)) plain read.0 in
    let value : n ≡ digits_value 10 digits = read.1 ∙ ap (λ ds. digits_value 10 ds) plain in
    let spelled : decimal (digits_value 10 digits) ≡ digits =
    decimal-digits_value (numerals_by_value _ tells_digits) digits numeral.0.1 numeral.0.0 (λ first. absurd (no_zero first)) (omega (arith, numeral.1)) in
    let whole : digits ≡ decimal n = sym spelled ∙ ap decimal (sym value) in
    (whole, positive n whole)
  where
    positive : (m : ℕ) → digits ≡ decimal m → 1 ≤ m
    positive zero e = absurd (no_zero (ap (λ ds. get_or ds 0 0) (e ∙ decimal_digit 0 (omega arith))))
    positive (suc m) e = omega arith
