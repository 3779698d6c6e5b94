-- A plan, tests and declared entries have a bench, or exactly one reason why they have none.
use Rattle.mothra_app.proofs.Common.{◌≡◌, sym, ℕ, subst, List, ◌∙◌, ap, refl, [], ◌++◌, arith, length, ◌∷◌, ◌≤◌, true, ◌+◌, ◌<◌, append_assoc, All, get_or}
use Rattle.mothra_app.proofs.Common.{length-append, ◌≢◌, get_or_append_left, length_push, Arg}
use Rattle.mothra_app.proofs.Common.{program_of, PlanFields, asked, IsNoBench, AreFine, EndsOn, FitsProgram, IsFirstNot, IsEntryTwice}
use Rattle.mothra_app.proofs.Common.{IsKnownEntry, IsUnknownEntry, BenchFault}
use Rattle.std.proofs.Math.Seq.{get_or-append_seam}
use Rattle.mothra_codes.specs.declared.ticket.Ticket.{Ticket}
use Rattle.mothra_verdicts.specs.declared.fault.BenchFault.TheVariants as bench
use Rattle.mothra_app.proofs.EqualPlans.{AreEqualPlans, turned}
use Rattle.mothra_app.proofs.FirstBreaks.{all_hold, item_holds, one_cut, one_first_not}

-- The reasons why there is no bench, apart from a lack of memory.
pub data IsRefused (plan : PlanFields) (tests : List (List Arg)) (steps : ℕ) (declared : List Ticket) : BenchFault → Type 0 where
  misfit : {n : ℕ} → IsFirstNot (FitsProgram (program_of plan)) tests n → IsRefused plan tests steps declared (bench.TestShape n)
  failing : {n : ℕ} → All (FitsProgram (program_of plan)) tests → IsFirstNot (EndsOn (program_of plan) steps) tests n
      → IsRefused plan tests steps declared (bench.OriginalFails n)
  unknown : {n : ℕ} → All (FitsProgram (program_of plan)) tests → All (EndsOn (program_of plan) steps) tests → IsUnknownEntry plan declared n
      → IsRefused plan tests steps declared (bench.EquivalentUnknown n)
  twice : {n : ℕ} → All (FitsProgram (program_of plan)) tests → All (EndsOn (program_of plan) steps) tests → IsEntryTwice plan declared n
      → IsRefused plan tests steps declared (bench.EquivalentTwice n)

pub refused : (plan : PlanFields) (tests : List (List Arg)) (steps : ℕ) (declared : List Ticket) (fault : BenchFault) → fault ≢ bench.Memory
    → IsNoBench plan tests steps declared fault → IsRefused plan tests steps declared fault
refused plan tests steps declared bench.Memory other none = absurd (other refl)
refused plan tests steps declared (bench.TestShape n) other none = IsRefused.misfit none
refused plan tests steps declared (bench.OriginalFails n) other none = IsRefused.failing none.0 none.1
refused plan tests steps declared (bench.EquivalentUnknown n) other none = IsRefused.unknown none.0 none.1 none.2
refused plan tests steps declared (bench.EquivalentTwice n) other none = IsRefused.twice none.0 none.1 none.2
refused plan tests steps declared bench.Thread other none = absurd none
refused plan tests steps declared (bench.Double t) other none = absurd none
refused plan tests steps declared (bench.Stranger t) other none = absurd none
refused plan tests steps declared (bench.Missing t) other none = absurd none
refused plan tests steps declared bench.Stalled other none = absurd none

-- ---- entries

fine_front : (plan : PlanFields) (xs ys : List Ticket) → AreFine plan (xs ++ ys) → AreFine plan xs
fine_front plan xs ys fine = record {
  known = λ k d low. subst (IsKnownEntry plan) (get_or_append_left xs ys d k low) (fine.known k d (omega (arith, low, length-append xs ys)));
  once = λ i j d less low of same.
      let left : get_or (xs ++ ys) i d ≡ get_or xs i d = get_or_append_left xs ys d i (omega (arith, less, low)) in
      let right : get_or (xs ++ ys) j d ≡ get_or xs j d = get_or_append_left xs ys d j low in
      fine.once i j d less (omega (arith, low, length-append xs ys)) (subst (λ (e : Ticket). asked plan e.op ≡ true) (sym left) of) (left ∙ same ∙ sym right);
}

unknown_fails : {plan : PlanFields} {entries : List Ticket} {n : ℕ} (is : IsUnknownEntry plan entries n) → AreFine plan (is.before ++ is.entry ∷ []) → ⊥
unknown_fails {plan} is fine = is.unknown (item_holds (IsKnownEntry plan) is.before [] is.entry fine.known)

twice_fails : {plan : PlanFields} {entries : List Ticket} {n : ℕ} (is : IsEntryTwice plan entries n) → AreFine plan (is.before ++ is.entry ∷ []) → ⊥
twice_fails {plan} is fine =
    let k = is.twice.0 in
    let low : k < length is.before = is.twice.1 in
    let whole = is.before ++ is.entry ∷ [] in
    let left : get_or whole k is.entry ≡ is.entry = get_or_append_left is.before (is.entry ∷ []) is.entry k low ∙ is.twice.2 in
    let right : get_or whole (length is.before) is.entry ≡ is.entry = get_or-append_seam is.before is.entry [] is.entry in
    fine.once k (length is.before) is.entry low (omega (arith, length_push is.before is.entry))
    (subst (λ (e : Ticket). asked plan e.op ≡ true) (sym left) is.asked) (left ∙ sym right)

-- only one entry has a front that is fine without it and not fine with it
cut_of : {plan : PlanFields} {entries : List Ticket} (before after others behind : List Ticket) (one other : Ticket) → entries ≡ before ++ one ∷ after
    → entries ≡ others ++ other ∷ behind → AreFine plan before → (AreFine plan (before ++ one ∷ []) → ⊥) → AreFine plan others
    → (AreFine plan (others ++ other ∷ []) → ⊥) → (length before ≡ length others) × (one ≡ other)
cut_of {plan} before after others behind one other cut also fine fails fine_too fails_too =
    one_cut (AreFine plan) (fine_front plan) before after others behind one other (sym cut ∙ also) fine fails fine_too fails_too

one_number : (before others : List Ticket) (n m : ℕ) → length before ≡ length others → n ≡ length before + 1 → m ≡ length others + 1 → n ≡ m
one_number before others n m same is also = is ∙ ap (λ (k : ℕ). k + 1) same ∙ sym also

one_unknown : {plan : PlanFields} {entries : List Ticket} {n m : ℕ} → IsUnknownEntry plan entries n → IsUnknownEntry plan entries m → n ≡ m
one_unknown {plan} {entries} {n} {m} one two =
    let cut = cut_of one.before one.after two.before two.after one.entry two.entry one.cut two.cut one.fine (unknown_fails one) two.fine (unknown_fails two) in
    one_number one.before two.before n m cut.0 one.number two.number

one_twice : {plan : PlanFields} {entries : List Ticket} {n m : ℕ} → IsEntryTwice plan entries n → IsEntryTwice plan entries m → n ≡ m
one_twice {plan} {entries} {n} {m} one two =
    let cut = cut_of one.before one.after two.before two.after one.entry two.entry one.cut two.cut one.fine (twice_fails one) two.fine (twice_fails two) in
    one_number one.before two.before n m cut.0 one.number two.number

never_both : {plan : PlanFields} {entries : List Ticket} {n m : ℕ} {A : Type 0} → IsUnknownEntry plan entries n → IsEntryTwice plan entries m → A
never_both {plan} one two =
    let cut = cut_of one.before one.after two.before two.after one.entry two.entry one.cut two.cut one.fine (unknown_fails one) two.fine (twice_fails two) in
    absurd (one.unknown (subst (IsKnownEntry plan) (sym cut.1) two.known))

fine_behind : {plan : PlanFields} {entries : List Ticket} (before after : List Ticket) (one : Ticket) → entries ≡ before ++ one ∷ after → AreFine plan entries
    → AreFine plan (before ++ one ∷ [])
fine_behind {plan} before after one cut fine =
    fine_front plan (before ++ one ∷ []) after (subst (AreFine plan) (cut ∙ sym (append_assoc before (one ∷ []) after)) fine)

-- ---- one reason

pub one_refusal : {plan : PlanFields} {tests : List (List Arg)} {steps : ℕ} {declared : List Ticket} {one other : BenchFault}
    → IsRefused plan tests steps declared one → IsRefused plan tests steps declared other → one ≡ other
one_refusal (IsRefused.misfit is) (IsRefused.misfit also) = ap (λ (n : ℕ). bench.TestShape n) (one_first_not _ _ _ _ is also)
one_refusal (IsRefused.misfit is) (IsRefused.failing fit also) = absurd (all_hold _ _ _ is fit)
one_refusal (IsRefused.misfit is) (IsRefused.unknown fit end also) = absurd (all_hold _ _ _ is fit)
one_refusal (IsRefused.misfit is) (IsRefused.twice fit end also) = absurd (all_hold _ _ _ is fit)
one_refusal (IsRefused.failing fit is) (IsRefused.misfit also) = absurd (all_hold _ _ _ also fit)
one_refusal (IsRefused.failing fit is) (IsRefused.failing fits also) = ap (λ (n : ℕ). bench.OriginalFails n) (one_first_not _ _ _ _ is also)
one_refusal (IsRefused.failing fit is) (IsRefused.unknown fits end also) = absurd (all_hold _ _ _ is end)
one_refusal (IsRefused.failing fit is) (IsRefused.twice fits end also) = absurd (all_hold _ _ _ is end)
one_refusal (IsRefused.unknown fit end is) (IsRefused.misfit also) = absurd (all_hold _ _ _ also fit)
one_refusal (IsRefused.unknown fit end is) (IsRefused.failing fits also) = absurd (all_hold _ _ _ also end)
one_refusal (IsRefused.unknown fit end is) (IsRefused.unknown fits ends also) = ap (λ (n : ℕ). bench.EquivalentUnknown n) (one_unknown is also)
one_refusal (IsRefused.unknown fit end is) (IsRefused.twice fits ends also) = never_both is also
one_refusal (IsRefused.twice fit end is) (IsRefused.misfit also) = absurd (all_hold _ _ _ also fit)
one_refusal (IsRefused.twice fit end is) (IsRefused.failing fits also) = absurd (all_hold _ _ _ also end)
one_refusal (IsRefused.twice fit end is) (IsRefused.unknown fits ends also) = never_both also is
one_refusal (IsRefused.twice fit end is) (IsRefused.twice fits ends also) = ap (λ (n : ℕ). bench.EquivalentTwice n) (one_twice is also)

-- where there is a bench, there is no such reason
pub never_refused : {plan : PlanFields} {tests : List (List Arg)} {steps : ℕ} {declared : List Ticket} {fault : BenchFault}
    → IsRefused plan tests steps declared fault → All (FitsProgram (program_of plan)) tests → All (EndsOn (program_of plan) steps) tests → AreFine plan declared → ⊥
never_refused (IsRefused.misfit is) fit end fine = all_hold _ _ _ is fit
never_refused (IsRefused.failing fits is) fit end fine = all_hold _ _ _ is end
never_refused (IsRefused.unknown fits ends is) fit end fine = unknown_fails is (fine_behind is.before is.after is.entry is.cut fine)
never_refused (IsRefused.twice fits ends is) fit end fine = twice_fails is (fine_behind is.before is.after is.entry is.cut fine)

-- ---- the same of a plan with the same lists

known_moved : (one other : PlanFields) (entry : Ticket) → AreEqualPlans one other → IsKnownEntry one entry → IsKnownEntry other entry
known_moved one other entry equal known =
    λ of. let number = known (equal.same_asked entry.op ∙ of) in (number.0, subst (λ (w : ℕ). entry.number ≤ w) (equal.same_whole entry.op) number.1)

pub fine_moved : (one other : PlanFields) (entries : List Ticket) → AreEqualPlans one other → AreFine one entries → AreFine other entries
fine_moved one other entries equal fine = record {
  known = λ k d low. known_moved one other (get_or entries k d) equal (fine.known k d low);
  once = λ i j d less low of. fine.once i j d less low (equal.same_asked (get_or entries i d).op ∙ of);
}

unknown_moved : (one other : PlanFields) (entries : List Ticket) (n : ℕ) → AreEqualPlans one other → IsUnknownEntry one entries n → IsUnknownEntry other entries n
unknown_moved one other entries n equal is = record {
  before = is.before;
  entry = is.entry;
  after = is.after;
  cut = is.cut;
  number = is.number;
  fine = fine_moved one other is.before equal is.fine;
  unknown = λ known. is.unknown (known_moved other one is.entry (turned one other equal) known);
}

twice_moved : (one other : PlanFields) (entries : List Ticket) (n : ℕ) → AreEqualPlans one other → IsEntryTwice one entries n → IsEntryTwice other entries n
twice_moved one other entries n equal is = record {
  before = is.before;
  entry = is.entry;
  after = is.after;
  cut = is.cut;
  number = is.number;
  fine = fine_moved one other is.before equal is.fine;
  asked = sym (equal.same_asked is.entry.op) ∙ is.asked;
  known = known_moved one other is.entry equal is.known;
  twice = is.twice;
}

pub refused_moved : {tests : List (List Arg)} {steps : ℕ} {declared : List Ticket} {fault : BenchFault} (one other : PlanFields) → AreEqualPlans one other
    → IsRefused one tests steps declared fault → IsRefused other tests steps declared fault
refused_moved {tests} {steps} {declared} one other equal (IsRefused.misfit {n = n} is) =
    IsRefused.misfit (subst (λ p. IsFirstNot (FitsProgram p) tests n) equal.program is)
refused_moved {tests} {steps} {declared} one other equal (IsRefused.failing {n = n} fit is) =
    IsRefused.failing (subst (λ p. All (FitsProgram p) tests) equal.program fit) (subst (λ p. IsFirstNot (EndsOn p steps) tests n) equal.program is)
refused_moved {tests} {steps} {declared} one other equal (IsRefused.unknown {n = n} fit end is) =
    IsRefused.unknown (subst (λ p. All (FitsProgram p) tests) equal.program fit) (subst (λ p. All (EndsOn p steps) tests) equal.program end)
    (unknown_moved one other declared n equal is)
refused_moved {tests} {steps} {declared} one other equal (IsRefused.twice {n = n} fit end is) =
    IsRefused.twice (subst (λ p. All (FitsProgram p) tests) equal.program fit) (subst (λ p. All (EndsOn p steps) tests) equal.program end)
    (twice_moved one other declared n equal is)
