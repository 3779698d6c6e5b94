-- Declared entries are added to the set in order.
use Rattle.mothra_verdicts.proofs.Common.{◌≡◌, subst, List, sym, ap, arith, length, take, ℕ, [], ◌<◌, ◌∷◌, inl, inr, take_all, true, ◌++◌, get_or, ◌+◌, ◌⊎◌}
use Rattle.mothra_verdicts.proofs.Common.{Contains, drop, length-take-le, ◌≤◌, ◌^◌, All-nil, All-push, Contains-append_left, Contains-push, Contains-push_cases}
use Rattle.mothra_verdicts.proofs.Common.{Contains-get_or, Ticket, PlanFields, asked, AreNamed, AreFine, IsEntryTwice, IsKnownEntry, IsUnknownEntry, AddsTicket}
use Rattle.mothra_verdicts.proofs.Common.{IsNoted}
use Rattle.std.proofs.lemmas.List.{get_or_default}
use Rattle.std.proofs.lemmas.List.Quantifiers.{all_pairs_push}
use Rattle.mothra_verdicts.specs.declared.equivalents.Noted.{Noted}
use Rattle.mothra_verdicts.specs.declared.equivalents.Noted.TheVariants.{Fine, Unknown, Twice}
use Rattle.mothra_verdicts.proofs.BenchTests.{cut_at, next_taken}

-- the entries are fine, and the keys are their set
pub record AreNoted (plan : PlanFields) (entries keys : List Ticket) : Type 0 where
  pub fine : AreFine plan entries
  pub named : AreNamed entries keys

no_entry : (one : Ticket) → Contains [] one → ⊥
no_entry one has = absurd (omega (arith, has.1))

pub none_noted : (plan : PlanFields) (keys : List Ticket) → keys ≡ [] → AreNoted plan [] keys
none_noted plan keys empty = record {
  fine = record { known = All-nil (IsKnownEntry plan); once = λ i j d less within. absurd (omega (arith, within)) };
  named = record {
    same = λ one. (λ has. absurd (no_entry one (subst (λ (ks : List Ticket). Contains ks one) empty has)), λ has. absurd (no_entry one has));
    fit = All-nil (λ (entry : Ticket). entry.number < 2 ^ 32);
  };
}

-- an entry that names a mutant which none of those before it names
another : (plan : PlanFields) (entries : List Ticket) (entry : Ticket) → (asked plan entry.op ≡ true → ¬ (Contains entries entry))
    → (k : ℕ) (d : Ticket) → k < length entries → asked plan (get_or entries k d).op ≡ true → ¬ (get_or entries k d ≡ entry)
another plan entries entry new k d within of same =
    new (subst (λ (one : Ticket). asked plan one.op ≡ true) same of) (subst (Contains entries) same (Contains-get_or entries k d within))

fine_more : (plan : PlanFields) (entries : List Ticket) (entry : Ticket) → AreFine plan entries → IsKnownEntry plan entry
    → (asked plan entry.op ≡ true → ¬ (Contains entries entry)) → AreFine plan (entries ++ entry ∷ [])
fine_more plan entries entry fine known new = record {
  known = All-push (IsKnownEntry plan) entries entry fine.known known;
  once = all_pairs_push (λ one other. asked plan one.op ≡ true → ¬ (one ≡ other)) entries entry fine.once (another plan entries entry new);
}

-- the set of the entries with one entry more
there : (entries keys : List Ticket) (entry one : Ticket) → AreNamed entries keys → (Contains keys one ⊎ (entry ≡ one)) → Contains (entries ++ entry ∷ []) one
there entries keys entry one named (inl has) = Contains-append_left entries (entry ∷ []) one ((named.same one).0 has)
there entries keys entry one named (inr same) = subst (Contains (entries ++ entry ∷ [])) same (Contains-push entries entry)

held : (entries keys : List Ticket) (entry one : Ticket) → AreNamed entries keys → (Contains entries one ⊎ (entry ≡ one)) → (Contains keys one ⊎ (entry ≡ one))
held entries keys entry one named (inl has) = inl ((named.same one).1 has)
held entries keys entry one named (inr same) = inr same

named_more : (entries keys more : List Ticket) (entry : Ticket) → AreNamed entries keys → AddsTicket keys entry more → entry.number < 2 ^ 32
    → AreNamed (entries ++ entry ∷ []) more
named_more entries keys more entry named adds small = record {
  same = λ one. (
    λ has. there entries keys entry one named ((adds one).0 has),
    λ has. (adds one).1 (held entries keys entry one named (Contains-push_cases entries entry one has)),
  );
  fit = All-push (λ (entry : Ticket). entry.number < 2 ^ 32) entries entry named.fit small;
}

at_place : (entries : List Ticket) (i : ℕ) (d : Ticket) → i < length entries → get_or entries i d ≡ get_or entries i (get_or entries i d)
at_place entries i d within = get_or_default entries i d (get_or entries i d) within

pub noted_more : (plan : PlanFields) (entries keys more : List Ticket) (i : ℕ) (d : Ticket) (noted : Noted) → i < length entries
    → AreNoted plan (take i entries) keys → IsNoted plan keys (get_or entries i d) noted → noted ≡ Fine → AddsTicket keys (get_or entries i d) more
    → (get_or entries i d).number < 2 ^ 32 → AreNoted plan (take (i + 1) entries) more
noted_more plan entries keys more i d noted within are found is adds small =
    let fine : IsNoted plan keys (get_or entries i d) Fine = subst (λ (n : Noted). IsNoted plan keys (get_or entries i d) n) is found in
    subst (λ (taken : List Ticket). AreNoted plan taken more) (sym (next_taken entries i (get_or entries i d) within (at_place entries i d within)))
    (record {
      fine = fine_more plan (take i entries) (get_or entries i d) are.fine fine.0 (λ of has. fine.1 of ((are.named.same (get_or entries i d)).1 has));
      named = named_more (take i entries) keys more (get_or entries i d) are.named adds small;
    })

pub noted_all : (plan : PlanFields) (entries keys : List Ticket) (i : ℕ) → length entries ≤ i → AreNoted plan (take i entries) keys → AreNoted plan entries keys
noted_all plan entries keys i end are = subst (λ (taken : List Ticket). AreNoted plan taken keys) (take_all i entries end) are

-- the first entry that is not fine
pub unknown : (plan : PlanFields) (entries keys : List Ticket) (i : ℕ) (d : Ticket) (noted : Noted) → i < length entries
    → AreNoted plan (take i entries) keys → IsNoted plan keys (get_or entries i d) noted → noted ≡ Unknown → IsUnknownEntry plan entries (i + 1)
unknown plan entries keys i d noted within are found is = record {
  before = take i entries;
  entry = get_or entries i d;
  after = drop (i + 1) entries;
  cut = cut_at entries i (get_or entries i d) within (at_place entries i d within);
  number = ap (λ n. n + 1) (sym (length-take-le i entries (omega (arith, within))));
  fine = are.fine;
  unknown = subst (λ (n : Noted). IsNoted plan keys (get_or entries i d) n) is found;
}

pub twice : (plan : PlanFields) (entries keys : List Ticket) (i : ℕ) (d : Ticket) (noted : Noted) → i < length entries
    → AreNoted plan (take i entries) keys → IsNoted plan keys (get_or entries i d) noted → noted ≡ Twice → IsEntryTwice plan entries (i + 1)
twice plan entries keys i d noted within are found is =
    let again : IsNoted plan keys (get_or entries i d) Twice = subst (λ (n : Noted). IsNoted plan keys (get_or entries i d) n) is found in
    record {
      before = take i entries;
      entry = get_or entries i d;
      after = drop (i + 1) entries;
      cut = cut_at entries i (get_or entries i d) within (at_place entries i d within);
      number = ap (λ n. n + 1) (sym (length-take-le i entries (omega (arith, within))));
      fine = are.fine;
      asked = again.0;
      known = again.1;
      twice = (are.named.same (get_or entries i d)).0 again.2;
    }
