-- Sets of tickets.
use Rattle.mothra_verdicts.proofs.Common.{◌≡◌, subst, List, sym, ◌∙◌, ap, arith, length, ℕ, Bool, [], refl, ◌<◌, ◌∷◌, inl, inr, true, ◌++◌, false, get_or}
use Rattle.mothra_verdicts.proofs.Common.{true≢false, ◌⊎◌, Contains, IsTrue, not, suc, zero, ◌↔◌, if◌then◌else◌, nat_eq, ◌&&◌, ◌||◌, Contains-append_left}
use Rattle.mothra_verdicts.proofs.Common.{Contains-push, Contains-push_cases, Ticket, AreNamed, AddsTicket}
use Rattle.std.specs.List.{list_any}
use Rattle.std.proofs.lemmas.Bool.{and_parts}
use Rattle.std.proofs.lemmas.Bool.Decides.{nat_tests}
use Rattle.indexmap.proofs.CallerLemmas.{Contains-list_any}
use Rattle.indexmap.specs.IndexSet.{insert_key}
use Rattle.mothra_codes.specs.Op.{index}
use Rattle.mothra_codes.proofs.Operators.{same_op}
use Rattle.mothra_codes.specs.contracts.ticket.TicketPartialEq.TheImpl.{ghosts}

-- the equality of tickets
both : (a b : Bool) → a ≡ true → b ≡ true → (a && b) ≡ true
both true true e f = refl
both true false e f = f
both false b e f = absurd (true≢false (sym e))

one_number : (a b : ℕ) → nat_eq a b ≡ true → a ≡ b
one_number a b e = grind (arith, nat_tests)

same_number : (a b : ℕ) → a ≡ b → nat_eq a b ≡ true
same_number a b e = grind (arith, nat_tests)

parts : (a b : Ticket) → ghosts.eq a b ≡ (nat_eq (index a.op) (index b.op) && nat_eq a.number b.number)
parts a b = grind (arith)

one_ticket : (a b : Ticket) → a.op ≡ b.op → a.number ≡ b.number → a ≡ b
one_ticket a b op number = λ i. record { op = op i; number = number i }

equal : (a b : Ticket) → ghosts.eq a b ≡ true → a ≡ b
equal a b e =
    let both = and_parts (nat_eq (index a.op) (index b.op)) (nat_eq a.number b.number) (sym (parts a b) ∙ e) in
    one_ticket a b (same_op a.op b.op (one_number (index a.op) (index b.op) both.0)) (one_number a.number b.number both.1)

itself : (a b : Ticket) → a ≡ b → ghosts.eq a b ≡ true
itself a b e =
    parts a b
    ∙ both (nat_eq (index a.op) (index b.op)) (nat_eq a.number b.number)
    (same_number (index a.op) (index b.op) (ap (λ (one : Ticket). index one.op) e)) (same_number a.number b.number (ap (λ (one : Ticket). one.number) e))

-- what a set has
or_true : (a b : Bool) → b ≡ true → (a || b) ≡ true
or_true true b e = refl
or_true false b e = e

true_or : (a b : Bool) → a ≡ true → (a || b) ≡ true
true_or true b e = refl
true_or false b e = absurd (true≢false (sym e))

any_at : (keys : List Ticket) (one : Ticket) (k : ℕ) → k < length keys → get_or keys k one ≡ one → list_any (ghosts.eq one) keys ≡ true
any_at [] one k within is = absurd (omega (arith, within))
any_at (key ∷ keys) one zero within is = true_or (ghosts.eq one key) (list_any (ghosts.eq one) keys) (itself one key (sym is))
any_at (key ∷ keys) one (suc k) within is =
    or_true (ghosts.eq one key) (list_any (ghosts.eq one) keys) (any_at keys one k (omega (arith, within)) is)

has : (keys : List Ticket) (one : Ticket) → IsTrue (list_any (ghosts.eq one) keys) ↔ Contains keys one
has keys one = (Contains-list_any ghosts.eq equal keys one, λ there. any_at keys one there.0 there.1 there.2)

not_not : (b : Bool) (P : Type 0) → (IsTrue b ↔ P) → IsTrue (not (not b)) ↔ P
not_not true P decides = decides
not_not false P decides = decides

pub was_there : (keys : List Ticket) (one : Ticket) (new : Bool) → new ≡ not (list_any (ghosts.eq one) keys) → IsTrue (not new) ↔ Contains keys one
was_there keys one new is =
    subst (λ (b : Bool). IsTrue (not b) ↔ Contains keys one) (sym is) (not_not (list_any (ghosts.eq one) keys) (Contains keys one) (has keys one))

-- the set with a key more
adds_if : (keys : List Ticket) (one : Ticket) (b : Bool) → list_any (ghosts.eq one) keys ≡ b → AddsTicket keys one (if b then keys else (keys ++ one ∷ []))
adds_if keys one true e other = (inl, from)
  where
    from : (Contains keys other ⊎ (one ≡ other)) → Contains keys other
    from (inl there) = there
    from (inr same) = subst (Contains keys) same ((has keys one).0 e)
adds_if keys one false e other = (Contains-push_cases keys one other, from)
  where
    from : (Contains keys other ⊎ (one ≡ other)) → Contains (keys ++ one ∷ []) other
    from (inl there) = Contains-append_left keys (one ∷ []) other there
    from (inr same) = subst (Contains (keys ++ one ∷ [])) same (Contains-push keys one)

pub adds : (keys more : List Ticket) (one : Ticket) → more ≡ insert_key ghosts.eq keys one → AddsTicket keys one more
adds keys more one is = subst (AddsTicket keys one) (sym is) (adds_if keys one (list_any (ghosts.eq one) keys) refl)

-- whether a set of declared entries has one
pub declared_by : (declared keys : List Ticket) (one other : Ticket) (answer : Bool) → AreNamed declared keys → answer ≡ list_any (ghosts.eq one) keys
    → one ≡ other → IsTrue answer ↔ Contains declared other
declared_by declared keys one other answer named is same =
    subst (λ (t : Ticket). IsTrue answer ↔ Contains declared t) same (
      λ yes. (named.same one).0 ((has keys one).0 (sym is ∙ yes)),
      λ there. is ∙ (has keys one).1 ((named.same one).1 there),
    )

-- a set without entries has none that is declared
pub none_declared : (declared keys : List Ticket) (one : Ticket) → AreNamed declared keys → length keys ≡ 0 → IsTrue false ↔ Contains declared one
none_declared declared [] one named none = declared_by declared [] one one false named refl refl
none_declared declared (key ∷ keys) one named none = absurd (omega arith)
