-- Counts over the views, read as places: where the total is one, exactly one view has the ticket.
use Rattle.mothra_exchange.proofs.Common.{◌≡◌, ◌<◌, ℕ, ◌∙◌, sym, ap, arith, subst, refl, ◌+◌, List, [], ◌≤◌, false, slice_index, ◌≢◌, ⊎_elim, ◌∷◌, Bool, eq-eqb}
use Rattle.mothra_exchange.proofs.Common.{suc, true, zero, ◌⊎◌, ne_eqb, ◌&&◌, nat_tests, index, one_if, ticket_times, once_up_to, Op, Ticket, AtMost, look_at}
use Rattle.mothra_exchange.proofs.Common.{times_closed, IsLive, IsSoundExchange, OpRule, once_if_closed, spent_view, total, AreOneTo, AreViewsInOrder}
use Rattle.mothra_exchange.proofs.Common.{IsOneOfViews, IsWordOf, StandsInNone, StandsInOne, View, Word, get_elem?, dite, some, some-injective, ℕ_discrete}
use Rattle.mothra_exchange.proofs.Counting.{total_has}
use Rattle.mothra_exchange.proofs.Exchanges.{fits, pack-injective}

pub none_has : (f : View → ℕ) (views : List View) → total f views ≡ 0 → (by : ℕ) (v : View) → get_elem? views by ≡ some v → f v ≡ 0
none_has f views e by v at = let h = total_has f views by v at in omega arith

pub one_has : (f : View → ℕ) (views : List View) → total f views ≡ 1 → StandsInOne f views
one_has f [] e = absurd (omega arith)
one_has f (x ∷ xs) e = dite (ℕ_discrete (f x) 0) (λ z. later z (one_has f xs (omega arith))) (λ ne. (0, x, refl, omega arith, first (omega arith)))
  where
    first : total f xs ≡ 0 → (other : ℕ) (u : View) → get_elem? (x ∷ xs) other ≡ some u → other ≢ 0 → f u ≡ 0
    first none zero u at ne = absurd (ne refl)
    first none (suc other) u at ne = none_has f xs none other u at

    elsewhere : f x ≡ 0 → (by : ℕ) → ((other : ℕ) (u : View) → get_elem? xs other ≡ some u → other ≢ by → f u ≡ 0) → (other : ℕ) (u : View) → get_elem? (x ∷ xs) other ≡ some u
        → other ≢ suc by → f u ≡ 0
    elsewhere z by h zero u at ne = ap f (sym (some-injective _ _ at)) ∙ z
    elsewhere z by h (suc other) u at ne = h other u at (λ s. ne (ap suc s))

    later : f x ≡ 0 → StandsInOne f xs → StandsInOne f (x ∷ xs)
    later z h = (suc h.0, h.1, h.2, h.3, elsewhere z h.0 h.4)

once-in : (n k : ℕ) → 0 < k → k ≤ n → once_up_to n k ≡ 1
once-in n k pos le = grind (arith, nat_tests)

once-zero : (n k : ℕ) → k ≡ 0 → once_up_to n k ≡ 0
once-zero n k e = grind (arith, nat_tests)

once-past : (n k : ℕ) → n < k → once_up_to n k ≡ 0
once-past n k lt = grind (arith, nat_tests)

are_one_to : (list : View → List Ticket) (op : Op) (n : ℕ) (views : List View) → ((k : ℕ) → total (λ v. ticket_times (index op) k (list v)) views ≡ once_up_to n k) → AreOneTo list op n views
are_one_to list op n views h = record {
  each = λ k pos le. one_has (λ v. ticket_times (index op) k (list v)) views (h k ∙ once-in n k pos le);
  no_other = λ k out v at. none_has (λ u. ticket_times (index op) k (list u)) views (h k ∙ ⊎_elim (λ (e : k ≡ 0). once-zero n k e) (λ (lt : n < k). once-past n k lt) out) at.0 v at.1;
}

-- a packed word stands for one record only
pub rule_at : (C : ℕ) (counts words : List ℕ) (views : List View) → IsSoundExchange C counts words views → (op : Op) (w : Word) → IsWordOf words op w
    → OpRule C (index op) (slice_index counts (index op)) w views
rule_at C counts words views h op w is =
    let was = h.ops op in
    subst (λ (x : Word). OpRule C (index op) (slice_index counts (index op)) x views) (pack-injective was.0 w (fits C was.0 was.2.bounds) is.0 (sym was.1 ∙ is.1)) was.2

pub has_word : (C : ℕ) (counts words : List ℕ) (views : List View) → IsSoundExchange C counts words views → (op : Op) → (w : Word) × IsWordOf words op w
has_word C counts words views h op = let was = h.ops op in (was.0, (fits C was.0 was.2.bounds, was.1))

pub taken_stand : (C : ℕ) (counts words : List ℕ) (views : List View) → IsSoundExchange C counts words views → (op : Op) (w : Word) → IsWordOf words op w → AreOneTo (λ v. v.taken) op w.handed views
taken_stand C counts words views h op w is = are_one_to (λ v. v.taken) op w.handed views (rule_at C counts words views h op w is).taken

pub offered_stand : (C : ℕ) (counts words : List ℕ) (views : List View)
    → IsSoundExchange C counts words views → (op : Op) (w : Word) → IsWordOf words op w → AreOneTo (λ v. v.offered) op w.offered views
offered_stand C counts words views h op w is = are_one_to (λ v. v.offered) op w.offered views (rule_at C counts words views h op w is).offered

closed-at : (w : Word) (k : ℕ) → w.closed ≡ true → k ≡ w.offered → once_if_closed w k ≡ 1
closed-at w k c e = rw (c, eq-eqb w.offered k (sym e)) refl

closed-else : (w : Word) (k : ℕ) → k ≢ w.offered → once_if_closed w k ≡ 0
closed-else w k ne = rw (ne_eqb w.offered k (λ e. ne (sym e))) (both w.closed)
  where
    both : (b : Bool) → one_if (b && false) ≡ 0
    both true = refl
    both false = refl

open-at : (w : Word) (k : ℕ) → w.closed ≡ false → once_if_closed w k ≡ 0
open-at w k e = rw e refl

pub closing_stands : (C : ℕ) (counts words : List ℕ) (views : List View) → IsSoundExchange C counts words views → (op : Op) (w : Word) → IsWordOf words op w → w.closed ≡ true
    → StandsInOne (λ v. times_closed (index op) w.offered v.closings) views
closing_stands C counts words views h op w is c = one_has (λ v. times_closed (index op) w.offered v.closings) views
    ((rule_at C counts words views h op w is).closings w.offered ∙ closed-at w w.offered c refl)

pub no_other_closing : (C : ℕ) (counts words : List ℕ) (views : List View) → IsSoundExchange C counts words views → (op : Op) (w : Word) → IsWordOf words op w → (k : ℕ)
    → (w.closed ≡ false) ⊎ (k ≢ w.offered) → StandsInNone (λ v. times_closed (index op) k v.closings) views
no_other_closing C counts words views h op w is k out v at = none_has (λ u. times_closed (index op) k u.closings) views
    ((rule_at C counts words views h op w is).closings k ∙ ⊎_elim (λ (e : w.closed ≡ false). open-at w k e) (λ (ne : k ≢ w.offered). closed-else w k ne) out) at.0 v at.1

pub in_bounds : (C : ℕ) (counts words : List ℕ) (views : List View) → IsSoundExchange C counts words views → (op : Op) (w : Word) → IsWordOf words op w
    → (w.handed ≤ w.offered) × (w.offered ≤ w.count) × (w.offered ≤ w.handed + C)
in_bounds C counts words views h op w is = let b = (rule_at C counts words views h op w is).bounds in (b.handed, b.offered, b.waiting)

pub same_count : (C : ℕ) (counts words : List ℕ) (views : List View) → IsSoundExchange C counts words views → (op : Op) (w : Word) → IsWordOf words op w → (v : View) → IsOneOfViews views v
    → v ≢ spent_view → slice_index v.counts (index op) ≡ w.count
same_count C counts words views h op w is v at ne = ⊎_elim
    (λ (l : IsLive counts v). ap (λ (c : List ℕ). slice_index c (index op)) l.0 ∙ sym (rule_at C counts words views h op w is).count)
    (λ (e : v ≡ spent_view). absurd (ne e))
    (h.lives at.0 v at.1)

pub not_below : (C : ℕ) (counts words : List ℕ) (views : List View) → IsSoundExchange C counts words views → (op : Op) (w : Word) → IsWordOf words op w → (v : View) → IsOneOfViews views v
    → AtMost (look_at v (index op)).seen w
not_below C counts words views h op w is v at = ((rule_at C counts words views h op w is).seen at.0 v at.1).0

pub stays_closed : (C : ℕ) (counts words : List ℕ) (views : List View) → IsSoundExchange C counts words views → (op : Op) (w : Word) → IsWordOf words op w → (v : View) → IsOneOfViews views v
    → (look_at v (index op)).seen.closed ≡ true
    → (w.closed ≡ true) × (w.offered ≡ (look_at v (index op)).seen.offered)
stays_closed C counts words views h op w is v at c = (not_below C counts words views h op w is v at).close c

pub are_in_order : (C : ℕ) (counts words : List ℕ) (views : List View) → IsSoundExchange C counts words views → AreViewsInOrder words views
are_in_order C counts words views h op =
    let x = has_word C counts words views h op in (
      x.0,
      x.1,
      record {
        taken = taken_stand C counts words views h op x.0 x.1;
        offered = offered_stand C counts words views h op x.0 x.1;
        closed = closing_stands C counts words views h op x.0 x.1;
      },
    )
