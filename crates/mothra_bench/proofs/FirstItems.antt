-- Between two steps of an exchange with the counts of a plan, the tickets handed out are those of the first items of its lists.
use Rattle.mothra_bench.proofs.Common.{◌≡◌, ◌∙◌, ap, List, length, subst, sym, ◌++◌, refl, [], arith, ℕ, take, ◌∷◌, ◌+◌, Some, ◌<◌, ◌≤◌, Option, inr, inl, suc}
use Rattle.mothra_bench.proofs.Common.{slice_index, map, slice_get, zero, get_or-map, length_push, map_more, map_push, slice_get-get_or, slice_get_cases}
use Rattle.mothra_bench.proofs.Common.{AreCounts, AreFirstItems, HasHistory, KeepsLists, plan_counts, index_below, op_at-index, index, all_ops, Op, Aar}
use Rattle.mothra_bench.proofs.Common.{IsShownInLog, IsWordOf, View, Word, PlanFields, edits_of}
use Rattle.mothra_exchange.specs.Log.{IsLegalLog, closes, hands, offers, one_to, taken_in}
use Rattle.mothra_exchange.specs.Rule.{IsSoundExchange, OpRule}
use Rattle.mothra_exchange.specs.declared.log.Event.{Event}
use Rattle.mothra_exchange.proofs.Histories.{in_order, legal_for, none_after}
use Rattle.mothra_exchange.proofs.Showing.{shows_one_log}
use Rattle.mothra_exchange.proofs.Standings.{are_in_order, has_word, rule_at}
use Rattle.mothra_ops.specs.Edits.{numbered}

-- ---- the items of a list by number

module _ {X : Type 0} where
  -- items 1 to n are the first n
  numbered_front : (xs : List X) (n : ℕ) → n ≤ length xs → map (numbered xs) (one_to n) ≡ map Some (take n xs)
  numbered_front xs zero within = refl
  numbered_front xs (suc n) within = elim (slice_get_cases xs n).1 [
    | inl (x, low, at, is) ↦
        let before : map (numbered xs) (one_to n) ≡ map Some (take n xs) = numbered_front xs n (omega (arith, within)) in
        let next : n + 1 ≡ suc n = omega arith in
        map_push (numbered xs) (one_to n) (suc n)
        ∙ (ap (λ (l : List (Option X)). l ++ slice_get xs n ∷ []) before
        ∙ (ap (λ (o : Option X). map Some (take n xs) ++ o ∷ []) (slice_get-get_or xs n x low)
        ∙ (sym (map_more Some xs n x low) ∙ ap (λ (m : ℕ). map Some (take m xs)) next)))
    | inr (high, past) ↦ absurd (omega (arith, within, high))
  ]

length-one_to : (n : ℕ) → length (one_to n) ≡ n
length-one_to zero = refl
length-one_to (suc n) = let before = length-one_to n in let more = length_push (one_to n) (suc n) in omega arith

first_items : (plan : PlanFields) (op : Op) (n : ℕ) → n ≤ length (edits_of plan op) → AreFirstItems plan op (one_to n)
first_items plan op n within =
    numbered_front (edits_of plan op) n within
    ∙ ap (λ (m : ℕ). map Some (take m (edits_of plan op))) (sym (length-one_to n))

-- ---- the counts of a plan

count_at : (plan : PlanFields) (op : Op) → slice_index (plan_counts plan) (index op) ≡ length (edits_of plan op)
count_at plan op =
    get_or-map (λ (o : Op). length (edits_of plan o)) all_ops (index op) Aar 0 (index_below op)
    ∙ ap (λ (o : Op). length (edits_of plan o)) (op_at-index op)

-- ---- the exchange between two steps

-- no more is handed out than the operator has
few : (C i n many : ℕ) (w : Word) (views : List View) → OpRule C i n w views → n ≡ many → w.handed ≤ many
few C i n many w views rule same = omega (arith, rule.bounds.handed, rule.bounds.offered, rule.count, same)

module _ (C : ℕ) (plan : PlanFields) (counts words : List ℕ) (views : List View) (sound : IsSoundExchange C counts words views) (own : AreCounts plan counts) where
  within : (op : Op) (w : Word) → IsWordOf words op w → w.handed ≤ length (edits_of plan op)
  within op w is = few C (index op) (slice_index counts (index op)) (length (edits_of plan op)) w views (rule_at C counts words views sound op w is) (own op)

  same : (op : Op) → slice_index counts (index op) ≡ slice_index (plan_counts plan) (index op)
  same op = own op ∙ sym (count_at plan op)

  handed : (log : List Event) → IsLegalLog C counts log → (op : Op) (w : Word) → IsShownInLog counts log op w → taken_in (index op) log ≡ one_to w.handed
  handed log legal op w shows = in_order C counts (index op) log legal ∙ ap one_to (sym (ap (λ (v : Word). v.handed) shows))

  shown_for : (log : List Event) (op : Op) (w : Word) → IsShownInLog counts log op w → IsShownInLog (plan_counts plan) log op w
  shown_for log op w shows =
      let i = index op in
      let word : ℕ → Word = λ n. record { count = n; offered = offers i log; handed = hands i log; closed = closes i log } in
      shows ∙ ap word (same op)

  items : (log : List Event) → IsLegalLog C counts log → ((op : Op) (w : Word) → IsWordOf words op w → IsShownInLog counts log op w)
      → (op : Op) → AreFirstItems plan op (taken_in (index op) log)
  items log legal shows op =
      let found = has_word C counts words views sound op in
      let out = handed log legal op found.0 (shows op found.0 found.1) in
      subst (AreFirstItems plan op) (sym out) (first_items plan op found.0.handed (within op found.0 found.1))

  history : 0 < C → HasHistory C plan words
  history some_wait =
      let shown = shows_one_log C counts words views sound some_wait in
      record {
        log = shown.0;
        legal = legal_for C counts (plan_counts plan) same [] shown.0 shown.1;
        shows = λ op w is. shown_for shown.0 op w (shown.2 op w is);
        handed = λ op w is. handed shown.0 shown.1 op w (shown.2 op w is);
        items = items shown.0 shown.1 shown.2;
        accepted = λ op close offer ticket. none_after C counts shown.0 shown.1 close offer op ticket;
      }

  pub keeps_lists : KeepsLists C plan words views
  keeps_lists = record {
    operators = λ op.
        let found = are_in_order C counts words views sound op in
        (found.0, found.1, record { front = first_items plan op found.0.handed (within op found.0 found.1); in_order = found.2 });
    history = history;
  }
