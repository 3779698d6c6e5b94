-- The first fault of the lines, and where the reader's run stops.
use Rattle.f77_source.proofs.Common.{◌≡◌, ℕ, List, ap, ◌∙◌, refl, length, arith, false, true, ◌+◌, [], ◌++◌, None, Some, sym, ◌<◌, ◌∷◌, Bool, get_or, take}
use Rattle.f77_source.proofs.Common.{◌==◌, Ok, Option, not, Err, append_assoc, cond, subst, Result, append-nil, suc, zero, ◌||◌, ltb, reverse, nat_tests}
use Rattle.f77_source.proofs.Common.{reverse-append, list_any-append, list_any, take_while, is_some, IfSome, kind, CardFields, own_fault, continuations}
use Rattle.f77_source.proofs.Common.{is_initial, IsFirstFormFault, line_fault, place_fault, since_initial, fault_of_card, is_initial_kind, Progress, taken}
use Rattle.f77_source.proofs.Common.{extended, current_gone_on, FormFault, TooManyContinuations, LineKind, Continuation, Initial, Comment}
use Rattle.f77_source.proofs.Runs.{Took, took, and_then, run}
use Rattle.f77_source.proofs.Runs as runs

-- the progress that the lines before have made
pub record Matches (before : List (List ℕ)) (p : Progress) : Type 0 where
  pub begun : list_any is_initial before ≡ is_some p.current
  pub count : IfSome p.current (λ s. s.1 ≡ length (continuations (since_initial before)))

any_push : (before : List (List ℕ)) (line : List ℕ) → list_any is_initial (before ++ line ∷ []) ≡ (list_any is_initial before || is_initial line)
any_push before line = list_any-append is_initial before (line ∷ []) ∙ ap (λ b. list_any is_initial before || b) (by_test (is_initial line))
  where
    by_test : (b : Bool) → (b || false) ≡ b
    by_test true = refl
    by_test false = refl

one_plus : (m : ℕ) → 1 + m ≡ suc m
one_plus m = omega arith

since_push : (before : List (List ℕ)) (line : List ℕ)
    → since_initial (before ++ line ∷ []) ≡ cond (is_initial line) [] (line ∷ since_initial before)
since_push before line = rw (reverse-append before (line ∷ [])) (by_test (is_initial line) refl)
  where
    by_test : (b : Bool) → is_initial line ≡ b → take_while (λ l. not (is_initial l)) (line ∷ reverse before) ≡ cond b [] (line ∷ since_initial before)
    by_test true is = rw is refl
    by_test false is = rw is (ap (λ k. take k (line ∷ reverse before)) (one_plus _))

-- what one line does, and what is wrong with it
abbrev Stepped : List (List ℕ) → ℕ → List ℕ → Result Progress FormFault → Type 0
Stepped before n line (Ok q) = (line_fault before n line ≡ None) × Matches (before ++ line ∷ []) q
Stepped before n line (Err fault) = line_fault before n line ≡ Some fault

or_true : (b : Bool) → (b || true) ≡ true
or_true true = refl
or_true false = refl

or_false : (b : Bool) → (b || false) ≡ b
or_false true = refl
or_false false = refl

-- the number of continuation lines behind the last initial line, with one more line
count_push : (before : List (List ℕ)) (line : List ℕ) (k : LineKind) → kind line ≡ k
    → length (continuations (since_initial (before ++ line ∷ []))) ≡ length (continuations (cond (is_initial_kind k) [] (line ∷ since_initial before)))
count_push before line k is = ap (λ ls. length (continuations ls)) (since_push before line ∙ rw is refl)

-- a continuation line with no fault of its own
goes : (before : List (List ℕ)) (n : ℕ) (line : List ℕ) (cards : List CardFields) → own_fault n line ≡ None → kind line ≡ Continuation
    → (c : Option (CardFields × ℕ)) → list_any is_initial before ≡ is_some c
    → IfSome c (λ s. s.1 ≡ length (continuations (since_initial before))) → Stepped before n line (current_gone_on n line cards c)
unfolding line_fault place_fault
goes before n line cards none is None any count = rw (none, is, any) refl
goes before n line cards none is (Some s) any count = by_count (s.1 == 19) refl
  where
    pushed : length (continuations (since_initial (before ++ line ∷ []))) ≡ suc (length (continuations (since_initial before)))
    pushed = count_push before line Continuation is ∙ rw is refl

    by_count : (b : Bool) → (s.1 == 19) ≡ b
        → Stepped before n line (cond b (Err (TooManyContinuations n)) (Ok (record { cards = cards; current = Some (extended line s.0, s.1 + 1) })))
    by_count true b = let full : (length (continuations (since_initial before)) == 19) ≡ true = rw count at b in rw (none, is, any, full) refl
    by_count false b =
        let room : (length (continuations (since_initial before)) == 19) ≡ false = rw count at b in (
          rw (none, is, any, room) refl,
          record {
            begun = any_push before line ∙ rw is (or_false (list_any is_initial before) ∙ any);
            count = let e = pushed in omega (arith, e, count);
          },
        )

step : (before : List (List ℕ)) (n : ℕ) (line : List ℕ) (p : Progress) → Matches before p → Stepped before n line (taken n line p)
unfolding line_fault
step before n line p m = by_took (taken n line p) (took n line p)
  where
    by_took : (r : Result Progress FormFault) → Took n line p r → Stepped before n line r
    by_took r (runs.faulty fault is) = rw is refl
    by_took r (runs.comment none is) = (
      rw (none, is) refl,
      record {
        begun = any_push before line ∙ rw is (or_false (list_any is_initial before) ∙ m.begun);
        count = subst (λ (k : ℕ). IfSome p.current (λ s. s.1 ≡ k)) (sym (count_push before line Comment is ∙ rw is refl)) m.count;
      },
    )
    by_took r (runs.initial none is) = (
      rw (none, is) refl,
      record {
        begun = any_push before line ∙ rw is (or_true (list_any is_initial before));
        count = sym (count_push before line Initial is);
      },
    )
    by_took r (runs.continuation none is) = goes before n line p.cards none is p.current m.begun m.count

-- the fault of the line at this index, behind these lines and from this number on
abbrev pub fault_behind : List (List ℕ) → ℕ → List (List ℕ) → ℕ → Option FormFault
fault_behind before n lines i = line_fault (before ++ take i lines) (n + i) (get_or lines i [])

same_fault : (before before' : List (List ℕ)) (n n' : ℕ) (line : List ℕ) → before ≡ before' → n ≡ n' → line_fault before n line ≡ line_fault before' n' line
same_fault before before' n n' line e f = rw (e, f) refl

fault_first : (before : List (List ℕ)) (n : ℕ) (line : List ℕ) (lines : List (List ℕ)) → fault_behind before n (line ∷ lines) 0 ≡ line_fault before n line
fault_first before n line lines = same_fault _ _ _ _ line (append-nil before) (omega arith)

fault_later : (before : List (List ℕ)) (n : ℕ) (line : List ℕ) (lines : List (List ℕ)) (i : ℕ)
    → fault_behind before n (line ∷ lines) (suc i) ≡ fault_behind (before ++ line ∷ []) (n + 1) lines i
fault_later before n line lines i = same_fault _ _ _ _ (get_or lines i []) (sym (append_assoc before (line ∷ []) (take i lines))) (omega arith)

-- where no line has a fault, and where one is the first that has one
abbrev pub NoFault : List (List ℕ) → ℕ → List (List ℕ) → Type 0
NoFault before n lines = (i : ℕ) → i < length lines → fault_behind before n lines i ≡ None

pub record FirstFault (before : List (List ℕ)) (n : ℕ) (lines : List (List ℕ)) (fault : FormFault) : Type 0 where
  pub index : ℕ
  pub within : index < length lines
  pub found : fault_behind before n lines index ≡ Some fault
  pub first : (i : ℕ) → i < index → fault_behind before n lines i ≡ None

abbrev pub Ran : List (List ℕ) → ℕ → List (List ℕ) → Result Progress FormFault → Type 0
Ran before n lines (Ok q) = NoFault before n lines
Ran before n lines (Err fault) = FirstFault before n lines fault

none_more : (before : List (List ℕ)) (n : ℕ) (line : List ℕ) (lines : List (List ℕ)) → line_fault before n line ≡ None
    → NoFault (before ++ line ∷ []) (n + 1) lines → NoFault before n (line ∷ lines)
none_more before n line lines none rest zero h = fault_first before n line lines ∙ none
none_more before n line lines none rest (suc i) h = fault_later before n line lines i ∙ rest i (omega arith)

first_more : (before : List (List ℕ)) (n : ℕ) (line : List ℕ) (lines : List (List ℕ)) (fault : FormFault) → line_fault before n line ≡ None
    → FirstFault (before ++ line ∷ []) (n + 1) lines fault → FirstFault before n (line ∷ lines) fault
first_more before n line lines fault none rest = record {
  index = suc rest.index;
  within = omega (arith, rest.within);
  found = fault_later before n line lines rest.index ∙ rest.found;
  first = before_it;
}
  where
    before_it : (i : ℕ) → i < suc rest.index → fault_behind before n (line ∷ lines) i ≡ None
    before_it zero h = fault_first before n line lines ∙ none
    before_it (suc i) h = fault_later before n line lines i ∙ rest.first i (omega arith)

ran_step : (before : List (List ℕ)) (n : ℕ) (line : List ℕ) (lines : List (List ℕ)) → ((q : Progress) → Matches (before ++ line ∷ []) q → Ran (before ++ line ∷ []) (n + 1) lines (run (n + 1) q lines))
    → (r : Result Progress FormFault) → Stepped before n line r → Ran before n (line ∷ lines) (and_then r (λ q. run (n + 1) q lines))
ran_step before n line lines ih (Err fault) s = record {
  index = 0;
  within = omega arith;
  found = fault_first before n line lines ∙ s;
  first = λ i h. absurd (omega arith);
}
ran_step before n line lines ih (Ok q) s = by_rest (run (n + 1) q lines) (ih q s.1)
  where
    by_rest : (r : Result Progress FormFault) → Ran (before ++ line ∷ []) (n + 1) lines r → Ran before n (line ∷ lines) r
    by_rest (Ok q') h = none_more before n line lines s.0 h
    by_rest (Err fault) h = first_more before n line lines fault s.0 h

-- a run stops at the first fault, and where there is none it reads all lines
pub ran : (lines before : List (List ℕ)) (n : ℕ) (p : Progress) → Matches before p → Ran before n lines (run n p lines)
ran [] before n p m = λ i h. absurd (omega arith)
ran (line ∷ lines) before n p m =
    ran_step before n line lines (λ q mq. ran lines (before ++ line ∷ []) (n + 1) q mq) (taken n line p) (step before n line p m)

-- two first faults are one
same_index : (all : List (List ℕ)) (f g : FormFault) (a : IsFirstFormFault all f) (b : IsFirstFormFault all g) → a.index < b.index → f ≡ g
same_index all f g a b h = let none = b.first a.index h in let found = a.found in cc

pub one_first : (all : List (List ℕ)) (f g : FormFault) → IsFirstFormFault all f → IsFirstFormFault all g → f ≡ g
one_first all f g a b = by_order (ltb a.index b.index) refl (ltb b.index a.index) refl
  where
    by_order : (x : Bool) → ltb a.index b.index ≡ x → (y : Bool) → ltb b.index a.index ≡ y → f ≡ g
    by_order true is y other = same_index all f g a b (grind (arith, nat_tests))
    by_order false is true other = sym (same_index all g f b a (grind (arith, nat_tests)))
    by_order false is false other =
        let e : a.index ≡ b.index = grind (arith, nat_tests) in
        let s : Some f ≡ Some g = sym a.found ∙ ap (fault_of_card all) e ∙ b.found in cc

-- in the words of the definition
pub first_fault : (all : List (List ℕ)) (f : FormFault) → FirstFault [] 1 all f → IsFirstFormFault all f
first_fault all f h = record {
  index = h.index;
  within = h.within;
  found = same_fault _ _ _ _ (get_or all h.index []) refl (omega arith) ∙ h.found;
  first = λ i l. same_fault _ _ _ _ (get_or all i []) refl (omega arith) ∙ h.first i l;
}

pub no_first_fault : (all : List (List ℕ)) (f : FormFault) → NoFault [] 1 all → IsFirstFormFault all f → ⊥
no_first_fault all f none h =
    let found = h.found in
    let is : fault_of_card all h.index ≡ None = same_fault _ _ _ _ (get_or all h.index []) refl (omega arith) ∙ none h.index h.within in cc
