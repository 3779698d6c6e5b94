-- The fault of a legal program with one statement changed: that of the first clause that this statement breaks.
use Rattle.f77_legal.proofs.Common.{◌≡◌, ◌∙◌, ap, map, sym, List, refl, ℕ, [], false, ◌∷◌, length, Bool, arith, true, Some, None, ◌++◌, ◌+◌, filter, suc}
use Rattle.f77_legal.proofs.Common.{Option, not, cond, option_map, ◌≤◌, zero, nat_lt, subst, inr, inl, append-nil, ◌⊎◌, append_assoc, ◌≢◌, or_parts, cases_eq}
use Rattle.f77_legal.proofs.Common.{nat_tests, same_Some, get_or_from_slice_get, slice_get_past, slice_get_within, option_and_then_some, find, All}
use Rattle.f77_legal.proofs.Common.{enumerate_from, flat_map, option_map_or, option_and_then, Symbol, nth_statement, breaks, IsLegal, label_place, symbols}
use Rattle.f77_legal.proofs.Common.{HaveOneFrame, clause_fault, groups_of, lines_where, terminal_label, too_large_faults, framed, is_real, is_twice}
use Rattle.f77_legal.proofs.Common.{label_faults, name_faults, clauses, data_faults, faults, has_bad_data, statement_with, terminal, IsStock, faults_of}
use Rattle.f77_legal.proofs.Common.{first_clause, first_fault, MayStandAt, ends_badly, is_terminal, Clause, Bounds, Kinds, NamedLabels, Nests, Jumps, Targets}
use Rattle.f77_legal.proofs.Common.{Terminals, Variables, CheckFault, BadData, DoubleLabel, RealName, Twice, TooMany, replaced, LineFields, Statement}
use Rattle.std.specs.List.{slice_get}
use Rattle.f77_legal.proofs.FrameNames.{has_bad_data_same}
use Rattle.f77_legal.proofs.Frames.{groups_of-framed, terminal_label-framed}
use Rattle.f77_legal.proofs.LegalGives.{kept_by}
use Rattle.f77_legal.proofs.NoFaults.{not_large}
use Rattle.f77_legal.proofs.Replaced.{length-replaced, other_line, changed_line, replaced_frame}
use Rattle.f77_legal.proofs.Rules.{keeps_every_rule}
use Rattle.f77_legal.proofs.SameFrame.{labels_same, is_double_same, place_of_same, terminal_label_same, same_breaks}
use Rattle.f77_legal.proofs.Stocks.{stock_typed, stock_declared, stock_sizes}

-- where each other element fails, at most this one passes
only_one : {X : Type 0} (test : X → Bool) (xs : List X) (i : ℕ) → ((j : ℕ) (x : X) → i ≢ j → slice_get xs j ≡ Some x → test x ≡ false)
    → filter test xs ≡ option_map_or (λ x. cond (test x) (x ∷ []) []) (slice_get xs i) []
only_one test [] i fail = refl
only_one test (x ∷ xs) zero fail =
    ap (λ rest. cond (test x) (x ∷ rest) rest)
    (only_one test xs (length xs) (λ j y apart at. fail (suc j) y (omega arith) at)
    ∙ ap (λ o. option_map_or (λ y. cond (test y) (y ∷ []) []) o []) (slice_get_past xs (length xs) (omega arith)))
only_one test (x ∷ xs) (suc i) fail =
    ap (λ b. cond b (x ∷ filter test xs) (filter test xs)) (fail zero x (omega arith) refl)
    ∙ only_one test xs i (λ j y apart at. fail (suc j) y (omega arith) at)

none_passes : {X : Type 0} (test : X → Bool) (xs : List X) → All (λ x. test x ≡ false) xs → filter test xs ≡ []
none_passes test xs all =
    only_one test xs (length xs) (λ j x apart at. subst (λ y. test y ≡ false) (get_or_from_slice_get xs j x x at) (all j x (slice_get_within xs j x at)))
    ∙ ap (λ o. option_map_or (λ y. cond (test y) (y ∷ []) []) o []) (slice_get_past xs (length xs) (omega arith))

numbered_at : {X : Type 0} (k : ℕ) (xs : List X) (i : ℕ) → slice_get (enumerate_from k xs) i ≡ option_map (λ x. (k + i, x)) (slice_get xs i)
numbered_at k [] i = refl
numbered_at k (x ∷ xs) zero = let e : k ≡ k + 0 = omega arith in λ j. Some (e j, x)
numbered_at k (x ∷ xs) (suc i) =
    let e : k + 1 + i ≡ k + suc i = omega arith in
    numbered_at (k + 1) xs i ∙ ap (λ n. option_map (λ x. (n, x)) (slice_get xs i)) e

mapped_if : {X Y : Type 0} (f : X → Y) (b : Bool) (x : X) → map f (cond b (x ∷ []) []) ≡ cond b (f x ∷ []) []
mapped_if f true x = refl
mapped_if f false x = refl

-- where the statements of all other lines fail the test, only this line can be found
one_line : (test : ℕ → Statement → Bool) (p : List LineFields) (i : ℕ) (line : LineFields) → slice_get p i ≡ Some line
    → ((j : ℕ) (t : Statement) → i ≢ j → nth_statement p j ≡ Some t → test j t ≡ false)
    → lines_where test p ≡ cond (test i line.stmt) (line.line ∷ []) []
one_line test p i line at fail =
    ap (map (λ n. n.1.line)) (only_one passes (enumerate_from 0 p) i others)
    ∙ ap (λ o. map (λ n. n.1.line) (option_map_or (λ n. cond (passes n) (n ∷ []) []) o [])) (here i line at)
    ∙ mapped_if (λ (n : ℕ × LineFields). n.1.line) (test i line.stmt) (i, line)
  where
    passes : ℕ × LineFields → Bool
    passes n = test n.0 n.1.stmt

    here : (j : ℕ) (l : LineFields) → slice_get p j ≡ Some l → slice_get (enumerate_from 0 p) j ≡ Some (j, l)
    here j l is =
        let e : 0 + j ≡ j = omega arith in
        numbered_at 0 p j ∙ (λ k. option_map (λ x. (e k, x)) (is k))

    others : (j : ℕ) (n : ℕ × LineFields) → i ≢ j → slice_get (enumerate_from 0 p) j ≡ Some n → passes n ≡ false
    others j n apart is = by (slice_get p j) refl
      where
        by : (o : Option LineFields) → slice_get p j ≡ o → passes n ≡ false
        by None none =
            let nothing : None ≡ Some n = sym (numbered_at 0 p j ∙ ap (option_map (λ l. (0 + j, l))) none) ∙ is in
            absurd (cc (nothing))
        by (Some l) some =
            let same : (j, l) ≡ n = same_Some (j, l) n (sym (here j l some) ∙ is) in
            sym (ap passes same) ∙ fail j l.stmt apart (ap (option_map (λ x. x.stmt)) some)

-- the first fault of one line is that of the first clause that has one there
one_each : (is_broken : Clause → Bool) (fault : Clause → CheckFault) (cs : List Clause)
    → slice_get (flat_map (λ c. cond (is_broken c) (fault c ∷ []) []) cs) 0 ≡ option_map fault (find is_broken cs)
one_each is_broken fault [] = refl
one_each is_broken fault (c ∷ cs) = by (is_broken c) (one_each is_broken fault cs)
  where
    by : (b : Bool) → slice_get (flat_map (λ c. cond (is_broken c) (fault c ∷ []) []) cs) 0 ≡ option_map fault (find is_broken cs)
        → slice_get (cond b (fault c ∷ []) [] ++ flat_map (λ c. cond (is_broken c) (fault c ∷ []) []) cs) 0 ≡ option_map fault (cond b (Some c) (find is_broken cs))
    by true later = refl
    by false later = later

-- what holds of the clause on terminal statements, and of each other clause, holds of all clauses
of_each : (P : Clause → Type 0) → P Terminals → ((c : Clause) → c ≢ Terminals → P c) → (c : Clause) → P c
of_each P ends others Kinds = others Kinds (λ e. absurd (cc (e)))
of_each P ends others Bounds = others Bounds (λ e. absurd (cc (e)))
of_each P ends others NamedLabels = others NamedLabels (λ e. absurd (cc (e)))
of_each P ends others Targets = others Targets (λ e. absurd (cc (e)))
of_each P ends others Terminals = ends
of_each P ends others Nests = others Nests (λ e. absurd (cc (e)))
of_each P ends others Jumps = others Jumps (λ e. absurd (cc (e)))
of_each P ends others Variables = others Variables (λ e. absurd (cc (e)))

regrouped : {X : Type 0} (a b c d e f g h : List X)
    → (a ++ (b ++ [])) ++ ((c ++ (d ++ (e ++ (f ++ (g ++ (h ++ [])))))) ++ []) ≡ a ++ (b ++ (c ++ (d ++ (e ++ (f ++ (g ++ (h ++ [])))))))
regrouped a b c d e f g h = simp (append_assoc, append-nil)

-- the program q is the legal program p with this statement at i, of the same frame
module _ (p q : List LineFields) (i : ℕ) (line : LineFields) (s : Statement) (legal : IsLegal p) (at : slice_get p i ≡ Some line)
    (here : slice_get q i ≡ Some (record (line) { stmt = s })) (elsewhere : (j : ℕ) → i ≢ j → slice_get q j ≡ slice_get p j)
    (same : HaveOneFrame q p) (kept : framed s ≡ framed line.stmt) (ends : MayStandAt p i s) where
  elsewhere_in_p : (j : ℕ) (t : Statement) → i ≢ j → nth_statement q j ≡ Some t → nth_statement p j ≡ Some t
  elsewhere_in_p j t apart is = ap (option_map (λ l. l.stmt)) (sym (elsewhere j apart)) ∙ is

  line_in_p : nth_statement p i ≡ Some line.stmt
  line_in_p = ap (option_map (λ l. l.stmt)) at

  -- no DO ends at a statement that may not end one: the DOs and their labels are those of p, and the changed statement may end those at it
  ends_there : (j label k : ℕ) → option_and_then terminal_label (nth_statement p j) ≡ Some label → label_place p label ≡ Some k → (k ≡ i) ⊎ (k ≢ i)
      → option_map_or (λ last. not (is_terminal last)) (nth_statement q k) false ≡ false
  ends_there j label k names place (inl e) =
      let end : terminal p j ≡ Some i = ap (option_and_then (label_place p)) names ∙ place ∙ ap {B = Option ℕ} Some e in
      ap (λ n. option_map_or (λ last. not (is_terminal last)) (nth_statement q n) false) e
      ∙ ap (λ o. option_map_or (λ last. not (is_terminal last)) (option_map (λ l. l.stmt) o) false) here
      ∙ ap not (ends j end)
  ends_there j label k names place (inr apart) =
      ap (λ o. option_map_or (λ last. not (is_terminal last)) (option_map (λ l. l.stmt) o) false) (elsewhere k (λ e. apart (sym e)))
      ∙ ap (λ o. option_map_or (λ last. not (is_terminal last)) (option_and_then (nth_statement p) o) false) (sym place)
      ∙ option_and_then_some terminal_label (nth_statement p j) label names (λ t is own. well t is own)
    where
      well : (t : Statement) → nth_statement p j ≡ Some t → terminal_label t ≡ Some label
          → option_map_or (λ last. not (is_terminal last)) (statement_with p label) false ≡ false
      well t is own =
          sym (ap (λ o. option_map_or (λ label. option_map_or (λ last. not (is_terminal last)) (statement_with p label) false) o false) own)
          ∙ (keeps_every_rule p legal).statements Terminals j t is

  ends_kept : (j : ℕ) (t : Statement) → nth_statement q j ≡ Some t → ends_badly q t ≡ false
  ends_kept j t is = by (terminal_label t) refl
    where
      at_place : (label : ℕ) → terminal_label t ≡ Some label → (o : Option ℕ) → label_place q label ≡ o
          → option_map_or (λ last. not (is_terminal last)) (option_and_then (nth_statement q) o) false ≡ false
      at_place label own None place = refl
      at_place label own (Some k) place =
          ends_there j label k (sym (terminal_label_same q p same j) ∙ ap (option_and_then terminal_label) is ∙ own)
          (sym (place_of_same q p same label) ∙ place) (cases_eq k i)

      by : (o : Option ℕ) → terminal_label t ≡ o
          → option_map_or (λ label. option_map_or (λ last. not (is_terminal last)) (statement_with q label) false) o false ≡ false
      by None own = refl
      by (Some label) own = at_place label own (label_place q label) refl

  -- no other statement breaks a clause
  others : (c : Clause) (j : ℕ) (t : Statement) → i ≢ j → nth_statement q j ≡ Some t → breaks c q j t ≡ false
  others c j t other is =
      of_each (λ c. breaks c q j t ≡ false) (ends_kept j t is)
      (λ c apart. same_breaks q p same c apart j t ∙ (keeps_every_rule p legal).statements c j t (elsewhere_in_p j t other is)) c

  -- a clause finds a fault in the changed statement alone
  found_here : (c : Clause) → faults_of c q ≡ cond (breaks c q i s) (clause_fault c line.line ∷ []) []
  found_here c =
      ap (map (clause_fault c)) (one_line (breaks c q) q i (record (line) { stmt = s }) here (others c))
      ∙ mapped_if (clause_fault c) (breaks c q i s) line.line

  labels_kept : label_faults q ≡ []
  labels_kept = (λ k. map DoubleLabel (filter (λ label. is_double_same q p same label k) (labels_same q p same k))) ∙ (kept_by p legal).doubles

  data_same : data_faults q ≡ []
  data_same =
      ap (map BadData) (one_line (has_bad_data q) q i (record (line) { stmt = s }) here
      (λ j t other is. has_bad_data_same q p same j t t refl ∙ (keeps_every_rule p legal).initial_values j t (elsewhere_in_p j t other is))
      ∙ ap (λ b. cond b (line.line ∷ []) []) (has_bad_data_same q p same i s line.stmt groups ∙ (keeps_every_rule p legal).initial_values i line.stmt line_in_p))
    where
      groups : groups_of s ≡ groups_of line.stmt
      groups = sym (groups_of-framed s) ∙ ap groups_of kept ∙ groups_of-framed line.stmt

  -- where the names and the sizes are still right, the first fault is that of the first clause that the statement breaks
  found_by_itself : name_faults q ≡ [] → too_large_faults q ≡ [] → first_fault q ≡ option_map (λ c. clause_fault c line.line) (first_clause q i s)
  found_by_itself names sizes =
      ap (λ all. slice_get all 0)
      (whole
      ∙ regrouped (own_faults Kinds) (own_faults Bounds) (own_faults NamedLabels) (own_faults Targets) (own_faults Terminals) (own_faults Nests) (own_faults Jumps) (own_faults Variables))
      ∙ one_each (λ c. breaks c q i s) (λ c. clause_fault c line.line) clauses
    where
      own_faults : Clause → List CheckFault
      own_faults c = cond (breaks c q i s) (clause_fault c line.line ∷ []) []

      whole : faults q
          ≡ (own_faults Kinds ++ (own_faults Bounds ++ []))
          ++ ((own_faults NamedLabels ++ (own_faults Targets ++ (own_faults Terminals ++ (own_faults Nests ++ (own_faults Jumps ++ (own_faults Variables ++ [])))))) ++ [])
      whole = λ k.
          names k
          ++ ((found_here Kinds k ++ (found_here Bounds k ++ []))
          ++ (labels_kept k
          ++ ((found_here NamedLabels k
          ++ (found_here Targets k
          ++ (found_here Terminals k
          ++ (found_here Nests k
          ++ (found_here Jumps k
          ++ (found_here Variables k ++ []))))))
          ++ (data_same k ++ sizes k))))

  -- the changed statement names its terminal statement as the one before did
  ends_as_before : breaks Terminals q i s ≡ breaks Terminals p i s
  ends_as_before = ends_kept i s (ap (option_map (λ l. l.stmt)) here) ∙ sym (ends_badly_by label ∙ (keeps_every_rule p legal).statements Terminals i line.stmt line_in_p)
    where
      label : terminal_label s ≡ terminal_label line.stmt
      label = sym (terminal_label-framed s) ∙ ap terminal_label kept ∙ terminal_label-framed line.stmt

      ends_badly_by : terminal_label s ≡ terminal_label line.stmt → ends_badly p s ≡ ends_badly p line.stmt
      ends_badly_by = ap (λ o. option_map_or (λ label. option_map_or (λ last. not (is_terminal last)) (statement_with p label) false) o false)

  -- what the changed statement breaks, it breaks by the frame alone
  broken_same : (c : Clause) → breaks c q i s ≡ breaks c p i s
  broken_same = of_each (λ c. breaks c q i s ≡ breaks c p i s) ends_as_before (λ c apart. same_breaks q p same c apart i s)

  found_by_frame : name_faults q ≡ [] → too_large_faults q ≡ [] → first_fault q ≡ option_map (λ c. clause_fault c line.line) (first_clause p i s)
  found_by_frame names sizes =
      found_by_itself names sizes ∙ (λ k. option_map (λ c. clause_fault c line.line) (find (λ c. broken_same c k) clauses))

few_lines : (p : List LineFields) → IsLegal p → length p ≤ 500
few_lines p legal = within (length p) (or_parts (nat_lt 500 (length p)) _ (not_large p legal)).0
  where
    within : (n : ℕ) → nat_lt 500 n ≡ false → n ≤ 500
    within n few = grind (arith, nat_tests)

-- A statement of the same frame, where it may end the DOs that end there and all names may be
-- the program's: the first fault is of the first clause that it breaks.
pub changed_fault : (p : List LineFields) (i : ℕ) (line : LineFields) (s : Statement) (names : List Symbol) → slice_get p i ≡ Some line → IsLegal p
    → framed s ≡ framed line.stmt → MayStandAt p i s → IsStock names (replaced p i s) → first_fault (replaced p i s) ≡ option_map (λ c. clause_fault c line.line) (first_clause p i s)
changed_fault p i line s names at legal kept ends stock =
    found_by_frame p q i line s legal at (changed_line p i line s at) (λ j apart. other_line p i j s apart) (replaced_frame p i line s at kept) kept ends
    no_name (ap (λ b. cond b (TooMany ∷ []) []) (stock_sizes names q stock short))
  where
    q : List LineFields
    q = replaced p i s

    no_name : name_faults q ≡ []
    no_name = λ k.
        map RealName (none_passes (is_real q) (symbols q) (stock_typed names q stock) k)
        ++ map Twice (none_passes (is_twice q) (symbols q) (stock_declared names q stock) k)

    short : length q ≤ 500
    short = let long = length-replaced p i s in let few = few_lines p legal in omega arith
