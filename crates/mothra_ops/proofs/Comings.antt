-- A list of edits that is being made, step by step.
use Rattle.mothra_ops.proofs.Common.{◌≡◌, ◌∙◌, ap, sym, List, arith, refl, Some, length, subst, ℕ, ◌≤◌, [], ◌+◌, suc, ◌<◌, inr, zero, ◌∷◌, inl, ◌⊎◌, ◌++◌}
use Rattle.mothra_ops.proofs.Common.{get_or, length-map, LineFields, NodeOf, nodes_of, changed, Statement, Op, numbered, IsMutant, IsMember, edits_in, thinned}
use Rattle.mothra_ops.proofs.Common.{IsNoList, IsTooLong, Lists, IsCountedList, most_edits, most_whole, HoldsEdits, longest, HasStatement, HasCome, StandsAt}
use Rattle.mothra_ops.proofs.Common.{So, Edit, Listing, Mutant, pools_of, gives, OpsFault, Memory, TooMany}
use Rattle.mothra_ops.specs.declared.listing.Limits.{Limits}
use Rattle.mothra_ops.proofs.Cursor.{edit_at, kept, passed_by, first_rank, next_node, next_statement, starts, ends}
use Rattle.mothra_ops.proofs.Members.{own_op, rank_first, statement_first, statement_last, position_last, rank_last, member_here, mutant_here}

-- adding an edit to a list that holds others gives one that holds it behind them
abbrev pub Adds : Listing → Listing → Edit → Type 0
Adds old new edit = (whole : List Edit) → HoldsEdits old whole → HoldsEdits new (whole ++ edit ∷ [])

abbrev pub Overflows : Listing → Edit → Type 0
Overflows old edit = (whole : List Edit) → HoldsEdits old whole
    → (old.limits.kept < length (thinned old.every (whole ++ edit ∷ []))) ⊎ (old.limits.whole < length (whole ++ edit ∷ []))

-- a list that has come to rank 0 has come to rank 1, since ranks are counted from 1
pub come_first : (l : Listing) (program : List LineFields) (s p : ℕ) → HasCome l program s p 0 → HasCome l program s p 1
come_first l program s p come = record {
  limits = come.limits;
  found = come.found;
  lists = first_rank (IsMember l.op program) come.found s p come.lists (rank_first l.op program);
  holds = come.holds;
}

module _ (program : List LineFields) (s p r : ℕ) (stmt : Statement) (node new : NodeOf) (here : StandsAt program s p stmt node) where
  pub come_kept : (old made : Listing) → made.op ≡ old.op → made.limits ≡ old.limits → numbered (gives old.op (pools_of program) stmt node) r ≡ Some new → IsMutant program s (changed stmt p new)
      → Adds old made (edit_at old.op s p r) → HasCome old program s p r → HasCome made program s p (r + 1)
  come_kept old made same limits at mutant adds come = record {
    limits = limits ∙ come.limits;
    found = come.found ++ edit_at old.op s p r ∷ [];
    lists = subst (λ (op : Op). Lists (So op program s p (r + 1)) (come.found ++ edit_at old.op s p r ∷ [])) (sym same)
        (kept old.op (IsMember old.op program) (own_op old.op program) come.found s p r come.lists (member_here old.op program s p r stmt node new here at mutant));
    holds = adds come.found come.holds;
  }

  pub come_passed : (l : Listing) → numbered (gives l.op (pools_of program) stmt node) r ≡ Some new → ¬ (IsMutant program s (changed stmt p new))
      → HasCome l program s p r → HasCome l program s p (r + 1)
  come_passed l at isnt come = record {
    limits = come.limits;
    found = come.found;
    lists = passed_by l.op (IsMember l.op program) (own_op l.op program) come.found s p r come.lists (λ m. isnt (mutant_here l.op program s p r stmt node new here at m));
    holds = come.holds;
  }

  pub come_too_long : (old : Listing) → numbered (gives old.op (pools_of program) stmt node) r ≡ Some new → IsMutant program s (changed stmt p new)
      → Overflows old (edit_at old.op s p r) → HasCome old program s p r → IsTooLong old.op program old.every
  come_too_long old at mutant over come =
      let more : Lists (So old.op program s p (r + 1)) (come.found ++ edit_at old.op s p r ∷ []) =
      kept old.op (IsMember old.op program) (own_op old.op program) come.found s p r come.lists (member_here old.op program s p r stmt node new here at mutant) in
      record {
        some = come.found ++ edit_at old.op s p r ∷ [];
        ordered = more.ordered;
        members = λ k d low. ((more.exactly (get_or (come.found ++ edit_at old.op s p r ∷ []) k d)).0 (within (come.found ++ edit_at old.op s p r ∷ []) k d low)).0;
        many = subst (λ (limits : Limits). (limits.kept < length (thinned old.every (come.found ++ edit_at old.op s p r ∷ [])))
            ⊎ (limits.whole < length (come.found ++ edit_at old.op s p r ∷ []))) come.limits (over come.found come.holds);
      }
    where
      within : (xs : List Edit) (k : ℕ) (d : Edit) → k < length xs → (i : ℕ) × (i < length xs) × (get_or xs i (get_or xs k d) ≡ get_or xs k d)
      within (x ∷ xs) zero d low = (0, low, refl)
      within [] k d low = absurd (omega (arith, low))
      within (x ∷ xs) (suc k) d low = let h = within xs k d (omega (arith, low)) in (suc h.0, omega (arith, h.1), h.2)

pub node_done : (l : Listing) (program : List LineFields) (s p r : ℕ) (stmt : Statement) (node : NodeOf) → StandsAt program s p stmt node
    → length (gives l.op (pools_of program) stmt node) < r → HasCome l program s p r → HasCome l program s (p + 1) 0
node_done l program s p r stmt node here past come = record {
  limits = come.limits;
  found = come.found;
  lists = next_node (IsMember l.op program) come.found s p r come.lists
      (λ e m same at. let low = rank_last l.op program s p stmt node here e m same at in omega (arith, low, past));
  holds = come.holds;
}

pub statement_done : (l : Listing) (program : List LineFields) (s p : ℕ) (stmt : Statement) → HasStatement program s stmt → length (nodes_of stmt) ≤ p
    → HasCome l program s p 0 → HasCome l program (s + 1) 0 0
statement_done l program s p stmt has past come = record {
  limits = come.limits;
  found = come.found;
  lists = next_statement (IsMember l.op program) come.found s p come.lists
      (λ e m same. let low = position_last l.op program s stmt has e m same in omega (arith, low, past));
  holds = come.holds;
}

pub come_at_start : (l : Listing) (program : List LineFields) → l.limits ≡ longest → HoldsEdits l [] → HasCome l program 1 0 0
come_at_start l program limits holds = record {
  limits = limits;
  found = [];
  lists = starts (IsMember l.op program) (statement_first l.op program);
  holds = holds;
}

pub come_to_end : (l : Listing) (program : List LineFields) (s : ℕ) → length program < s → HasCome l program s 0 0
    → IsCountedList l.op program l.every (edits_in l) l.whole
come_to_end l program s past come = record {
  list = record {
    whole = come.found;
    lists = ends (IsMember l.op program) come.found s come.lists (λ e m. let low = statement_last l.op program e m in omega (arith, low, past));
    is = come.holds.edits;
    few =
        let e : l.limits.kept ≡ most_edits = ap (λ (limits : Limits). limits.kept) come.limits in
        let long : length (edits_in l) ≡ length l.mutants.items = length-map l.mutants.items (λ (mutant : Mutant). mutant.edit) in
        omega (arith, e, long, come.holds.few);
    few_whole = let e : l.limits.whole ≡ most_whole = ap (λ (limits : Limits). limits.whole) come.limits in omega (arith, e, come.holds.few_whole);
  };
  counted = come.holds.whole;
}

-- a fault for which there is no list, where the operator and q are named by equal terms
pub no_list_of : (op other : Op) (program : List LineFields) (q r : ℕ) (fault : OpsFault) → other ≡ op → r ≡ q → IsNoList other program r fault → IsNoList op program q fault
no_list_of op other program q r fault same every none =
    subst (λ (o : Op). IsNoList o program q fault) same (subst (λ (n : ℕ). IsNoList other program n fault) every none)

pub no_list : (op : Op) (program : List LineFields) (q : ℕ) (fault : OpsFault) → (fault ≡ Memory) ⊎ ((fault ≡ TooMany op) × IsTooLong op program q) → IsNoList op program q fault
no_list op program q fault (inl e) = subst (IsNoList op program q) (sym e) tt
no_list op program q fault (inr (e, long)) = subst (IsNoList op program q) (sym e) (refl, long)

pub counted_of : (op other : Op) (program : List LineFields) (q r : ℕ) (edits : List Edit) (count : ℕ) → other ≡ op → r ≡ q
    → IsCountedList other program r edits count → IsCountedList op program q edits count
counted_of op other program q r edits count same every list =
    subst (λ (o : Op). IsCountedList o program q edits count) same (subst (λ (n : ℕ). IsCountedList other program n edits count) every list)
