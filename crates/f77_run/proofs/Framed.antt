-- Statements of two programs of one frame: what is the same of them when they are resolved.
use Rattle.f77_run.proofs.Common.{◌≡◌, length, sym, ◌∙◌, ap, List, arith, refl, ℕ, Some, [], ◌∷◌, ◌++◌, None, slice_get, suc, zero, pos, if◌then◌else◌}
use Rattle.f77_run.proofs.Common.{replicate, is_some, same_Some, option_and_then, Action, Loop, Resolved, IsAction, AreResolved, IsResolved, HasOneFrame}
use Rattle.f77_run.proofs.Common.{is_loop, Turn, length_same, behind_same, loops_ending_same, terminal_label_same, nth_statement, terminal_label, kind_of}
use Rattle.f77_run.proofs.Common.{bounds_of, Symbol, statement_of, LineFields, counters_of, Statement}
use Rattle.f77_legal.specs.Frames.{HaveOneFrame}

-- a statement is resolved to a DO exactly where it is one
loop_where_do : (p : List LineFields) (names : List Symbol) (i : ℕ) (stmt : Statement) (action : Action)
    → IsAction (kind_of p) (bounds_of p) names p i stmt action → is_loop action ≡ is_some (terminal_label stmt)
loop_where_do p names i (Statement.Loop label name a b c) (Loop variable first last step t) h = refl
loop_where_do p names i (Statement.Loop label name a b c) _ h = absurd h
loop_where_do p names i _ (Loop variable first last step t) h = absurd h
loop_where_do p names i _ _ h = refl

-- what stands at one place of two programs of one frame has the same frame in both when it is resolved
resolved_frame : (p q : List LineFields) → HaveOneFrame p q → (names : List Symbol) (i : ℕ) (one other : Statement) (r s : Resolved)
    → nth_statement p i ≡ Some one → nth_statement q i ≡ Some other → IsResolved p names i one r → IsResolved q names i other s → HasOneFrame r s
resolved_frame p q same names i one other r s at there old new =
    let label : terminal_label other ≡ terminal_label one
    = sym (ap (option_and_then terminal_label) there) ∙ sym (terminal_label_same p q same i) ∙ ap (option_and_then terminal_label) at in
    record {
      next = same_Some s.next r.next (sym new.next ∙ sym (behind_same p q same i) ∙ old.next);
      ends = new.ends ∙ sym (loops_ending_same p q same i) ∙ sym old.ends;
      loop = loop_where_do q names i other s.action new.action ∙ ap is_some label ∙ sym (loop_where_do p names i one r.action old.action);
    }

module _ (p q : List LineFields) (same : HaveOneFrame p q) (names : List Symbol) (before after : List Resolved) (old : AreResolved p names before)
    (new : AreResolved q names after) where
  pub frames_same : (i : ℕ) (r s : Resolved) → slice_get before i ≡ Some r → slice_get after i ≡ Some s → HasOneFrame r s
  frames_same i r s at there =
      let one = statement_of p names before old i r at in
      let other = statement_of q names after new i s there in
      resolved_frame p q same names i one.0 other.0 r s one.1 other.1 one.2 other.2

  pub count_same : length after ≡ length before
  count_same = new.count ∙ sym (length_same p q same) ∙ sym old.count

-- where no DO is active, the counters are the same where the DOs are at the same places
none_counted : (xs ys : List Resolved) (n : ℕ) → length ys ≡ length xs
    → ((i : ℕ) (r s : Resolved) → slice_get xs i ≡ Some r → slice_get ys i ≡ Some s → is_loop s.action ≡ is_loop r.action)
    → counters_of xs (replicate n None) ≡ counters_of ys (replicate n None)
none_counted [] [] n long each = refl
none_counted [] (y ∷ ys) n long each = absurd (omega (arith, long))
none_counted (x ∷ xs) [] n long each = absurd (omega (arith, long))
none_counted (x ∷ xs) (y ∷ ys) zero long each = refl
none_counted (x ∷ xs) (y ∷ ys) (suc n) long each =
    let loop = each 0 x y refl refl in
    let rest = none_counted xs ys n (omega (arith, long)) (λ i r s at there. each (suc i) r s at there) in
    λ k. (if sym loop k then idle ∷ [] else []) ++ rest k
  where
    idle : Turn
    idle = record { passes = 0; step = pos 0 }

module _ (p q : List LineFields) (same : HaveOneFrame p q) (names : List Symbol) (before after : List Resolved) (old : AreResolved p names before)
    (new : AreResolved q names after) where
  pub counters_same : (n : ℕ) → counters_of before (replicate n None) ≡ counters_of after (replicate n None)
  counters_same n =
      none_counted before after n (count_same p q same names before after old new)
      (λ i r s at there. (frames_same p q same names before after old new i r s at there).loop)
