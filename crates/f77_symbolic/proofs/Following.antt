-- A changed program is equivalent where it follows the program from each start.
use Rattle.f77_symbolic.proofs.Common.{◌≡◌, ◌≢◌, ◌⊎◌, inl, inr, ◌+◌, ◌∙◌, ℕ, zero, suc, List, Option, Some, None, refl, ap, subst, option_and_then, Resolved}
use Rattle.f77_symbolic.proofs.Common.{Cells, State, Move, Goes, Ends, moved, cases_eq, EquivalentWhereFollowed, End, IsAtSite, machine, together}
use Rattle.f77_symbolic.proofs.Common.{EndsBy}
use Rattle.f77_actions.specs.declared.finish.Finish.{Finish}
use Rattle.f77_code.specs.Sequences.{moved_by, then_moved}
use Rattle.f77_equivalence.specs.Alike.{AgreeBut, PassAlike, site}
use Rattle.f77_equivalence.specs.Start.{start_state}
use Rattle.f77_equivalence.proofs.Ending.{keeps_ends_within}
use Rattle.f77_equivalence.proofs.Moving.{moved_same}
use Rattle.f77_symbolic.proofs.Walk.{AreSameAt, ends_alike}

ends_by : (statements : List Resolved) (n : ℕ) (s : State) (finish : Finish) (cells : Cells) → moved_by statements n s ≡ Some (Ends finish cells)
    → EndsBy (machine statements) n s (record { finish = finish; cells = cells })
ends_by statements zero s finish cells e = absurd (cc (e))
ends_by statements (suc n) s finish cells e = by (λ b rest. ends_by statements n b finish cells rest) (moved statements s) refl e
  where
    by : ((b : State) → moved_by statements n b ≡ Some (Ends finish cells) → EndsBy (machine statements) n b (record { finish = finish; cells = cells }))
        → (move : Option Move) → moved statements s ≡ move → option_and_then (then_moved (moved_by statements n)) move ≡ Some (Ends finish cells)
        → EndsBy (machine statements) (suc n) s (record { finish = finish; cells = cells })
    by next (Some (Goes b)) is e = inr (b, is, next b e)
    by next (Some (Ends f t)) is e = inl (is ∙ e)
    by next None is e = absurd (cc (e))

outcome_by : (statements : List Resolved) (n : ℕ) (s : State) (e : End) → EndsBy (machine statements) n s e → moved_by statements n s ≡ Some (Ends e.finish e.cells)
outcome_by statements zero s e ends = absurd ends
outcome_by statements (suc n) s e (inl ends) = ap (option_and_then (then_moved (moved_by statements n))) ends
outcome_by statements (suc n) s e (inr (b, goes, rest)) = ap (option_and_then (then_moved (moved_by statements n))) goes ∙ outcome_by statements n b e rest

-- elsewhere than at the changed statement both do the same
apart : (statements changed : List Resolved) (i : ℕ) → AgreeBut i statements changed → PassAlike statements changed i → (s : State)
    → IsAtSite i s ⊎ AreSameAt (machine statements) (machine changed) s
apart statements changed i agree pass s = by (cases_eq (site s.place) i)
  where
    by : (site s.place ≡ i) ⊎ (site s.place ≢ i) → IsAtSite i s ⊎ AreSameAt (machine statements) (machine changed) s
    by (inl here) = inl here
    by (inr differ) =
        let same : moved changed s ≡ moved statements s = moved_same statements changed i agree pass s.place s.cells s.turns differ in
        inr (record { ends = λ e ends. same ∙ ends; goes = λ b goes. same ∙ goes })

pub equivalent_where_followed : EquivalentWhereFollowed
unfolding together
equivalent_where_followed checked i program changed spare change agree pass there =
    keeps_ends_within checked i program changed spare change
    (λ arguments fits storable n finish cells is e.
    let start = start_state checked arguments in
    let it = ends_alike State End (together checked changed spare) (IsAtSite i) (apart checked.statements changed i agree pass) (λ e wanted. (refl, refl)) there n start
    (arguments, fits, storable, refl) (record { finish = finish; cells = cells }) is (ends_by checked.statements n start finish cells e) in (
      it.0.cells,
      subst (λ f. moved_by changed (n + spare) start ≡ Some (Ends f it.0.cells)) it.2.0 (outcome_by changed (n + spare) start it.0 it.1),
      it.2.1,
    ))
