-- How a pair rests on the next one.
use Rattle.f77_symbolic.proofs.Common.{arith, ◌≡◌, ℕ, zero, suc, Bool, true, false, List, Option, Some, None, refl, inl, inr, sym, subst, ap, ◌∙◌, pos, negsuc, ◌+ℤ◌}
use Rattle.f77_symbolic.proofs.Common.{◌≤ℤ◌, ints, Resolved, CheckedFields, Cells, State, Move, Goes, Ends, moved, HoldAlike, IsEnding, Holds, Valuation, Path}
use Rattle.f77_symbolic.proofs.Common.{Pair, Side, Step, End, together, FollowsByKeys, AreInside, Start, cells_of, state_of, Follows}
use Rattle.f77_symbolic.proofs.Common.{IsRoomLeft, IsReady, IsSettled, IsThere, IsEndOf, Stepped, on_path}
use Rattle.f77_actions.specs.declared.finish.Finish.{Finish}
use Rattle.f77_actions.specs.declared.finish.Finish.TheVariants.{Returned, Stopped, Failed, StepLimit}
use Rattle.f77_symbolic.specs.declared.change.Change.{Change}
use Rattle.f77_symbolic.specs.declared.sides.Step.TheVariants as step
use Rattle.f77_symbolic.proofs.Walk.{at_key, other_step, own_step}

-- a step is one end
same_end : (made : Step) (finish other : Finish) → IsEndOf made finish → IsEndOf made other → other ≡ finish
same_end step.Returns finish other is it = it ∙ sym is
same_end step.Stops finish other is it = it ∙ sym is
same_end step.Moves finish other is it = absurd is
same_end step.Faults finish other is it = absurd is

-- an end is the one that is said, and slots hold what they did before
end_of : (start : Cells) (v : Valuation) (own : Bool) (path : Path) (before after : Side) (made : Step) (finish : Finish) (cells : Cells)
    → Stepped start v own path before after made (Some (Ends finish cells)) → (own ≡ true → IsEnding finish)
    → IsEndOf made finish × Holds v path × (cells ≡ cells_of start v before.writes.items)
end_of start v own path before after made Returned cells it wanted = it
end_of start v own path before after made Stopped cells it wanted = it
end_of start v own path before after made StepLimit cells it wanted = it
end_of start v own path before after made (Failed fault) cells it wanted = absurd (wanted it)

-- the same step, told in other words
pub stepped_so : (start : Cells) (v : Valuation) (own : Bool) (path other : Path) (before after : Side) (made step : Step) (list statements : List Resolved) (s : State)
    → other ≡ path → made ≡ step → list ≡ statements → Stepped start v own path before after made (moved list s)
    → Stepped start v own other before after step (moved statements s)
stepped_so start v own path other before after made step list statements s on is same it =
    subst (λ p. Stepped start v own p before after step (moved statements s)) (sym on)
    (subst (λ m. Stepped start v own path before after m (moved statements s)) is
    (subst (λ l. Stepped start v own path before after made (moved l s)) same it))

-- the changed program ends so by its step
pub ended : (start : Cells) (v : Valuation) (path : Path) (before after : Side) (made : Step) (finish : Finish) (m : Option Move) → IsEndOf made finish
    → Stepped start v false path before after made m → Holds v path × (m ≡ Some (Ends finish (cells_of start v before.writes.items)))
ended start v path before after made finish None is it = absurd it
ended start v path before after made finish (Some (Goes b)) is it = absurd (subst (λ m. IsEndOf m finish) it.0 is)
ended start v path before after made finish (Some (Ends other cells)) is it =
    let at = end_of start v false path before after made other cells it (λ e. absurd (cc (e))) in
    (at.1, ap (λ f. Some (Ends f cells)) (same_end made finish other is at.0) ∙ ap (λ c. Some (Ends finish c)) at.2)

-- a copy of a side is the same
pub side_same : {side copy : Side} → (copy.place ≡ side.place) × ((copy.writes ≡ side.writes) × (copy.turns ≡ side.turns)) → copy ≡ side
side_same (place, (writes, turns)) = λ i. record { place = place i; writes = writes i; turns = turns i }

pub inside_too : (v : Valuation) {side other : Side} → other ≡ side → AreInside v side.writes.items → AreInside v other.writes.items
inside_too v same = subst (λ (side : Side). AreInside v side.writes.items) (sym same)

module _ (spare : ℕ) (checked : CheckedFields) (change : Change) (start : Start) (v : Valuation) where
  abbrev FollowsSides : Bool → ℕ → Side → Side → Type 0
  FollowsSides fresh room left right =
      FollowsByKeys (together checked change.statements.items spare) fresh room (state_of start.cells v left) (state_of start.cells v right)

  -- it follows from the sides of a settled pair, told in other words
  pub follows_so : (pair : Pair) → IsSettled spare checked change start v pair → (fresh : Bool) (room : ℕ) (left right : Side)
      → IsRoomLeft spare pair.credit room → pair.fresh ≡ fresh → pair.left ≡ left → pair.right ≡ right
      → Holds v pair.path → AreInside v left.writes.items → AreInside v right.writes.items → FollowsSides fresh room left right
  follows_so pair settled fresh room left right has is one other holds first second =
      subst (λ f. FollowsSides f room left right) is
      (subst (FollowsSides pair.fresh room left) other
      (subst (λ side. FollowsSides pair.fresh room side pair.right) one
      (settled.follows room has (record { holds = holds; left = inside_too v one first; right = inside_too v other second }))))

  -- the changed program ends so, and the dummy arguments hold the same
  abbrev EndsSo : Finish → Pair → Type 0
  EndsSo finish pair = (others : Cells) × (moved change.statements.items (state_of start.cells v pair.right) ≡ Some (Ends finish others))
      × HoldAlike checked (cells_of start.cells v pair.left.writes.items) others

  -- the program makes a step: both end alike, or it follows from where that leads
  pub own_follows : (pair : Pair) (path : Path) (after : Side) (made : Step) (list : List Resolved) → IsReady checked change → list ≡ change.own.items
      → (IsThere v pair → Stepped start.cells v true path pair.left after made (moved list (state_of start.cells v pair.left)))
      → ((finish : Finish) → IsEndOf made finish → Holds v path → IsThere v pair → EndsSo finish pair)
      → ((room : ℕ) → IsRoomLeft spare pair.credit room → made ≡ step.Moves → Holds v path → AreInside v after.writes.items
      → AreInside v pair.right.writes.items → FollowsSides false (suc room) after pair.right)
      → Follows spare checked change start v pair
  unfolding together
  own_follows pair path after made list ready same steps alike next room has there =
      let s : State = state_of start.cells v pair.left in
      let it : Stepped start.cells v true path pair.left after made (moved checked.statements s) =
      subst (λ list. Stepped start.cells v true path pair.left after made (moved list s)) (same ∙ ready.own) (steps there) in
      own_step State End (together checked change.statements.items spare) pair.fresh room s (state_of start.cells v pair.right)
      (λ e wanted ends.
      let at = end_of start.cells v true path pair.left after made e.finish e.cells
      (subst (λ m. Stepped start.cells v true path pair.left after made m) ends it) (λ own. wanted) in
      let other = alike e.finish at.0 at.1 there in
      (record { finish = e.finish; cells = other.0 }, other.1, (refl, subst (λ c. HoldAlike checked c other.0) (sym at.2) other.2)))
      (λ b goes.
      let to = subst (λ m. Stepped start.cells v true path pair.left after made m) goes it in
      subst (λ u. FollowsByKeys (together checked change.statements.items spare) false (suc room) u (state_of start.cells v pair.right)) (sym to.3)
      (next room has to.0 to.1 to.2 there.right))

  -- the program ends by its step: it follows if it does where what is assumed of that step holds
  pub own_assumed : (pair : Pair) (path : Path) (after : Side) (made : Step) (list : List Resolved) → IsReady checked change → list ≡ change.own.items
      → (IsThere v pair → Stepped start.cells v true path pair.left after made (moved list (state_of start.cells v pair.left)))
      → (made ≡ step.Moves → ⊥) → Follows spare checked change start v (on_path path pair) → Follows spare checked change start v pair
  unfolding together FollowsByKeys
  own_assumed pair path after made list ready same steps ends follows room has there reached zero keys e wanted run = absurd run
  own_assumed pair path after made list ready same steps ends follows room has there reached (suc n) keys e wanted (inl is) =
      let now = subst (λ list. Stepped start.cells v true path pair.left after made (moved list (state_of start.cells v pair.left))) (same ∙ ready.own) (steps there) in
      let at = end_of start.cells v true path pair.left after made e.finish e.cells (subst (λ m. Stepped start.cells v true path pair.left after made m) is now) (λ own. wanted) in
      follows room has (record { holds = at.1; left = there.left; right = there.right }) reached (suc n) keys e wanted (inl is)
  own_assumed pair path after made list ready same steps ends follows room has there reached (suc n) keys e wanted (inr (b, goes, run)) =
      let now = subst (λ list. Stepped start.cells v true path pair.left after made (moved list (state_of start.cells v pair.left))) (same ∙ ready.own) (steps there) in
      absurd (ends (subst (λ m. Stepped start.cells v true path pair.left after made m) goes now).0)

  -- the changed program makes a step
  pub other_moves : (pair next : Pair)
      → (IsThere v pair → Stepped start.cells v false next.path pair.right next.right step.Moves (moved change.statements.items (state_of start.cells v pair.right)))
      → next.left ≡ pair.left → next.credit ≡ (pair.credit +ℤ negsuc 0) → next.fresh ≡ pair.fresh
      → IsSettled spare checked change start v next → Follows spare checked change start v pair
  unfolding together
  other_moves pair next steps same credit fresh settled zero has there =
      let within : pos 0 ≤ℤ (pos spare +ℤ next.credit) = settled.within in
      absurd (omega (arith, ints, within, has, credit))
  other_moves pair next steps same credit fresh settled (suc room) has there =
      by (moved change.statements.items (state_of start.cells v pair.right)) refl (steps there)
    where
      by : (m : Option Move) → moved change.statements.items (state_of start.cells v pair.right) ≡ m
          → Stepped start.cells v false next.path pair.right next.right step.Moves m
          → FollowsSides pair.fresh (suc room) pair.left pair.right
      by None e it = absurd it
      by (Some (Goes b)) e it =
          let less : IsRoomLeft spare next.credit room = omega (arith, ints, has, credit) in
          other_step State End (together checked change.statements.items spare) pair.fresh room
          (state_of start.cells v pair.left) (state_of start.cells v pair.right) b e
          (subst (FollowsByKeys (together checked change.statements.items spare) pair.fresh room (state_of start.cells v pair.left)) (sym it.3)
          (follows_so next settled pair.fresh room pair.left next.right less fresh same refl it.1 there.left it.2))
      by (Some (Ends Returned cells)) e it = absurd it.0
      by (Some (Ends Stopped cells)) e it = absurd it.0
      by (Some (Ends StepLimit cells)) e it = absurd it.0
      by (Some (Ends (Failed fault) cells)) e it = absurd (cc (it))

  -- they met
  pub met : (pair : Pair) → pair.fresh ≡ false → pos 0 ≤ℤ pair.credit
      → (IsThere v pair → state_of start.cells v pair.right ≡ state_of start.cells v pair.left) → Follows spare checked change start v pair
  unfolding together
  met pair fresh positive same room has there =
      subst (λ f. FollowsSides f room pair.left pair.right) (sym fresh)
      (subst (FollowsByKeys (together checked change.statements.items spare) false room (state_of start.cells v pair.left)) (sym (same there))
      (at_key State End (together checked change.statements.items spare) room (state_of start.cells v pair.left) (omega (arith, ints, has, positive))))
