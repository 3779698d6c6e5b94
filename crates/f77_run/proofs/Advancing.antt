-- Instructions behind others, and code that comes back to where it stood.
use Rattle.f77_run.proofs.Common.{◌≡◌, length, sym, ◌∙◌, ap, subst, List, arith, refl, ◌<◌, ℕ, ◌≤◌, ◌+◌, suc, zero, ◌-◌, ◌⊎◌, inr, inl, zero-add, cases_lt}
use Rattle.f77_run.proofs.Common.{code_after, one, Point, Instruction, CameBack, Leads}
use Rattle.f77_code.proofs.Frame.{length_after}

-- a instructions and then b are a + b instructions
pub after_more : (code : List Instruction) (a b : ℕ) (p : Point) → code_after code (a + b) p ≡ code_after code b (code_after code a p)
after_more code zero b p = ap (λ n. code_after code n p) (zero-add b)
after_more code (suc a) b p = let more : suc a + b ≡ suc (a + b) = omega arith in ap (λ n. code_after code n p) more ∙ after_more code a b (one code p)

module _ (code : List Instruction) (start : Point) where
  pub leads_nowhere : Leads code start 0 start
  leads_nowhere = record { stands = refl; within = λ k below. absurd (omega (arith, below)) }

  module _ (made : ℕ) (p : Point) (leads : Leads code start made p) where
    pub as_many : length p.registers ≡ length start.registers
    as_many = ap (λ (p : Point). length p.registers) leads.stands ∙ length_after code made start

    -- where the code stands some instructions later
    pub later : (more : ℕ) → code_after code (made + more) start ≡ code_after code more p
    later more = after_more code made more start ∙ ap (code_after code more) (sym leads.stands)

    pub leads_on : (more : ℕ) (q : Point) → Leads code p more q → Leads code start (made + more) q
    leads_on more q on = record {
      stands = on.stands ∙ sym (later more);
      within = λ k below. elim (cases_lt k made) [
        | inl before ↦ leads.within k before
        | inr past ↦
            let split : made + (k - made) ≡ k = omega (arith, past) in
            let there : code_after code k start ≡ code_after code (k - made) p = ap (λ n. code_after code n start) (sym split) ∙ later (k - made) in
            subst (λ (q : Point). q.place < length code) (sym there) (on.within (k - made) (omega (arith, below, past)))
      ];
    }

    -- code that comes back later came back
    pub back_later : (more : ℕ) → CameBack code p more → CameBack code start (made + more)
    back_later more back = record {
      before = made + back.before;
      since = back.since;
      sum = omega (arith, back.sum);
      there = subst (λ (q : Point). q.place < length code) (sym (later back.before)) back.there;
      back = ap (code_after code (suc back.since)) (later back.before) ∙ back.back ∙ sym (later back.before);
    }

    -- code that ends later, or comes back, does
    pub ends_later : (more : ℕ) (q : Point) → (length code ≤ q.place) ⊎ CameBack code p more → (length code ≤ q.place) ⊎ CameBack code start (made + more)
    ends_later more q (inl out) = inl out
    ends_later more q (inr back) = inr (back_later more back)

    -- where it stands again as it stood at first, it came back
    pub came_back : 0 < made → p ≡ start → CameBack code start made
    came_back some same =
        let one : suc (made - 1) ≡ made = omega (arith, some) in
        record {
          before = 0;
          since = made - 1;
          sum = omega (arith, some);
          there = leads.within 0 some;
          back = ap (λ n. code_after code n start) one ∙ sym leads.stands ∙ same;
        }
