use Rattle.mothra_ops.proofs.Common.{◌≡◌, ◌∙◌, ap, sym, List, map, arith, refl, length, ℕ, ◌≤◌, [], ◌+◌, inr, ◌∷◌, inl, ◌++◌, ◌%◌, length-map, map-append}
use Rattle.mothra_ops.proofs.Common.{length_push, thinned, Edit, Listing, Mutant}
use Rattle.mothra_ops.proofs.Thinned.{thinned_kept, thinned_passed}
use Rattle.mothra_ops.proofs.listing.Listing.add.Goals.{then-self-eq0+else-len-self+in_ok-push, else-self-eq0}
use Rattle.mothra_ops.proofs.listing.Listing.add.Goals as goal

-- the edit of a mutant
abbrev edit_made : Mutant → Edit
edit_made mutant = mutant.edit

pub returns-then-len-self-clause-refused : goal.returns-then-len-self-clause-refused
returns-then-len-self-clause-refused c = inr (
  refl,
  λ whole h.
      let q = c.args.self.now.every in
      let even : length whole % q ≡ 0 = ap (λ (n : ℕ). n % q) (sym h.whole) ∙ c.if-self-eq0.true in
      let long : length (thinned q (whole ++ c.args.mutant.edit ∷ [])) ≡ length (thinned q whole) + 1 =
      ap length (thinned_kept q whole c.args.mutant.edit even) ∙ length_push (thinned q whole) c.args.mutant.edit in
      let held : length c.args.self.now.mutants.items ≡ length (thinned q whole) = sym (length-map c.args.self.now.mutants.items edit_made) ∙ ap length h.edits in
      inl (omega (arith, long, held, c.len.ensures, c.if-len-self.true)),
)

pub returns-clause-added : goal.returns-clause-added
returns-clause-added c = λ whole h.
    let q = c.args.self.now.every in
    let more : length (whole ++ c.args.mutant.edit ∷ []) ≡ length whole + 1 = length_push whole c.args.mutant.edit in
    let few_whole : length (whole ++ c.args.mutant.edit ∷ []) ≤ c.args.self.now.limits.whole = omega (arith, more, h.whole, h.few_whole, c.if-self.false) in
    let counted : c.args.self.now.whole + 1 ≡ length (whole ++ c.args.mutant.edit ∷ []) = omega (arith, more, h.whole) in
    elim c.if-self-eq0.branch [
      | then-self-eq0+else-len-self+in_ok-push w ↦
          let even : length whole % q ≡ 0 = ap (λ (n : ℕ). n % q) (sym h.whole) ∙ w.if-self-eq0.true in
          let long : length w.push.new.self.items ≡ length c.args.self.now.mutants.items + 1 =
          ap length w.in_ok-push.ensures.items ∙ length_push c.args.self.now.mutants.items c.args.mutant in
          rw w.self-is (record {
            edits = ap (map edit_made) w.in_ok-push.ensures.items ∙ map-append edit_made c.args.self.now.mutants.items (c.args.mutant ∷ [])
                ∙ ap (λ (es : List Edit). es ++ c.args.mutant.edit ∷ []) h.edits ∙ sym (thinned_kept q whole c.args.mutant.edit even);
            whole = counted;
            few = omega (arith, long, w.len.ensures, w.if-len-self.false);
            few_whole = few_whole;
          })
      | else-self-eq0 w ↦
          rw w.self-is (record {
            edits = h.edits ∙ sym (thinned_passed q whole c.args.mutant.edit (λ even. w.if-self-eq0.false (ap (λ (n : ℕ). n % q) h.whole ∙ even)));
            whole = counted;
            few = h.few;
            few_whole = few_whole;
          })
    ]

pub returns-clause-mutants : goal.returns-clause-mutants
returns-clause-mutants c = elim c.if-self-eq0.branch [
  | then-self-eq0+else-len-self+in_ok-push w ↦ rw w.self-is (inr w.in_ok-push.ensures.items)
  | else-self-eq0 w ↦ rw w.self-is (inl refl)
]

pub returns-clause-same_op : goal.returns-clause-same_op
returns-clause-same_op c = elim c.if-self-eq0.branch [
  | then-self-eq0+else-len-self+in_ok-push w ↦ ap (λ (listing : Listing). listing.op) w.self-is
  | else-self-eq0 w ↦ ap (λ (listing : Listing). listing.op) w.self-is
]

pub returns-clause-same_every : goal.returns-clause-same_every
returns-clause-same_every c = elim c.if-self-eq0.branch [
  | then-self-eq0+else-len-self+in_ok-push w ↦ ap (λ (listing : Listing). listing.every) w.self-is
  | else-self-eq0 w ↦ ap (λ (listing : Listing). listing.every) w.self-is
]

pub returns-clause-same_limits : goal.returns-clause-same_limits
returns-clause-same_limits c = elim c.if-self-eq0.branch [
  | then-self-eq0+else-len-self+in_ok-push w ↦ ap (λ (listing : Listing). listing.limits) w.self-is
  | else-self-eq0 w ↦ ap (λ (listing : Listing). listing.limits) w.self-is
]
