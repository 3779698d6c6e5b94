-- Lists of mutants that are made ticket by ticket.
use Rattle.mothra_equivalents.proofs.Common.{◌≡◌, ◌≢◌, ◌≤◌, ◌<◌, ◌+◌, ◌++◌, ◌∙◌, ℕ, List, [], ◌∷◌, All, AllPairs, Option, Some, None, inl, inr, arith}
use Rattle.mothra_equivalents.proofs.Common.{get_or, length, subst, sym, map, IfSome, Before, Ticket, CheckedFields, PlanFields, mutant_fields, mutant_of}
use Rattle.mothra_equivalents.proofs.Common.{AreEquivalents, AreUnprovedFor, Equivalent, IsNamed, IsUnprovedOf, Unproved}
use Rattle.std.proofs.lemmas.List.{get_or_default}
use Rattle.std.proofs.lemmas.List.Elements.{All-push, All-weaker}
use Rattle.std.proofs.lemmas.List.Quantifiers.{all_pairs_push}
use Rattle.f77_equivalence.specs.Equivalent.{IsEquivalentWithin}
use Rattle.f77_program.specs.Patching.{patched}
use Rattle.f77_program.specs.Program.{line_of}
use Rattle.f77_tree.specs.Statement.{statement_of}
use Rattle.mothra_ops.specs.declared.mutant.Mutant.{Mutant}

-- what was found of the tickets up to this place: all of it stands before the tickets from there on
pub record IsFoundUpTo (plan : PlanFields) (most : Option ℕ) (tickets : List Ticket) (place : ℕ) (list : List Equivalent) (others : List Unproved) : Type 0 where
  pub named : AreEquivalents plan list
  pub told : AreUnprovedFor plan list most others
  pub list_before : (k : ℕ) (d : Ticket) → place ≤ k → k < length tickets → All (λ one. Before one.ticket (get_or tickets k d)) list
  pub others_before : (k : ℕ) (d : Ticket) → place ≤ k → k < length tickets → All (λ one. Before one.ticket (get_or tickets k d)) others

never : (t : Ticket) → Before t t → ⊥
never t (inl first) = absurd (omega (arith, first))
never t (inr second) = let less = second.1 in absurd (omega (arith, less))

-- a ticket that stands before another is not it
apart : (t u : Ticket) → Before t u → t ≢ u
apart t u before same = never u (subst (λ s. Before s u) same before)

module _ (plan : PlanFields) (most : Option ℕ) (tickets : List Ticket) (place : ℕ) (list : List Equivalent) (others : List Unproved)
    (found : IsFoundUpTo plan most tickets place list others) where
  pub one_passed : IsFoundUpTo plan most tickets (place + 1) list others
  one_passed = record {
    named = found.named;
    told = found.told;
    list_before = λ k d from within. found.list_before k d (omega (arith, from)) within;
    others_before = λ k d from within. found.others_before k d (omega (arith, from)) within;
  }

  module _ (e : Ticket) (ordered : AllPairs Before tickets) (below : place < length tickets) where
    abbrev own : Ticket
    own = get_or tickets place e

    later : (k : ℕ) (d : Ticket) → place + 1 ≤ k → k < length tickets → Before own (get_or tickets k d)
    later k d from within = subst (λ t. Before t (get_or tickets k d)) (get_or_default tickets place d e below) (ordered place k d (omega (arith, from)) within)

    pub one_named : (new : Equivalent) → new.ticket ≡ own → IsNamed plan new → IsFoundUpTo plan most tickets (place + 1) (list ++ new ∷ []) others
    one_named new is named = record {
      named = record {
        ordered = all_pairs_push (λ (x y : Equivalent). Before x.ticket y.ticket) list new found.named.ordered
            (λ k d within. rw is (found.list_before place e (omega arith) below k d within));
        each = All-push (IsNamed plan) list new found.named.each named;
      };
      told = go most found.told;
      list_before = λ k d from within. All-push (λ (x : Equivalent). Before x.ticket (get_or tickets k d)) list new
          (found.list_before k d (omega (arith, from)) within) (rw is (later k d from within));
      others_before = one_passed.others_before;
    }
      where
        go : (o : Option ℕ) → AreUnprovedFor plan list o others → AreUnprovedFor plan (list ++ new ∷ []) o others
        go None told = told
        go (Some n) told = (
          told.0,
          told.1,
          λ k d within.
              let one = get_or others k d in
              All-push (λ (x : Equivalent). x.ticket ≢ one.ticket) list new (told.2 k d within)
              (λ same. apart one.ticket own (found.others_before place e (omega arith) below k d within) (sym same ∙ is)),
        )

    pub one_unproved : (n : ℕ) (new : Unproved) → most ≡ Some n → new.ticket ≡ own → IsUnprovedOf plan n new
        → IsFoundUpTo plan most tickets (place + 1) list (others ++ new ∷ [])
    one_unproved n new most_is is proved =
        let told = subst (λ o. AreUnprovedFor plan list o others) most_is found.told in
        let unnamed = All-weaker (λ (x : Equivalent). Before x.ticket own) (λ (x : Equivalent). x.ticket ≢ new.ticket)
        (λ x before same. apart x.ticket own before (same ∙ is)) list (found.list_before place e (omega arith) below) in
        record {
          named = found.named;
          told = subst (λ o. AreUnprovedFor plan list o (others ++ new ∷ [])) (sym most_is) (
            All-push (IsUnprovedOf plan n) others new told.0 proved,
            all_pairs_push (λ (x y : Unproved). Before x.ticket y.ticket) others new told.1
                (λ k d within. rw is (found.others_before place e (omega arith) below k d within)),
            All-push (λ (one : Unproved). All (λ (x : Equivalent). x.ticket ≢ one.ticket) list) others new told.2 unnamed,
          );
          list_before = one_passed.list_before;
          others_before = λ k d from within. All-push (λ (x : Unproved). Before x.ticket (get_or tickets k d)) others new
              (found.others_before k d (omega (arith, from)) within) (rw is (later k d from within));
        }

-- the mutant is named that was judged
pub named_of : (plan : PlanFields) (checked : CheckedFields) (mutant : Mutant) (ticket : Ticket) (found : Option ℕ) (spare : ℕ) → checked ≡ plan.checked
    → Some (mutant_fields mutant) ≡ mutant_of plan ticket.op ticket.number → found ≡ Some spare
    → IfSome found (λ n. IsEquivalentWithin n (map line_of checked.program)
    (patched (map line_of checked.program) mutant.edit.statement (statement_of mutant.stmt.value)))
    → IsNamed plan (record { ticket = ticket; spare = spare })
named_of plan checked mutant ticket found spare own is found_is within = record {
  mutant = mutant_fields mutant;
  is = sym is;
  within = rw found_is at (rw own at within);
}
