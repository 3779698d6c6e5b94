-- What an edit makes of a statement of a legal program may stand in its place.
use Rattle.mothra_ops.proofs.Common.{◌≡◌, ◌∙◌, ap, sym, List, arith, refl, Some, subst, ℕ, ◌≤◌, None, [], ◌-◌, suc, slice_get, zero, ◌∷◌, true, Bool, false}
use Rattle.mothra_ops.proofs.Common.{true≢false, if◌then◌else◌, not, ◌&&◌, ◌↔◌, All-nil, All-cons, same_Some, none-some, All, IsLegal, Fits, LineFields}
use Rattle.mothra_ops.proofs.Common.{IsProgram, NodeOf, nodes_of, Site, sites, sites_behind, statement_or, Statement, form_of, same_statement, Op, Rsr, San}
use Rattle.mothra_ops.proofs.Common.{Sdl, numbered, made, IsMember, MakesLegal, Edit, pools_of, PoolFields, gives, replacements, stands_in, acts_or_continues}
use Rattle.mothra_ops.proofs.Common.{is_replaceable_action, new_statement}
use Rattle.f77_tree.specs.declared.form.Form.{Form}
use Rattle.f77_tree.specs.Name.{is_symbolic}
use Rattle.f77_program.specs.Formed.{is_action}
use Rattle.f77_program.specs.code.Formed.{statement_formed}
use Rattle.f77_program.specs.Group.{form_group, group_of}
use Rattle.f77_program.specs.declared.group.Group.TheVariants.{Executable}
use Rattle.f77_program.proofs.StatementForming.{formed_spelled}
use Rattle.f77_tree.proofs.Tests.{and_true}
use Rattle.mothra_replacements.proofs.FormedCandidates.{IsFit, chosen, gives_fit}
use Rattle.mothra_replacements.proofs.FormedNodes.{IsFormedLine, IsFormedNode, lines_formed, nodes_formed}
use Rattle.mothra_replacements.proofs.FormedPools.{pools_formed}
use Rattle.mothra_replacements.proofs.FormedSites.{behind_put}
use Rattle.mothra_ops.proofs.Members.{node_there, steps}
use Rattle.mothra_ops.proofs.Numbered.{at_number, at_place}

counted : (program : List LineFields) (number : ℕ) (line : LineFields) → numbered program number ≡ Some line
    → (1 ≤ number) × (slice_get program (number - 1) ≡ Some line)
counted program zero line at = absurd (none-some line at)
counted program (suc k) line at = let e : suc k - 1 ≡ k = omega arith in (omega arith, ap (slice_get program) e ∙ at)

-- a statement that is put in the place of a whole statement is of its group
abbrev IsOfGroup : Statement → NodeOf → Type 0
IsOfGroup s new = group_of (statement_or s new) ≡ group_of s

acts_too : (form : Form) → is_replaceable_action form ≡ true → acts_or_continues form ≡ true
acts_too Form.Continue e = refl
acts_too _ e = e

executable : (form : Form) → acts_or_continues form ≡ true → form_group form ≡ Executable
executable Form.Subroutine e = absurd (true≢false (sym e))
executable Form.Declare e = absurd (true≢false (sym e))
executable Form.Dimension e = absurd (true≢false (sym e))
executable Form.Preset e = absurd (true≢false (sym e))
executable Form.End e = absurd (true≢false (sym e))
executable _ e = refl

statements_of_group : (is_site : Form → Bool) → ((form : Form) → is_site form ≡ true → acts_or_continues form ≡ true) → (new s : Statement)
    → group_of new ≡ Executable → All (IsOfGroup s) (new_statement is_site new s)
statements_of_group is_site executes new s group = by (is_site (form_of s)) refl
  where
    by : (b : Bool) → is_site (form_of s) ≡ b → All (IsOfGroup s) (if b && not (same_statement new s) then NodeOf.Itself new ∷ [] else [])
    by true e =
        chosen (IsOfGroup s) (not (same_statement new s)) (NodeOf.Itself new ∷ []) []
        (All-cons (IsOfGroup s) (NodeOf.Itself new) [] (group ∙ sym (executable (form_of s) (executes (form_of s) e))) (All-nil (IsOfGroup s)))
        (All-nil (IsOfGroup s))
    by false e = All-nil (IsOfGroup s)

module _ (pools : PoolFields) (s : Statement) where
  replacements_of_group : (op : Op) → All (IsOfGroup s) (replacements op pools (NodeOf.Itself s))
  replacements_of_group Rsr = statements_of_group acts_or_continues (λ form e. e) Statement.Return s refl
  replacements_of_group San = statements_of_group acts_or_continues (λ form e. e) Statement.Trap s refl
  replacements_of_group Sdl = statements_of_group is_replaceable_action acts_too Statement.Continue s refl
  replacements_of_group _ = All-nil (IsOfGroup s)

  gives_of_group : (op : Op) → All (IsOfGroup s) (gives op pools s (NodeOf.Itself s))
  gives_of_group op =
      chosen (IsOfGroup s) (stands_in op s) (replacements op pools (NodeOf.Itself s)) [] (replacements_of_group op) (All-nil (IsOfGroup s))

whole_formed : (s : Statement) (new : NodeOf) → IsFit new → statement_formed is_symbolic s ≡ true → statement_formed is_symbolic (statement_or s new) ≡ true
whole_formed s (NodeOf.Itself other) fit f = (and_true (is_action other) (statement_formed is_symbolic other) fit).1
whole_formed s _ fit f = f

-- a statement that may stand in the place of another one
abbrev MayReplace : Statement → Statement → Type 0
MayReplace old new = (statement_formed is_symbolic new ≡ true) × (group_of new ≡ group_of old)

may_replace : (pools : PoolFields) (op : Op) (s : Statement) (position rank : ℕ) (site : Site Statement) (new : NodeOf) → statement_formed is_symbolic s ≡ true
    → IsFit new → slice_get (sites s) position ≡ Some site → numbered (gives op pools s site.0) rank ≡ Some new → MayReplace s (site.1 new)
may_replace pools op s zero rank site new f fit at candidate =
    subst (λ (x : Site Statement). numbered (gives op pools s x.0) rank ≡ Some new → MayReplace s (x.1 new)) (same_Some _ _ at)
    (λ whole. (whole_formed s new fit f, at_number (IsOfGroup s) (gives op pools s (NodeOf.Itself s)) rank new (gives_of_group pools s op) whole)) candidate
may_replace pools op s (suc p) rank site new f fit at candidate =
    let kept = at_place (λ (x : Site Statement). (statement_formed is_symbolic (x.1 new) ≡ true) × (form_of (x.1 new) ≡ form_of s)) (sites_behind s) p site
    (behind_put new fit s f) at in
    (kept.0, ap form_group kept.1)

module _ (program : List LineFields) (is : IsProgram None program) (legal : IsLegal program) where
  pub made_fits : (edit : Edit) (statement : Statement) → made (pools_of program) program edit ≡ Some statement
      → Fits program edit.statement statement
  made_fits edit statement makes =
      let k = steps (pools_of program) program edit statement makes in
      let s = k.line.stmt in
      let formed = at_number IsFormedLine program edit.statement k.line (lines_formed program is) k.of_line in
      let node = at_place IsFormedNode (nodes_of s) edit.position k.site.0 (nodes_formed s formed) (node_there s edit.position k.site k.of_site) in
      let all_fit = gives_fit (pools_of program) (pools_formed program is legal) edit.op s k.site.0 node in
      let fit = at_number IsFit (gives edit.op (pools_of program) s k.site.0) edit.rank k.new all_fit k.of_new in
      let may : MayReplace s statement =
      subst (MayReplace s) k.is (may_replace (pools_of program) edit.op s edit.position edit.rank k.site k.new formed fit k.of_site k.of_new) in
      let place = counted program edit.statement k.line k.of_line in
      record { line = k.line; counted = place.0; at = place.1; formed = formed_spelled statement may.0; group = may.1 }

  pub legal_members : (op : Op) (edit : Edit) → IsMember op program edit ↔ MakesLegal op program edit
  legal_members op edit = (
    λ m. record { own = m.own; statement = m.statement; makes = m.makes; legal = m.mutant.legal; differs = m.mutant.differs },
    λ m. record {
      own = m.own;
      statement = m.statement;
      makes = m.makes;
      mutant = record { fits = made_fits edit m.statement m.makes; legal = m.legal; differs = m.differs };
    },
  )
