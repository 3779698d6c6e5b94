use Rattle.f77_check.proofs.Common.{◌≡◌, ap, ◌∙◌, sym, map, subst, List, refl, ℕ, Some, true, get_or, ◌-◌, option_map, CanResolve, CheckedFields, Resolver}
use Rattle.f77_check.proofs.Common.{first_clause, has_name, names_pass, Serve, line_of, Line, Statement, statement_of}
use Rattle.f77_legal.specs.Broken.{clause_found, has_known_names}
use Rattle.f77_legal.specs.Clause.{clause_fault}
use Rattle.f77_legal.specs.Alone.{StandsAlone}
use Rattle.f77_legal.specs.declared.broken.Broken.{Broken}
use Rattle.f77_check.proofs.Changes.{line_read, found_alone, found_fault, found_legal}
use Rattle.f77_check.proofs.checked.Checked.judged_alone.Goals as goal

-- what the resolver and the lines say of the statement
of_names : (own r : Resolver) (s : Statement) (broken : Broken) → own ≡ r → names_pass (has_name own.tables.names) s ≡ has_known_names broken
    → names_pass (has_name r.tables.names) s ≡ has_known_names broken
of_names own r s broken same names = subst (λ (r : Resolver). names_pass (has_name r.tables.names) s ≡ has_known_names broken) same names

of_first : (own r : Resolver) (read lines : List Line) (i : ℕ) (s : Statement) (broken : Broken) → own ≡ r → read ≡ lines
    → (Serve own.tables (map line_of read) → has_known_names broken ≡ true → clause_found broken ≡ first_clause (map line_of read) i s)
    → Serve r.tables (map line_of lines) → has_known_names broken ≡ true → clause_found broken ≡ first_clause (map line_of lines) i s
of_first own r read lines i s broken same all first =
    subst (λ (r : Resolver). Serve r.tables (map line_of lines) → has_known_names broken ≡ true → clause_found broken ≡ first_clause (map line_of lines) i s) same
    (subst (λ lines. Serve own.tables (map line_of lines) → has_known_names broken ≡ true → clause_found broken ≡ first_clause (map line_of lines) i s) all first)

pub returns-in-Nothing-clause-alone : goal.returns-in-Nothing-clause-alone
returns-in-Nothing-clause-alone c = λ _.
    let s = statement_of c.args.stmt.now in
    let p = map line_of c.args.self.now.program in
    let r = c.self.inside.resolver in
    let can = subst (λ (self : CheckedFields). CanResolve r (map line_of self.program)) c.self.view_is c.self.invariant.1 in
    let same = c.lines-lines.ensures.lines ∙ ap (λ self. self.program) c.self.view_is in
    subst (λ names. StandsAlone names p (c.args.number - 1) s) (ap (λ self. self.names) c.self.view_is)
    (found_alone r p can (c.args.number - 1) s c.requires.formed (c.if-not-frame_stays.ensures refl) c.first_broken.result
    (of_names _ r s c.first_broken.result c.deref.ensures c.first_broken.ensures.names)
    (of_first _ r _ _ (c.args.number - 1) s c.first_broken.result c.deref.ensures same c.first_broken.ensures.first) (ap has_known_names c.in-Nothing.is))

pub returns-in-Nothing-clause-legal : goal.returns-in-Nothing-clause-legal
returns-in-Nothing-clause-legal c = λ _.
    let s = statement_of c.args.stmt.now in
    let p = map line_of c.args.self.now.program in
    let r = c.self.inside.resolver in
    let can = subst (λ (self : CheckedFields). CanResolve r (map line_of self.program)) c.self.view_is c.self.invariant.1 in
    let same = c.lines-lines.ensures.lines ∙ ap (λ self. self.program) c.self.view_is in
    found_legal r p can (c.args.number - 1) s c.requires.formed (c.if-not-frame_stays.ensures refl) c.first_broken.result
    (of_names _ r s c.first_broken.result c.deref.ensures c.first_broken.ensures.names)
    (of_first _ r _ _ (c.args.number - 1) s c.first_broken.result c.deref.ensures same c.first_broken.ensures.first) (ap has_known_names c.in-Nothing.is)
    (ap clause_found c.in-Nothing.is)

pub returns-in-First-clause-fault : goal.returns-in-First-clause-fault
returns-in-First-clause-fault c =
    let s = statement_of c.args.stmt.now in
    let p = map line_of c.args.self.now.program in
    let i = c.args.number - 1 in
    let r = c.self.inside.resolver in
    let can = subst (λ (self : CheckedFields). CanResolve r (map line_of self.program)) c.self.view_is c.self.invariant.1 in
    let same = c.lines-lines.ensures.lines ∙ ap (λ self. self.program) c.self.view_is in
    let stays = c.if-not-frame_stays.ensures refl in
    let read = c.index-lines-i.is ∙ ap (λ lines. get_or lines i c.index-lines-i.result) same in
    let line = line_read c.args.self.now.program i c.index-lines-i.result stays.line stays.at read in
    found_fault r p can i s c.requires.formed stays c.first_broken.result
    (of_names _ r s c.first_broken.result c.deref.ensures c.first_broken.ensures.names)
    (of_first _ r _ _ i s c.first_broken.result c.deref.ensures same c.first_broken.ensures.first) (ap has_known_names c.in-First.is)
    ∙ ap (option_map (λ clause. clause_fault clause stays.line.line)) (ap clause_found c.in-First.is)
    ∙ ap (λ n. Some (clause_fault c.in-First.clause n)) (sym (ap (λ l. l.line) c.deref-in-First.ensures ∙ ap (λ l. l.line) line))
    ∙ ap Some (sym c.fault.ensures)
