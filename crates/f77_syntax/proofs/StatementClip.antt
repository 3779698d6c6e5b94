-- Within the limits keeping a statement changes nothing.
use Rattle.f77_syntax.proofs.Common.{refl, ◌∙◌, sym, ap, ◌≡◌, true, Some, None, Option, ◌&&◌, option_map, list_all, clip, clip_statement, all_small_constants}
use Rattle.f77_syntax.proofs.Common.{small_constants, by_part, decided_by_part, and_true, statement_constants, is_label, is_short, statement_names}
use Rattle.f77_syntax.proofs.Common.{all_short_names, short_names, of_value, Statement, Tree}
use Rattle.f77_syntax.proofs.Clip.{short_cut, short_cuts, kept, all_kept, declaration_kept, data_kept}

step_kept : (c : Option Tree) → of_value short_names c ≡ true → of_value small_constants c ≡ true → option_map clip c ≡ c
step_kept None s h = refl
step_kept (Some t) s h = ap Some (kept t s h)

kept_by_part : (s : Statement) → statement_names s ≡ true → by_part s ≡ true → clip_statement s ≡ s
kept_by_part (Statement.Subroutine name names) n h =
    let (first, others) = and_true (is_short name) (list_all is_short names) n in rw (short_cut name first, short_cuts names others) refl
kept_by_part (Statement.Declare kind ds) n h = ap (Statement.Declare kind) (declaration_kept ds n h)
kept_by_part (Statement.Dimension ds) n h = ap Statement.Dimension (declaration_kept ds n h)
kept_by_part (Statement.Preset gs) n h = ap Statement.Preset (data_kept gs n h)
kept_by_part (Statement.Assign name items t) n h =
    let (named, rest) = and_true (is_short name) (all_short_names items && short_names t) n in
    let (first, second) = and_true (all_short_names items) (short_names t) rest in
    let (l, r) = and_true (all_small_constants items) (small_constants t) h in
    rw (short_cut name named, all_kept items first l, kept t second r) refl
kept_by_part (Statement.Goto label) n h = refl
kept_by_part (Statement.ComputedGoto labels t) n h =
    let (all, value) = and_true (list_all is_label labels) (small_constants t) h in rw (kept t n value) refl
kept_by_part (Statement.ArithIf t l m o) n h =
    let (first, labels) = and_true (small_constants t) (is_label l && (is_label m && is_label o)) h in rw (kept t n first) refl
kept_by_part (Statement.LogicalIf t s) n h =
    let (named, others) = and_true (short_names t) (statement_names s) n in
    let (first, rest) = and_true (small_constants t) (by_part s) h in rw (kept t named first, kept_by_part s others rest) refl
kept_by_part (Statement.BlockIf t) n h = rw (kept t n h) refl
kept_by_part (Statement.ElseIf t) n h = rw (kept t n h) refl
kept_by_part (Statement.Loop label name a b c) n h =
    let (named, trees_named) = and_true (is_short name) (short_names a && (short_names b && of_value short_names c)) n in
    let (a_named, b_and_c_named) = and_true (short_names a) (short_names b && of_value short_names c) trees_named in
    let (b_named, c_named) = and_true (short_names b) (of_value short_names c) b_and_c_named in
    let (one, rest) = and_true (is_label label) (small_constants a && (small_constants b && of_value small_constants c)) h in
    let (first, others) = and_true (small_constants a) (small_constants b && of_value small_constants c) rest in
    let (second, third) = and_true (small_constants b) (of_value small_constants c) others in
    rw (short_cut name named, kept a a_named first, kept b b_named second, step_kept c c_named third) refl
kept_by_part _ n h = refl

pub statement_kept : (s : Statement) → statement_names s ≡ true → statement_constants s ≡ true → clip_statement s ≡ s
statement_kept s n h = kept_by_part s n (sym (decided_by_part s) ∙ h)
