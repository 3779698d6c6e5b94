-- What an edit makes, concluded from the line, the node and the replacement that are found.
use Rattle.mothra_ops.proofs.Common.{◌≡◌, ◌∙◌, ap, sym, List, map, arith, refl, Some, length, ℕ, ◌≤◌, None, ◌+◌, ◌-◌, suc, ◌<◌, inr, slice_get, zero, Option}
use Rattle.mothra_ops.proofs.Common.{inl, ◌⊎◌, option_map, get_or, drop, set, drop-drop, drop-set-lt, length-map, map-set, none-some, slice_get-map}
use Rattle.mothra_ops.proofs.Common.{slice_get_read, slice_get_past, slice_get_cases, option_and_then, line_of, LineFields, line_at, Line, NodeOf, nodes_of}
use Rattle.mothra_ops.proofs.Common.{node_of, replacement_of, changed, Site, sites, statement_of, Statement, Node, Replacement, Op, numbered, made}
use Rattle.mothra_ops.proofs.Common.{HasStatement, Edit, PoolFields, gives}
use Rattle.mothra_ops.proofs.Left.{numbered_behind}
use Rattle.mothra_ops.proofs.Members.{node_there, made_there}
use Rattle.mothra_ops.proofs.MakesMutant.{line_numbered}

-- a number that no item has
pub past : {X : Type 0} (xs : List X) (r : ℕ) → (r ≡ 0) ⊎ (length xs < r) → numbered xs r ≡ None
past xs zero h = refl
past xs (suc k) (inl e) = absurd (omega (arith, e))
past xs (suc k) (inr h) = slice_get_past xs k (omega (arith, h))

-- the number of an item, from 1
pub item_numbered : (replacements : List Replacement) (r : ℕ) (new : Replacement) → 1 ≤ r
    → r ≤ length replacements → new ≡ get_or replacements (r - 1) new → numbered (map replacement_of replacements) r ≡ Some (replacement_of new)
item_numbered replacements zero new low high is = absurd (omega (arith, low))
item_numbered replacements (suc k) new low high is =
    let e : suc k - 1 ≡ k = omega arith in
    slice_get-map replacement_of replacements k ∙ ap (option_map replacement_of) (slice_get_read replacements (length replacements) k new refl
    (omega (arith, high)) (is ∙ ap (λ (j : ℕ). get_or replacements j new) e))

pub next_numbered : (replacements : List Replacement) (k : ℕ) (new : Replacement)
    → k < length replacements → new ≡ get_or replacements k new → numbered (map replacement_of replacements) (k + 1) ≡ Some (replacement_of new)
next_numbered replacements k new low is =
    let e : k ≡ k + 1 - 1 = omega arith in
    item_numbered replacements (k + 1) new (omega arith) (omega (arith, low)) (is ∙ ap (λ (j : ℕ). get_or replacements j new) e)

-- the node of a statement at a place, and the line of a program with a number
pub node_listed : (nodes : List Node) (s : Statement) (k : ℕ) (node : Node) → map node_of nodes ≡ nodes_of s → k < length nodes → node ≡ get_or nodes k node
    → slice_get (nodes_of s) k ≡ Some (node_of node)
node_listed nodes s k node all low is =
    ap (λ (ns : List NodeOf). slice_get ns k) (sym all) ∙ slice_get-map node_of nodes k ∙ ap (option_map node_of) (slice_get_read nodes (length nodes) k node refl low is)

pub line_has : (lines : List Line) (k : ℕ) (line : Line) → k < length lines → line ≡ get_or lines k line → HasStatement (map line_of lines) (k + 1) (statement_of line.stmt)
line_has lines k line low is =
    let e : k + 1 ≡ suc k = omega arith in
    ap (λ (j : ℕ). option_map (λ (l : LineFields). l.stmt) (numbered (map line_of lines) j)) e
    ∙ ap (option_map (λ (l : LineFields). l.stmt)) (slice_get-map line_of lines k ∙ ap (option_map line_of) (slice_get_read lines (length lines) k line refl low is))

-- what an operator gives, where it and the pools are named by equal terms
module _ (op other : Op) (pools expected : PoolFields) (s : Statement) (node : NodeOf) (replacements : List Replacement) (same : other ≡ op) (drawn : pools ≡ expected)
    (are_candidates : map replacement_of replacements ≡ gives op pools s node) where
  pub the_candidates : gives other expected s node ≡ map replacement_of replacements
  the_candidates = ap (λ (o : Op). gives o expected s node) same ∙ ap (λ (p : PoolFields). gives op p s node) (sym drawn) ∙ sym are_candidates

  pub candidate_count : length (gives other expected s node) ≡ length replacements
  candidate_count = ap length the_candidates ∙ length-map replacements replacement_of

-- what an operator gives with a rank, where the replacements before that rank may have changed
pub left_next : (op other : Op) (pools expected : PoolFields) (s : Statement) (node : NodeOf) (replacements : List Replacement) (k : ℕ) (new : Replacement)
    → other ≡ op → pools ≡ expected → drop k (map replacement_of replacements) ≡ drop k (gives op pools s node) → k < length replacements → new ≡ get_or replacements k new
    → numbered (gives other expected s node) (k + 1) ≡ Some (replacement_of new)
left_next op other pools expected s node replacements k new same drawn left low is =
    ap (λ (o : Op). numbered (gives o expected s node) (k + 1)) same ∙ ap (λ (p : PoolFields). numbered (gives op p s node) (k + 1)) (sym drawn)
    ∙ sym (numbered_behind (map replacement_of replacements) (gives op pools s node) k left (k + 1) (omega arith)) ∙ next_numbered replacements k new low is

pub left_more : (candidates : List NodeOf) (replacements : List Replacement) (k : ℕ) (new : Replacement) → drop k (map replacement_of replacements) ≡ drop k candidates
    → drop (k + 1) (map replacement_of (set replacements k new)) ≡ drop (k + 1) candidates
left_more candidates replacements k new left =
    let after : k < k + 1 = omega arith in
    ap (drop (k + 1)) (map-set replacement_of replacements k new) ∙ drop-set-lt (k + 1) (map replacement_of replacements) k (replacement_of new) after
    ∙ sym (drop-drop 1 k (map replacement_of replacements)) ∙ ap (drop 1) left ∙ drop-drop 1 k candidates

-- an edit makes nothing where the statement has no such node, or the operator gives nothing with the rank
module _ (pools : PoolFields) (lines : List Line) (edit : Edit) (line : Line) (at : line_at lines edit.statement ≡ Some line) where
  of_line : numbered (map line_of lines) edit.statement ≡ Some (line_of line)
  of_line = line_numbered lines edit.statement ∙ ap (option_map line_of) at

  abbrev at_site : Statement → Option (Site Statement) → Option Statement
  at_site stmt o = option_and_then (λ (x : Site Statement). option_and_then (λ n. Some (x.1 n)) (numbered (gives edit.op pools stmt x.0) edit.rank)) o

  there : made pools (map line_of lines) edit ≡ at_site (statement_of line.stmt) (slice_get (sites (statement_of line.stmt)) edit.position)
  there = ap (option_and_then (λ (l : LineFields). at_site l.stmt (slice_get (sites l.stmt) edit.position))) of_line

  pub no_node : slice_get (nodes_of (statement_of line.stmt)) edit.position ≡ None → made pools (map line_of lines) edit ≡ None
  no_node none = elim (slice_get_cases (sites (statement_of line.stmt)) edit.position).1 [
    | inl (site, low, of_site, i) ↦ absurd (none-some site.0 (sym none ∙ node_there (statement_of line.stmt) edit.position site of_site))
    | inr (high, no_site) ↦ there ∙ ap (at_site (statement_of line.stmt)) no_site
  ]

  module _ (node : NodeOf) (node_is : slice_get (nodes_of (statement_of line.stmt)) edit.position ≡ Some node) where
    pub no_new : numbered (gives edit.op pools (statement_of line.stmt) node) edit.rank ≡ None → made pools (map line_of lines) edit ≡ None
    no_new none = elim (slice_get_cases (sites (statement_of line.stmt)) edit.position).1 [
      | inl (site, low, of_site, i) ↦
          let same : Some site.0 ≡ Some node = sym (node_there (statement_of line.stmt) edit.position site of_site) ∙ node_is in
          there ∙ ap (at_site (statement_of line.stmt)) of_site
          ∙ ap (λ (o : Option NodeOf). option_and_then (λ n. Some (site.1 n)) (option_and_then (λ (m : NodeOf). numbered (gives edit.op pools (statement_of line.stmt) m) edit.rank) o)) same
          ∙ ap (option_and_then (λ n. Some (site.1 n))) none
      | inr (high, no_site) ↦ there ∙ ap (at_site (statement_of line.stmt)) no_site
    ]

    pub the_new : (new : NodeOf) → numbered (gives edit.op pools (statement_of line.stmt) node) edit.rank ≡ Some new
        → made pools (map line_of lines) edit ≡ Some (changed (statement_of line.stmt) edit.position new)
    the_new new is =
        made_there pools (map line_of lines) edit.op edit.statement edit.position edit.rank (statement_of line.stmt) node new
        (record { statement_at = ap (option_map (λ (l : LineFields). l.stmt)) of_line; node_at = node_is }) is
