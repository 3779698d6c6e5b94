-- What an edit makes, concluded from what its operator gives for its node.
use Rattle.mothra_ops.proofs.Common.{◌≡◌, ◌∙◌, ap, sym, List, map, arith, refl, Some, length, ◌≤◌, None, [], ◌-◌, ◌<◌, inr, slice_get, Option, inl, ◌⊎◌}
use Rattle.mothra_ops.proofs.Common.{option_map, get_or, length-map, same_Some, none-some, option_and_then, option_map_or, line_of, LineFields, line_at, Line}
use Rattle.mothra_ops.proofs.Common.{NodeOf, nodes_of, replacement_of, changed, Site, sites, statement_of, Statement, Replacement, numbered, made, HasStatement}
use Rattle.mothra_ops.proofs.Common.{candidates_at, Edit, PoolFields, gives}
use Rattle.mothra_ops.proofs.Made.{item_numbered, no_node, no_new, past, the_new}
use Rattle.mothra_ops.proofs.MakesMutant.{line_numbered, line_stands}
use Rattle.mothra_ops.proofs.Numbered.{nothing_numbered}

module _ (pools : PoolFields) (lines : List Line) (edit : Edit) where
  abbrev candidates : List NodeOf
  candidates = candidates_at pools (map line_of lines) edit.op edit.statement edit.position

  module _ (none : line_at lines edit.statement ≡ None) where
    of_none : numbered (map line_of lines) edit.statement ≡ None
    of_none = line_numbered lines edit.statement ∙ ap (option_map line_of) none

    -- where no statement stands, nothing is made
    none_made : made pools (map line_of lines) edit ≡ None
    none_made =
        ap
        (option_and_then (λ (l : LineFields). option_and_then (λ (site : Site Statement). option_and_then (λ node. Some (site.1 node))
        (numbered (gives edit.op pools l.stmt site.0) edit.rank)) (slice_get (sites l.stmt) edit.position)))
        of_none

  module _ (line : Line) (at : line_at lines edit.statement ≡ Some line) where
    of_line : candidates ≡ option_map_or (gives edit.op pools (statement_of line.stmt)) (slice_get (nodes_of (statement_of line.stmt)) edit.position) []
    of_line =
        ap (λ (o : Option LineFields). option_map_or (λ l. option_map_or (gives edit.op pools l.stmt) (slice_get (nodes_of l.stmt) edit.position) []) o [])
        (line_numbered lines edit.statement ∙ ap (option_map line_of) at)

    candidates_there : (node : NodeOf) → slice_get (nodes_of (statement_of line.stmt)) edit.position ≡ Some node → candidates ≡ gives edit.op pools (statement_of line.stmt) node
    candidates_there node is = of_line ∙ ap (λ (o : Option NodeOf). option_map_or (gives edit.op pools (statement_of line.stmt)) o []) is

    candidates_nowhere : slice_get (nodes_of (statement_of line.stmt)) edit.position ≡ None → candidates ≡ []
    candidates_nowhere none = of_line ∙ ap (λ (o : Option NodeOf). option_map_or (gives edit.op pools (statement_of line.stmt)) o []) none

    -- the candidate with the edit's rank is put in the place of the old node
    candidate_made : (new : NodeOf) → numbered candidates edit.rank ≡ Some new → made pools (map line_of lines) edit ≡ Some (changed (statement_of line.stmt) edit.position new)
    candidate_made new is = by (slice_get (nodes_of (statement_of line.stmt)) edit.position) refl
      where
        by : (o : Option NodeOf) → slice_get (nodes_of (statement_of line.stmt)) edit.position ≡ o
            → made pools (map line_of lines) edit ≡ Some (changed (statement_of line.stmt) edit.position new)
        by (Some node) e = the_new pools lines edit line at node e new (sym (ap (λ (ns : List NodeOf). numbered ns edit.rank) (candidates_there node e)) ∙ is)
        by None e = absurd (none-some new (sym (nothing_numbered edit.rank) ∙ sym (ap (λ (ns : List NodeOf). numbered ns edit.rank) (candidates_nowhere e)) ∙ is))

    not_made : numbered candidates edit.rank ≡ None → made pools (map line_of lines) edit ≡ None
    not_made none = by (slice_get (nodes_of (statement_of line.stmt)) edit.position) refl
      where
        by : (o : Option NodeOf) → slice_get (nodes_of (statement_of line.stmt)) edit.position ≡ o → made pools (map line_of lines) edit ≡ None
        by (Some node) e = no_new pools lines edit line at node e (sym (ap (λ (ns : List NodeOf). numbered ns edit.rank) (candidates_there node e)) ∙ none)
        by None e = no_node pools lines edit line at e

  -- where no candidate has the edit's rank, the edit makes nothing
  nothing_made : numbered candidates edit.rank ≡ None → made pools (map line_of lines) edit ≡ None
  nothing_made none = by (line_at lines edit.statement) refl
    where
      by : (o : Option Line) → line_at lines edit.statement ≡ o → made pools (map line_of lines) edit ≡ None
      by (Some line) e = not_made line e none
      by None e = none_made e

  -- the edit puts the candidate with its rank into the statement that stands there
  candidate_puts : (new : NodeOf) → numbered candidates edit.rank ≡ Some new → (s : Statement) → HasStatement (map line_of lines) edit.statement s
      → made pools (map line_of lines) edit ≡ Some (changed s edit.position new)
  candidate_puts new at s has = by (line_at lines edit.statement) refl
    where
      by : (o : Option Line) → line_at lines edit.statement ≡ o → made pools (map line_of lines) edit ≡ Some (changed s edit.position new)
      by (Some line) e =
          let same : statement_of line.stmt ≡ s = same_Some _ _ (sym (line_stands lines edit.statement line e) ∙ has) in
          candidate_made line e new at ∙ ap (λ (t : Statement). Some (changed t edit.position new)) same
      by None e = absurd (none-some s (sym (ap (option_map (λ (l : LineFields). l.stmt)) (of_none e)) ∙ has))

-- what the edit makes, concluded from the list of replacements, where the pools are named by equal terms
module _ (pools expected : PoolFields) (lines : List Line) (edit : Edit) (items : List Replacement) (drawn : pools ≡ expected)
    (is : map replacement_of items ≡ candidates_at pools (map line_of lines) edit.op edit.statement edit.position) where
  pub replacement_puts : (new : Replacement) → 1 ≤ edit.rank → edit.rank ≤ length items → new ≡ get_or items (edit.rank - 1) new
      → (s : Statement) → HasStatement (map line_of lines) edit.statement s → made expected (map line_of lines) edit ≡ Some (changed s edit.position (replacement_of new))
  replacement_puts new low high stands s has =
      let at : numbered (candidates pools lines edit) edit.rank ≡ Some (replacement_of new) =
      ap (λ (ns : List NodeOf). numbered ns edit.rank) (sym is) ∙ item_numbered items edit.rank new low high stands in
      ap (λ (p : PoolFields). made p (map line_of lines) edit) (sym drawn) ∙ candidate_puts pools lines edit (replacement_of new) at s has

  pub no_replacement : (edit.rank ≡ 0) ⊎ (length items < edit.rank) → made expected (map line_of lines) edit ≡ None
  no_replacement none =
      let long : length (map replacement_of items) ≡ length items = length-map items replacement_of in
      let nowhere : (edit.rank ≡ 0) ⊎ (length (map replacement_of items) < edit.rank) = elim none [
        | inl e ↦ inl e
        | inr e ↦ inr (omega (arith, long, e))
      ] in
      ap (λ (p : PoolFields). made p (map line_of lines) edit) (sym drawn)
      ∙ nothing_made pools lines edit (ap (λ (ns : List NodeOf). numbered ns edit.rank) (sym is) ∙ past (map replacement_of items) edit.rank nowhere)
