-- Tables that answer for a program.
use Rattle.f77_legal.proofs.Common.{◌≡◌, ◌∙◌, ap, map, List, ℕ, None, option_map, if◌then◌else◌, is_block_if, HaveOneFrame, branch_end_at, IsLabelTable}
use Rattle.f77_legal.proofs.Common.{block_end_at, else_end_at, is_else, IsBlockTable, distinct, AreTables, IsRangeTable, Serve, tabled, Blocks, Ranges, Labels}
use Rattle.f77_legal.proofs.Common.{LineFields}
use Rattle.f77_legal.specs.declared.tables.Tables.{Tables}
use Rattle.f77_legal.proofs.Frames.{is_block_if-framed, is_else-framed}
use Rattle.f77_legal.proofs.FrameNames.{kind_of_same, bounds_of_same}
use Rattle.f77_legal.proofs.Lookups.{same_kinds, same_bounds}
use Rattle.f77_legal.proofs.SameFrame.{length_same, numbers_same, labels_same, is_double_same, place_of_same, has_at_same, block_end_same, branch_end_same}
use Rattle.f77_legal.proofs.SameFrame.{begins_branch_same, branch_holds_same, terminal_same}

pub own_tables_serve : (tables : Tables) (program : List LineFields) → AreTables tables program → Serve tables program
own_tables_serve tables program are = record {
  kinds = same_kinds tables.names program are.names;
  bounds = same_bounds tables.names program are.names;
  labels = are.labels;
  blocks = are.blocks;
  ranges = are.ranges;
}

-- tables that serve a program serve each program of the same frame
module _ (p q : List LineFields) (same : HaveOneFrame p q) where
  labels_serve : (table : Labels) → IsLabelTable table p → IsLabelTable table q
  labels_serve table is = record {
    places = λ label. is.places label ∙ (λ k. option_map (λ first. record { first = first; again = is_double_same p q same label k }) (place_of_same p q same label k));
    order = is.order ∙ ap distinct (labels_same p q same);
  }

  tabled_same : {X : Type 0} (value : List LineFields → ℕ → X) → ((i : ℕ) → value p i ≡ value q i) → tabled value p ≡ tabled value q
  tabled_same value equal = λ k. map (λ i. equal i k) (numbers_same p q same k)

  block_end_at_same : (i : ℕ) → block_end_at p i ≡ block_end_at q i
  block_end_at_same i = λ k. if has_at_same p q same is_block_if is_block_if-framed i k then block_end_same p q same i k else None

  else_end_at_same : (i : ℕ) → else_end_at p i ≡ else_end_at q i
  else_end_at_same i = λ k. if has_at_same p q same is_else is_else-framed i k then branch_end_same p q same i k else None

  branch_end_at_same : (i : ℕ) → branch_end_at p i ≡ branch_end_at q i
  branch_end_at_same i = λ k. if begins_branch_same p q same i k then branch_end_same p q same i k else None

  blocks_serve : (table : Blocks) → IsBlockTable table p → IsBlockTable table q
  blocks_serve table is = record {
    ends = is.ends ∙ tabled_same block_end_at block_end_at_same;
    else_ends = is.else_ends ∙ tabled_same else_end_at else_end_at_same;
    branch_ends = is.branch_ends ∙ tabled_same branch_end_at branch_end_at_same;
  }

  ranges_serve : (ranges : Ranges) → IsRangeTable ranges p → IsRangeTable ranges q
  ranges_serve ranges is = record {
    entries = is.entries ∙ length_same p q same;
    terminals = λ d. is.terminals d ∙ terminal_same p q same d;
    branch_ends = λ i k. is.branch_ends i k ∙ branch_holds_same p q same i k;
    heads = is.heads;
  }

  pub tables_serve : (tables : Tables) → Serve tables p → Serve tables q
  tables_serve tables serve = record {
    kinds = serve.kinds ∙ (λ k name. kind_of_same p q same name k);
    bounds = serve.bounds ∙ (λ k name. bounds_of_same p q same name k);
    labels = labels_serve tables.labels serve.labels;
    blocks = blocks_serve tables.blocks serve.blocks;
    ranges = ranges_serve tables.ranges serve.ranges;
  }
