-- The members of an operator's list: where they stand, and which edits are members.
use Rattle.mothra_ops.proofs.Common.{◌≡◌, ◌∙◌, ap, sym, List, arith, refl, Some, length, subst, ℕ, ◌≤◌, None, ◌+◌, suc, ◌<◌, inr, slice_get, zero, Option, inl}
use Rattle.mothra_ops.proofs.Common.{option_map, same_Some, none-some, slice_get-map, slice_get_cases, slice_get_within, option_and_then_some, option_and_then}
use Rattle.mothra_ops.proofs.Common.{LineFields, NodeOf, nodes_of, changed, Site, sites, node_at, put_node, Statement, Op, numbered, made, IsMutant, IsMember}
use Rattle.mothra_ops.proofs.Common.{HasStatement, StandsAt, Edit, pools_of, PoolFields, gives}
use Rattle.f77_tree.proofs.Numbering.{numbering}
use Rattle.mothra_ops.proofs.Cursor.{edit_at}

-- the number of an item is 1 at least and the length of the list at most
number_within : {X : Type 0} (xs : List X) (k : ℕ) (x : X) → numbered xs k ≡ Some x → (0 < k) × (k ≤ length xs)
number_within xs zero x e = absurd (none-some x e)
number_within xs (suc k) x e = let low : k < length xs = slice_get_within xs k x e in (omega arith, omega (arith, low))

some_of : {A B : Type 0} (f : A → B) (o : Option A) (y : B) (P : Type 0) → option_map f o ≡ Some y → ((x : A) → o ≡ Some x → f x ≡ y → P) → P
some_of f None y P e next = absurd (none-some y e)
some_of f (Some x) y P e next = next x refl (same_Some (f x) y e)

-- the line, the site and the new node of an edit that makes a statement
pub record Steps (pools : PoolFields) (program : List LineFields) (e : Edit) (statement : Statement) : Type 0 where
  pub line : LineFields
  pub site : Site Statement
  pub new : NodeOf
  pub of_line : numbered program e.statement ≡ Some line
  pub of_site : slice_get (sites line.stmt) e.position ≡ Some site
  pub of_new : numbered (gives e.op pools line.stmt site.0) e.rank ≡ Some new
  pub is : site.1 new ≡ statement

pub steps : (pools : PoolFields) (program : List LineFields) (e : Edit) (statement : Statement) → made pools program e ≡ Some statement → Steps pools program e statement
steps pools program e statement h =
    option_and_then_some
    (λ (line : LineFields). option_and_then
    (λ (site : Site Statement). option_and_then (λ node. Some (site.1 node)) (numbered (gives e.op pools line.stmt site.0) e.rank))
    (slice_get (sites line.stmt) e.position))
    (numbered program e.statement) statement h
    (λ line of_line h. option_and_then_some
    (λ (site : Site Statement). option_and_then (λ node. Some (site.1 node)) (numbered (gives e.op pools line.stmt site.0) e.rank))
    (slice_get (sites line.stmt) e.position) statement h
    (λ site of_site h. option_and_then_some (λ node. Some (site.1 node)) (numbered (gives e.op pools line.stmt site.0) e.rank) statement h
    (λ new of_new h. record { line = line; site = site; new = new; of_line = of_line; of_site = of_site; of_new = of_new; is = same_Some _ _ h })))

-- the node of a site is the node at its position
pub node_there : (s : Statement) (p : ℕ) (site : Site Statement) → slice_get (sites s) p ≡ Some site → slice_get (nodes_of s) p ≡ Some site.0
node_there s p site at =
    ap (λ ns. slice_get ns p) (sym (numbering s)) ∙ slice_get-map (node_at {X = Statement}) (sites s) p ∙ ap (option_map (node_at {X = Statement})) at

-- what the replacement of an edit makes
pub made_there : (pools : PoolFields) (program : List LineFields) (op : Op) (s p r : ℕ) (stmt : Statement) (node new : NodeOf) → StandsAt program s p stmt node
    → numbered (gives op pools stmt node) r ≡ Some new → made pools program (edit_at op s p r) ≡ Some (changed stmt p new)
made_there pools program op s p r stmt node new here at =
    some_of (λ (l : LineFields). l.stmt) (numbered program s) stmt (made pools program (edit_at op s p r) ≡ Some (changed stmt p new)) here.statement_at
    (λ line of_line same. elim (slice_get_cases (sites stmt) p).1 [
      | inl (site, low, of_site, i) ↦
          let node_is : site.0 ≡ node = same_Some _ _ (sym (node_there stmt p site of_site) ∙ here.node_at) in
          ap (option_and_then (λ (l : LineFields). option_and_then
          (λ (x : Site Statement). option_and_then (λ n. Some (x.1 n)) (numbered (gives op pools l.stmt x.0) r)) (slice_get (sites l.stmt) p)))
          of_line
          ∙ ap (λ (t : Statement). option_and_then (λ (x : Site Statement). option_and_then (λ n. Some (x.1 n)) (numbered (gives op pools t x.0) r)) (slice_get (sites t) p)) same
          ∙ ap (option_and_then (λ (x : Site Statement). option_and_then (λ n. Some (x.1 n)) (numbered (gives op pools stmt x.0) r))) of_site
          ∙ ap (option_and_then (λ n. Some (site.1 n))) (ap (λ m. numbered (gives op pools stmt m) r) node_is ∙ at)
          ∙ ap Some (ap (λ (o : Option (Site Statement)). put_node o new stmt) (sym of_site))
      | inr (high, none) ↦
          absurd (none-some node (sym (ap (λ ns. slice_get ns p) (sym (numbering stmt))
          ∙ slice_get-map (node_at {X = Statement}) (sites stmt) p ∙ ap (option_map (node_at {X = Statement})) none) ∙ here.node_at))
    ])

module _ (op : Op) (program : List LineFields) where
  pub own_op : (e : Edit) → IsMember op program e → e.op ≡ op
  own_op e m = m.own

  pub rank_first : (e : Edit) → IsMember op program e → 0 < e.rank
  rank_first e m =
      let k = steps (pools_of program) program e m.statement m.makes in (number_within (gives e.op (pools_of program) k.line.stmt k.site.0) e.rank k.new k.of_new).0

  pub statement_first : (e : Edit) → IsMember op program e → 0 < e.statement
  statement_first e m = let k = steps (pools_of program) program e m.statement m.makes in (number_within program e.statement k.line k.of_line).0

  pub statement_last : (e : Edit) → IsMember op program e → e.statement < length program + 1
  statement_last e m =
      let k = steps (pools_of program) program e m.statement m.makes in
      let low = (number_within program e.statement k.line k.of_line).1 in
      omega (arith, low)

  stmt_there : (s : ℕ) (stmt : Statement) (line : LineFields) (t : ℕ) → HasStatement program s stmt → t ≡ s → numbered program t ≡ Some line → line.stmt ≡ stmt
  stmt_there s stmt line t has same at = same_Some _ _ (sym (ap (option_map (λ (l : LineFields). l.stmt)) at) ∙ ap (λ (k : ℕ). option_map (λ (l : LineFields). l.stmt) (numbered program k)) same ∙ has)

  pub position_last : (s : ℕ) (stmt : Statement) → HasStatement program s stmt → (e : Edit) → IsMember op program e → e.statement ≡ s → e.position < length (nodes_of stmt)
  position_last s stmt has e m same =
      let k = steps (pools_of program) program e m.statement m.makes in
      slice_get_within (nodes_of stmt) e.position k.site.0
      (ap (λ (t : Statement). slice_get (nodes_of t) e.position) (sym (stmt_there s stmt k.line e.statement has same k.of_line)) ∙ node_there k.line.stmt e.position k.site k.of_site)

  pub rank_last : (s p : ℕ) (stmt : Statement) (node : NodeOf) → StandsAt program s p stmt node → (e : Edit) → IsMember op program e → e.statement ≡ s
      → e.position ≡ p → e.rank < length (gives op (pools_of program) stmt node) + 1
  rank_last s p stmt node here e m same at =
      let k = steps (pools_of program) program e m.statement m.makes in
      let is : k.line.stmt ≡ stmt = stmt_there s stmt k.line e.statement here.statement_at same k.of_line in
      let node_is : k.site.0 ≡ node = same_Some _ _ (sym (node_there k.line.stmt e.position k.site k.of_site) ∙ ap (λ (t : Statement). slice_get (nodes_of t) e.position) is
      ∙ ap (slice_get (nodes_of stmt)) at ∙ here.node_at) in
      let low = (number_within (gives e.op (pools_of program) k.line.stmt k.site.0) e.rank k.new k.of_new).1 in
      let lists : gives e.op (pools_of program) k.line.stmt k.site.0 ≡ gives op (pools_of program) stmt node =
      ap (λ (o : Op). gives o (pools_of program) k.line.stmt k.site.0) m.own ∙ ap (λ (t : Statement). gives op (pools_of program) t k.site.0) is ∙ ap (gives op (pools_of program) stmt) node_is in
      let long : length (gives e.op (pools_of program) k.line.stmt k.site.0) ≡ length (gives op (pools_of program) stmt node) = ap length lists in
      omega (arith, low, long)

  module _ (s p r : ℕ) (stmt : Statement) (node new : NodeOf) (here : StandsAt program s p stmt node) (at : numbered (gives op (pools_of program) stmt node) r ≡ Some new) where
    pub member_here : IsMutant program s (changed stmt p new) → IsMember op program (edit_at op s p r)
    member_here mutant = record {
      own = refl;
      statement = changed stmt p new;
      makes = made_there (pools_of program) program op s p r stmt node new here at;
      mutant = mutant;
    }

    pub mutant_here : IsMember op program (edit_at op s p r) → IsMutant program s (changed stmt p new)
    mutant_here m = subst (IsMutant program s) (same_Some _ _ (sym m.makes ∙ made_there (pools_of program) program op s p r stmt node new here at)) m.mutant
