-- The kinds of the slots of a table of names, listed name by name.
use Rattle.f77_check.proofs.Common.{◌≡◌, ap, ◌∙◌, sym, List, refl, ℕ, [], arith, length, ◌∷◌, ◌++◌, take, ◌+◌, true, ◌≤◌, ◌-◌, append-nil, replicate}
use Rattle.f77_check.proofs.Common.{append_assoc, length-append, take_all, and_parts, length-replicate, list_all, slot_count, slot_kinds, is_kept, product}
use Rattle.f77_check.proofs.Common.{array_bounds, kind_at, Symbol, Names, Kind, keys}
use Rattle.f77_check.proofs.DataNames.{kept_among}
use Rattle.f77_check.proofs.SlotCounts.{count_more}
use Rattle.f77_check.proofs.KeptNames.{all_among}

-- the kinds of the slots of these names, by the table
abbrev pub kinds_by : Names → List Symbol → List Kind
kinds_by names = slot_kinds (kind_at names) (array_bounds names)

-- What a list of kinds has of the names before those that are left: with the kinds of these, each of which the table has, it is that of all names.
pub record AreListed (names : Names) (listed : List Kind) (rest : List Symbol) : Type 0 where
  pub kept : list_all (is_kept names) rest ≡ true
  pub whole : listed ++ kinds_by names rest ≡ kinds_by names (keys names.facts)

module _ (names : Names) where
  -- before the first name none is listed
  pub none_listed : (listed : List Kind) (rest : List Symbol) → listed ≡ [] → rest ≡ keys names.facts → AreListed names listed rest
  none_listed listed rest none all = record {
    kept = ap (list_all (is_kept names)) all ∙ all_among (is_kept names) (keys names.facts) (λ name among. kept_among names name ∙ among);
    whole = λ i. none i ++ kinds_by names (all i);
  }

  kinds_long : (list : List Symbol) → length (kinds_by names list) ≡ slot_count (array_bounds names) list
  kinds_long [] = refl
  kinds_long (name ∷ list) =
      let own = replicate (product (array_bounds names name)) (kind_at names name) in
      let whole = length-append own (kinds_by names list) in
      let size = length-replicate (product (array_bounds names name)) (kind_at names name) in
      let more = count_more (array_bounds names) name list in
      let rest = kinds_long list in
      omega (arith, whole, size, more, rest)

  -- the next name is in the table, and with its kinds the list has one name more
  module _ (listed : List Kind) (rest left : List Symbol) (name : Symbol) (are : AreListed names listed rest) (next : rest ≡ name ∷ left) where
    both : (is_kept names name ≡ true) × (list_all (is_kept names) left ≡ true)
    both = and_parts (is_kept names name) (list_all (is_kept names) left) (sym (ap (list_all (is_kept names)) next) ∙ are.kept)

    -- no more kinds than slots
    pub next_within : length listed + product (array_bounds names name) ≤ slot_count (array_bounds names) (keys names.facts)
    next_within =
        let whole = ap length are.whole ∙ kinds_long (keys names.facts) in
        let parts = length-append listed (kinds_by names rest) in
        let behind = kinds_long rest ∙ ap (slot_count (array_bounds names)) next in
        let more = count_more (array_bounds names) name left in
        omega (arith, whole, parts, behind, more)

    pub next_listed : (more : List Kind) → more ≡ listed ++ replicate (product (array_bounds names name)) (kind_at names name) → AreListed names more left
    next_listed more added = record {
      kept = both.1;
      whole =
          ap (λ kinds. kinds ++ kinds_by names left) added
          ∙ append_assoc listed (replicate (product (array_bounds names name)) (kind_at names name)) (kinds_by names left)
          ∙ ap (λ list. listed ++ kinds_by names list) (sym next)
          ∙ are.whole;
    }

  -- where no name is left the kinds of all names are listed
  pub all_listed : (listed : List Kind) (rest : List Symbol) → AreListed names listed rest → rest ≡ [] → listed ≡ kinds_by names (keys names.facts)
  all_listed listed rest are none = sym (append-nil listed) ∙ ap (λ list. listed ++ kinds_by names list) (sym none) ∙ are.whole

-- a list to which a value is added some times
pub grown : (listed : List Kind) (n long count : ℕ) (kind : Kind) → long ≡ length listed → n ≡ long + count
    → take n listed ++ replicate (n - long) kind ≡ listed ++ replicate count kind
grown listed n long count kind is longer =
    let added : n - long ≡ count = omega (arith, longer) in
    (λ i. take_all n listed (omega (arith, is, longer)) i ++ replicate (added i) kind)
