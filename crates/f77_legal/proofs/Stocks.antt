-- Stocks of names: those of a legal program are one, and what a stock gives to a program with these names.
use Rattle.f77_legal.proofs.Common.{◌≡◌, ◌∙◌, map, List, false, length, arith, true, filter, ◌||◌, ◌≤◌, nat_lt, nat_tests, All-weaker, All, sum, Symbol}
use Rattle.f77_legal.proofs.Common.{IsLegal, name_in, symbols, uses, is_real, is_twice, element_count, is_array, IsStock, is_name_among, is_too_large}
use Rattle.f77_legal.proofs.Common.{LineFields}
use Rattle.f77_legal.proofs.Among.{among_holds, among_itself, each_counted, once_fewer, once_smaller}
use Rattle.f77_legal.proofs.NoFaults.{few_symbols, few_elements}
use Rattle.f77_legal.proofs.Rules.{keeps_every_rule}
use Rattle.f77_legal.proofs.Symbols.{once_apart}

pub stock_of_legal : (program : List LineFields) → IsLegal program → IsStock (symbols program) program
stock_of_legal program legal =
    let rules = keeps_every_rule program legal in
    record {
      covers = among_itself (symbols program);
      once = each_counted (symbols program) (once_apart (map name_in (uses program)));
      typed = rules.typed;
      declared = rules.once;
      few = few_symbols program legal;
      small = few_elements program legal;
    }

module _ (names : List Symbol) (program : List LineFields) (stock : IsStock names program) where
  pub stock_typed : All (λ name. is_real program name ≡ false) (symbols program)
  stock_typed =
      All-weaker (λ name. is_name_among names name ≡ true) (λ name. is_real program name ≡ false)
      (among_holds (λ name. is_real program name ≡ false) names stock.typed) (symbols program) stock.covers

  pub stock_declared : All (λ name. is_twice program name ≡ false) (symbols program)
  stock_declared =
      All-weaker (λ name. is_name_among names name ≡ true) (λ name. is_twice program name ≡ false)
      (among_holds (λ name. is_twice program name ≡ false) names stock.declared) (symbols program) stock.covers

  pub stock_sizes : length program ≤ 500 → is_too_large program ≡ false
  stock_sizes short =
      let fewer = once_fewer (map name_in (uses program)) names stock.covers in
      let smaller = once_smaller (map name_in (uses program)) names stock.covers (element_count program) (is_array program) in
      let few : length (symbols program) ≤ 100 = omega (arith, fewer, stock.few) in
      let small : sum (map (element_count program) (filter (is_array program) (symbols program))) ≤ 10000 = omega (arith, smaller, stock.small) in
      let lines : nat_lt 500 (length program) ≡ false = grind (arith, nat_tests) in
      let symbols_within : nat_lt 100 (length (symbols program)) ≡ false = grind (arith, nat_tests) in
      let elements_within : nat_lt 10000 (sum (map (element_count program) (filter (is_array program) (symbols program)))) ≡ false = grind (arith, nat_tests) in
      λ i. lines i || (symbols_within i || elements_within i)

  -- the names are a stock for another program too, if they are the same there
  pub stock_kept : (other : List LineFields) → ((name : Symbol) → is_real other name ≡ is_real program name)
      → ((name : Symbol) → is_twice other name ≡ is_twice program name) → ((name : Symbol) → element_count other name ≡ element_count program name)
      → ((name : Symbol) → is_array other name ≡ is_array program name) → All (λ name. is_name_among names name ≡ true) (symbols other) → IsStock names other
  stock_kept other real twice sizes arrays covers = record {
    covers = covers;
    once = stock.once;
    typed = All-weaker (λ name. is_real program name ≡ false) (λ name. is_real other name ≡ false) (λ name h. real name ∙ h) names stock.typed;
    declared = All-weaker (λ name. is_twice program name ≡ false) (λ name. is_twice other name ≡ false) (λ name h. twice name ∙ h) names stock.declared;
    few = stock.few;
    small =
        let same : sum (map (element_count other) (filter (is_array other) names)) ≡ sum (map (element_count program) (filter (is_array program) names))
        = λ i. sum (map (λ name. sizes name i) (filter (λ name. arrays name i) names)) in
        omega (arith, same, stock.small);
  }
