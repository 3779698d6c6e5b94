use Rattle.mothra_job.proofs.Common.{◌≡◌, Some, ap, ◌∙◌, List, sym, option_map, map, Option, subst, rules, data_listed, listed_values, Data, as_array, get}
use Rattle.mothra_job.proofs.Common.{items_view, view, Value}
use Rattle.mothra_job.proofs.Suites.{listed_items}
use Rattle.mothra_job.proofs.job.values_at.Goals as goal

found : (slice items : List Value) (list : Option Data) (value : Data) → slice ≡ items → Some value ≡ list → Some (items_view items) ≡ as_array value
    → Some (map view slice) ≡ listed_values list
found slice items list value same at is =
    subst (λ o. Some (map view slice) ≡ listed_values o) at
    (ap (λ vs. Some (map view vs)) same ∙ ap Some (sym (listed_items (map view items))) ∙ ap (option_map data_listed) is)

pub returns-in_ok-as_array-in-Some : goal.returns-in_ok-as_array-in-Some
returns-in_ok-as_array-in-Some c =
    let at : Some (view c.in-Some.list.now) ≡ get c.args.key.now (view c.args.value.now) = search rules in
    let is : Some (items_view c.in_ok-as_array-in-Some.field-0.now.items) ≡ as_array (view c.in-Some.list.now) = search rules in
    found c.as_slice.result.now c.in_ok-as_array-in-Some.field-0.now.items _ (view c.in-Some.list.now) c.as_slice.ensures.value at is
