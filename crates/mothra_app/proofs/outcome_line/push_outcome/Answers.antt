use Rattle.mothra_app.proofs.Common.{◌≡◌, sym, ℕ, List, ◌∙◌, Err, Ok, ap, string_bytes, ◌++◌, Result, append_assoc, codes, OnOk, arguments_text, outcome_text}
use Rattle.mothra_app.proofs.outcome_line.push_outcome.Goals as goal

-- a text is added in two parts
in_two : {A E : Type 0} (result : Result A E) (old middle new word text whole : List ℕ) → middle ≡ old ++ word → whole ≡ word ++ text
    → OnOk result (new ≡ middle ++ text) → OnOk result (new ≡ old ++ whole)
in_two (Ok x) old middle new word text whole front all is =
    is ∙ ap (λ m. m ++ text) front ∙ append_assoc old word text ∙ ap (λ added. old ++ added) (sym all)
in_two (Err e) old middle new word text whole front all is = tt

pub returns-in_ok-push_str-in-Returned : goal.returns-in_ok-push_str-in-Returned
returns-in_ok-push_str-in-Returned c =
    in_two c.push_arguments.result (string_bytes c.args.text.now) _ _ (codes "RETURNED") (arguments_text c.as_slice.result.now) _
    c.in_ok-push_str-in-Returned.ensures.bytes
    (ap outcome_text c.in-Returned.is ∙ ap (λ arguments. codes "RETURNED" ++ arguments_text arguments) (sym c.as_slice.ensures))
    c.push_arguments.ensures

pub returns-in_ok-push_str-in-Stopped : goal.returns-in_ok-push_str-in-Stopped
returns-in_ok-push_str-in-Stopped c =
    in_two c.push_arguments-in-Stopped.result (string_bytes c.args.text.now) _ _ (codes "STOPPED") (arguments_text c.as_slice-in-Stopped.result.now) _
    c.in_ok-push_str-in-Stopped.ensures.bytes
    (ap outcome_text c.in-Stopped.is ∙ ap (λ arguments. codes "STOPPED" ++ arguments_text arguments) (sym c.as_slice-in-Stopped.ensures))
    c.push_arguments-in-Stopped.ensures
