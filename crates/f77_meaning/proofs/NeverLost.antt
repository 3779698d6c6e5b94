-- A run of a legal program starts, and control is never lost.
use Rattle.f77_meaning.proofs.Common.{List, refl, ap, ◌∙◌, None, false, [], sym, ◌∷◌, subst, option_map, position-Some, slice_get-get_or, option_map_or, Value}
use Rattle.f77_meaning.proofs.Common.{Comes, IsStart, start_values, LeadsOn, Starts, Config, config, Execute, Goes, LineFields, is_executable_statement}
use Rattle.f77_check.proofs.FirstExecutable.{first_executable}
use Rattle.f77_meaning.proofs.ControlDefinitions.{CanHaveControl, IsPlaced, NeverLosesControl}
use Rattle.f77_meaning.proofs.Control.{Fine, kept}
use Rattle.f77_meaning.proofs.OneWay.{one_successor}
use Rattle.f77_meaning.proofs.Soundness.{legal_is_sound}

placed_start : (p : List LineFields) (given : List (List Value)) (c : Config) → IsStart p given c → IsPlaced p c
placed_start [] given c start = absurd (cc (start.1))
placed_start (line ∷ p) given c start =
    let found = position-Some (λ x. is_executable_statement x.stmt) (line ∷ p) start.0 line start.1 in
    let at = slice_get-get_or (line ∷ p) start.0 line found.0 in
    let stands : CanHaveControl (line ∷ p) start.0 = ap (λ o. option_map_or is_executable_statement (option_map (λ x. x.stmt) o) false) at ∙ found.1 in
    subst (IsPlaced (line ∷ p)) (sym start.2) (record { at = stands; loops = λ d some. absurd (cc (some)) })

pub placed : (p : List LineFields) (given : List (List Value)) (c : Config) → NeverLosesControl p → Comes p given c → IsPlaced p c
placed p given c sound (Comes.at_start start) = placed_start p given c start
placed p given c sound (Comes.by_step {b = b} before step) =
    let on = kept p b sound (placed p given b sound before) in
    subst (Fine p) (one_successor p b on.0 (Goes c) on.1 step) on.2

pub leads_on : LeadsOn
leads_on p given c program legal comes =
    let sound = legal_is_sound p program legal in
    let on = kept p c sound (placed p given c sound comes) in
    (on.0, on.1)

pub starts : Starts
starts p given program =
    let first = first_executable p program in
    (config (Execute first.0) (start_values p given) (λ d. None), (first.0, first.1, refl))
