use Rattle.equivalents_app.proofs.Common.{◌∙◌, rules, found_of}
use Rattle.clap.proofs.WalkLemmas.{first_value-rows}
use Rattle.equivalents_app.proofs.words.has_flag.Goals as goal

pub returns-in-Some-true : goal.returns-in-Some-true
returns-in-Some-true c = rw (← c.get_str.ensures ∙ first_value-rows (found_of c.args.matches.now) c.args.name.now) (search rules)

pub returns-in_default : goal.returns-in_default
returns-in_default c = rw (← c.get_str.ensures ∙ first_value-rows (found_of c.args.matches.now) c.args.name.now) (search rules)

pub returns-in_default-2 : goal.returns-in_default-2
returns-in_default-2 c = rw (← c.get_str.ensures ∙ first_value-rows (found_of c.args.matches.now) c.args.name.now) (search rules)
