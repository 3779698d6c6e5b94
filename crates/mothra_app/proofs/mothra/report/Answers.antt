use Rattle.mothra_app.proofs.mothra.report.Goals as goal

pub returns-in-Print : goal.returns-in-Print
returns-in-Print g c = rw c.in-Print.is c.print_program.ensures

pub returns-in-Exec : goal.returns-in-Exec
returns-in-Exec g c = rw c.in-Exec.is c.execute.ensures

pub returns-in-List : goal.returns-in-List
returns-in-List g c = rw c.in-List.is c.list_mutants.ensures

pub returns-in-Run : goal.returns-in-Run
returns-in-Run g c = rw c.in-Run.is c.report_of.ensures
