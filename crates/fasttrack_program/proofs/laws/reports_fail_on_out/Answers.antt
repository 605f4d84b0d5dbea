use Rattle.region_account.specs.Explanation.{explanation}
use Rattle.fasttrack_program.specs.Reports.{program_report, bench_report}
use Rattle.fasttrack_program.proofs.OnReports.{stops_on_out}
use Rattle.fasttrack_program.proofs.laws.reports_fail_on_out.Goals as goal

pub returns-clause-trial : goal.returns-clause-trial
returns-clause-trial c = λ g entries old new h. stops_on_out old new (program_report g.image g.input g.options.budget) h

pub returns-clause-explain : goal.returns-clause-explain
returns-clause-explain c = λ g entries old new h. stops_on_out old new (explanation g.image g.input g.options.budget) h

pub returns-clause-bench : goal.returns-clause-bench
returns-clause-bench c = λ number g entries old new h. stops_on_out old new (bench_report number g.image g.input g.options.budget) h
