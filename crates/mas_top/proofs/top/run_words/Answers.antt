use Rattle.mas_top.proofs.Said.{headline_words, schedule_words, complete_words, recorded_words, finished_words, check_words, checked_words, lint_words, linted_words, sites_words, met_words, demo_words}
use Rattle.mas_top.proofs.top.run_words.Goals as goal

pub returns-clause-headline : goal.returns-clause-headline
returns-clause-headline g c = headline_words _ _ _ _ _ _ c.run_read.ensures.caused

pub returns-clause-schedule : goal.returns-clause-schedule
returns-clause-schedule g c = schedule_words _ _ _ _ _ _ c.run_read.ensures.caused

pub returns-clause-complete : goal.returns-clause-complete
returns-clause-complete g c = complete_words _ _ _ _ _ _ c.run_read.ensures.caused

pub returns-clause-recorded : goal.returns-clause-recorded
returns-clause-recorded g c = recorded_words _ _ _ _ _ _ c.run_read.ensures.caused

pub returns-clause-finished : goal.returns-clause-finished
returns-clause-finished g c = finished_words _ _ _ _ _ _ c.run_read.ensures.caused

pub returns-clause-check : goal.returns-clause-check
returns-clause-check g c = check_words _ _ _ _ _ _ c.run_read.ensures.caused

pub returns-clause-checked : goal.returns-clause-checked
returns-clause-checked g c = checked_words _ _ _ _ _ _ c.run_read.ensures.caused

pub returns-clause-lint : goal.returns-clause-lint
returns-clause-lint g c = lint_words _ _ _ _ _ _ c.run_read.ensures.caused

pub returns-clause-linted : goal.returns-clause-linted
returns-clause-linted g c = linted_words _ _ _ _ _ _ c.run_read.ensures.caused

pub returns-clause-sites : goal.returns-clause-sites
returns-clause-sites g c = sites_words _ _ _ _ _ _ c.run_read.ensures.caused

pub returns-clause-met : goal.returns-clause-met
returns-clause-met g c = met_words _ _ _ _ _ _ c.run_read.ensures.caused

pub returns-clause-demo : goal.returns-clause-demo
returns-clause-demo g c = demo_words _ _ _ _ _ _ c.run_read.ensures.caused
