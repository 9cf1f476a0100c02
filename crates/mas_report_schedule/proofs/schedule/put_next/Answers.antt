use Rattle.std.proofs.Common.{◌≡◌, ◌++◌, ◌∷◌, [], rules, sym, subst, refl}
use Rattle.mas_report_schedule.specs.Schedule.{entry_text, entries_text, runs_on}
use Rattle.mas_report_schedule.proofs.Written.{run_ended}
use Rattle.mas_report_schedule.proofs.schedule.put_next.Goals as goal

pub returns-clause-text : goal.returns-clause-text
returns-clause-text c = λ ns.
    let g : c.append.new.self ≡ (c.args.out.now ++ entry_text c.args.run) ++ 32 ∷ [] = search rules in
    subst (λ e. c.append.new.self ++ entries_text (runs_on e ns) ≡ c.args.out.now ++ entries_text (runs_on c.args.run (c.args.n ∷ ns))) (sym c.once.ensures)
    (run_ended c.args.out.now c.append.new.self _ c.args.run c.args.n ns c.if-n-run.false g refl)
