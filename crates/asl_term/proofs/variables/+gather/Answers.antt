use Rattle.std.proofs.Common.{rules}
use Rattle.asl_term.proofs.Noted as m
use Rattle.asl_term.proofs.variables.+gather.Goals as goal

pub gather-returns-in_ok-gather_all-in-Lit-2 : goal.gather-returns-in_ok-gather_all-in-Lit-2
gather-returns-in_ok-gather_all-in-Lit-2 t c = m.noted_lit c.args.t.now c.args.found.now c.gather_all.new.found c.gather_all-in-Lit.new.found c.in-Lit.l (search rules) (search rules) (search rules)

pub gather-returns-in_ok-gather-in-List : goal.gather-returns-in_ok-gather-in-List
gather-returns-in_ok-gather-in-List t c = m.noted_list c.args.t.now c.args.found.now c.gather_all-in-List.new.found c.gather.new.found c.in-List.l c.in-Some.tail (search rules) (search rules) (search rules) (search rules)

pub gather-returns-in_ok-gather-in-Op-2 : goal.gather-returns-in_ok-gather-in-Op-2
gather-returns-in_ok-gather-in-Op-2 t c = m.noted_op c.args.t.now c.args.found.now c.gather-in-Op.new.found c.gather-in-Op-2.new.found c.in-Op.a (search rules) (search rules) (search rules)

pub gather_all-loop-t-preserved : goal.gather_all-loop-t-preserved
gather_all-loop-t-preserved t c = m.noted_more c.args.found.now c.loop-t.found c.gather.new.found c.args.ts.now c.loop-t.t-index c.t-item.result c.loop-t.invariant (search rules) (search rules) (search rules)
