use Rattle.std.proofs.lemmas.Result.{on_ok_weaker}
use Rattle.look_text.proofs.Numbered.{running_whole}
use Rattle.look_text.proofs.agendas.put_running.Goals as goal

pub returns : goal.returns
returns c =
    let front = c.parts.result.0.now in
    let back = c.parts.result.1.now in
    on_ok_weaker c.put_each_running-2.result
    (running_whole c.args.all.now front back c.args.out.now c.put_head.new.out c.put_each_running.new.out c.put_each_running-2.new.out c.parts.ensures
    c.in_ok-put_head.ensures c.in_ok-put_each_running.ensures) c.put_each_running-2.ensures
