use Rattle.std.proofs.Common.{◌<◌, ◌+◌, ◌++◌, ◌∷◌, [], refl, sym, ap, subst, ◌∙◌}
use Rattle.mas_board.proofs.Boxes as b
use Rattle.mas_board.proofs.post.Post.put.Goals as goal

pub invariant_of-self : goal.invariant_of-self
invariant_of-self c =
    b.put c.self.inside.boxes c.args.self.now c.self.view_is c.args.m.to c.requires c.at_mut.result.now c.push.new.self c.at_mut.ensures.value c.push.result c.args.m
    c.push.ensures.ok c.push.ensures.err c.self.invariant refl

pub returns-clause-ok : goal.returns-clause-ok
returns-clause-ok c =
    let was = b.was_list c.self.inside.boxes c.args.self.now c.self.view_is c.args.m.to c.requires c.at_mut.result.now c.push.new.self c.at_mut.ensures.value in
    let now = b.now_list c.self.inside.boxes c.args.self.now c.self.view_is c.args.m.to c.requires c.at_mut.result.now c.push.new.self c.at_mut.ensures.value in
    b.on_ok c.push.result (λ e. now ∙ e ∙ ap (λ ms. ms ++ c.args.m ∷ []) (sym was)) c.push.ensures.ok

pub returns-clause-err : goal.returns-clause-err
returns-clause-err c =
    let was = b.was_list c.self.inside.boxes c.args.self.now c.self.view_is c.args.m.to c.requires c.at_mut.result.now c.push.new.self c.at_mut.ensures.value in
    let now = b.now_list c.self.inside.boxes c.args.self.now c.self.view_is c.args.m.to c.requires c.at_mut.result.now c.push.new.self c.at_mut.ensures.value in
    b.on_err c.push.result (λ e. now ∙ e ∙ sym was) c.push.ensures.err

pub returns-clause-room : goal.returns-clause-room
returns-clause-room c =
    let was = b.was_spare c.self.inside.boxes c.args.self.now c.self.view_is c.args.m.to c.requires c.at_mut.result.now c.push.new.self c.at_mut.ensures.value in
    let now = b.now_spare c.self.inside.boxes c.args.self.now c.self.view_is c.args.m.to c.requires c.at_mut.result.now c.push.new.self c.at_mut.ensures.value in
    λ h. let p = c.push.ensures.room (subst (λ n. 0 < n) was h) in (p.0, ap (λ n. n + 1) now ∙ p.1 ∙ sym was)

pub returns-clause-others : goal.returns-clause-others
returns-clause-others c =
    b.others c.self.inside.boxes c.args.self.now c.self.view_is c.args.m.to c.requires c.at_mut.result.now c.push.new.self c.at_mut.ensures.value
