use Rattle.std.proofs.Common.{◌≤◌, sym, subst, ◌∙◌}
use Rattle.mas_board.proofs.Boxes as b
use Rattle.mas_board.proofs.post.Post.reserve.Goals as goal

pub invariant_of-self : goal.invariant_of-self
invariant_of-self c =
    b.same c.self.inside.boxes c.args.self.now c.self.view_is c.args.a c.requires c.at_mut.result.now c.reserve.new.self c.at_mut.ensures.value c.reserve.ensures.list c.self.invariant

pub returns-clause-list : goal.returns-clause-list
returns-clause-list c =
    b.now_list c.self.inside.boxes c.args.self.now c.self.view_is c.args.a c.requires c.at_mut.result.now c.reserve.new.self c.at_mut.ensures.value
    ∙ c.reserve.ensures.list
    ∙ sym (b.was_list c.self.inside.boxes c.args.self.now c.self.view_is c.args.a c.requires c.at_mut.result.now c.reserve.new.self c.at_mut.ensures.value)

pub returns-clause-room : goal.returns-clause-room
returns-clause-room c =
    let now = b.now_spare c.self.inside.boxes c.args.self.now c.self.view_is c.args.a c.requires c.at_mut.result.now c.reserve.new.self c.at_mut.ensures.value in
    b.on_ok c.reserve.result (λ h. subst (λ n. c.args.n ≤ n) (sym now) h) c.reserve.ensures.room

pub returns-clause-kept : goal.returns-clause-kept
returns-clause-kept c =
    b.grows c.self.inside.boxes c.args.self.now c.self.view_is c.args.a c.requires c.at_mut.result.now c.reserve.new.self c.at_mut.ensures.value c.reserve.ensures.kept

pub returns-clause-enough : goal.returns-clause-enough
returns-clause-enough c h =
    c.reserve.ensures.enough (subst (λ n. c.args.n ≤ n) (b.was_spare c.self.inside.boxes c.args.self.now c.self.view_is c.args.a c.requires c.at_mut.result.now c.reserve.new.self c.at_mut.ensures.value) h)

pub returns-clause-others : goal.returns-clause-others
returns-clause-others c =
    b.others c.self.inside.boxes c.args.self.now c.self.view_is c.args.a c.requires c.at_mut.result.now c.reserve.new.self c.at_mut.ensures.value
