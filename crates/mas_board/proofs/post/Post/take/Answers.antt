use Rattle.std.proofs.Common.{◌<◌, ◌+◌, length, sym, ap, subst, ◌∙◌, drop, IfSome, slice_get}
use Rattle.mas_board.specs.Posts.{IsTo}
use Rattle.mas_board.proofs.Boxes as b
use Rattle.mas_board.proofs.post.Post.take.Goals as goal

pub invariant_of-self : goal.invariant_of-self
invariant_of-self c =
    b.taken c.self.inside.boxes c.args.self.now c.self.view_is c.args.a c.requires c.at_mut.result.now c.take_first.new.self c.at_mut.ensures.value c.take_first.ensures.rest c.self.invariant

pub returns-clause-value : goal.returns-clause-value
returns-clause-value c =
    c.take_first.ensures.value
    ∙ ap (λ ms. slice_get ms 0) (sym (b.was_list c.self.inside.boxes c.args.self.now c.self.view_is c.args.a c.requires c.at_mut.result.now c.take_first.new.self c.at_mut.ensures.value))

pub returns-clause-rest : goal.returns-clause-rest
returns-clause-rest c =
    b.now_list c.self.inside.boxes c.args.self.now c.self.view_is c.args.a c.requires c.at_mut.result.now c.take_first.new.self c.at_mut.ensures.value
    ∙ c.take_first.ensures.rest
    ∙ ap (drop 1) (sym (b.was_list c.self.inside.boxes c.args.self.now c.self.view_is c.args.a c.requires c.at_mut.result.now c.take_first.new.self c.at_mut.ensures.value))

pub returns-clause-room : goal.returns-clause-room
returns-clause-room c h =
    b.now_spare c.self.inside.boxes c.args.self.now c.self.view_is c.args.a c.requires c.at_mut.result.now c.take_first.new.self c.at_mut.ensures.value
    ∙ c.take_first.ensures.room
    (subst (λ ms. 0 < length ms) (b.was_list c.self.inside.boxes c.args.self.now c.self.view_is c.args.a c.requires c.at_mut.result.now c.take_first.new.self c.at_mut.ensures.value) h)
    ∙ ap (λ n. n + 1) (sym (b.was_spare c.self.inside.boxes c.args.self.now c.self.view_is c.args.a c.requires c.at_mut.result.now c.take_first.new.self c.at_mut.ensures.value))

pub returns-clause-kept : goal.returns-clause-kept
returns-clause-kept c =
    b.grows c.self.inside.boxes c.args.self.now c.self.view_is c.args.a c.requires c.at_mut.result.now c.take_first.new.self c.at_mut.ensures.value
    (b.never_less c.at_mut.result.now.list c.at_mut.result.now.spare c.take_first.new.self.spare c.take_first.ensures.room c.take_first.ensures.kept)

pub returns-clause-addressed : goal.returns-clause-addressed
returns-clause-addressed c =
    subst (λ o. IfSome o (IsTo c.args.a)) (sym c.take_first.ensures.value)
    (b.oldest c.self.inside.boxes c.args.self.now c.self.view_is c.args.a c.requires c.at_mut.result.now c.take_first.new.self c.at_mut.ensures.value c.self.invariant)

pub returns-clause-others : goal.returns-clause-others
returns-clause-others c =
    b.others c.self.inside.boxes c.args.self.now c.self.view_is c.args.a c.requires c.at_mut.result.now c.take_first.new.self c.at_mut.ensures.value
