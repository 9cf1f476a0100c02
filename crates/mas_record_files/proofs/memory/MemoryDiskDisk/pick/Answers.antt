use Rattle.std.proofs.Common.{rules, ◌∙◌, ap, List, ℕ, is_some}
use Rattle.mas_record_files.specs.Memory.{held}
use Rattle.mas_record_files.specs.declared.change.FileChange.TheVariants.{Made}
use Rattle.mas_record_files.proofs.Goes.{current_after, there_made, no_image, picks_made}
use Rattle.mas_record_files.proofs.memory.MemoryDiskDisk.pick.Goals as goal

pub invariant_of-self-2 : goal.invariant_of-self-2
invariant_of-self-2 c =
    let d = c.args.self.now in
    let none = no_image (held d.files c.args.name.now) (search rules) in
    let h = c.in_ok-make_file.ensures.ok in
    record {
      current = current_after d.first d.changes c.args.name.now Made c.make_file.new.changes d.files c.make_file.new.files d.current h;
      there = ap (λ (n : List ℕ). is_some (held c.make_file.new.files n)) c.in_ok-picked.ensures
          ∙ there_made c.args.name.now d.changes c.make_file.new.changes d.files c.make_file.new.files none h;
    }

pub returns-clause-picks : goal.returns-clause-picks
returns-clause-picks c =
    let d = c.args.self.now in
    let none = no_image (held d.files c.args.name.now) (search rules) in
    picks_made d.first d.changes d.picked c.in_ok-picked.picked c.args.name.now c.args.make d.files c.make_file.new.changes _ _ c.in_ok-picked.ensures
    (search rules) d.current none c.in_ok-make_file.ensures.ok.noted
