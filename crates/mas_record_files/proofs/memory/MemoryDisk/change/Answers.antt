use Rattle.std.proofs.Common.{◌≡◌, true, subst, sym}
use Rattle.mas_record_files.specs.Memory.{is_there}
use Rattle.mas_record_files.proofs.Goes.{kept_either}
use Rattle.mas_record_files.proofs.memory.MemoryDisk.change.Goals as goal

pub invariant_of-self : goal.invariant_of-self
invariant_of-self c =
    let d = c.args.self.now in
    let old = subst (λ p. is_there p d.files ≡ true) c.in-Some.is d.there in
    let k = kept_either c.change_file.result d.first d.changes c.change_file.new.changes d.files c.change_file.new.files _ c.args.what d.current old
    c.change_file.ensures.ok c.change_file.ensures.changes_stay c.change_file.ensures.files_stay in
    record { current = k.current; there = subst (λ p. is_there p c.change_file.new.files ≡ true) (sym c.in-Some.is) k.there }
