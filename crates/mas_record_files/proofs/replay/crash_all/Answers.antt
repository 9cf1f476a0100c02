use Rattle.std.proofs.Common.{◌≡◌, ◌+◌, ◌++◌, ◌∷◌, [], take}
use Rattle.mas_record_files.proofs.Crashes.{crash_step, take_next}
use Rattle.mas_record_files.proofs.replay.crash_all.Goals as goal

pub files-preserved : goal.files-preserved
files-preserved c =
    let more : take (c.files.file-index + 1) c.args.files.now ≡ take c.files.file-index c.args.files.now ++ c.file-item.result ∷ [] = take_next _ _ _ c.files-test.true c.file-item.is in
    crash_step c.args.keep c.args.first.now c.args.changes.now _ _ _ _ c.file-item.result _ more c.in_ok-image.ensures c.in_ok-put_image.ensures c.files.invariant
