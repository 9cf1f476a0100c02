use Rattle.std.proofs.Common.{◌≡◌, drop}
use Rattle.mas_io.specs.Shelf.{fetched}
use Rattle.mas_io.proofs.memory.find_file.Given as goal

abbrev pub invariant-files : goal.invariant-files
invariant-files l = fetched (drop l.file-index l.files) l.name l.most ≡ fetched l.files l.name l.most
