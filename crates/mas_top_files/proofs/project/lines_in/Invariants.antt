use Rattle.std.proofs.Common.{◌≡◌, ◌++◌, drop, map}
use Rattle.mas_top_files.specs.Projects.{line_in}
use Rattle.mas_top_files.proofs.project.lines_in.Given as goal

abbrev pub invariant-loop-line : goal.invariant-loop-line
invariant-loop-line l = l.all ++ map (line_in l.fn.directory) (drop l.line-index l.lines) ≡ map (line_in l.fn.directory) l.lines
