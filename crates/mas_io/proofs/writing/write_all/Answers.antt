use Rattle.std.proofs.Common.{rules}
use Rattle.mas_io.proofs.Grown.{grown-step}
use Rattle.mas_io.proofs.writing.write_all.Goals as goal

pub puts-preserved : goal.puts-preserved
puts-preserved g c =
    record {
      within = search rules;
      written = grown-step _ _ _ _ _ _ c.puts.invariant.written c.in-Took.ensures.fits.written;
      later = search rules;
    }
