-- Two sites that run side by side.
use Rattle.std.specs.Prelude.{List}
use Rattle.mas_mind.specs.Minds.{Kind}
use Rattle.mas_board.specs.Boards.{Noted}
use Rattle.mas_sites_stand.specs.declared.seated.Seated.{Seated}
use Rattle.mas_sites_scripts.specs.Sites.{before, after}
use Rattle.mas_sites_wire.specs.declared.wire.Wire.{Wire}
use Rattle.mas_sites_worker.specs.declared.side.Ran.{Ran}
use Rattle.mas_sites_worker.specs.Sides.{RanBeside}

-- a site ran beside the other one to this
abbrev pub HasRun : {V A : Type 0} → Kind V → Noted → List (Seated V) → List Wire → Ran V A → Type 0
HasRun k board minds wires r = RanBeside k (before board.state minds) (after r.site.board r.site.minds r.site.scripts) wires r.ends
