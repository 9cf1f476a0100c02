-- What a worker's pass knows of its queue.
use Rattle.std.specs.Prelude.{◌≡◌, ℕ, ◌+◌, ◌<◌, ◌≤◌, List, [], ◌∷◌, ◌++◌, length}
use Rattle.crossbeam_queue.specs.Passes.{Pass as Ticketed, view, IsPassOf}
use Rattle.mas_pool_ready.specs.declared.rule.ReadyView.{ReadyView}
use Rattle.mas_pool_ready.specs.declared.queue.Ready.{Ready}
use Rattle.mas_pool_ready.specs.declared.queue.Pass.{Pass}
use Rattle.mas_board_lists.specs.Lists.{Each, total}

abbrev pub ReadyPass : Type 0 → Type 0
ReadyPass T = Ticketed T (ReadyView T)

module _ {T : Type 0} where
  -- what the pass knows
  abbrev pub known : Pass T → ReadyView T
  known p = view p.ticket

  -- a pass of this queue that no other has taken in
  pub record IsOf (q : Ready T) (p : Pass T) : Type 0 where
    pub ticket : IsPassOf q.line p.ticket
    pub part : 0 < (known p).parts

  -- there is room to keep all items that the pass may yet take
  abbrev pub HasRoom : Pass T → Type 0
  HasRoom p = length (known p).first ≤ length (known p).holds + p.kept.spare

  -- a pass that has taken nothing, of a queue that was opened with these items
  pub record IsFresh (q : Ready T) (items : List T) (p : Pass T) : Type 0 where
    pub of : IsOf q p
    pub first : (known p).first ≡ items
    pub holds : (known p).holds ≡ []
    pub kept : p.kept.list ≡ []
    pub room : length items ≤ p.kept.spare

  -- the parts of these passes
  abbrev pub parts_of : List (Pass T) → ℕ
  parts_of ps = total (λ (p : Pass T). (known p).parts) ps

  -- the numbers that these passes hold, and the items that they keep
  abbrev pub all_held : List (Pass T) → List ℕ
  all_held [] = []
  all_held (p ∷ ps) = (known p).holds ++ all_held ps

  abbrev pub all_kept : List (Pass T) → List T
  all_kept [] = []
  all_kept (p ∷ ps) = p.kept.list ++ all_kept ps

  -- the pass has taken in these, and what they kept was put behind the items
  pub record Gathered (q : Ready T) (ps : List (Pass T)) (old new : Pass T) (items all : List T) : Type 0 where
    pub of : IsOf q new
    pub kept : new.kept ≡ old.kept
    pub first : (known new).first ≡ (known old).first
    pub parts : (known new).parts ≡ (known old).parts + parts_of ps
    pub holds : (known new).holds ≡ (known old).holds ++ all_held ps
    pub items_are : all ≡ items ++ all_kept ps

  -- a pass for this many workers is made, and the ticket has the parts that are left
  pub record Splitting (q : Ready T) (begun : ReadyPass T) (made : ℕ) (t : ReadyPass T) (ps : List (Pass T)) : Type 0 where
    pub ticket : IsPassOf q.line t
    pub first : (view t).first ≡ (view begun).first
    pub holds : (view t).holds ≡ []
    pub parts : (view t).parts + made ≡ 64
    pub count : length ps ≡ made
    pub fresh : Each (IsFresh q (view begun).first) ps
    pub given : parts_of ps ≡ made
