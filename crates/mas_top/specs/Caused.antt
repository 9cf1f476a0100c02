-- The cause of each status, for the files that are asked for.
use Rattle.std.specs.Prelude.{ℕ, Bool, true, false, List, Option}
use Rattle.asl_term.specs.declared.syntax.Filed.{Filed}
use Rattle.mas_io.specs.Told.{Told, IsUnwritten}
use Rattle.mas_io.specs.Writing.{Wrote, WroteSome}
use Rattle.mas_top_status.specs.declared.status.Status.{Status}
use Rattle.mas_top_status.specs.declared.status.Status.TheVariants.{Ok, No, Usage, Missing, ReadFault, WriteFault, Refused, Limit, Budget, Memory, DiskFault}
use Rattle.mas_top_opening.specs.Opening.{Setup}
use Rattle.mas_top.specs.Runs.{Wanted, Given, HasGiven, FileRefused}

-- What is written: whether an end in it is `budget`, what is run, and the text.
abbrev pub Texts : Type 1
Texts = Bool → Given → List ℕ → Type 0

-- the files describe something that is run, and w is such a text for it
pub record ForFiles (Is : Texts) (u : Setup) (held : Option (List Filed)) (wanted : Wanted) (spent : Bool) (w : List ℕ) : Type 0 where
  pub given : Given
  pub has : HasGiven u held wanted given
  pub is : Is spent given w

-- some end is `budget`, or none is
pub record ForEnded (Is : Texts) (u : Setup) (held : Option (List Filed)) (wanted : Wanted) (w : List ℕ) : Type 0 where
  pub spent : Bool
  pub gives : ForFiles Is u held wanted spent w

-- a file is refused, and nothing was written
pub record IsRefusedFile (u : Setup) (wanted : Wanted) (before after : Told) (status : Status) : Type 0 where
  pub why : FileRefused u before.held wanted before.shelf_faults after.shelf_faults status
  pub unwritten : IsUnwritten before after

-- where such texts are to be written; want of memory alone is free
abbrev pub FileCaused : Texts → Setup → Wanted → Told → Told → Status → Type 0
FileCaused Is u wanted before after Ok = Wrote (ForFiles Is u before.held wanted false) before after
FileCaused Is u wanted before after No = ⊥
FileCaused Is u wanted before after Usage = ⊥
FileCaused Is u wanted before after (Missing lacked) = IsRefusedFile u wanted before after (Missing lacked)
FileCaused Is u wanted before after ReadFault = IsRefusedFile u wanted before after ReadFault
FileCaused Is u wanted before after WriteFault = WroteSome (ForEnded Is u before.held wanted) before after
FileCaused Is u wanted before after (Refused file place why) = IsRefusedFile u wanted before after (Refused file place why)
FileCaused Is u wanted before after (Limit quantity count) = IsRefusedFile u wanted before after (Limit quantity count)
FileCaused Is u wanted before after Budget = Wrote (ForFiles Is u before.held wanted true) before after
FileCaused Is u wanted before after Memory = IsUnwritten before after
FileCaused Is u wanted before after DiskFault = ⊥
