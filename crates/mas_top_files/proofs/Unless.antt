-- What is told where memory may lack.
use Rattle.std.proofs.Common.{◌≢◌, refl}
use Rattle.mas_top_status.specs.declared.status.Status.{Status}
use Rattle.mas_top_status.specs.declared.status.Status.TheVariants.{Ok, No, Usage, Missing, ReadFault, WriteFault, Refused, Limit, Budget, Memory, DiskFault}
use Rattle.mas_top_files.specs.Sources.{UnlessMemory}

pub unless : (Is : Status → Type 0) (s : Status) → Is s → UnlessMemory Is s
unless Is Ok h = h
unless Is No h = h
unless Is Usage h = h
unless Is (Missing name) h = h
unless Is ReadFault h = h
unless Is WriteFault h = h
unless Is (Refused file place why) h = h
unless Is (Limit quantity count) h = h
unless Is Budget h = h
unless Is Memory h = tt
unless Is DiskFault h = h

pub unless_as : (Is Js : Status → Type 0) → ((s : Status) → Is s → Js s) → (s : Status) → UnlessMemory Is s → UnlessMemory Js s
unless_as Is Js f Ok h = f Ok h
unless_as Is Js f No h = f No h
unless_as Is Js f Usage h = f Usage h
unless_as Is Js f (Missing name) h = f (Missing name) h
unless_as Is Js f ReadFault h = f ReadFault h
unless_as Is Js f WriteFault h = f WriteFault h
unless_as Is Js f (Refused file place why) h = f (Refused file place why) h
unless_as Is Js f (Limit quantity count) h = f (Limit quantity count) h
unless_as Is Js f Budget h = f Budget h
unless_as Is Js f Memory h = tt
unless_as Is Js f DiskFault h = f DiskFault h

pub is_told : (Is : Status → Type 0) (s : Status) → s ≢ Memory → UnlessMemory Is s → Is s
is_told Is Ok n h = h
is_told Is No n h = h
is_told Is Usage n h = h
is_told Is (Missing name) n h = h
is_told Is ReadFault n h = h
is_told Is WriteFault n h = h
is_told Is (Refused file place why) n h = h
is_told Is (Limit quantity count) n h = h
is_told Is Budget n h = h
is_told Is Memory n h = absurd (n refl)
is_told Is DiskFault n h = h
