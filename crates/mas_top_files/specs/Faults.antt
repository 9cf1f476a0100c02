-- The status of a file that has a fault.
use Rattle.std.specs.Prelude.{ℕ, List}
use Rattle.asl_lexer.specs.declared.token.LexFault.{LexFault}
use Rattle.asl_lexer.specs.declared.token.LexFault.TheVariants as lex
use Rattle.asl_parser_expr.specs.declared.fault.TextFault.{TextFault}
use Rattle.asl_parser_expr.specs.declared.fault.TextFault.TheVariants as fault
use Rattle.env_file.specs.declared.fault.WorldFault.{WorldFault}
use Rattle.env_file.specs.declared.fault.WorldFault.TheVariants as world
use Rattle.mas_project.specs.declared.fault.ProjectFault.{ProjectFault}
use Rattle.mas_project.specs.declared.fault.ProjectFault.TheVariants as project
use Rattle.mas_top_status.specs.declared.status.Reason.TheVariants as reason
use Rattle.mas_top_status.specs.declared.status.What.TheVariants as what
use Rattle.mas_top_status.specs.declared.status.Status.{Status}
use Rattle.mas_top_status.specs.declared.status.Status.TheVariants.{Refused, Limit, Memory}

abbrev pub lex_status : List ℕ → LexFault → Status
lex_status name lex.Memory = Memory
lex_status name (lex.BadByte place) = Refused name place reason.Byte
lex_status name (lex.OpenString place) = Refused name place reason.String
lex_status name (lex.OpenComment place) = Refused name place reason.Comment
lex_status name (lex.NumberRange place) = Refused name place reason.Number

-- the status for the file of an agent
abbrev pub text_status : List ℕ → TextFault → Status
text_status name fault.Memory = Memory
text_status name (fault.Lex why) = lex_status name why
text_status name (fault.Clause number line column) = Refused name number reason.Clause
text_status name (fault.Limit number) = Limit what.Clause number

-- the status for the file of a world
abbrev pub world_status : List ℕ → WorldFault → Status
world_status name world.Memory = Memory
world_status name (world.Lex why) = lex_status name why
world_status name (world.Clause number line column) = Refused name number reason.Clause
world_status name (world.Limit number) = Limit what.Clause number
world_status name (world.Unbound number variable) = Refused name number (reason.Unbound variable)
world_status name (world.UnknownArtifact number artifact) = Refused name number (reason.Artifact artifact)

-- the status for the file of a project
abbrev pub project_status : List ℕ → ProjectFault → Status
project_status name project.Memory = Memory
project_status name (project.Lex why) = lex_status name why
project_status name (project.Clause number line column) = Refused name number reason.Clause
project_status name (project.Option number word) = Refused name number (reason.Option word)
project_status name (project.TooMany count) = Limit what.Agents count
project_status name (project.TwoNames agent twice) = Refused name agent (reason.Name twice)
