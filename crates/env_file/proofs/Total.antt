-- Bytes have an answer.
use Rattle.std.proofs.Common.{◌≡◌, ℕ, Bool, true, false, cond, List, Option, Some, None, Result, Ok, Err}
use Rattle.asl_lexer.specs.declared.token.Tok.{Tok}
use Rattle.asl_lexer.specs.declared.token.LexFault.{LexFault}
use Rattle.asl_lexer.specs.Words.{pieces, is_end}
use Rattle.asl_lexer.specs.Lexing.{Lexes, start}
use Rattle.asl_lexer.proofs.Total as lexer
use Rattle.mas_world.specs.declared.acts.WorldText.{WorldText}
use Rattle.env_file.specs.declared.fault.WorldFault.{WorldFault}
use Rattle.env_file.specs.declared.fault.WorldFault.TheVariants.{Memory, Lex, Clause, Limit, Unbound, UnknownArtifact}
use Rattle.env_file.specs.declared.statement.Part.{Part}
use Rattle.env_file.specs.declared.statement.WrittenAct.{WrittenAct}
use Rattle.env_file.specs.declared.statement.Statement.{Statement}
use Rattle.env_file.specs.declared.statement.Statement.TheVariants as statement
use Rattle.env_file.specs.Guards.{said_parts}
use Rattle.env_file.specs.Binding.{unbound}
use Rattle.env_file.specs.Worlds.{nothing, has_name, with_use, bound_made, made, Answers, is_refused, is_read, HasAnswer, IsAnswer}
use Rattle.env_file.specs.Answering.{answer_by}
use Rattle.env_file.specs.Laws.{SomeWorld}
use Rattle.env_file.proofs.Answered.{answers, never_lex}

-- no clause is refused for want of memory
module _ (w : WorldText) (k : ℕ) (t : Tok) where
  bound_memory : (a : WrittenAct) (ps : List Part) (o : Option (List ℕ)) → bound_made w k a ps o ≡ Err Memory → ⊥
  bound_memory a ps None e = cc
  bound_memory a ps (Some name) e = cc

  use_memory : (name : List ℕ) (b c : Bool) → ◌≡◌ {A = Result WorldText WorldFault} (cond b (Err (Clause k t.line t.column)) (cond c (Ok (with_use w name)) (Err (UnknownArtifact k name)))) (Err Memory) → ⊥
  use_memory name true c e = cc
  use_memory name false true e = cc
  use_memory name false false e = cc

  made_memory : (artifacts : List (List ℕ)) (s : Statement) → made artifacts w k t s ≡ Err Memory → ⊥
  made_memory artifacts (statement.Fact l) e = cc
  made_memory artifacts (statement.Hide name) e = cc
  made_memory artifacts (statement.Use name) e = use_memory name (has_name w.uses name) (has_name artifacts name) e
  made_memory artifacts (statement.Act a) e = bound_memory a (said_parts a.guard) (unbound a (said_parts a.guard)) e

never_memory : {artifacts : List (List ℕ)} {k : ℕ} {w : WorldText} {ps : List (List Tok)} → Answers artifacts k w ps (Err Memory) → ⊥
never_memory {artifacts} {k} {w} (is_refused {t = t} {s = s} h r e m) = made_memory w k t artifacts s m
never_memory (is_read h r e m a) = never_memory a

module _ (artifacts : List (List ℕ)) (bytes : List ℕ) where
  abbrev Answer : Type 0
  Answer = (r : Result WorldText WorldFault) × IsAnswer artifacts bytes r

  of_tokens : (r : Result WorldText WorldFault) → HasAnswer artifacts bytes r → Answer
  of_tokens (Ok text) a = (Ok text, a)
  of_tokens (Err Memory) a = absurd (never_memory a.answers)
  of_tokens (Err (Lex fault)) a = absurd (never_lex a.answers)
  of_tokens (Err (Clause number line column)) a = (Err (Clause number line column), a)
  of_tokens (Err (Limit number)) a = (Err (Limit number), a)
  of_tokens (Err (Unbound number name)) a = (Err (Unbound number name), a)
  of_tokens (Err (UnknownArtifact number name)) a = (Err (UnknownArtifact number name), a)

  answered : (lexed : Result (List Tok) LexFault) → Lexes start bytes lexed → Answer
  answered (Ok ts) l = of_tokens (answer_by artifacts 1 nothing (pieces is_end ts)) (record { tokens = ts; lexed = l; answers = answers artifacts ts })
  answered (Err fault) l = (Err (Lex fault), l)

pub some_world : SomeWorld
some_world artifacts bytes = let l = lexer.some_answer bytes in answered artifacts bytes l.0 l.1
