-- A world file: what its clauses say together, and which is refused first.
use Rattle.std.specs.Prelude.{◌≡◌, ℕ, suc, Bool, true, false, List, [], ◌∷◌, ◌++◌, Option, Some, None, Result, Ok, Err, if◌then◌else◌}
use Rattle.std.specs.List.{flat_map, list_any}
use Rattle.std.specs.Option.{option_to_list}
use Rattle.std.specs.Str.{bytes_eq}
use Rattle.asl_lexer.specs.declared.token.Tok.{Tok}
use Rattle.asl_lexer.specs.Words.{pieces, is_end}
use Rattle.asl_lexer.specs.Lexing.{AreTokens, IsFirstFault}
use Rattle.asl_term.specs.declared.syntax.LiteralOf.{LiteralOf}
use Rattle.asl_term.specs.declared.syntax.Term.{Term}
use Rattle.asl_term.specs.Names.{with_name}
use Rattle.asl_parser_tree.specs.Lexemes.{lexemes}
use Rattle.asl_parser_tree.specs.Limits.{most_brackets, too_deep}
use Rattle.mas_world.specs.declared.acts.Act.{Act}
use Rattle.mas_world.specs.declared.acts.WorldText.{WorldText}
use Rattle.mas_world.specs.Facts.{is_fact}
use Rattle.env_file.specs.declared.fault.WorldFault.{WorldFault}
use Rattle.env_file.specs.declared.fault.WorldFault.TheVariants.{Memory, Lex, Clause, Limit, Unbound, UnknownArtifact}
use Rattle.env_file.specs.declared.statement.Part.{Part}
use Rattle.env_file.specs.declared.statement.Effect.{Effect}
use Rattle.env_file.specs.declared.statement.Effect.TheVariants.{Added, Deleted, Dropped}
use Rattle.env_file.specs.declared.statement.WrittenAct.{WrittenAct}
use Rattle.env_file.specs.declared.statement.Statement.{Statement}
use Rattle.env_file.specs.declared.statement.Statement.TheVariants as statement
use Rattle.env_file.specs.Statements.{Says}
use Rattle.env_file.specs.Limits.{is_within}
use Rattle.env_file.specs.Guards.{said_parts, exprs_of}
use Rattle.env_file.specs.Binding.{unbound}

-- ---- what is said

-- a fact goes last, unless it is there
abbrev pub with_fact : List (LiteralOf Term) → LiteralOf Term → List (LiteralOf Term)
with_fact facts l = if is_fact facts l then facts else facts ++ l ∷ []

-- the literal that an effect adds, or takes away
abbrev pub change : Bool → Effect → Option (LiteralOf Term)
change add (Added l) = if add then Some l else None
change add (Deleted l) = if add then None else Some l
change add (Dropped name) = None

-- rule: what is added, or taken away, in order
abbrev pub changes : Bool → List Effect → List (LiteralOf Term)
changes add = flat_map (λ e. option_to_list (change add e))

abbrev pub with_drop : List (List ℕ) → Effect → List (List ℕ)
with_drop names (Added l) = names
with_drop names (Deleted l) = names
with_drop names (Dropped name) = with_name names name

-- rule: the names and those of what is dropped, in order, each once
abbrev pub drops : List (List ℕ) → List Effect → List (List ℕ)
drops names [] = names
drops names (e ∷ es) = drops (with_drop names e) es

abbrev pub act_of : WrittenAct → List Part → Act
act_of a ps = record {
  head = a.head;
  by = a.by;
  guard = exprs_of ps;
  dels = changes false a.effects;
  adds = changes true a.effects;
  drops = drops [] a.effects;
}

-- ---- one clause more

abbrev pub has_name : List (List ℕ) → List ℕ → Bool
has_name names name = list_any (bytes_eq name) names

abbrev pub with_said : WorldText → LiteralOf Term → WorldText
with_said w l = record { facts = with_fact w.facts l; hidden = w.hidden; uses = w.uses; acts = w.acts }

abbrev pub with_hidden : WorldText → List ℕ → WorldText
with_hidden w name = record { facts = w.facts; hidden = with_name w.hidden name; uses = w.uses; acts = w.acts }

abbrev pub with_use : WorldText → List ℕ → WorldText
with_use w name = record { facts = w.facts; hidden = w.hidden; uses = with_name w.uses name; acts = w.acts }

abbrev pub with_act : WorldText → Act → WorldText
with_act w a = record { facts = w.facts; hidden = w.hidden; uses = w.uses; acts = w.acts ++ a ∷ [] }

-- a name that is used already is refused as no clause, one that no artifact has as unknown
abbrev pub use_made : List (List ℕ) → WorldText → ℕ → Tok → List ℕ → Result WorldText WorldFault
use_made artifacts w k t name =
    if has_name w.uses name then Err (Clause k t.line t.column)
    else (if has_name artifacts name then Ok (with_use w name) else Err (UnknownArtifact k name))

abbrev pub bound_made : WorldText → ℕ → WrittenAct → List Part → Option (List ℕ) → Result WorldText WorldFault
bound_made w k a ps None = Ok (with_act w (act_of a ps))
bound_made w k a ps (Some name) = Err (Unbound k name)

abbrev pub act_made : WorldText → ℕ → WrittenAct → List Part → Result WorldText WorldFault
act_made w k a ps = bound_made w k a ps (unbound a ps)

-- the world of before with what the clause says, or why the clause, which has the number k and begins with t, is refused
abbrev pub made : List (List ℕ) → WorldText → ℕ → Tok → Statement → Result WorldText WorldFault
made artifacts w k t (statement.Fact l) = Ok (with_said w l)
made artifacts w k t (statement.Hide name) = Ok (with_hidden w name)
made artifacts w k t (statement.Use name) = use_made artifacts w k t name
made artifacts w k t (statement.Act a) = act_made w k a (said_parts a.guard)

-- ---- pieces

-- rule: what pieces answer behind those that made a world, the first of which has the number k.
pub data Answers (artifacts : List (List ℕ)) : ℕ → WorldText → List (List Tok) → Result WorldText WorldFault → Type 0 where
  all_read : {k : ℕ} {w : WorldText} → Answers artifacts k w [] (Ok w)
  brackets : {k : ℕ} {w : WorldText} {p : List Tok} {ps : List (List Tok)} → too_deep most_brackets 0 (lexemes p) ≡ true
      → Answers artifacts k w (p ∷ ps) (Err (Limit k))
  no_clause : {k : ℕ} {w : WorldText} {t : Tok} {ts : List Tok} {ps : List (List Tok)} → too_deep most_brackets 0 (lexemes (t ∷ ts)) ≡ false
      → ((n : ℕ) (s : Statement) → Says n (lexemes (t ∷ ts)) s → ⊥) → Answers artifacts k w ((t ∷ ts) ∷ ps) (Err (Clause k t.line t.column))
  large : {k : ℕ} {w : WorldText} {p : List Tok} {ps : List (List Tok)} {s : Statement} → too_deep most_brackets 0 (lexemes p) ≡ false
      → Says most_brackets (lexemes p) s → is_within s ≡ false → Answers artifacts k w (p ∷ ps) (Err (Limit k))
  is_refused : {k : ℕ} {w : WorldText} {t : Tok} {ts : List Tok} {ps : List (List Tok)} {s : Statement} {fault : WorldFault}
      → too_deep most_brackets 0 (lexemes (t ∷ ts)) ≡ false → Says most_brackets (lexemes (t ∷ ts)) s → is_within s ≡ true → made artifacts w k t s ≡ Err fault
      → Answers artifacts k w ((t ∷ ts) ∷ ps) (Err fault)
  is_read : {k : ℕ} {w v : WorldText} {t : Tok} {ts : List Tok} {ps : List (List Tok)} {s : Statement} {r : Result WorldText WorldFault}
      → too_deep most_brackets 0 (lexemes (t ∷ ts)) ≡ false → Says most_brackets (lexemes (t ∷ ts)) s → is_within s ≡ true → made artifacts w k t s ≡ Ok v
      → Answers artifacts (suc k) v ps r → Answers artifacts k w ((t ∷ ts) ∷ ps) r

-- ---- the whole

abbrev pub nothing : WorldText
nothing = record { facts = []; hidden = []; uses = []; acts = [] }

-- the tokens of the bytes answer this
pub record HasAnswer (artifacts : List (List ℕ)) (bytes : List ℕ) (answer : Result WorldText WorldFault) : Type 0 where
  pub tokens : List Tok
  pub lexed : AreTokens bytes tokens
  pub answers : Answers artifacts 1 nothing (pieces is_end tokens) answer

-- rule: the bytes are the file of this world
abbrev pub IsWorld : List (List ℕ) → List ℕ → WorldText → Type 0
IsWorld artifacts bytes text = HasAnswer artifacts bytes (Ok text)

-- rule: why bytes are no world file; memory may lack anywhere
abbrev pub IsNone : List (List ℕ) → List ℕ → WorldFault → Type 0
IsNone artifacts bytes Memory = Unit {0}
IsNone artifacts bytes (Lex fault) = IsFirstFault bytes fault
IsNone artifacts bytes fault = HasAnswer artifacts bytes (Err fault)

-- what bytes answer where memory is not wanting: a world, or a fault
abbrev pub IsAnswer : List (List ℕ) → List ℕ → Result WorldText WorldFault → Type 0
IsAnswer artifacts bytes (Ok text) = IsWorld artifacts bytes text
IsAnswer artifacts bytes (Err Memory) = ⊥
IsAnswer artifacts bytes (Err (Lex fault)) = IsFirstFault bytes fault
IsAnswer artifacts bytes (Err fault) = HasAnswer artifacts bytes (Err fault)
