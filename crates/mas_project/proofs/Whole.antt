-- From bytes to their project or their first refusal.
use Rattle.std.proofs.Common.{◌≡◌, ℕ, List, sym, subst}
use Rattle.asl_lexer.specs.declared.token.Tok.{Tok}
use Rattle.asl_lexer.specs.declared.token.LexFault.{LexFault}
use Rattle.asl_lexer.specs.declared.token.LexFault.TheVariants as lexed
use Rattle.asl_lexer.specs.Lexing as lexing
use Rattle.asl_lexer.specs.Lexing.{AreTokens}
use Rattle.mas_project.specs.declared.draft.Draft.{Draft}
use Rattle.mas_project.specs.declared.syntax.ProjectText.{ProjectText}
use Rattle.mas_project.specs.declared.fault.ProjectFault.{ProjectFault}
use Rattle.mas_project.specs.declared.fault.ProjectFault.TheVariants as fault
use Rattle.mas_project.specs.Pieces.{pieces}
use Rattle.mas_project.specs.Faults.{UnlessMemory, FirstRefused}
use Rattle.mas_project.specs.Projects.{IsProject, IsRefused, of_token, of_piece, of_agents, IsNone}
use Rattle.mas_project.specs.inner.Drafts.{SomeDraft, SayDraft, IsTested, FailsTests}
use Rattle.mas_project.proofs.Refused.{carried}

pub no_tokens : (bytes : List ℕ) (x : LexFault) → lexing.IsFault bytes x → (x ≡ lexed.Memory → ⊥) → IsRefused bytes (fault.Lex x)
no_tokens bytes lexed.Memory h n = absurd (n cc)
no_tokens bytes (lexed.BadByte k) h n = of_token h
no_tokens bytes (lexed.OpenString k) h n = of_token h
no_tokens bytes (lexed.OpenComment k) h n = of_token h
no_tokens bytes (lexed.NumberRange k) h n = of_token h

pub some_draft : (ps : List (List Tok)) (d : Draft) → SayDraft ps d → SomeDraft d
some_draft ps d h = record { project = h.project; drafts = h.drafts }

pub no_pieces : (bytes : List ℕ) (ts : List Tok) (f : ProjectFault) → AreTokens bytes ts → UnlessMemory (FirstRefused ts) f → IsNone bytes f
no_pieces bytes ts f l h = carried (FirstRefused ts) (IsRefused bytes) f (of_piece ts l) h

pub no_agents : (bytes : List ℕ) (ts : List Tok) (d : Draft) (f : ProjectFault) → AreTokens bytes ts → SayDraft (pieces ts) d
    → UnlessMemory (FailsTests d) f → IsNone bytes f
no_agents bytes ts d f l s h =
    carried (FailsTests d) (IsRefused bytes) f (λ fails. of_agents ts s.project l s.says (fails s.project s.drafts)) h

pub whole : (bytes : List ℕ) (ts : List Tok) (d : Draft) (p : ProjectText) → AreTokens bytes ts → SayDraft (pieces ts) d → IsTested d p → IsProject bytes p
whole bytes ts d p l s h =
    let t = h s.project s.drafts in
    subst (IsProject bytes) (sym t.0) (record { tokens = ts; lexed = l; says = s.says; within = t.1 })

pub ruleset parts = (some_draft, no_pieces, no_agents, whole)
