-- Bytes have one answer.
use Rattle.std.proofs.Common.{◌≡◌, ℕ, List, Result, Ok, Err, refl, ap, subst}
use Rattle.asl_lexer.proofs.One as lexer
use Rattle.asl_lexer.specs.declared.token.Tok.{Tok}
use Rattle.asl_lexer.specs.declared.token.LexFault.{LexFault}
use Rattle.asl_lexer.specs.Lexing.{AreTokens, IsFirstFault}
use Rattle.mas_project.specs.declared.syntax.ProjectText.{ProjectText}
use Rattle.mas_project.specs.declared.fault.ProjectFault.{ProjectFault}
use Rattle.mas_project.specs.declared.fault.ProjectFault.TheVariants as fault
use Rattle.mas_project.specs.Pieces.{pieces}
use Rattle.mas_project.specs.Faults.{FirstRefused}
use Rattle.mas_project.specs.Projects.{SayProject, FailsTest, IsProject, IsRefused, of_token, of_piece, of_agents}
use Rattle.mas_project.specs.Laws.{OneAnswer}
use Rattle.mas_project.proofs.Readings.{same_project, not_refused, not_failing}
use Rattle.mas_project.proofs.Single.{same_refusal, same_failing}

-- ---- one answer

ok_is : (ts us : List Tok) (r s : Result (List Tok) LexFault) → r ≡ s → r ≡ Ok ts → s ≡ Ok us → ts ≡ us
ok_is ts us r s e p q = cc

err_is : (f g : LexFault) (r s : Result (List Tok) LexFault) → r ≡ s → r ≡ Err f → s ≡ Err g → f ≡ g
err_is f g r s e p q = cc

err_ok : (f : LexFault) (ts : List Tok) (r s : Result (List Tok) LexFault) → r ≡ s → r ≡ Err f → s ≡ Ok ts → ⊥
err_ok f ts r s e p q = cc

same_tokens : {bytes : List ℕ} {ts us : List Tok} → AreTokens bytes ts → AreTokens bytes us → ts ≡ us
same_tokens {bytes = bytes} a b = ok_is _ _ _ _ (lexer.one_answer bytes _ _ a b) refl refl

no_tokens : {bytes : List ℕ} {x : LexFault} {ts : List Tok} → IsFirstFault bytes x → AreTokens bytes ts → ⊥
no_tokens {bytes = bytes} a b = err_ok _ _ _ _ (lexer.one_answer bytes _ _ a b) refl refl

one_project : (bytes : List ℕ) (p q : ProjectText) → IsProject bytes p → IsProject bytes q → p ≡ q
one_project bytes p q a b =
    let same = same_tokens b.lexed a.lexed in
    same_project (pieces a.tokens) p q a.says (subst (λ (x : List Tok). SayProject (pieces x) q) same b.says)

not_both : (bytes : List ℕ) (p : ProjectText) (f : ProjectFault) → IsProject bytes p → IsRefused bytes f → ⊥
not_both bytes p f a (of_token h) = no_tokens h a.lexed
not_both bytes p f a (of_piece ts l h) = not_refused ts p f (subst (λ (x : List Tok). SayProject (pieces x) p) (same_tokens a.lexed l) a.says) h
not_both bytes p f a (of_agents ts q l s h) =
    let here = subst (λ (x : List Tok). SayProject (pieces x) p) (same_tokens a.lexed l) a.says in
    let same = same_project (pieces ts) q p s here in
    not_failing p.agents f a.within (subst (λ (x : ProjectText). FailsTest x.agents f) same h)

one_refusal : (bytes : List ℕ) (f g : ProjectFault) → IsRefused bytes f → IsRefused bytes g → f ≡ g
one_refusal bytes f g (of_token h) (of_token k) = ap fault.Lex (err_is _ _ _ _ (lexer.one_answer bytes _ _ h k) refl refl)
one_refusal bytes f g (of_token h) (of_piece ts l k) = absurd (no_tokens h l)
one_refusal bytes f g (of_token h) (of_agents ts p l s k) = absurd (no_tokens h l)
one_refusal bytes f g (of_piece ts l k) (of_token h) = absurd (no_tokens h l)
one_refusal bytes f g (of_agents ts p l s k) (of_token h) = absurd (no_tokens h l)
one_refusal bytes f g (of_piece ts l h) (of_piece us m k) = same_refusal ts f g h (subst (λ (x : List Tok). FirstRefused x g) (same_tokens m l) k)
one_refusal bytes f g (of_piece ts l h) (of_agents us p m s k) = absurd (not_refused us p f s (subst (λ (x : List Tok). FirstRefused x f) (same_tokens l m) h))
one_refusal bytes f g (of_agents us p m s k) (of_piece ts l h) = absurd (not_refused us p g s (subst (λ (x : List Tok). FirstRefused x g) (same_tokens l m) h))
one_refusal bytes f g (of_agents ts p l s h) (of_agents us q m t k) =
    let same = same_project (pieces ts) q p (subst (λ (x : List Tok). SayProject (pieces x) q) (same_tokens m l) t) s in
    same_failing p.agents f g h (subst (λ (x : ProjectText). FailsTest x.agents g) same k)

pub one_answer : OneAnswer
one_answer bytes (Ok p) (Ok q) a b = ap Ok (one_project bytes p q a b)
one_answer bytes (Ok p) (Err f) a b = absurd (not_both bytes p f a b)
one_answer bytes (Err f) (Ok p) a b = absurd (not_both bytes p f b a)
one_answer bytes (Err f) (Err g) a b = ap Err (one_refusal bytes f g a b)
