-- The demo's world is read where there is an artifact `tally`, and is refused where there is none.
use Rattle.std.proofs.Common.{◌≡◌, ℕ, suc, Bool, true, false, cond, List, [], ◌∷◌, map, Result, Ok, Err, refl, ap, sym, ◌∙◌, subst}
use Rattle.std.specs.Prelude.{codes}
use Rattle.asl_lexer.specs.declared.token.Tok.{Tok}
use Rattle.asl_lexer.specs.Spelling.{sign_of}
use Rattle.asl_lexer.specs.Words.{atom_word, is_end, pieces}
use Rattle.asl_lexer.specs.Bare.{Bare, bare, atom, stop}
use Rattle.asl_lexer.proofs.Seams.{before_stop, whole}
use Rattle.asl_parser_tree.specs.declared.lexeme.Lexeme.{Lexeme}
use Rattle.asl_parser_tree.specs.declared.lexeme.Lexeme.TheVariants.{Atom, End}
use Rattle.asl_parser_tree.specs.Lexemes.{lexeme_of, lexemes}
use Rattle.asl_parser_tree.specs.Limits.{too_deep}
use Rattle.mas_world.specs.declared.acts.WorldText.{WorldText}
use Rattle.env_file.specs.declared.fault.WorldFault.{WorldFault}
use Rattle.env_file.specs.declared.fault.WorldFault.TheVariants.{UnknownArtifact}
use Rattle.env_file.specs.declared.statement.Statement.{Statement}
use Rattle.env_file.specs.declared.statement.Statement.TheVariants as statement
use Rattle.env_file.specs.Limits.{is_within}
use Rattle.env_file.specs.Statements.{Says, a_hide, a_use, has_annots}
use Rattle.env_file.specs.Worlds.{Answers, all_read, is_read, is_refused, HasAnswer, IsWorld, has_name, made, nothing, with_use, with_hidden}
use Rattle.mas_top_demo.specs.Files.{world_source}
use Rattle.mas_top_demo.proofs.Tokens.{world_tokens, world_given}
use Rattle.mas_top_demo.proofs.Cut.{cut, cut_same, lexed_from, lexed_same}

abbrev tally : List ℕ
tally = codes "tally"

-- a clause of one word and the name
abbrev line_tokens : List ℕ → List Bare
line_tokens word = atom word ∷ atom tally ∷ stop ∷ []

abbrev line_lexemes : List ℕ → List Lexeme
line_lexemes word = Atom word ∷ Atom tally ∷ End ∷ []

-- a clause that says this, within the limits
record Line (c : List Bare) (said : Statement) : Type 0 where
  word : List ℕ
  tokens : c ≡ line_tokens word
  lexed : lexed_from 1 c ≡ line_lexemes word
  says : Says 250 (line_lexemes word) said
  within : is_within said ≡ true

shallow : (word : List ℕ) → too_deep 250 0 (line_lexemes word) ≡ false
unfolding too_deep
shallow word = refl

-- the tokens of a piece are these lexemes
piece_lexed : (p : List Tok) (c : List Bare) (s : Statement) (l : Line c s) → map bare p ≡ c → lexemes p ≡ line_lexemes l.word
piece_lexed p c s l e = lexed_same 1 p ∙ ap (lexed_from 1) e ∙ l.lexed

line_read : (known : List (List ℕ)) (k : ℕ) (p : List Tok) (ps : List (List Tok)) (c : List Bare) (s : Statement) (w v u : WorldText) → Line c s
    → map bare p ≡ c → ((t : Tok) → made known w k t s ≡ Ok v) → Answers known (suc k) v ps (Ok u) → Answers known k w (p ∷ ps) (Ok u)
line_read known k [] ps c s w v u l e m a = absurd (let d : [] ≡ line_tokens l.word = e ∙ l.tokens in cc)
line_read known k (t ∷ ts) ps c s w v u l e m a =
    let same = piece_lexed (t ∷ ts) c s l e in
    is_read (ap (too_deep 250 0) same ∙ shallow l.word) (subst (λ (xs : List Lexeme). Says 250 xs s) (sym same) l.says) l.within (m t) a

line_refused : (known : List (List ℕ)) (k : ℕ) (p : List Tok) (ps : List (List Tok)) (c : List Bare) (s : Statement) (w : WorldText) (fault : WorldFault) → Line c s
    → map bare p ≡ c → ((t : Tok) → made known w k t s ≡ Err fault) → Answers known k w (p ∷ ps) (Err fault)
line_refused known k [] ps c s w fault l e m = absurd (let d : [] ≡ line_tokens l.word = e ∙ l.tokens in cc)
line_refused known k (t ∷ ts) ps c s w fault l e m =
    let same = piece_lexed (t ∷ ts) c s l e in
    is_refused (ap (too_deep 250 0) same ∙ shallow l.word) (subst (λ (xs : List Lexeme). Says 250 xs s) (sym same) l.says) l.within (m t)

-- ---- the two clauses

abbrev used : WorldText
used = with_use nothing tally

abbrev pub demo_world : WorldText
demo_world = with_hidden used tally

use_line : Line (line_tokens (codes "use")) (statement.Use tally)
unfolding lexeme_of atom_word has_annots
use_line = record {
  word = codes "use";
  tokens = refl;
  lexed = refl;
  says = record { bare = refl; stated = a_use refl refl };
  within = refl;
}

hide_line : Line (line_tokens (codes "hide")) (statement.Hide tally)
unfolding lexeme_of atom_word has_annots
hide_line = record {
  word = codes "hide";
  tokens = refl;
  lexed = refl;
  says = record { bare = refl; stated = a_hide refl refl };
  within = refl;
}

-- what the first makes of nothing, by whether the name is known
use_makes : (known : List (List ℕ)) (b : Bool) → has_name known tally ≡ b → (k : ℕ) (t : Tok)
    → made known nothing k t (statement.Use tally) ≡ cond b (Ok used) (Err (UnknownArtifact k tally))
use_makes known b h k t = ap (λ (b : Bool). cond b (Ok used) (Err (UnknownArtifact k tally))) h

both_read : (known : List (List ℕ)) → has_name known tally ≡ true → (ps : List (List Tok))
    → map (map bare) ps ≡ line_tokens (codes "use") ∷ line_tokens (codes "hide") ∷ [] → Answers known 1 nothing ps (Ok demo_world)
both_read known h [] e = absurd cc
both_read known h (p ∷ []) e = absurd cc
both_read known h (p ∷ q ∷ []) e =
    let first : map bare p ≡ line_tokens (codes "use") = cc in
    let second : map bare q ≡ line_tokens (codes "hide") = cc in
    line_read known 1 p (q ∷ []) _ _ nothing used demo_world use_line first (use_makes known true h 1)
    (line_read known 2 q [] _ _ used demo_world demo_world hide_line second (λ t. refl) all_read)
both_read known h (p ∷ q ∷ r ∷ ps) e = absurd cc

-- where the name is not known the first is refused
first_refused : (known : List (List ℕ)) → has_name known tally ≡ false → (ps : List (List Tok))
    → map (map bare) ps ≡ line_tokens (codes "use") ∷ line_tokens (codes "hide") ∷ [] → Answers known 1 nothing ps (Err (UnknownArtifact 1 tally))
first_refused known h [] e = absurd cc
first_refused known h (p ∷ ps) e =
    let first : map bare p ≡ line_tokens (codes "use") = cc in
    line_refused known 1 p ps _ _ nothing (UnknownArtifact 1 tally) use_line first (use_makes known false h 1)

world_cut : cut is_end world_tokens ≡ line_tokens (codes "use") ∷ line_tokens (codes "hide") ∷ []
unfolding sign_of atom_word
world_cut = refl

-- what the pieces answer, whatever they are, is the answer of the file
answered : (known : List (List ℕ)) (r : Result WorldText WorldFault) → ((ps : List (List Tok))
    → map (map bare) ps ≡ line_tokens (codes "use") ∷ line_tokens (codes "hide") ∷ [] → Answers known 1 nothing ps r) → HasAnswer known world_source r
answered known r answers =
    let t = whole (before_stop world_given) in
    record { tokens = t.toks; lexed = t.lexed; answers = answers (pieces is_end t.toks) (cut_same is_end t.toks ∙ ap (cut is_end) t.same ∙ world_cut) }

-- the file of the demo's world
pub is_world : (known : List (List ℕ)) → has_name known tally ≡ true → IsWorld known world_source demo_world
is_world known h = answered known (Ok demo_world) (both_read known h)

pub is_unknown : (known : List (List ℕ)) → has_name known tally ≡ false → HasAnswer known world_source (Err (UnknownArtifact 1 tally))
is_unknown known h = answered known (Err (UnknownArtifact 1 tally)) (first_refused known h)
