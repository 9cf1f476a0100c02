-- Files describe a source, or one of them is refused.
use Rattle.std.proofs.Common.{ℕ, ◌≡◌, ◌≢◌, ◌+◌, ◌-◌, ◌⊎◌, inl, inr, Bool, true, false, cond, List, [], ◌∷◌, length, take, slice_get, Option, None, Some, refl, ap, sym, ◌∙◌, arith, nat_lt}
use Rattle.std.specs.Prelude.{Result, Ok as Yes, Err as No}
use Rattle.std.specs.Option.{option_map_or}
use Rattle.std.specs.Str.{bytes_eq}
use Rattle.asl_term.specs.declared.syntax.AgentText.{AgentText}
use Rattle.asl_term.specs.declared.syntax.Filed.{Filed}
use Rattle.asl_lexer.specs.declared.token.LexFault.{LexFault}
use Rattle.asl_lexer.specs.declared.token.LexFault.TheVariants as lex
use Rattle.asl_lexer.specs.declared.token.Place.{Place}
use Rattle.asl_lexer.specs.declared.token.Tok.{Tok}
use Rattle.asl_lexer.specs.Lexing.{FaultAt, open_comment, big_number, open_string, bad_string, bad_byte, Lexes, at_end, behind_blank, behind_token, stops, tok_of, onto, IsFirstFault}
use Rattle.asl_parser_expr.specs.declared.fault.TextFault.{TextFault}
use Rattle.asl_parser_expr.specs.declared.fault.TextFault.TheVariants as fault
use Rattle.asl_parser.specs.declared.sentence.Sentence.{Sentence}
use Rattle.asl_parser.specs.Agents.{IsAgent, all_added, nothing, IsAnswer}
use Rattle.asl_parser.proofs.Total as agent_files
use Rattle.mas_mind.specs.Limits.{most_cycles_together}
use Rattle.mas_world.specs.declared.acts.WorldText.{WorldText}
use Rattle.env_file.specs.declared.fault.WorldFault.{WorldFault}
use Rattle.env_file.specs.declared.fault.WorldFault.TheVariants as world
use Rattle.env_file.specs.Worlds as env
use Rattle.env_file.proofs.Total as world_files
use Rattle.mas_project.specs.declared.piece.NextPiece.{NextPiece}
use Rattle.mas_project.specs.declared.syntax.AgentLine.{AgentLine}
use Rattle.mas_project.specs.declared.syntax.ProjectText.{ProjectText}
use Rattle.mas_project.specs.declared.fault.ProjectFault.{ProjectFault}
use Rattle.mas_project.specs.declared.fault.ProjectFault.TheVariants as project
use Rattle.mas_project.specs.Faults as pieces
use Rattle.mas_project.specs.Pieces as cuts
use Rattle.mas_project.specs.Names.{names_in, names_of}
use Rattle.mas_project.specs.Projects as project_answers
use Rattle.mas_project.specs.Projects.{IsProject, IsRefused, of_token, of_piece, of_agents, FailsTest, too_many, two_names}
use Rattle.mas_project.proofs.Refused.{unless_memory}
use Rattle.mas_project.proofs.Total as project_files
use Rattle.mas_io.specs.Shelf.{fetched}
use Rattle.mas_io.specs.declared.shelf.Fetched.{Fetched}
use Rattle.mas_io.specs.declared.shelf.Fetched.TheVariants.{Bytes, Missing as Lacks, TooLong, Failed}
use Rattle.mas_top_files.specs.declared.sources.Role.{Role}
use Rattle.mas_top_files.specs.declared.sources.Source.{Source}
use Rattle.mas_top_status.specs.declared.status.What.TheVariants as what
use Rattle.mas_top_status.specs.declared.status.Status.{Status}
use Rattle.mas_top_status.specs.declared.status.Status.TheVariants.{Missing, Limit, Memory}
use Rattle.mas_top_files.specs.Projects.{folder, project_in, is_agent_file, solo_project, all_cycles}
use Rattle.mas_top_files.specs.Faults.{lex_status, text_status, world_status, project_status}
use Rattle.mas_top_files.specs.Files.{Has, HasFile, Reader, agents, worlds, projects, most_bytes, IsRefusal, unfetched, missing, too_long}
use Rattle.mas_top_files.specs.Sources.{ProjectBy, HasProject, HasWorld, HasRole, HasRoles, IsAsked, HasSource, LineRefused, FirstRefused, project_refused, cycles_refused, part_refused}
use Rattle.mas_top_files.specs.Laws.{SomeSource, UnrefusedDescribe}
use Rattle.mas_top_files.proofs.Fetched.{refused_by}
use Rattle.mas_top_files.proofs.Unless.{unless}

-- it is so of this status, which is not want of memory, where no call has failed
record Refusal (Is : ℕ → ℕ → Status → Type 0) : Type 0 where
  status : Status
  no_lack : status ≢ Memory
  is : Is 0 0 status

-- ---- no fault is want of memory

fault_lacks : {at : ℕ} {bytes : List ℕ} {f : LexFault} → FaultAt at bytes f → f ≡ lex.Memory → ⊥
fault_lacks (open_comment h) e = cc
fault_lacks (big_number kind n h a) e = cc
fault_lacks (open_string text h n) e = cc
fault_lacks (bad_string text k h b) e = cc
fault_lacks (bad_byte b rest h q n t) e = cc

onto_lacks : (t : Tok) (r : Result (List Tok) LexFault) → onto t r ≡ No lex.Memory → r ≡ No lex.Memory
onto_lacks t (Yes ts) e = absurd cc
onto_lacks t (No f) e = e

stop_lacks : (f : LexFault) → ◌≡◌ {A = Result (List Tok) LexFault} (No f) (No lex.Memory) → f ≡ lex.Memory
stop_lacks f e = cc

none_lack : {A : Type 0} → ◌≡◌ {A = Result (List Tok) LexFault} (Yes []) (No lex.Memory) → A
none_lack e = absurd cc

tokens_lack : {p : Place} {bytes : List ℕ} {r : Result (List Tok) LexFault} → Lexes p bytes r → r ≡ No lex.Memory → ⊥
tokens_lack at_end e = none_lack e
tokens_lack (behind_blank n b l) e = tokens_lack l e
tokens_lack {p = p} {bytes = bytes} (behind_token {r = r} kind n t a l s) e = tokens_lack l (onto_lacks (tok_of kind (take n bytes) p) r (sym s ∙ e))
tokens_lack (stops {fault = f} h) e = fault_lacks h (stop_lacks f e)

module _ (name bytes : List ℕ) where
  lex_known : (f : LexFault) → IsFirstFault bytes f → lex_status name f ≢ Memory
  lex_known lex.Memory h e = tokens_lack h refl
  lex_known (lex.BadByte place) h e = cc
  lex_known (lex.OpenString place) h e = cc
  lex_known (lex.OpenComment place) h e = cc
  lex_known (lex.NumberRange place) h e = cc

  clause_known : (n : ℕ) (o : Option Tok) → project_status name (pieces.clause_at n o) ≢ Memory
  clause_known n None e = cc
  clause_known n (Some t) e = cc

  option_known : (n : ℕ) (word : Option (List ℕ)) (f : ProjectFault) → project_status name f ≢ Memory → project_status name (option_map_or (project.Option n) word f) ≢ Memory
  option_known n None f h e = h e
  option_known n (Some word) f h e = cc

  as_known : (f g : ProjectFault) → f ≡ g → project_status name g ≢ Memory → project_status name f ≢ Memory
  as_known f g e h m = h (ap (project_status name) (sym e) ∙ m)

  piece_known : {piece : List Tok} {n : ℕ} {at : Option NextPiece} {f : ProjectFault} → pieces.IsRefusedPiece piece n at f → project_status name f ≢ Memory
  piece_known {piece = piece} {n = n} {f = f} (pieces.too_late e) = as_known f (pieces.clause_at n (slice_get piece 0)) e (clause_known n (slice_get piece 0))
  piece_known {piece = piece} {n = n} {f = f} (pieces.too_early h e) = as_known f (pieces.clause_at n (slice_get piece 0)) e (clause_known n (slice_get piece 0))
  piece_known {piece = piece} {n = n} {f = f} (pieces.stops word h e) =
      as_known f (pieces.stop_fault n piece word) e (option_known n (pieces.option_word word) (pieces.clause_at n (slice_get piece 0)) (clause_known n (slice_get piece 0)))

  pieces_known : {ts : List Tok} {f : ProjectFault} → pieces.FirstRefused ts f → project_status name f ≢ Memory
  pieces_known (pieces.refused before behind piece meant at parts reads why) = piece_known why
  pieces_known {ts = ts} {f = f} (pieces.missing meant at reads e) =
      let n = length (cuts.pieces ts) + 1 in
      as_known f (pieces.clause_at n (slice_get ts (length ts - 1))) e (clause_known n (slice_get ts (length ts - 1)))

  test_known : {lines : List AgentLine} {f : ProjectFault} → FailsTest lines f → project_status name f ≢ Memory
  test_known (too_many h) e = cc
  test_known (two_names h t) e = cc

  project_known : {f : ProjectFault} → IsRefused bytes f → project_status name f ≢ Memory
  project_known (of_token {x = x} h) = lex_known x h
  project_known (of_piece ts l h) = pieces_known h
  project_known (of_agents ts p l s h) = test_known h

-- ---- a file is read, or refused

never_failed : (files : List Filed) (name : List ℕ) (most : ℕ) → fetched files name most ≡ Failed → ⊥
never_failed [] name most e = cc
never_failed (file ∷ files) name most e = go (never_failed files name most) (bytes_eq file.name name) (nat_lt most (length file.bytes)) e
  where
    go : (fetched files name most ≡ Failed → ⊥) → (same long : Bool) → cond same (cond long TooLong (Bytes file.bytes)) (fetched files name most) ≡ Failed → ⊥
    go later true true e = cc
    go later true false e = cc
    go later false long e = later e

abbrev RefusedFile : Reader → List Filed → List ℕ → Type 0
RefusedFile r files name = Refusal (IsRefusal r name (Some files))

module _ (r : Reader) (files : List Filed) (name : List ℕ) (P : List ℕ → Type 0) where
  file_told : ((bytes : List ℕ) → Has r.most (Some files) name (Bytes bytes) → P bytes ⊎ RefusedFile r files name) → HasFile r.most (Some files) name P ⊎ RefusedFile r files name
  file_told read = go (fetched files name r.most) refl
    where
      go : (o : Fetched) → fetched files name r.most ≡ o → HasFile r.most (Some files) name P ⊎ RefusedFile r files name
      go (Bytes bytes) e = elim (read bytes (sym e)) [ inl h ↦ inl (record { bytes = bytes; has = sym e; are = h }) | inr f ↦ inr f ]
      go Lacks e = inr (record { status = Missing name; no_lack = λ m. absurd cc; is = unfetched (missing refl (sym e)) })
      go TooLong e = inr (record { status = Limit what.File r.most; no_lack = λ m. absurd cc; is = unfetched (too_long refl (sym e)) })
      go Failed e = absurd (never_failed files name r.most e)

module _ (files : List Filed) (name bytes : List ℕ) where
  bytes_refused : {P : Type 0} (r : Reader) → Has r.most (Some files) name (Bytes bytes) → (f : r.Fault) → (r.status_of name f ≢ Memory) × r.faulty bytes f → P ⊎ RefusedFile r files name
  bytes_refused r has f h = inr (record { status = r.status_of name f; no_lack = h.0; is = refused_by r name (Some files) 0 0 bytes f (r.status_of name f) has h.1 refl })

module _ (files : List Filed) (name bytes : List ℕ) (has : Has most_bytes (Some files) name (Bytes bytes)) where
  -- ---- the file of an agent

  text_known : (f : TextFault) → IsAnswer bytes (No f) → (text_status name f ≢ Memory) × agents.faulty bytes f
  text_known fault.Memory h = absurd h
  text_known (fault.Lex why) h = (lex_known name bytes why h, h)
  text_known (fault.Clause number line column) h = ((λ e. cc), h)
  text_known (fault.Limit number) h = ((λ e. cc), h)

  agent_told : (r : Result (List Sentence) TextFault) → IsAnswer bytes r → ((text : AgentText) × IsAgent bytes text) ⊎ RefusedFile agents files name
  agent_told (Yes said) h = inl (all_added nothing said, record { sentences = said; said = h; together = refl })
  agent_told (No f) h = bytes_refused files name bytes agents has f (text_known f h)

  -- ---- that of a world

  module _ (known : List (List ℕ)) where
    world_known : (f : WorldFault) → env.IsAnswer known bytes (No f) → (world_status name f ≢ Memory) × (worlds known).faulty bytes f
    world_known world.Memory h = absurd h
    world_known (world.Lex why) h = (lex_known name bytes why h, h)
    world_known (world.Clause number line column) h = ((λ e. cc), h)
    world_known (world.Limit number) h = ((λ e. cc), h)
    world_known (world.Unbound number variable) h = ((λ e. cc), h)
    world_known (world.UnknownArtifact number artifact) h = ((λ e. cc), h)

    world_told : (r : Result WorldText WorldFault) → env.IsAnswer known bytes r → ((text : WorldText) × env.IsWorld known bytes text) ⊎ RefusedFile (worlds known) files name
    world_told (Yes text) h = inl (text, h)
    world_told (No f) h = bytes_refused files name bytes (worlds known) has f (world_known f h)

  -- ---- that of a project

  project_told : (r : Result ProjectText ProjectFault) → project_answers.IsAnswer bytes r → ((p : ProjectText) × IsProject bytes p) ⊎ RefusedFile projects files name
  project_told (Yes p) h = inl (p, h)
  project_told (No f) h = bytes_refused files name bytes projects has f (project_known name bytes h, unless_memory (IsRefused bytes) f h)

-- ---- the files of a project

agent_file : (files : List Filed) (name : List ℕ) → HasFile most_bytes (Some files) name (λ bytes. (text : AgentText) × IsAgent bytes text) ⊎ RefusedFile agents files name
agent_file files name =
    file_told agents files name (λ bytes. (text : AgentText) × IsAgent bytes text)
    (λ bytes has. let r = agent_files.some_answer bytes in agent_told files name bytes has r.0 r.1)

world_file : (known : List (List ℕ)) (files : List Filed) (name : List ℕ) →
    HasFile most_bytes (Some files) name (λ bytes. (text : WorldText) × env.IsWorld known bytes text) ⊎ RefusedFile (worlds known) files name
world_file known files name =
    file_told (worlds known) files name (λ bytes. (text : WorldText) × env.IsWorld known bytes text)
    (λ bytes has. let r = world_files.some_world known bytes in world_told files name bytes has known r.0 r.1)

project_file : (files : List Filed) (name : List ℕ) → HasFile most_bytes (Some files) name (λ bytes. (p : ProjectText) × IsProject bytes p) ⊎ RefusedFile projects files name
project_file files name =
    file_told projects files name (λ bytes. (p : ProjectText) × IsProject bytes p)
    (λ bytes has. let r = project_files.some_answer bytes in project_told files name bytes has r.0 r.1)

abbrev role_of : AgentLine → AgentText → Role
role_of line text = record { text = text; count = length (names_in line) }

module _ (files : List Filed) where
  abbrev LinesTold : List AgentLine → Type 0
  LinesTold lines = ((roles : List Role) × HasRoles (Some files) lines roles) ⊎ Refusal (LineRefused (Some files) lines)

  line_refused : (line : AgentLine) (lines : List AgentLine) → RefusedFile agents files line.file → LinesTold (line ∷ lines)
  line_refused line lines f = inr (record {
    status = f.status;
    no_lack = f.no_lack;
    is = record { front = []; roles = []; line = line; back = lines; lines_are = refl; read = tt; why = f.is };
  })

  line_before : (line : AgentLine) (lines : List AgentLine) (role : Role) → HasRole (Some files) line role → LinesTold lines → LinesTold (line ∷ lines)
  line_before line lines role h (inl rs) = inl (role ∷ rs.0, (h, rs.1))
  line_before line lines role h (inr f) = inr (record {
    status = f.status;
    no_lack = f.no_lack;
    is = record {
      front = line ∷ f.is.front;
      roles = role ∷ f.is.roles;
      line = f.is.line;
      back = f.is.back;
      lines_are = ap (λ ls. line ∷ ls) f.is.lines_are;
      read = (h, f.is.read);
      why = f.is.why;
    };
  })

  lines_told : (lines : List AgentLine) → LinesTold lines
  lines_told [] = inl ([], tt)
  lines_told (line ∷ lines) =
      elim (agent_file files line.file) [
        | inr f ↦ line_refused line lines f
        | inl h ↦ line_before line lines (role_of line h.are.0) (record { text = record { bytes = h.bytes; has = h.has; are = h.are.1 }; count = refl }) (lines_told lines)
      ]

  abbrev ProjectTold : Bool → List ℕ → Type 0
  ProjectTold b word = ((p : ProjectText) × ProjectBy b (Some files) word p) ⊎ ((b ≡ false) × RefusedFile projects files word)

  project_by : (b : Bool) (word : List ℕ) → ProjectTold b word
  project_by true word = inl (solo_project word, refl)
  project_by false word =
      elim (project_file files word) [
        | inr f ↦ inr (refl, f)
        | inl h ↦ inl (project_in (folder word) h.are.0, record { bytes = h.bytes; has = h.has; are = record { written = h.are.0; is = h.are.1; placed = refl } })
      ]

  module _ (known : List (List ℕ)) where
    abbrev WorldsTold : Option (List ℕ) → Type 0
    WorldsTold name = ((text : Option WorldText) × HasWorld known (Some files) name text) ⊎ ((f : List ℕ) × ((name ≡ Some f) × RefusedFile (worlds known) files f))

    named_world : (name : Option (List ℕ)) → WorldsTold name
    named_world None = inl (None, tt)
    named_world (Some name) =
        elim (world_file known files name) [
          | inr f ↦ inr (name, (refl, f))
          | inl h ↦ inl (Some h.are.0, record { bytes = h.bytes; has = h.has; are = h.are.1 })
        ]

    module _ (cycles : ℕ) (word : List ℕ) where
      abbrev Told : Type 0
      Told = ((source : Source) × HasSource known cycles (Some files) word source) ⊎ Refusal (FirstRefused known cycles (Some files) word)

      refused : (status : Status) → status ≢ Memory → FirstRefused known cycles (Some files) word 0 0 status → Told
      refused status n h = inr (record { status = status; no_lack = n; is = h })

      parts_told : (p : ProjectText) → IsAsked cycles (Some files) word p → Told
      parts_told p asked =
          elim (named_world p.world) [
            | inr f ↦ refused f.1.1.status f.1.1.no_lack (part_refused p asked (inl (record { name = f.0; named_is = f.1.0; why = f.1.1.is })))
            | inl w ↦ elim (lines_told p.agents) [
              | inr f ↦ refused f.status f.no_lack (part_refused p asked (inr (record { world = w.0; read = w.1; why = f.is })))
              | inl rs ↦ inl (
                record { names = names_of p.agents; roles = rs.0; world = w.0 },
                record {
                  project = p;
                  asked = asked;
                  describe = record { names = refl; world = w.1; roles = rs.1 };
                },
              )
            ]
          ]

      cycles_told : (p : ProjectText) → HasProject (Some files) word p → Told
      cycles_told p stands =
          elim (project_files.few_or_many most_cycles_together (all_cycles p cycles)) [
            | inr past ↦ refused (Limit what.Cycles (all_cycles p cycles)) (λ m. absurd cc) (cycles_refused (record { project = p; stands = stands; past = past; status_is = refl }))
            | inl few ↦ parts_told p (record { stands = stands; few = few })
          ]

      told : Told
      told =
          elim (project_by (is_agent_file word) word) [
            | inr f ↦ refused f.1.status f.1.no_lack (project_refused (record { file = f.0; why = f.1.is }))
            | inl p ↦ cycles_told p.0 p.1
          ]

pub some_source : SomeSource
some_source known cycles files word =
    elim (told files known cycles word) [
      | inl s ↦ inl s
      | inr f ↦ inr (
        f.status,
        record {
          before = 0;
          after = 0;
          no_fault = λ r. omega (arith, r);
          no_lack = f.no_lack;
          is = unless (FirstRefused known cycles (Some files) word 0 0) f.status f.is;
        },
      )
    ]

pub unrefused_describe : UnrefusedDescribe
unrefused_describe known cycles files word none =
    elim (some_source known cycles files word) [ inl s ↦ s | inr f ↦ absurd (none f.0 f.1) ]
