-- What building makes of the commands for clap.
use Rattle.std.proofs.Common.{◌≡◌, ◌<◌, ◌+◌, ℕ, true, false, List, Option, None, Some, refl, arith, codes, eqb, suc, zero}
use Rattle.std.specs.Str.{bytes_eq}
use Rattle.clap.specs.Walk.{Rule, Text, arg_by_id, arg_by_index, arg_by_long}
use Rattle.clap.specs.Simple.{built, is_simple, new_rule}
use Rattle.clap.specs.declared.builder.action.ArgAction.TheVariants.{Set}
use Rattle.clap.specs.declared.builder.value_parser.ValueParser.TheVariants as parser
use Rattle.mas_top_words.specs.declared.table.Command.{Command}
use Rattle.mas_top_words.specs.declared.table.Command.TheVariants.{Run, Replay, Check, Demo, Renew, Record, Resume, Sites, Lint}
use Rattle.mas_top_words.specs.declared.table.Setting.{Setting}
use Rattle.mas_top_words.specs.declared.table.Setting.TheVariants.{Workers, Pool, Cycles, Lead, Depth, Tries, Level}
use Rattle.mas_top_words.specs.Table.{takes, name_count, same}
use Rattle.mas_top_words.specs.Apps.{app_for, id_of}

-- an argument with one value, which is any text
abbrev pub one_text : Text → Option Text → Option ℕ → Rule
one_text id long index = record (new_rule id) {
  long = long;
  index = index;
  action = Some Set;
  range = Some (record { start_inclusive = 1; end_inclusive = 1 });
  parser = Some parser.String;
}

abbrev pub option_built : Setting → Rule
option_built o = one_text (id_of o) (Some (id_of o)) None

abbrev pub name_id : Command → ℕ → Text
name_id Replay (suc k) = codes "schedule"
name_id Check (suc k) = codes "report"
name_id Demo k = codes "count"
name_id Renew (suc k) = codes "report"
name_id Record (suc k) = codes "file"
name_id Resume (suc k) = codes "file"
name_id Sites (suc k) = codes "other"
name_id _ _ = codes "project"

abbrev pub name_built : Command → ℕ → Rule
name_built c k = one_text (name_id c k) None (Some (1 + k))

abbrev pub rules_for : Command → List Rule
rules_for c = (built (app_for c)).top.rules

pub simple : (c : Command) → is_simple (app_for c) ≡ true
simple Run = refl
simple Replay = refl
simple Check = refl
simple Demo = refl
simple Renew = refl
simple Record = refl
simple Resume = refl
simple Sites = refl
simple Lint = refl

pub by_long : (c : Command) (o : Setting) → takes c o ≡ true → arg_by_long (rules_for c) (id_of o) ≡ Some (option_built o)
by_long Run Workers e = refl
by_long Run Pool e = refl
by_long Run Cycles e = refl
by_long Run Lead e = refl
by_long Run Depth e = refl
by_long Run Tries e = refl
by_long Run Level e = refl
by_long Replay Workers e = absurd (grind arith)
by_long Replay Pool e = absurd (grind arith)
by_long Replay Cycles e = refl
by_long Replay Lead e = refl
by_long Replay Depth e = refl
by_long Replay Tries e = refl
by_long Replay Level e = refl
by_long Check o e = absurd (grind arith)
by_long Demo Workers e = refl
by_long Demo o e = absurd (grind arith)
by_long Renew o e = absurd (grind arith)
by_long Record Workers e = refl
by_long Record Pool e = absurd (grind arith)
by_long Record Cycles e = refl
by_long Record Lead e = refl
by_long Record Depth e = refl
by_long Record Tries e = refl
by_long Record Level e = refl
by_long Resume Workers e = refl
by_long Resume Pool e = absurd (grind arith)
by_long Resume Cycles e = refl
by_long Resume Lead e = refl
by_long Resume Depth e = refl
by_long Resume Tries e = refl
by_long Resume Level e = refl
by_long Sites Workers e = refl
by_long Sites Pool e = absurd (grind arith)
by_long Sites Cycles e = refl
by_long Sites Lead e = refl
by_long Sites Depth e = refl
by_long Sites Tries e = refl
by_long Sites Level e = refl
by_long Lint o e = absurd (grind arith)

pub option_by_id : (c : Command) (o : Setting) → takes c o ≡ true → arg_by_id (rules_for c) (id_of o) ≡ Some (option_built o)
option_by_id Run Workers e = refl
option_by_id Run Pool e = refl
option_by_id Run Cycles e = refl
option_by_id Run Lead e = refl
option_by_id Run Depth e = refl
option_by_id Run Tries e = refl
option_by_id Run Level e = refl
option_by_id Replay Workers e = absurd (grind arith)
option_by_id Replay Pool e = absurd (grind arith)
option_by_id Replay Cycles e = refl
option_by_id Replay Lead e = refl
option_by_id Replay Depth e = refl
option_by_id Replay Tries e = refl
option_by_id Replay Level e = refl
option_by_id Check o e = absurd (grind arith)
option_by_id Demo Workers e = refl
option_by_id Demo o e = absurd (grind arith)
option_by_id Renew o e = absurd (grind arith)
option_by_id Record Workers e = refl
option_by_id Record Pool e = absurd (grind arith)
option_by_id Record Cycles e = refl
option_by_id Record Lead e = refl
option_by_id Record Depth e = refl
option_by_id Record Tries e = refl
option_by_id Record Level e = refl
option_by_id Resume Workers e = refl
option_by_id Resume Pool e = absurd (grind arith)
option_by_id Resume Cycles e = refl
option_by_id Resume Lead e = refl
option_by_id Resume Depth e = refl
option_by_id Resume Tries e = refl
option_by_id Resume Level e = refl
option_by_id Sites Workers e = refl
option_by_id Sites Pool e = absurd (grind arith)
option_by_id Sites Cycles e = refl
option_by_id Sites Lead e = refl
option_by_id Sites Depth e = refl
option_by_id Sites Tries e = refl
option_by_id Sites Level e = refl
option_by_id Lint o e = absurd (grind arith)

pub by_index : (c : Command) (k : ℕ) → k < name_count c → arg_by_index (rules_for c) (1 + k) ≡ Some (name_built c k)
by_index Run zero h = refl
by_index Run (suc k) h = absurd (omega arith)
by_index Replay zero h = refl
by_index Replay (suc zero) h = refl
by_index Replay (suc (suc k)) h = absurd (omega arith)
by_index Check zero h = refl
by_index Check (suc zero) h = refl
by_index Check (suc (suc k)) h = absurd (omega arith)
by_index Demo zero h = refl
by_index Demo (suc k) h = absurd (omega arith)
by_index Renew zero h = refl
by_index Renew (suc zero) h = refl
by_index Renew (suc (suc k)) h = absurd (omega arith)
by_index Record zero h = refl
by_index Record (suc zero) h = refl
by_index Record (suc (suc k)) h = absurd (omega arith)
by_index Resume zero h = refl
by_index Resume (suc zero) h = refl
by_index Resume (suc (suc k)) h = absurd (omega arith)
by_index Sites zero h = refl
by_index Sites (suc zero) h = refl
by_index Sites (suc (suc k)) h = absurd (omega arith)
by_index Lint zero h = refl
by_index Lint (suc k) h = absurd (omega arith)

pub name_by_id : (c : Command) (k : ℕ) → k < name_count c → arg_by_id (rules_for c) (name_id c k) ≡ Some (name_built c k)
name_by_id Run zero h = refl
name_by_id Run (suc k) h = absurd (omega arith)
name_by_id Replay zero h = refl
name_by_id Replay (suc zero) h = refl
name_by_id Replay (suc (suc k)) h = absurd (omega arith)
name_by_id Check zero h = refl
name_by_id Check (suc zero) h = refl
name_by_id Check (suc (suc k)) h = absurd (omega arith)
name_by_id Demo zero h = refl
name_by_id Demo (suc k) h = absurd (omega arith)
name_by_id Renew zero h = refl
name_by_id Renew (suc zero) h = refl
name_by_id Renew (suc (suc k)) h = absurd (omega arith)
name_by_id Record zero h = refl
name_by_id Record (suc zero) h = refl
name_by_id Record (suc (suc k)) h = absurd (omega arith)
name_by_id Resume zero h = refl
name_by_id Resume (suc zero) h = refl
name_by_id Resume (suc (suc k)) h = absurd (omega arith)
name_by_id Sites zero h = refl
name_by_id Sites (suc zero) h = refl
name_by_id Sites (suc (suc k)) h = absurd (omega arith)
name_by_id Lint zero h = refl
name_by_id Lint (suc k) h = absurd (omega arith)

-- ---- no two arguments have one id

pub same_id : (o p : Setting) → bytes_eq (id_of o) (id_of p) ≡ same o p
same_id Workers Workers = refl
same_id Pool Pool = refl
same_id Cycles Cycles = refl
same_id Lead Lead = refl
same_id Depth Depth = refl
same_id Tries Tries = refl
same_id Level Level = refl
same_id _ _ = refl

pub option_name : (c : Command) (o : Setting) (k : ℕ) → bytes_eq (id_of o) (name_id c k) ≡ false
option_name Replay Workers (suc k) = refl
option_name Replay Pool (suc k) = refl
option_name Replay Cycles (suc k) = refl
option_name Replay Lead (suc k) = refl
option_name Replay Depth (suc k) = refl
option_name Replay Tries (suc k) = refl
option_name Replay Level (suc k) = refl
option_name Check Workers (suc k) = refl
option_name Check Pool (suc k) = refl
option_name Check Cycles (suc k) = refl
option_name Check Lead (suc k) = refl
option_name Check Depth (suc k) = refl
option_name Check Tries (suc k) = refl
option_name Check Level (suc k) = refl
option_name Renew Workers (suc k) = refl
option_name Renew Pool (suc k) = refl
option_name Renew Cycles (suc k) = refl
option_name Renew Lead (suc k) = refl
option_name Renew Depth (suc k) = refl
option_name Renew Tries (suc k) = refl
option_name Renew Level (suc k) = refl
option_name Record Workers (suc k) = refl
option_name Record Pool (suc k) = refl
option_name Record Cycles (suc k) = refl
option_name Record Lead (suc k) = refl
option_name Record Depth (suc k) = refl
option_name Record Tries (suc k) = refl
option_name Record Level (suc k) = refl
option_name Resume Workers (suc k) = refl
option_name Resume Pool (suc k) = refl
option_name Resume Cycles (suc k) = refl
option_name Resume Lead (suc k) = refl
option_name Resume Depth (suc k) = refl
option_name Resume Tries (suc k) = refl
option_name Resume Level (suc k) = refl
option_name Sites Workers (suc k) = refl
option_name Sites Pool (suc k) = refl
option_name Sites Cycles (suc k) = refl
option_name Sites Lead (suc k) = refl
option_name Sites Depth (suc k) = refl
option_name Sites Tries (suc k) = refl
option_name Sites Level (suc k) = refl
option_name _ Workers _ = refl
option_name _ Pool _ = refl
option_name _ Cycles _ = refl
option_name _ Lead _ = refl
option_name _ Depth _ = refl
option_name _ Tries _ = refl
option_name _ Level _ = refl

pub name_option : (c : Command) (o : Setting) (k : ℕ) → bytes_eq (name_id c k) (id_of o) ≡ false
name_option Replay Workers (suc k) = refl
name_option Replay Pool (suc k) = refl
name_option Replay Cycles (suc k) = refl
name_option Replay Lead (suc k) = refl
name_option Replay Depth (suc k) = refl
name_option Replay Tries (suc k) = refl
name_option Replay Level (suc k) = refl
name_option Check Workers (suc k) = refl
name_option Check Pool (suc k) = refl
name_option Check Cycles (suc k) = refl
name_option Check Lead (suc k) = refl
name_option Check Depth (suc k) = refl
name_option Check Tries (suc k) = refl
name_option Check Level (suc k) = refl
name_option Renew Workers (suc k) = refl
name_option Renew Pool (suc k) = refl
name_option Renew Cycles (suc k) = refl
name_option Renew Lead (suc k) = refl
name_option Renew Depth (suc k) = refl
name_option Renew Tries (suc k) = refl
name_option Renew Level (suc k) = refl
name_option Record Workers (suc k) = refl
name_option Record Pool (suc k) = refl
name_option Record Cycles (suc k) = refl
name_option Record Lead (suc k) = refl
name_option Record Depth (suc k) = refl
name_option Record Tries (suc k) = refl
name_option Record Level (suc k) = refl
name_option Resume Workers (suc k) = refl
name_option Resume Pool (suc k) = refl
name_option Resume Cycles (suc k) = refl
name_option Resume Lead (suc k) = refl
name_option Resume Depth (suc k) = refl
name_option Resume Tries (suc k) = refl
name_option Resume Level (suc k) = refl
name_option Sites Workers (suc k) = refl
name_option Sites Pool (suc k) = refl
name_option Sites Cycles (suc k) = refl
name_option Sites Lead (suc k) = refl
name_option Sites Depth (suc k) = refl
name_option Sites Tries (suc k) = refl
name_option Sites Level (suc k) = refl
name_option _ Workers _ = refl
name_option _ Pool _ = refl
name_option _ Cycles _ = refl
name_option _ Lead _ = refl
name_option _ Depth _ = refl
name_option _ Tries _ = refl
name_option _ Level _ = refl

-- two names have two ids
pub other_name : (c : Command) (j k : ℕ) → eqb j k ≡ false → j < name_count c → k < name_count c → bytes_eq (name_id c j) (name_id c k) ≡ false
other_name Run zero zero e h f = absurd (grind arith)
other_name Run (suc j) k e h f = absurd (omega arith)
other_name Run zero (suc k) e h f = absurd (omega arith)
other_name Replay zero zero e h f = absurd (grind arith)
other_name Replay zero (suc zero) e h f = refl
other_name Replay zero (suc (suc k)) e h f = absurd (omega arith)
other_name Replay (suc zero) zero e h f = refl
other_name Replay (suc zero) (suc zero) e h f = absurd (grind arith)
other_name Replay (suc zero) (suc (suc k)) e h f = absurd (omega arith)
other_name Replay (suc (suc j)) k e h f = absurd (omega arith)
other_name Check zero zero e h f = absurd (grind arith)
other_name Check zero (suc zero) e h f = refl
other_name Check zero (suc (suc k)) e h f = absurd (omega arith)
other_name Check (suc zero) zero e h f = refl
other_name Check (suc zero) (suc zero) e h f = absurd (grind arith)
other_name Check (suc zero) (suc (suc k)) e h f = absurd (omega arith)
other_name Check (suc (suc j)) k e h f = absurd (omega arith)
other_name Demo zero zero e h f = absurd (grind arith)
other_name Demo (suc j) k e h f = absurd (omega arith)
other_name Demo zero (suc k) e h f = absurd (omega arith)
other_name Renew zero zero e h f = absurd (grind arith)
other_name Renew zero (suc zero) e h f = refl
other_name Renew zero (suc (suc k)) e h f = absurd (omega arith)
other_name Renew (suc zero) zero e h f = refl
other_name Renew (suc zero) (suc zero) e h f = absurd (grind arith)
other_name Renew (suc zero) (suc (suc k)) e h f = absurd (omega arith)
other_name Renew (suc (suc j)) k e h f = absurd (omega arith)
other_name Record zero zero e h f = absurd (grind arith)
other_name Record zero (suc zero) e h f = refl
other_name Record zero (suc (suc k)) e h f = absurd (omega arith)
other_name Record (suc zero) zero e h f = refl
other_name Record (suc zero) (suc zero) e h f = absurd (grind arith)
other_name Record (suc zero) (suc (suc k)) e h f = absurd (omega arith)
other_name Record (suc (suc j)) k e h f = absurd (omega arith)
other_name Resume zero zero e h f = absurd (grind arith)
other_name Resume zero (suc zero) e h f = refl
other_name Resume zero (suc (suc k)) e h f = absurd (omega arith)
other_name Resume (suc zero) zero e h f = refl
other_name Resume (suc zero) (suc zero) e h f = absurd (grind arith)
other_name Resume (suc zero) (suc (suc k)) e h f = absurd (omega arith)
other_name Resume (suc (suc j)) k e h f = absurd (omega arith)
other_name Sites zero zero e h f = absurd (grind arith)
other_name Sites zero (suc zero) e h f = refl
other_name Sites zero (suc (suc k)) e h f = absurd (omega arith)
other_name Sites (suc zero) zero e h f = refl
other_name Sites (suc zero) (suc zero) e h f = absurd (grind arith)
other_name Sites (suc zero) (suc (suc k)) e h f = absurd (omega arith)
other_name Sites (suc (suc j)) k e h f = absurd (omega arith)
other_name Lint zero zero e h f = absurd (grind arith)
other_name Lint (suc j) k e h f = absurd (omega arith)
other_name Lint zero (suc k) e h f = absurd (omega arith)

pub same_self : (o : Setting) → same o o ≡ true
same_self Workers = refl
same_self Pool = refl
same_self Cycles = refl
same_self Lead = refl
same_self Depth = refl
same_self Tries = refl
same_self Level = refl

pub same_name : (c : Command) (k : ℕ) → bytes_eq (name_id c k) (name_id c k) ≡ true
same_name Run k = refl
same_name Replay zero = refl
same_name Replay (suc k) = refl
same_name Check zero = refl
same_name Check (suc k) = refl
same_name Demo k = refl
same_name Renew zero = refl
same_name Renew (suc k) = refl
same_name Record zero = refl
same_name Record (suc k) = refl
same_name Resume zero = refl
same_name Resume (suc k) = refl
same_name Sites zero = refl
same_name Sites (suc k) = refl
same_name Lint k = refl
