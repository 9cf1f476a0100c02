-- clap's walk over plain words finds what they say.
use Rattle.std.proofs.Common.{◌≡◌, ◌∙◌, ◌<◌, ◌+◌, ℕ, Bool, true, false, cond, subst, List, [], ◌∷◌, ◌++◌, None, Some, eqb}
use Rattle.std.proofs.Common.{length, refl, sym, ap, arith, suc, zero}
use Rattle.std.proofs.lemmas.Bool.Decides.{nat_tests}
use Rattle.std.specs.List.{slice_get}
use Rattle.std.specs.Prelude.{option_map}
use Rattle.clap.specs.Takes.{settle_passes}
use Rattle.clap.specs.Walk.{Held, Row, Rule, Text, arg_by_id, arg_by_index, arg_by_long, settled, used}
use Rattle.mas_top_words.specs.declared.table.Command.{Command}
use Rattle.mas_top_words.specs.declared.table.Setting.{Setting}
use Rattle.mas_top_words.specs.declared.table.Setting.TheVariants.{Workers, Pool, Cycles, Lead, Depth, Tries, Level}
use Rattle.mas_top_words.specs.Table.{name_count, same, takes}
use Rattle.mas_top_words.specs.Words.{GivenSettings, WordsSoFar, text_for, with_text}
use Rattle.mas_top_words.specs.Apps.{id_of}
use Rattle.mas_top_words.proofs.Rows.{found_before, found_last, row_in, text_row, used_new}
use Rattle.mas_top_words.proofs.Rules.{option_built, option_name, name_built, name_id, name_option, other_name, same_id, same_name}
use Rattle.mas_top_words.proofs.Telling.{same_means}

-- the rules are those of the command's names and options
pub record IsTable (c : Command) (rules : List Rule) : Type 0 where
  pub long : (o : Setting) → takes c o ≡ true → arg_by_long rules (id_of o) ≡ Some (option_built o)
  pub option : (o : Setting) → takes c o ≡ true → arg_by_id rules (id_of o) ≡ Some (option_built o)
  pub index : (k : ℕ) → k < name_count c → arg_by_index rules (1 + k) ≡ Some (name_built c k)
  pub name : (k : ℕ) → k < name_count c → arg_by_id rules (name_id c k) ≡ Some (name_built c k)

abbrev pub rows_at : List Rule → Held → List Row
rows_at rules h = (settled rules h).rows

-- what is held has the rows of what was said, and what is pending passes
pub record Stands (c : Command) (rules : List Rule) (again : Bool) (s : WordsSoFar) (h : Held) : Type 0 where
  pub passes : settle_passes rules again h ≡ true
  pub options : (o : Setting) → row_in (id_of o) (rows_at rules h) ≡ option_map (text_row (id_of o)) (text_for s.given o)
  pub names : (k : ℕ) → k < name_count c → row_in (name_id c k) (rows_at rules h) ≡ option_map (text_row (name_id c k)) (slice_get s.names k)

-- ---- an option more

text_with : (g : GivenSettings) (o p : Setting) (v : Text) → text_for (with_text g o v) p ≡ cond (same o p) (Some v) (text_for g p)
text_with g Workers Workers v = refl
text_with g Pool Pool v = refl
text_with g Cycles Cycles v = refl
text_with g Lead Lead v = refl
text_with g Depth Depth v = refl
text_with g Tries Tries v = refl
text_with g Level Level v = refl
text_with g _ _ v = refl

pub no_row : (c : Command) (rules : List Rule) (again : Bool) (s : WordsSoFar) (h : Held) → Stands c rules again s h → (o : Setting) → text_for s.given o ≡ None
    → row_in (id_of o) (rows_at rules h) ≡ None
no_row c rules again s h st o e = st.options o ∙ ap (option_map (text_row (id_of o))) e

pub option_stands : (c : Command) (rules : List Rule) (again : Bool) (s : WordsSoFar) (h k : Held) (o : Setting) (v : Text) → Stands c rules again s h
    → text_for s.given o ≡ None → rows_at rules k ≡ used (option_built o) (v ∷ []) (rows_at rules h) → settle_passes rules again k ≡ true
    → Stands c rules again (record s { given = with_text s.given o v; awaits = None }) k
option_stands c rules again s h k o v st e f p = record { passes = p; options = options; names = names }
  where
    absent : row_in (id_of o) (rows_at rules h) ≡ None
    absent = no_row c rules again s h st o e

    rows : rows_at rules k ≡ rows_at rules h ++ text_row (id_of o) v ∷ []
    rows = f ∙ used_new (id_of o) (Some (id_of o)) None v (rows_at rules h) absent

    options : (q : Setting) → row_in (id_of q) (rows_at rules k) ≡ option_map (text_row (id_of q)) (text_for (with_text s.given o v) q)
    options q = ap (row_in (id_of q)) rows ∙ go (same o q) refl ∙ ap (option_map (text_row (id_of q))) (sym (text_with s.given o q v))
      where
        go : (b : Bool) → same o q ≡ b → row_in (id_of q) (rows_at rules h ++ text_row (id_of o) v ∷ [])
            ≡ option_map (text_row (id_of q)) (cond b (Some v) (text_for s.given q))
        go true g = found_last (id_of q) (rows_at rules h) (text_row (id_of o) v)
            (subst (λ z. row_in (id_of z) (rows_at rules h) ≡ None) (sym (same_means o q g)) absent) (same_id o q ∙ g)
            ∙ ap (λ z. Some (text_row (id_of z) v)) (sym (same_means o q g))
        go false g = found_before (id_of q) (rows_at rules h) (text_row (id_of o) v) (same_id o q ∙ g) ∙ st.options q

    names : (j : ℕ) → j < name_count c → row_in (name_id c j) (rows_at rules k) ≡ option_map (text_row (name_id c j)) (slice_get s.names j)
    names j l = ap (row_in (name_id c j)) rows ∙ found_before (name_id c j) (rows_at rules h) (text_row (id_of o) v) (option_name c o j) ∙ st.names j l

-- ---- a name more

get_last : (ns : List Text) (w : Text) (k : ℕ) → slice_get (ns ++ w ∷ []) k ≡ cond (eqb (length ns) k) (Some w) (slice_get ns k)
get_last [] w zero = refl
get_last [] w (suc k) = ap (λ b. cond b (Some w) None) (not_zero k)
  where
    not_zero : (k : ℕ) → false ≡ eqb 0 (suc k)
    not_zero k = grind arith
get_last (n ∷ ns) w zero = ap (λ b. cond b (Some w) (Some n)) (no_zero (length ns))
  where
    no_zero : (k : ℕ) → false ≡ eqb (suc k) 0
    no_zero k = grind arith
get_last (n ∷ ns) w (suc k) = get_last ns w k ∙ ap (λ b. cond b (Some w) (slice_get ns k)) (one_less (length ns) k)
  where
    one_less : (a b : ℕ) → eqb a b ≡ eqb (suc a) (suc b)
    one_less a b = grind arith

get_none : (ns : List Text) → slice_get ns (length ns) ≡ None
get_none [] = refl
get_none (n ∷ ns) = get_none ns

pub no_name : (c : Command) (rules : List Rule) (again : Bool) (s : WordsSoFar) (h : Held) → Stands c rules again s h → length s.names < name_count c
    → row_in (name_id c (length s.names)) (rows_at rules h) ≡ None
no_name c rules again s h st l = st.names (length s.names) l ∙ ap (option_map (text_row (name_id c (length s.names)))) (get_none s.names)

pub name_stands : (c : Command) (rules : List Rule) (again : Bool) (s : WordsSoFar) (h k : Held) (w : Text) → Stands c rules again s h
    → length s.names < name_count c → rows_at rules k ≡ used (name_built c (length s.names)) (w ∷ []) (rows_at rules h) → settle_passes rules again k ≡ true
    → Stands c rules again (record s { names = s.names ++ w ∷ [] }) k
name_stands c rules again s h k w st l f p = record { passes = p; options = options; names = names }
  where
    id : Text
    id = name_id c (length s.names)

    absent : row_in id (rows_at rules h) ≡ None
    absent = no_name c rules again s h st l

    rows : rows_at rules k ≡ rows_at rules h ++ text_row id w ∷ []
    rows = f ∙ used_new id None (Some (1 + length s.names)) w (rows_at rules h) absent

    options : (q : Setting) → row_in (id_of q) (rows_at rules k) ≡ option_map (text_row (id_of q)) (text_for s.given q)
    options q = ap (row_in (id_of q)) rows ∙ found_before (id_of q) (rows_at rules h) (text_row id w) (name_option c q (length s.names)) ∙ st.options q

    names : (j : ℕ) → j < name_count c → row_in (name_id c j) (rows_at rules k) ≡ option_map (text_row (name_id c j)) (slice_get (s.names ++ w ∷ []) j)
    names j m = ap (row_in (name_id c j)) rows ∙ go (eqb (length s.names) j) refl ∙ ap (option_map (text_row (name_id c j))) (sym (get_last s.names w j))
      where
        here : eqb (length s.names) j ≡ true → length s.names ≡ j
        here g = grind (arith, nat_tests)

        go : (b : Bool) → eqb (length s.names) j ≡ b → row_in (name_id c j) (rows_at rules h ++ text_row id w ∷ [])
            ≡ option_map (text_row (name_id c j)) (cond b (Some w) (slice_get s.names j))
        go true g = subst (λ z. row_in (name_id c z) (rows_at rules h ++ text_row id w ∷ []) ≡ Some (text_row (name_id c z) w)) (here g)
            (found_last id (rows_at rules h) (text_row id w) absent (same_name c (length s.names)))
        go false g = found_before (name_id c j) (rows_at rules h) (text_row id w) (other_name c (length s.names) j g l m) ∙ st.names j m
