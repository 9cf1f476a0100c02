-- The grammar of clauses, seen by what is kept of what they say.
use Rattle.std.proofs.Common.{◌≡◌, ℕ, Bool, true, false, List, [], ◌∷◌, Option, Some, None, codes, refl, sym, ap, ◌∙◌}
use Rattle.std.specs.List.{list_any}
use Rattle.std.specs.Option.{option_map}
use Rattle.asl_lexer.specs.declared.token.Sign.TheVariants as sign
use Rattle.asl_term.specs.declared.syntax.Term.{Term}
use Rattle.asl_parser_tree.specs.declared.lexeme.Lexeme.{Lexeme}
use Rattle.asl_parser_tree.specs.declared.lexeme.Lexeme.TheVariants.{Truth, Sign, End}
use Rattle.asl_parser_tree.specs.declared.bounded.Bounded.TheVariants.{Within}
use Rattle.asl_parser_tree.specs.Holding.{Bounds, KeptLiteral, KeptExpr}
use Rattle.asl_parser_expr.proofs.Built.{Holds, ReadsLiteral}
use Rattle.asl_parser.specs.Sentences.{adds_of, label_of}
use Rattle.asl_parser.proofs.Made.{ReadsFormula, ReadsHead}
use Rattle.env_file.specs.declared.statement.Effect.TheVariants.{Dropped}
use Rattle.env_file.specs.declared.statement.Statement.TheVariants as statement
use Rattle.env_file.specs.Statements.{is_word, is_variable, doer_of, has_annots, before as true_before, changed}
use Rattle.env_file.specs.Statements as grammar
use Rattle.env_file.specs.Holding.{KeptGuard, KeptEffect, KeptEffects, KeptStatement, guard_of, effect_of, before, hold_guard, hold_effect, hold_effects, hold_statement, fact_of, act_with}
use Rattle.env_file.proofs.Guarded.{parts_some}
use Rattle.env_file.proofs.Weighed.{guard_only, effect_made, before_made, fact_made, hide_small, use_small, act_made}

module _ (bs : Bounds) where
  abbrev pub ReadsGuard : ℕ → List Lexeme → List Lexeme → KeptGuard → Type 0
  ReadsGuard n xs ys g = Holds (hold_guard bs) (grammar.ReadsGuard n xs ys) g

  abbrev pub ReadsEffect : ℕ → List Lexeme → List Lexeme → Option KeptEffect → Type 0
  ReadsEffect n xs ys o = Holds (option_map (hold_effect bs)) (grammar.ReadsEffect n xs ys) o

  abbrev pub ReadsEffects : ℕ → List Lexeme → List Lexeme → KeptEffects → Type 0
  ReadsEffects n xs ys es = Holds (hold_effects bs) (grammar.ReadsEffects n xs ys) es

  abbrev pub States : ℕ → List Lexeme → KeptStatement → Type 0
  States n xs s = Holds (hold_statement bs) (grammar.States n xs) s

  abbrev pub Says : ℕ → List Lexeme → KeptStatement → Type 0
  Says n xs s = Holds (hold_statement bs) (grammar.Says n xs) s

  pub no_guard : {n : ℕ} {xs : List Lexeme} → ReadsGuard n xs xs (Within None)
  no_guard = record { value = None; holds = grammar.no_guard; same = refl }

  pub a_guard : {n : ℕ} {xs ys : List Lexeme} {e : KeptExpr} {g : KeptGuard} → ReadsFormula bs n xs ys e → guard_of e ≡ Some g → ReadsGuard n (Sign sign.Colon ∷ xs) ys g
  a_guard {g = g} r f =
      let d = guard_only bs r.value g (ap guard_of r.same ∙ f) in
      record { value = Some r.value; holds = grammar.a_guard r.holds (parts_some r.value d.0).1; same = d.1 }

  pub a_change : {n : ℕ} {x : Lexeme} {add : Bool} {xs ys : List Lexeme} {l : KeptLiteral} → adds_of x ≡ Some add → ReadsLiteral bs n xs ys l → ReadsEffect n (x ∷ xs) ys (Some (effect_of add l))
  a_change {add = add} f r =
      record { value = Some (changed add r.value); holds = grammar.a_change f r.holds; same = ap (λ (k : KeptEffect). Some k) (sym (effect_made bs add r.value) ∙ ap (effect_of add) r.same) }

  pub a_drop : {n : ℕ} {x y : Lexeme} {xs : List Lexeme} {name : List ℕ} → is_word (codes "drop") x ≡ true → label_of y ≡ Some name → ReadsEffect n (x ∷ y ∷ xs) xs (Some (Within (Dropped name)))
  a_drop {name = name} e f = record { value = Some (Dropped name); holds = grammar.a_drop e f; same = refl }

  pub no_change : {n : ℕ} {xs : List Lexeme} → ReadsEffect n (Truth true ∷ xs) xs None
  no_change = record { value = None; holds = grammar.no_change; same = refl }

  pub only_effect : {n : ℕ} {xs ys : List Lexeme} {o : Option KeptEffect} → ReadsEffect n xs ys o → ReadsEffects n xs ys (before o (Within []))
  only_effect r =
      record { value = true_before r.value []; holds = grammar.only_effect r.holds refl; same = sym (before_made bs r.value []) ∙ ap (λ (k : Option KeptEffect). before k (Within [])) r.same }

  pub more_effects : {n : ℕ} {xs ys zs : List Lexeme} {o : Option KeptEffect} {es : KeptEffects} → ReadsEffect n xs (Sign sign.Comma ∷ ys) o → ReadsEffects n ys zs es → ReadsEffects n xs zs (before o es)
  more_effects {o = o} r t =
      record {
        value = true_before r.value t.value;
        holds = grammar.more_effects r.holds t.holds refl;
        same = sym (before_made bs r.value t.value) ∙ ap (λ (k : Option KeptEffect). before k (hold_effects bs t.value)) r.same ∙ ap (before o) t.same;
      }

  pub a_fact : {n : ℕ} {xs : List Lexeme} {l : KeptLiteral} → ReadsHead bs n xs (End ∷ []) l → list_any is_variable xs ≡ false → States n xs (fact_of bs l)
  a_fact h e = record { value = statement.Fact h.value; holds = grammar.a_fact h.holds e; same = sym (fact_made bs h.value) ∙ ap (fact_of bs) h.same }

  pub a_hide : {n : ℕ} {x y : Lexeme} {name : List ℕ} → is_word (codes "hide") x ≡ true → label_of y ≡ Some name → States n (x ∷ y ∷ End ∷ []) (Within (statement.Hide name))
  a_hide {name = name} e f = record { value = statement.Hide name; holds = grammar.a_hide e f; same = hide_small bs name }

  pub a_use : {n : ℕ} {x y : Lexeme} {name : List ℕ} → is_word (codes "use") x ≡ true → label_of y ≡ Some name → States n (x ∷ y ∷ End ∷ []) (Within (statement.Use name))
  a_use {name = name} e f = record { value = statement.Use name; holds = grammar.a_use e f; same = use_small bs name }

  pub an_act : {n : ℕ} {w x y : Lexeme} {xs ys zs : List Lexeme} {l : KeptLiteral} {by : Term} {g : KeptGuard} {es : KeptEffects} → is_word (codes "act") w ≡ true → (h : ReadsHead bs n xs (x ∷ y ∷ ys) l) → h.value.neg ≡ false → is_word (codes "by") x ≡ true → doer_of y ≡ Some by → ReadsGuard n ys (Sign sign.RightArrow ∷ zs) g → ReadsEffects n zs (End ∷ []) es → States n (w ∷ xs) (act_with bs l by g es)
  an_act {l = l} {by = by} {g = g} a h p b d r t =
      record {
        value = statement.Act (record { head = h.value; by = by; guard = r.value; effects = t.value });
        holds = grammar.an_act a h.holds p b d r.holds t.holds;
        same = sym (act_made bs h.value by r.value t.value) ∙ ap (λ (k : KeptLiteral). act_with bs k by (hold_guard bs r.value) (hold_effects bs t.value)) h.same ∙ ap (λ (k : KeptGuard). act_with bs l by k (hold_effects bs t.value)) r.same ∙ ap (act_with bs l by g) t.same;
      }

  pub says : {n : ℕ} {xs : List Lexeme} {s : KeptStatement} → has_annots xs ≡ false → States n xs s → Says n xs s
  says e r = record { value = r.value; holds = record { bare = e; stated = r.holds }; same = r.same }
