-- Laws of logs: one more turn changes nothing before it; and a log is known by its numbers and each agent's turns.
use Rattle.std.proofs.Common.{◌≡◌, ◌≢◌, ℕ, Bool, true, false, nat_eq, cond, List, [], ◌∷◌, ◌++◌, sym, refl, ap, subst, arith, ne_eqb}
use Rattle.std.proofs.lemmas.Bool.Decides.{nat_tests}
use Rattle.mas_board.specs.Boards.{State}
use Rattle.mas_board_turns.specs.declared.turn.Turn.{Turn}
use Rattle.mas_board_turns.specs.Turns.{Entry, entry, Makes, Plays, names, of}

pub plays_snoc : (s : State) (log : List Entry) (m t : State) (a : ℕ) (turn : Turn) → Plays s log m → Makes m a turn t → Plays s (log ++ entry a turn ∷ []) t
plays_snoc s [] m t a turn p q = (t, subst (λ (x : State). Makes x a turn t) (sym p) q, refl)
plays_snoc s (e ∷ log) m t a turn p q = (p.0, p.1, plays_snoc p.0 log m t a turn p.2 q)

pub names_snoc : (log : List Entry) (e : Entry) → names (log ++ e ∷ []) ≡ names log ++ e.by ∷ []
names_snoc [] e = refl
names_snoc (x ∷ log) e = ap (λ l. x.by ∷ l) (names_snoc log e)

push_either : (b : Bool) (ys zs : List Turn) (r x : Turn) → zs ≡ ys ++ r ∷ [] → cond b (x ∷ zs) zs ≡ cond b (x ∷ ys) ys ++ r ∷ []
push_either true ys zs r x e = ap (λ l. x ∷ l) e
push_either false ys zs r x e = e

pub of_snoc : (log : List Entry) (a : ℕ) (r : Turn) → of a (log ++ entry a r ∷ []) ≡ of a log ++ r ∷ []
of_snoc [] a r = let e : nat_eq a a ≡ true = grind (arith, nat_tests) in ap (λ b. cond b (r ∷ []) []) e
of_snoc (x ∷ log) a r = push_either (nat_eq x.by a) (of a log) (of a (log ++ entry a r ∷ [])) r x.turn (of_snoc log a r)

pub of_other : (log : List Entry) (a c : ℕ) (r : Turn) → a ≢ c → of c (log ++ entry a r ∷ []) ≡ of c log
of_other [] a c r n = let e : nat_eq a c ≡ false = ne_eqb a c n in ap (λ b. cond b (r ∷ []) []) e
of_other (x ∷ log) a c r n = ap (λ (l : List Turn). cond (nat_eq x.by c) (x.turn ∷ l) l) (of_other log a c r n)

-- ---- a log is known by its numbers and each agent's turns
