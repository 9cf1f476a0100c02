-- What is made of an instance of a trigger is an instance of it.
use Rattle.std.specs.Prelude.{◌≡◌, Ok}
use Rattle.asl_term.specs.declared.syntax.Var.{Var}
use Rattle.asl_term.specs.declared.syntax.LiteralOf.{LiteralOf}
use Rattle.asl_term.specs.declared.syntax.Term.{Term}
use Rattle.asl_unify.specs.Applied.{put_literal}
use Rattle.asl_unify.specs.Mapped.{literal_by}
use Rattle.asl_unify.specs.Renamed.{with_vars}
use Rattle.asl_unify.specs.Settling.{settle_literal}
use Rattle.asl_lint.specs.Instances.{IsInstance, AreMerged}
use Rattle.asl_lint_laws.specs.Written.{AreWritten}

-- with terms in place of variables
abbrev pub PutStays : Type 0
PutStays = (k : Var → Term) (h g : LiteralOf Term) → IsInstance h g → IsInstance h (put_literal k g)

-- with other variables: renamed, or sealed
abbrev pub VariedStays : Type 0
VariedStays = (f : Var → Var) (h g : LiteralOf Term) → AreMerged g.args → IsInstance h g → IsInstance h (literal_by (with_vars f) g)

-- settled
abbrev pub SettledStays : Type 0
SettledStays = (h g m : LiteralOf Term) → AreWritten h.args → AreMerged g.args → IsInstance h g → settle_literal g ≡ Ok m → IsInstance h m

-- ---- and its lists stay merged

abbrev pub VariedStaysMerged : Type 0
VariedStaysMerged = (f : Var → Var) (g : LiteralOf Term) → AreMerged g.args → AreMerged (literal_by (with_vars f) g).args

abbrev pub SettledStaysMerged : Type 0
SettledStaysMerged = (g m : LiteralOf Term) → AreMerged g.args → settle_literal g ≡ Ok m → AreMerged m.args
