-- Nothing can be put into the annotation of an error.
use Rattle.std.proofs.Common.{◌≡◌, ◌∙◌, List, [], ◌∷◌, false, ap, sym}
use Rattle.std.specs.Prelude.{codes}
use Rattle.asl_term.specs.declared.syntax.Var.{Var}
use Rattle.asl_term.specs.declared.syntax.Term.{Term}
use Rattle.asl_term.specs.declared.syntax.Term.TheVariants as term
use Rattle.asl_unify.specs.Puts.{put}
use Rattle.asl_unify.proofs.General.{put-lit}
use Rattle.asl_intend.specs.declared.agenda.Error.{Error}
use Rattle.asl_intend.specs.EventTriggers.{Stays}
use Rattle.asl_fail.specs.Fails.{plain, error_name, error_term}

pub error_stays : (e : Error) → Stays (error_term e)
error_stays e h =
    let name : put h (plain (error_name e) []) ≡ plain (error_name e) [] = put-lit h (record { neg = false; functor = error_name e; args = []; annots = [] }) in
    put-lit h (record { neg = false; functor = codes "error"; args = plain (error_name e) [] ∷ []; annots = [] }) ∙ ap (λ t. plain (codes "error") (t ∷ [])) name

pub stays : (e : Error) (t : Term) → t ≡ error_term e → Stays t
stays e t same h = ap (put h) same ∙ error_stays e h ∙ sym same
