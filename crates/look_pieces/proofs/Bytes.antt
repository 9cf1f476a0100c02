-- One of the findings stands at the first fault of the bytes.
use Rattle.std.proofs.Common.{ℕ, List, [], ◌∷◌, ◌++◌, append_assoc}
use Rattle.asl_lexer.specs.declared.token.LexFault.{LexFault}
use Rattle.asl_lexer.specs.Lexing.{IsFirstFault}
use Rattle.look_pieces.specs.declared.findings.Finding.{Finding}
use Rattle.look_pieces.specs.Telling.{IsAtByte, TellsByte, place_of}

pub told : (bytes : List ℕ) (why : LexFault) (before behind : List Finding) (f : Finding) → IsFirstFault bytes why → IsAtByte bytes (place_of why) f →
    TellsByte bytes ((before ++ f ∷ []) ++ behind)
told bytes why before behind f first stands = record {
  fault = why;
  first = first;
  before = before;
  at = f;
  behind = behind;
  parts = append_assoc before (f ∷ []) behind;
  stands = stands;
}
