use Rattle.std.proofs.Common.{refl}
use Rattle.asl_lexer.specs.declared.token.Sign.TheVariants as sign
use Rattle.asl_lexer.proofs.SignFacts.{two}
use Rattle.asl_lexer.proofs.signs.two_sign.Goals as goal

pub returns-in-58-eq45 : goal.returns-in-58-eq45
returns-in-58-eq45 c = two sign.If c.args.a c.args.b refl c.in-58-eq45.is-0 c.in-58-eq45.is-1

pub returns-in-60-eq45 : goal.returns-in-60-eq45
returns-in-60-eq45 c = two sign.LeftArrow c.args.a c.args.b refl c.in-60-eq45.is-0 c.in-60-eq45.is-1

pub returns-in-45-eq62 : goal.returns-in-45-eq62
returns-in-45-eq62 c = two sign.RightArrow c.args.a c.args.b refl c.in-45-eq62.is-0 c.in-45-eq62.is-1

pub returns-in-33-eq33 : goal.returns-in-33-eq33
returns-in-33-eq33 c = two sign.Bangs c.args.a c.args.b refl c.in-33-eq33.is-0 c.in-33-eq33.is-1

pub returns-in-45-eq43 : goal.returns-in-45-eq43
returns-in-45-eq43 c = two sign.MinusPlus c.args.a c.args.b refl c.in-45-eq43.is-0 c.in-45-eq43.is-1

pub returns-in-60-eq61 : goal.returns-in-60-eq61
returns-in-60-eq61 c = two sign.LessEq c.args.a c.args.b refl c.in-60-eq61.is-0 c.in-60-eq61.is-1

pub returns-in-62-eq61 : goal.returns-in-62-eq61
returns-in-62-eq61 c = two sign.MoreEq c.args.a c.args.b refl c.in-62-eq61.is-0 c.in-62-eq61.is-1

pub returns-in-61-eq61 : goal.returns-in-61-eq61
returns-in-61-eq61 c = two sign.Same c.args.a c.args.b refl c.in-61-eq61.is-0 c.in-61-eq61.is-1
