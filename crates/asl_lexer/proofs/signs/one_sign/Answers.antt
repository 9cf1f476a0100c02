use Rattle.std.proofs.Common.{refl}
use Rattle.asl_lexer.specs.declared.token.Sign.TheVariants as sign
use Rattle.asl_lexer.proofs.SignFacts.{one}
use Rattle.asl_lexer.proofs.signs.one_sign.Goals as goal

pub returns-in-40 : goal.returns-in-40
returns-in-40 c = one sign.Open c.args.a refl c.in-40.is

pub returns-in-41 : goal.returns-in-41
returns-in-41 c = one sign.Close c.args.a refl c.in-41.is

pub returns-in-91 : goal.returns-in-91
returns-in-91 c = one sign.OpenSquare c.args.a refl c.in-91.is

pub returns-in-93 : goal.returns-in-93
returns-in-93 c = one sign.CloseSquare c.args.a refl c.in-93.is

pub returns-in-123 : goal.returns-in-123
returns-in-123 c = one sign.OpenBrace c.args.a refl c.in-123.is

pub returns-in-125 : goal.returns-in-125
returns-in-125 c = one sign.CloseBrace c.args.a refl c.in-125.is

pub returns-in-44 : goal.returns-in-44
returns-in-44 c = one sign.Comma c.args.a refl c.in-44.is

pub returns-in-59 : goal.returns-in-59
returns-in-59 c = one sign.Semicolon c.args.a refl c.in-59.is

pub returns-in-58 : goal.returns-in-58
returns-in-58 c = one sign.Colon c.args.a refl c.in-58.is

pub returns-in-33 : goal.returns-in-33
returns-in-33 c = one sign.Bang c.args.a refl c.in-33.is

pub returns-in-63 : goal.returns-in-63
returns-in-63 c = one sign.Question c.args.a refl c.in-63.is

pub returns-in-126 : goal.returns-in-126
returns-in-126 c = one sign.Tilde c.args.a refl c.in-126.is

pub returns-in-64 : goal.returns-in-64
returns-in-64 c = one sign.At c.args.a refl c.in-64.is

pub returns-in-35 : goal.returns-in-35
returns-in-35 c = one sign.Hash c.args.a refl c.in-35.is

pub returns-in-38 : goal.returns-in-38
returns-in-38 c = one sign.Ampersand c.args.a refl c.in-38.is

pub returns-in-124 : goal.returns-in-124
returns-in-124 c = one sign.Bar c.args.a refl c.in-124.is

pub returns-in-43 : goal.returns-in-43
returns-in-43 c = one sign.Plus c.args.a refl c.in-43.is

pub returns-in-45 : goal.returns-in-45
returns-in-45 c = one sign.Minus c.args.a refl c.in-45.is

pub returns-in-42 : goal.returns-in-42
returns-in-42 c = one sign.Star c.args.a refl c.in-42.is

pub returns-in-60 : goal.returns-in-60
returns-in-60 c = one sign.Less c.args.a refl c.in-60.is

pub returns-in-62 : goal.returns-in-62
returns-in-62 c = one sign.More c.args.a refl c.in-62.is

pub returns-in-61 : goal.returns-in-61
returns-in-61 c = one sign.Unify c.args.a refl c.in-61.is
