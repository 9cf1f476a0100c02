-- Options.
use Rattle.std.proofs.Common.{◌≡◌, Some}

pub some_is : {A : Type 0} (x y : A) → Some x ≡ Some y → x ≡ y
some_is x y e = cc
