use Rattle.std.proofs.Common.{refl}
use Rattle.sl_syntax.proofs.token_kind.TokenKind.of.Goals as goal

pub returns-in-Lib : goal.returns-in-Lib
returns-in-Lib c = rw (c.find_kind.ensures, c.as_slice.ensures.value, c.in-Lib.is) refl

pub returns-in-Key : goal.returns-in-Key
returns-in-Key c = rw (c.find_kind-in-Key.ensures, c.as_slice-in-Key.ensures.value, c.in-Key.is) refl
