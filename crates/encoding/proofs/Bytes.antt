-- The byte that a kind is written as, by its cast.
use Rattle.std.proofs.Common.{◌≡◌, refl}
use denote.Enum.Declared.{tag_of}
use Rattle.encoding.specs.declared.kinds.CallKind.{CallKind}
use Rattle.encoding.specs.declared.kinds.CallKind.TheVariants.{Thread, Treadle, Tie, Back, Cell, Part, Floats, Fewest, Hangs}
use Rattle.encoding.specs.contracts.kinds.CallKind.{the_type}
use Rattle.encoding.specs.Kinds.{call_byte}

pub call_cast : (k : CallKind) → tag_of the_type k ≡ call_byte k
call_cast Thread = refl
call_cast Treadle = refl
call_cast Tie = refl
call_cast Back = refl
call_cast Cell = refl
call_cast Part = refl
call_cast Floats = refl
call_cast Fewest = refl
call_cast Hangs = refl
