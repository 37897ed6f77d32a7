-- What a check that answers by a result says of what may be at fault. Assumes nothing.
use Rattle.std.proofs.Common.{◌≡◌, Some, None, Ok, Err, Option, refl}
use Rattle.block.specs.Values.{ok_unless}

pub none_at_ok : {E : Type 0} {u : Unit {0}} (o : Option E) → Ok u ≡ ok_unless o → o ≡ None
none_at_ok None e = refl
none_at_ok (Some x) e = cc

pub some_at_err : {E : Type 0} {x : E} (o : Option E) → Err x ≡ ok_unless o → o ≡ Some x
some_at_err None e = cc
some_at_err (Some x) e = cc
