-- Steps that make each row of another.
use Rattle.std.proofs.Common.{◌≢◌, Option, Some, None, IsTrue}
use Rattle.std.specs.Option.{is_some}
use Rattle.std.specs.Prelude.{OnOk, Result, Ok, Err}
use Rattle.vx_rows.specs.declared.value.Value.{Value}

-- what is there isn't null
pub some_there : (row : Option Value) → IsTrue (is_some row) → row ≢ None
some_there None some h = cc
some_there (Some v) some h = cc

-- what follows from three things that hold of a value
pub on_three : {T E P Q R S : Type 0} (r : Result T E) → (P → Q → R → S) → OnOk r P → OnOk r Q → OnOk r R → OnOk r S
on_three (Ok x) f p q t = f p q t
on_three (Err e) f p q t = tt

-- what follows from two of them
pub on_two : {T E P Q S : Type 0} (r : Result T E) → (P → Q → S) → OnOk r P → OnOk r Q → OnOk r S
on_two (Ok x) f p q = f p q
on_two (Err e) f p q = tt
