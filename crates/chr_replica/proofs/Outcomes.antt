-- What holds anyhow holds in each case.
use Rattle.std.specs.Prelude.{Bool, true, false, Result, Ok, Err, IfOk, OnErr}
use Rattle.std.specs.Bool.{OnFalse}

pub on_false : {E P : Type 0} (r : Result Bool E) → P → IfOk r (λ b. OnFalse b P)
on_false (Ok true) h = tt
on_false (Ok false) h = h
on_false (Err e) h = tt

pub on_err : {A E P : Type 0} (r : Result A E) → P → OnErr r P
on_err (Ok x) h = tt
on_err (Err e) h = h
