-- What is said of a row that was found, or of none, and of a refusal.
use Rattle.std.proofs.Common.{◌≡◌, Option, true, false, refl}
use Rattle.std.specs.Prelude.{Some, None, IfSome, IfNone, is_some, Result, Ok, Err, OnErr}

pub if_some : {X : Type 0} (P Q : X → Type 0) (o : Option X) → ((x : X) → P x → Q x) → IfSome o P → IfSome o Q
if_some P Q None f h = h
if_some P Q (Some x) f h = f x h

pub if_none : {X : Type 0} (P Q : Type 0) (o : Option X) → (P → Q) → IfNone o P → IfNone o Q
if_none P Q None f h = f h
if_none P Q (Some x) f h = h

-- the value that there is
pub the_one : {X : Type 0} (o : Option X) → is_some o ≡ true → (x : X) × (o ≡ Some x)
the_one None e = absurd (let f : false ≡ true = e in cc)
the_one (Some x) e = (x, refl)

pub no_one : {X : Type 0} (o : Option X) → is_some o ≡ false → o ≡ None
no_one None e = refl
no_one (Some x) e = absurd (let f : true ≡ false = e in cc)

pub on_err : {A E : Type 0} (P : Type 0) (r : Result A E) → P → OnErr r P
on_err P (Ok x) h = tt
on_err P (Err e) h = h
