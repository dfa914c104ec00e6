-- Writes of which a crash keeps all.
use Rattle.std.proofs.Common.{◌≡◌, ℕ, List, length, refl, sym, subst, inl, inr, rules}
use Rattle.sqlite_disk.specs.Disk.{Holds, Torn, Mixed, Follows}

same_torn : (at n : ℕ) (file : List ℕ) → Torn at n file file
same_torn at n file = search rules

pub unwritten : (at : ℕ) (bytes old new : List ℕ) → new ≡ old → Mixed at bytes old new
unwritten at bytes old new is =
    let same : Mixed at bytes old old = record {
      torn = same_torn at (length bytes) old;
      each = λ i below there. inl refl;
    } in
    subst (Mixed at bytes old) (sym is) same

pub written : (at : ℕ) (bytes old new : List ℕ) → Torn at (length bytes) old new → Holds new at bytes
    → Mixed at bytes old new
written at bytes old new torn holds = record { torn = torn; each = λ i below there. inr (holds.each i below) }

-- what was written is all that is left
pub left : (step : List ℕ → List ℕ → Type 0) (old new : List ℕ) → step old new
    → Follows step (λ file. file ≡ old) (λ file. file ≡ new)
left step old new is = λ file left. (old, refl, subst (step old) (sym left) is)
