-- Cases that fail with no more atoms than a store.
use Rattle.std.specs.Prelude.{◌≡◌, ℕ, ◌≤◌, List, Option, None, Some, IfSome, Result, Ok, Err, IfOk}
use Rattle.std.proofs.Common.{arith}
use Rattle.chr_base.specs.declared.rule.Rule.{Rule}
use Rattle.chr_base.specs.Stores.{size}
use Rattle.chr_overlaps.specs.declared.overlap.Overlap.{Overlap}
use Rattle.chr_overlaps.specs.OverlapLists.{IsOverlapOf}
use Rattle.chr_join.specs.declared.refused.Failure.{Failure}
use Rattle.chr_join.specs.Explanations.{ReplaysApart}
use Rattle.chr_diagnosis.specs.Diagnoses.{IsSmallerFailureOf, IsSmallerFailure}

-- they have no more than a larger number
pub fewer : (rules : List Rule) (n m : ℕ) (found : Option Failure) → n ≤ m
    → IfSome found (IsSmallerFailure rules n) → IfSome found (IsSmallerFailure rules m)
fewer rules n m None l h = h
fewer rules n m (Some f) l h = let k = h.2.1 in (h.0, h.1, (h.2.0, omega (arith, k)))

-- the number of atoms of what was found
pub atoms_of : (rules : List Rule) (o : Overlap) (n : ℕ) (found : Option Failure)
    → IfSome found (IsSmallerFailureOf rules o n) → IfSome found (λ f. size f.left.start ≤ n)
atoms_of rules o n None h = h
atoms_of rules o n (Some f) h = h.1

pub atoms_found : (rules : List Rule) (n : ℕ) (found : Option Failure)
    → IfSome found (IsSmallerFailure rules n) → IfSome found (λ f. size f.left.start ≤ n)
atoms_found rules n None h = h
atoms_found rules n (Some f) h = h.2.1

-- both of its sides replay
pub replays : (rules : List Rule) (n : ℕ) (f : Failure) → IsSmallerFailure rules n f → ReplaysApart rules f
replays rules n f h = h.2.0.4.replays

-- that of an overlap of the rules is one of the rules
pub of_some : {E : Type 0} (rules : List Rule) (o : Overlap) (n : ℕ) (r : Result (Option Failure) E)
    → IsOverlapOf rules o → IfOk r (λ f. IfSome f (IsSmallerFailureOf rules o n))
    → IfOk r (λ f. IfSome f (IsSmallerFailure rules n))
of_some rules o n (Ok (Some f)) is h = (o, is, h)
of_some rules o n (Ok None) is h = h
of_some rules o n (Err e) is h = h
