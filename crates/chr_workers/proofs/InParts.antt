-- How parts that come back go on, and how many there are.
use Rattle.std.specs.Prelude.{◌≡◌, ℕ, zero, suc, ◌+◌, Result, Ok, Err, OnOk, Bool, true, false, is_some, is_ok}
use Rattle.std.specs.Prelude.{is_err, cond}
use Rattle.std.specs.Prelude.{List, [], ◌∷◌, length}
use Rattle.std.proofs.Common.{sym, ap, ◌∙◌, subst, arith, add-one}
use Rattle.std.proofs.lemmas.Option.{none-some}
use Rattle.std.specs.Bool.{OnTrue}
use mathlib.Core.Bool.{true≢false}
use Rattle.std.specs.Ordering.{nat_cmp}
use Rattle.std.specs.Cmp.{nat_cmp_total}
use Rattle.std.specs.FinMap as map
use Rattle.chr_base.specs.declared.program.Program.{Program}
use Rattle.chr_base.specs.Stores.{Store}
use Rattle.chr_base.specs.Rules.{Step}
use Rattle.chr_base.specs.Programs.{rules_of}
use Rattle.chr_base.specs.Rewriting.{IsAtRest}
use Rattle.chr_base.specs.Sameness.{AreSame}
use Rattle.chr_base.proofs.SameSteps.{same_programs_step_alike}
use Rattle.chr_join.specs.AcceptedPrograms.{program_in}
use Rattle.chr_replica.specs.Boards.{Held, program_on}
use Rattle.chr_replica.specs.Leases.{Leases, with_parts, AreBelow}
use Rattle.chr_replica.specs.Replicas.{Replica, TakesParts, Puts, Recalls}
use Rattle.chr_replica.proofs.LeasedSums.{not_out, below_next}
use Rattle.chr_workers.specs.InParts.{PutsRested, PutsEach, RecallsEach, RestsInParts}
use Rattle.chr_workers.proofs.Kept.{one_less}

-- what was put came back rested
pub put_rests : {E : Type 0} (p q : Program) (s t : Replica) (n : ℕ) (part result : Store) (r : Result (Unit {0}) E)
    (b : Bool) → b ≡ is_ok r → OnOk r (Puts p s n part result t) → OnOk r (AreSame q p)
    → IsAtRest (Step (rules_of q)) result → OnTrue b (PutsRested p s t)
put_rests p q s t n part result (Ok x) b is puts same rests = subst (λ c. OnTrue c (PutsRested p s t)) (sym is) record {
  number = n;
  part = part;
  result = result;
  puts = puts;
  rests = (λ u step. rests u ((same_programs_step_alike q p same result u).1 step));
}
put_rests p q s t n part result (Err e) b is puts same rests = subst (λ c. OnTrue c (PutsRested p s t)) (sym is) tt

-- one more part has come back
pub put_more : (old before new : Held) (n : ℕ) (b : Bool) → before.accepted ≡ old.accepted → b ≡ true
    → PutsEach (program_on old) n old.replica before.replica
    → OnTrue b (PutsRested (program_on before) before.replica new.replica)
    → PutsEach (program_on old) (n + 1) old.replica new.replica
put_more old before new n b program is h g =
    let put : PutsRested (program_on before) before.replica new.replica =
    subst (λ c. OnTrue c (PutsRested (program_on before) before.replica new.replica)) is g in
    let one : PutsRested (program_on old) before.replica new.replica =
    subst (λ a. PutsRested (program_in a) before.replica new.replica) program put in
    subst (λ k. PutsEach (program_on old) k old.replica new.replica) (sym (add-one n)) (before.replica, h, one)

pub recalled_more : {E : Type 0} (s t u : Replica) (number : ℕ) (r : Result (Unit {0}) E) → is_err r ≡ false
    → (n : ℕ) × RecallsEach n s t → OnOk r (Recalls t number u) → (n : ℕ) × RecallsEach n s u
recalled_more s t u number (Ok x) ok h g = (suc h.0, (t, h.1, (number, g)))
recalled_more s t u number (Err e) ok h g = absurd (true≢false ok)

-- each part that comes back is out no more
pub puts_len : (p : Program) (n : ℕ) (s t : Replica) → PutsEach p n s t → map.len t.out + n ≡ map.len s.out
puts_len p zero s t h = let e = ap (λ r. map.len r.out) h in omega (arith, e)
puts_len p (suc n) s t h =
    let before = puts_len p n s h.0 h.1 in
    let e : map.len t.out ≡ map.len (map.remove (h.0).out (h.2).number) = ap (λ r. map.len r.out) (h.2).puts.after in
    let less = one_less (h.0).out (h.2).number (h.2).part (h.2).puts.out in
    omega (arith, before, e, less)

pub recalls_len : (n : ℕ) (s t : Replica) → RecallsEach n s t → map.len t.out + n ≡ map.len s.out
recalls_len zero s t h = let e = ap (λ r. map.len r.out) h in omega (arith, e)
recalls_len (suc n) s t h =
    let before = recalls_len n s h.0 h.1 in
    let e : map.len t.out ≡ map.len (map.remove (h.0).out (h.2).0) = ap (λ r. map.len r.out) (h.2).1.after in
    let less = one_less (h.0).out (h.2).0 (h.2).1.part (h.2).1.out in
    omega (arith, before, e, less)

-- `parts` under further numbers are out
with_parts_len : (out : Leases) (k : ℕ) (parts : List Store) → AreBelow out k
    → map.len (with_parts out k parts) ≡ map.len out + length parts
with_parts_len out k [] below = omega arith
with_parts_len out k (part ∷ parts) below =
    let more = with_parts_len (map.insert out k part) (k + 1) parts (below_next out k part below) in
    let one : map.len (map.insert out k part) ≡ map.len out + 1 = map.len-insert nat_cmp_total out k part
    ∙ ap (λ o. cond (is_some o) (map.len out) (map.len out + 1)) (not_out out k below) in
    omega (arith, more, one)

pub taken_len : (s t : Replica) (count : ℕ) (parts : List Store) → s.out ≡ map.empty → TakesParts s count parts t
    → map.len t.out ≡ count
taken_len s t count parts none h =
    let out : map.len t.out ≡ map.len (with_parts s.out s.next parts) = ap (λ r. map.len r.out) h.after in
    let all = with_parts_len s.out s.next parts
    (λ q part there.
    absurd (none-some part (sym (map.get-empty nat_cmp q) ∙ ap (λ m. map.get m q) (sym none) ∙ there))) in
    let empty : map.len s.out ≡ 0 = ap map.len none ∙ map.len-empty nat_cmp Store in
    omega (arith, out, all, empty, h.count)

pub rests_in_parts : (old taken put new : Held) (count n : ℕ) (parts : List Store) → old.replica.out ≡ map.empty
    → taken.accepted ≡ old.accepted → TakesParts old.replica count parts taken.replica
    → PutsEach (program_on taken) n taken.replica put.replica → (m : ℕ) × RecallsEach m put.replica new.replica
    → new.replica.out ≡ map.empty → RestsInParts (program_on old) old.replica count n new.replica
rests_in_parts old taken put new count n parts none program takes puts recalls left =
    let empty : map.len new.replica.out ≡ 0 = ap map.len left ∙ map.len-empty nat_cmp Store in
    let out = taken_len old.replica taken.replica count parts none takes in
    let less = puts_len (program_on taken) n taken.replica put.replica puts in
    let least = recalls_len recalls.0 put.replica new.replica recalls.1 in
    record {
      parts = parts;
      taken = taken.replica;
      takes = takes;
      put = put.replica;
      puts = subst (λ a. PutsEach (program_in a) n taken.replica put.replica) program puts;
      others = recalls.0;
      recalls = recalls.1;
      all = omega (arith, empty, out, less, least);
    }
