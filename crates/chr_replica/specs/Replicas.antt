-- A replica of a program, and the events that change it: one record for each, which ends in the whole replica after it.
use Rattle.std.specs.Prelude.{◌≡◌, ℕ, ◌+◌, ◌≤◌, List, [], ◌∷◌, length, All, Option, Some, None}
use Rattle.std.specs.FinMap as map
use Rattle.chr_base.specs.declared.program.Program.{Program}
use Rattle.chr_base.specs.declared.derivation.Step.{Step as StepValue}
use Rattle.chr_base.specs.FinBag as bag
use Rattle.chr_base.specs.FinBag.{◌⊕◌, ◌⊖◌, IsWithin}
use Rattle.chr_base.specs.Stores.{Store, size, stores_sum}
use Rattle.chr_base.specs.Rules.{Step}
use Rattle.chr_base.specs.Programs.{declarations, rules_of, declares_atom}
use Rattle.chr_base.specs.Rewriting.{Runs, Reaches, IsAtRest}
use Rattle.chr_base.specs.Values.{Each}
use Rattle.chr_ops.specs.declared.id.OpId.{OpId}
use Rattle.chr_ops.specs.declared.limits.TheConstants.{MAX_TOLD}
use Rattle.chr_ops.specs.Operations.{Operation, Operations, told_store, told_atoms, sum_of, IsNew}
use Rattle.chr_ops.specs.Joins.{union, fresh, HasNoClash}
use Rattle.chr_rewrite.specs.Derivations.{LeadsTo}
use Rattle.chr_replica.specs.Leases.{Leases, leased_store, with_parts, AreBelow, AreEven}
use Rattle.chr_replica.specs.declared.limits.TheConstants.{LAST_LEASE}

-- a replica
pub record Replica : Type 0 where
  -- the operations that it was told
  pub operations : Operations
  -- the atoms that are not leased out
  pub pool : Store
  -- the parts that are leased out, by their lease numbers
  pub out : Leases
  -- the next lease number
  pub next : ℕ

-- the replica that was told nothing
abbrev pub first : Replica
first = record { operations = map.empty; pool = bag.empty; out = map.empty; next = 1 }

-- the program declares the operation's atoms
abbrev pub IsDeclared : Program → Operation → Type 0
IsDeclared p op = Each (declares_atom (declarations p)) op.1

-- the program declares the atoms of each operation of a set
abbrev pub AreDeclared : Program → Operations → Type 0
AreDeclared p m = (id : OpId) (b : Store) → map.get m id ≡ Some b → IsDeclared p (id, b)

-- a new operation joins the operations, and its atoms the pool
pub record Tells (p : Program) (s : Replica) (op : Operation) (t : Replica) : Type 0 where
  pub declared : IsDeclared p op
  pub new : IsNew s.operations op
  pub room : told_atoms s.operations + size op.1 ≤ MAX_TOLD
  pub after : t ≡ record {
    operations = map.insert s.operations op.0 op.1;
    pool = s.pool ⊕ op.1;
    out = s.out;
    next = s.next;
  }

-- the new ones of some operations, n of them, join the operations, and their atoms the pool
pub record Merges (p : Program) (s : Replica) (ops : List Operation) (n : ℕ) (t : Replica) : Type 0 where
  pub declared : All (IsDeclared p) ops
  pub no_clash : HasNoClash s.operations ops
  pub room : told_atoms (union s.operations ops) ≤ MAX_TOLD
  pub count : n + map.len s.operations ≡ map.len t.operations
  pub after : t ≡ record {
    operations = union s.operations ops;
    pool = s.pool ⊕ sum_of (fresh s.operations ops);
    out = s.out;
    next = s.next;
  }

-- a named step is taken in the pool
pub record Steps (p : Program) (s : Replica) (step : StepValue) (t : Replica) : Type 0 where
  pub pool : Store
  pub leads : LeadsTo (rules_of p) step s.pool pool
  pub after : t ≡ record { operations = s.operations; pool = pool; out = s.out; next = s.next }

-- a part of the pool is leased out, under the next number
pub record Takes (s : Replica) (part : Store) (number : ℕ) (t : Replica) : Type 0 where
  pub numbered : number ≡ s.next
  pub room : number ≤ LAST_LEASE
  pub there : IsWithin part s.pool
  pub after : t ≡ record {
    operations = s.operations;
    pool = s.pool ⊖ part;
    out = map.insert s.out number part;
    next = number + 1;
  }

-- the whole pool is leased out in n parts of even sizes, under the next numbers
pub record TakesParts (s : Replica) (n : ℕ) (parts : List Store) (t : Replica) : Type 0 where
  pub room : s.next + n ≤ LAST_LEASE + 1
  pub count : length parts ≡ n
  pub whole : stores_sum parts ≡ s.pool
  pub even : AreEven parts
  pub after : t ≡ record {
    operations = s.operations;
    pool = bag.empty;
    out = with_parts s.out s.next parts;
    next = s.next + n;
  }

-- the part that is out under a number comes back as a store that it reaches
pub record Puts (p : Program) (s : Replica) (number : ℕ) (part result : Store) (t : Replica) : Type 0 where
  pub out : map.get s.out number ≡ Some part
  pub reached : Reaches (Step (rules_of p)) part result
  pub after : t ≡ record {
    operations = s.operations;
    pool = s.pool ⊕ result;
    out = map.remove s.out number;
    next = s.next;
  }

-- the part that is out under a number comes back as it is
pub record Recalls (s : Replica) (number : ℕ) (t : Replica) : Type 0 where
  pub part : Store
  pub out : map.get s.out number ≡ Some part
  pub after : t ≡ record {
    operations = s.operations;
    pool = s.pool ⊕ part;
    out = map.remove s.out number;
    next = s.next;
  }

-- n steps are taken in the pool
pub record Settles (p : Program) (s : Replica) (n : ℕ) (t : Replica) : Type 0 where
  pub pool : Store
  pub run : Runs (Step (rules_of p)) n s.pool pool
  pub after : t ≡ record { operations = s.operations; pool = pool; out = s.out; next = s.next }

-- what was told is declared, and reaches the pool together with all leased parts; each lease number that is out is
-- below the next
pub record IsSound (p : Program) (s : Replica) : Type 0 where
  pub declared : AreDeclared p s.operations
  pub reached : Reaches (Step (rules_of p)) (told_store s.operations) (s.pool ⊕ leased_store s.out)
  pub below : AreBelow s.out s.next

-- each of the operations is told, one after the other
abbrev pub TellsEach : Program → Replica → List Operation → Replica → Type 0
TellsEach p s [] t = t ≡ s
TellsEach p s (op ∷ ops) t = (u : Replica) × Tells p s op u × TellsEach p u ops t

-- the part that is out under a number, if one is named, comes back as it is
abbrev pub ComesBack : Replica → Option ℕ → Replica → Type 0
ComesBack s None t = t ≡ s
ComesBack s (Some number) t = Recalls s number t

-- a part of the pool is leased out under a number, if one is named
abbrev pub GoesOut : Replica → Store → Option ℕ → Replica → Type 0
GoesOut s part None t = t ≡ s
GoesOut s part (Some number) t = Takes s part number t

-- A part that was out, if one is carried, comes back; each of the operations is told; then steps are taken, after which
-- the pool is what it was at first together with what was rested. If a lease number is named, what was rested is leased
-- out under it.
pub record TellsRested (p : Program) (s : Replica) (carried : Option ℕ) (ops : List Operation) (rested : Store)
    (lease : Option ℕ) (t : Replica) : Type 0 where
  pub back : Replica
  pub comes_back : ComesBack s carried back
  pub told : Replica
  pub tells : TellsEach p back ops told
  pub count : ℕ
  pub settled : Replica
  pub settles : Settles p told count settled
  pub pool : settled.pool ≡ s.pool ⊕ rested
  pub goes_out : GoesOut settled rested lease t

-- no part is out, and the pool is at rest
abbrev pub IsSettled : Program → Replica → Type 0
IsSettled p s = (s.out ≡ map.empty) × IsAtRest (Step (rules_of p)) s.pool
