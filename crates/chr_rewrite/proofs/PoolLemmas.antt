-- What a pool holds at first, and what its steps lead to.
use Rattle.std.specs.Prelude.{◌≡◌, ℕ, List}
use Rattle.std.proofs.Common.{◌∙◌}
use Rattle.chr_base.specs.declared.atom.Atom.{Atom}
use Rattle.chr_base.specs.declared.program.Program.{Program}
use Rattle.chr_base.specs.FinBag as bag
use Rattle.chr_base.specs.FinBag.{◌⊕◌}
use Rattle.chr_base.specs.Stores.{Store, store_of}
use Rattle.chr_base.proofs.Stores.{store_of-items, plus_comm, plus_empty}
use Rattle.chr_base.specs.Rules.{Step}
use Rattle.chr_base.specs.Programs.{rules_of}
use Rattle.chr_base.specs.Rewriting.{Reaches}
use Rattle.chr_rewrite.specs.Pools.{TookSteps}

-- what steps lead to is reached
pub took_reaches : (p : Program) (n : ℕ) (s t : Store) → TookSteps p n s t → Reaches (Step (rules_of p)) s t
took_reaches p n s t h = (h.steps, h.run)

-- a pool to which the atoms of a store were added, and nothing else, is that store
pub pool_of_atoms : (none pool s : Store) (atoms : List Atom) → none ≡ bag.empty → atoms ≡ bag.items s
    → pool ≡ none ⊕ store_of atoms → pool ≡ s
pool_of_atoms none pool s atoms e a is = is ∙ (λ i. e i ⊕ store_of (a i)) ∙ plus_comm bag.empty (store_of (bag.items s))
    ∙ plus_empty (store_of (bag.items s)) ∙ store_of-items s
