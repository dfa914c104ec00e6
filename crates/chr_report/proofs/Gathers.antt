-- Tells that are read one after another, and rested.
use Rattle.std.proofs.Common.{◌≡◌, ◌≤◌, ◌<◌, ◌+◌, ℕ, arith, length, List, [], ◌∷◌}
use Rattle.std.proofs.Common.{◌++◌, All, ◌⊎◌, inl, inr, refl, sym, ap, ◌∙◌, subst}
use Rattle.std.proofs.lemmas.List.Elements.{All-cons, All-nil}
use Rattle.chr_base.specs.declared.program.Program.{Program}
use Rattle.chr_base.specs.FinBag.{◌⊕◌}
use Rattle.chr_base.specs.Programs.{rules_of}
use Rattle.chr_base.specs.Rewriting.{Reaches}
use Rattle.chr_base.specs.Rules.{Step}
use Rattle.chr_base.specs.Stores.{Store}
use Rattle.chr_base.proofs.Rewriting.{reaches_itself, reaches_on}
use Rattle.chr_base.proofs.Steps.{Reaches-grows}
use Rattle.chr_base.proofs.Stores.{plus_assoc, plus_empty}
use Rattle.chr_ops.specs.Operations.{Operation, sum_of}
use Rattle.chr_rewrite.specs.Pools.{TookSteps}
use Rattle.chr_rewrite.proofs.PoolLemmas.{took_reaches}
use Rattle.chr_weights.specs.WeighedPrograms.{program_of}
use Rattle.chr_replica.specs.Replicas.{IsDeclared}
use Rattle.chr_answers.proofs.Rested.{sum_push}
use Rattle.chr_report.specs.declared.gathering.Gathering.{Gathering}
use Rattle.chr_answers.specs.declared.request.Request.TheVariants as request
use Rattle.chr_answers.specs.Gathered.{ReachTogether, TellFirst}
use Rattle.chr_report.specs.working.Gathered.{IsGathered}
use Rattle.chr_answers.specs.Requests.{AsksFirst}

-- no line tells anything yet
pub nothing_told : (p : Program) (text : List ℕ) (r left : ℕ) (ops : List Operation) → ops ≡ []
    → TellFirst p text r left ops left
nothing_told p text r left ops none = subst (λ os. TellFirst p text r left os left) (sym none) refl

pub nothing_reached : (p : Program) (before : Store) (ops : List Operation) (s : Store) → ops ≡ [] → s ≡ before
    → ReachTogether p before ops s
nothing_reached p before ops s none same =
    subst (λ os. ReachTogether p before os s) (sym none)
    (subst (λ u. Reaches (Step (rules_of p)) u s) (sym (plus_empty before))
    (subst (λ u. Reaches (Step (rules_of p)) u s) same (reaches_itself (Step (rules_of p)) s)))

tell_one_more : (p : Program) (text : List ℕ) (r left : ℕ) (ops : List Operation) (mid : ℕ) (op : Operation) (more : ℕ)
    → TellFirst p text r left ops mid → AsksFirst p text mid more (request.Tell r op)
    → TellFirst p text r left (ops ++ op ∷ []) more
tell_one_more p text r left [] mid op more h asks =
    (more, subst (λ n. AsksFirst p text n more (request.Tell r op)) (sym h) asks, refl)
tell_one_more p text r left (o ∷ ops) mid op more h asks =
    (h.0, h.1, tell_one_more p text r h.0 ops mid op more h.2 asks)

-- where no operations are told, they are told to any replica
tell_another : (p : Program) (text : List ℕ) (q r left : ℕ) (ops : List Operation) (more : ℕ)
    → (ops ≡ []) ⊎ (q ≡ r) → TellFirst p text q left ops more → TellFirst p text r left ops more
tell_another p text q r left ops more (inl none) h =
    subst (λ os. TellFirst p text r left os more) (sym none)
    (subst (λ os. TellFirst p text q left os more) none h)
tell_another p text q r left ops more (inr same) h = subst (λ n. TellFirst p text n left ops more) same h

tell_more : (p : Program) (text : List ℕ) (q r left : ℕ) (ops : List Operation) (mid : ℕ) (op : Operation)
    (more : ℕ) → (ops ≡ []) ⊎ (q ≡ r) → TellFirst p text q left ops mid
    → AsksFirst p text mid more (request.Tell r op) → TellFirst p text r left (ops ++ op ∷ []) more
tell_more p text q r left ops mid op more to h asks =
    tell_one_more p text r left ops mid op more (tell_another p text q r left ops mid to h) asks

-- lines that tell operations leave fewer bytes
tells_shorter : (p : Program) (text : List ℕ) (r left : ℕ) (ops : List Operation) (more : ℕ)
    → TellFirst p text r left ops more → more + length ops ≤ left
tells_shorter p text r left [] more h = omega (arith, h)
tells_shorter p text r left (op ∷ ops) more h =
    let first = h.1.shorter in
    let others = tells_shorter p text r h.0 ops more h.2 in
    omega (arith, first, others)

pub some_shorter : (p : Program) (text : List ℕ) (r left : ℕ) (ops : List Operation) (more : ℕ)
    → TellFirst p text r left ops more → 0 < length ops → more < left
some_shorter p text r left ops more h some = let less = tells_shorter p text r left ops more h in
    omega (arith, less, some)

-- the program declares the operations that lines tell
pub tells_declared : (p : Program) (text : List ℕ) (r left : ℕ) (ops : List Operation) (more : ℕ)
    → TellFirst p text r left ops more → All (IsDeclared p) ops
tells_declared p text r left [] more h = All-nil (IsDeclared p)
tells_declared p text r left (op ∷ ops) more h =
    All-cons (IsDeclared p) op ops h.1.asks.fits (tells_declared p text r h.0 ops more h.2)

-- an operation more is reached, after its atoms were put into the pool
reach_more : (p : Program) (before : Store) (ops : List Operation) (op : Operation) (s t : Store) → t ≡ s ⊕ op.1
    → ReachTogether p before ops s → ReachTogether p before (ops ++ op ∷ []) t
reach_more p before ops op s t put h =
    subst (λ u. Reaches (Step (rules_of p)) (before ⊕ sum_of (ops ++ op ∷ [])) u) (sym put)
    (subst (λ u. Reaches (Step (rules_of p)) u (s ⊕ op.1))
    (plus_assoc before (sum_of ops) op.1 ∙ ap (λ u. before ⊕ u) (sym (sum_push ops op)))
    (Reaches-grows (rules_of p) (before ⊕ sum_of ops) s op.1 h))

-- what is reached goes on by steps
reach_on : (p : Program) (before : Store) (ops : List Operation) (s t : Store) → ReachTogether p before ops s
    → Reaches (Step (rules_of p)) s t → ReachTogether p before ops t
reach_on p before ops s t h g = reaches_on (Step (rules_of p)) (before ⊕ sum_of ops) s t h g

-- the pool of the lines that were read comes to rest
pub gathering_rests : (p : Program) (text : List ℕ) (g h : Gathering) (n : ℕ)
    → TookSteps (program_of g.pool.weighed) n g.pool.store h.pool.store → h.pool.weighed ≡ g.pool.weighed
    → h.left ≡ g.left → h.more ≡ g.more → h.replica ≡ g.replica → h.ops ≡ g.ops
    → h.carried.part ≡ g.carried.part → IsGathered p text g → IsGathered p text h
gathering_rests p text g h n took weighed left more replica ops carried is =
    let steps : TookSteps p n g.pool.store h.pool.store =
    subst (λ q. TookSteps q n g.pool.store h.pool.store) is.own took in
    record {
      lines = subst (λ n. TellFirst p text h.replica n h.ops.items h.more) (sym left)
          (subst (λ n. TellFirst p text h.replica g.left h.ops.items n) (sym more)
          (subst (λ n. TellFirst p text n g.left h.ops.items g.more) (sym replica)
          (subst (λ v. TellFirst p text g.replica g.left v.items g.more) (sym ops) is.lines)));
      own = ap {B = Program} program_of weighed ∙ is.own;
      reached = subst (λ b. ReachTogether p b h.ops.items h.pool.store) (sym carried)
          (subst (λ os. ReachTogether p g.carried.part os h.pool.store)
          (sym (ap {B = List Operation} (λ v. v.items) ops))
          (reach_on p g.carried.part g.ops.items g.pool.store h.pool.store is.reached
          (took_reaches p n g.pool.store h.pool.store steps)));
    }

-- one more line is read that tells an operation
pub gathers_more : (p : Program) (text : List ℕ) (g h : Gathering) (op : Operation)
    → (g.ops.items ≡ []) ⊎ (g.replica ≡ h.replica) → AsksFirst p text g.more h.more (request.Tell h.replica op)
    → h.left ≡ g.left → h.ops.items ≡ g.ops.items ++ op ∷ [] → h.pool.weighed ≡ g.pool.weighed
    → h.pool.store ≡ g.pool.store ⊕ op.1 → h.carried.part ≡ g.carried.part → IsGathered p text g
    → IsGathered p text h
gathers_more p text g h op to asks left ops weighed put carried is = record {
  lines = subst (λ n. TellFirst p text h.replica n h.ops.items h.more) (sym left)
      (subst (λ os. TellFirst p text h.replica g.left os h.more) (sym ops)
      (tell_more p text g.replica h.replica g.left g.ops.items g.more op h.more to is.lines asks));
  own = ap {B = Program} program_of weighed ∙ is.own;
  reached = subst (λ b. ReachTogether p b h.ops.items h.pool.store) (sym carried)
      (subst (λ os. ReachTogether p g.carried.part os h.pool.store) (sym ops)
      (reach_more p g.carried.part g.ops.items op g.pool.store h.pool.store put is.reached));
}
