-- Refusals of what a board is told.
use Rattle.std.specs.Prelude.{◌≡◌, ⊤}
use Rattle.chr_replica.specs.declared.refusal.Refusal.{Refusal as ReplicaRefusal}
use Rattle.chr_replica.specs.declared.refusal.Refusal.TheVariants as refusal
use Rattle.chr_replica.specs.Refusals.{refusal_number as replica_number}
use Rattle.chr_node.specs.declared.fault.Refusal.{Refusal}
use Rattle.chr_node.specs.declared.fault.Refusal.TheVariants as node
use Rattle.chr_node.specs.Refusals.{refusal_number}

-- tells and merges are refused for these causes alone
abbrev pub IsOfTelling : ReplicaRefusal → Type 0
IsOfTelling refusal.UnknownSymbol = ⊤
IsOfTelling (refusal.Clash id) = ⊤
IsOfTelling (refusal.Full what) = ⊤
IsOfTelling refusal.Memory = ⊤
IsOfTelling _ = ⊥

-- the refusal has the number of a board's refusal that is one of these
abbrev pub IsNumbered : (ReplicaRefusal → Type 0) → Refusal → Type 0
IsNumbered P e = (r : ReplicaRefusal) × P r × (refusal_number e ≡ replica_number r)

-- the node's refusal for one of these causes
abbrev pub node_refusal : ReplicaRefusal → Refusal
node_refusal refusal.UnknownSymbol = node.UnknownSymbol
node_refusal (refusal.Clash id) = node.Clash id
node_refusal (refusal.Full what) = node.Full
node_refusal other = node.Memory
