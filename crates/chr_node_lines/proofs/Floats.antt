-- Replies have no floats.
use Rattle.std.proofs.Common.{◌≡◌, ℤ, pos, negsuc, List, [], ◌∷◌, map, false, ◌||◌, refl, ap}
use Rattle.serde_json.specs.Data.{Data}
use Rattle.serde_json.specs.View.{items_of}
use Rattle.serde_json.specs.Written.{has_float, items_have_float}
use Rattle.chr_base.specs.ProgramTests.{Declaration}
use Rattle.chr_base.specs.Stores.{Store}
use Rattle.chr_base.specs.Texts.{in_print_order}
use Rattle.chr_json.specs.NamedAtoms.{NamedAtom}
use Rattle.chr_json.specs.Printed.{argument_data, atom_data}
use Rattle.chr_exchange.specs.Texts.{spelt_atom}
use Rattle.chr_node_lines.specs.declared.reply.Reply.{Reply}
use Rattle.chr_node_lines.specs.declared.reply.Reply.TheVariants as reply
use Rattle.chr_node_lines.specs.Replies.{file_data, left_data, reply_data, store_data}

mapped : {A : Type 0} (f : A → Data) → ((x : A) → has_float (f x) ≡ false) → (xs : List A)
    → items_have_float (items_of (map f xs)) ≡ false
mapped f one [] = refl
mapped f one (x ∷ xs) = λ i. one x i || mapped f one xs i

argument : (z : ℤ) → has_float (argument_data z) ≡ false
argument (pos n) = refl
argument (negsuc n) = refl

atom : (w : NamedAtom) → has_float (atom_data w) ≡ false
atom w = mapped argument_data argument w.args

stored : (ds : List Declaration) (s : Store) → has_float (store_data ds s) ≡ false
stored ds s = mapped atom_data atom (map (spelt_atom ds) (in_print_order ds s))

pub no_float : (ds : List Declaration) (r : Reply) → has_float (reply_data ds r) ≡ false
no_float ds (reply.Told id) = refl
no_float ds (reply.Again id) = refl
no_float ds (reply.Last n) = refl
no_float ds (reply.Store s) = ap (λ b. b || false) (stored ds s)
no_float ds (reply.Found s) = ap (λ b. b || false) (stored ds s)
no_float ds (reply.Count n) = refl
no_float ds (reply.Changed c) = λ i. stored ds c.came i || (stored ds c.went i || false)
no_float ds (reply.Status s) = λ i.
    mapped file_data (λ f. refl) s.feeds.items i || (mapped left_data (λ f. refl) s.left.items i || false)
no_float ds (reply.Refused r) = refl
