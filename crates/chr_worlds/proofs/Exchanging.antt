-- What exchanges make of operations.
use Rattle.std.specs.Prelude.{◌≡◌, ℕ, zero, suc, ◌-◌, ◌<◌, [], ◌∷◌, length, Option, Some, None, slice_get, slice_set}
use Rattle.std.proofs.Common.{refl, sym, ap, ◌∙◌, subst, arith, inl, inr}
use Rattle.std.specs.Option.{option_or}
use Rattle.std.specs.FinMap as map
use Rattle.std.proofs.lemmas.Bool.Decides.{eqb_tells}
use Rattle.std.proofs.lemmas.Option.{slice_get_within}
use Rattle.chr_base.specs.declared.program.Program.{Program}
use Rattle.chr_base.specs.Stores.{Store}
use Rattle.chr_ops.specs.declared.id.OpId.{OpId}
use Rattle.chr_ops.specs.Operations.{Operations}
use Rattle.chr_ops.specs.Joins.{union}
use Rattle.chr_ops.specs.Exchange.{HaveOneBag, ExchangeLaw}
use Rattle.chr_ops.proofs.IdOrder.{id_total, id_exact}
use Rattle.chr_ops.proofs.Unions.{get-union}
use Rattle.chr_replica.specs.Replicas.{Replica, IsSound}
use Rattle.chr_replica.proofs.DeclaredSets.{lacking_declared}
use Rattle.chr_acts.specs.declared.reply.Reply.TheVariants as reply
use Rattle.chr_worlds.specs.Worlds.{Replicas, IsAt, Changes, TakesIn}
use Rattle.chr_worlds.specs.Laws.{SyncsUnite, SyncsMeet, SyncsAreDeclared}
use Rattle.chr_worlds.proofs.Keeping.{holds_at, one_at}

-- ---- replicas of a number

set_here : (w : Replicas) (i : ℕ) (t : Replica) → i < length w → slice_get (slice_set w i t) i ≡ Some t
set_here [] i t l = absurd (omega (arith, l))
set_here (s ∷ w) zero t l = refl
set_here (s ∷ w) (suc i) t l = set_here w i t (omega (arith, l))

set_elsewhere : (w : Replicas) (i k : ℕ) (t : Replica) → (k ≡ i → ⊥) → slice_get (slice_set w i t) k ≡ slice_get w k
set_elsewhere [] i k t n = refl
set_elsewhere (s ∷ w) zero zero t n = absurd (n refl)
set_elsewhere (s ∷ w) zero (suc k) t n = refl
set_elsewhere (s ∷ w) (suc i) zero t n = refl
set_elsewhere (s ∷ w) (suc i) (suc k) t n = set_elsewhere w i k t (λ e. n (omega (arith, e)))

-- where one replica changed
changed_at : (w v : Replicas) (r : ℕ) (R : Replica → Replica → Type 0) (h : Changes w r R v) → IsAt v r h.after
changed_at w v r R h = (
  h.there.0,
  ap (λ l. slice_get l (r - 1)) h.world ∙ set_here w (r - 1) h.after (slice_get_within w (r - 1) h.before h.there.1),
)

-- the others are as they were
same_at : (w v : Replicas) (r k : ℕ) (R : Replica → Replica → Type 0) (s : Replica) (h : Changes w r R v) → (k ≡ r → ⊥)
    → IsAt w k s → IsAt v k s
same_at w v r k R s h n there =
    let zero_below_r = h.there.0 in
    let zero_below_k = there.0 in (
      there.0,
      ap (λ l. slice_get l (k - 1)) h.world
          ∙ set_elsewhere w (r - 1) (k - 1) h.after (λ e. n (omega (arith, e, zero_below_r, zero_below_k))) ∙ there.1,
    )

-- ---- operations

pub took_in : ExchangeLaw → (p : Program) (s t u : Replica) (n : ℕ) → TakesIn p s t (reply.Merged n) u → u.operations
    ≡ union t.operations (map.entries s.operations)
took_in exchange p s t u n h =
    ap (λ r. r.operations) h.merged.after ∙ exchange t.operations s.operations h.summary h.covers

pub syncs_unite : ExchangeLaw → SyncsUnite
syncs_unite exchange p w v a b n s t u h at_a at_b after =
    let c = h.2 in
    let from = one_at w a h.0 s h.1 at_a in
    let before = one_at w b c.before t c.there at_b in
    let now = one_at v b c.after u (changed_at w v b _ c) after in
    sym (ap (λ r. r.operations) now) ∙ took_in exchange p h.0 c.before c.after n c.changed
    ∙ (λ i. union ((before i).operations) (map.entries ((from i).operations)))

-- what joins both is there after a second join
both_held : (x y : Option Store) → ((s t : Store) → x ≡ Some s → y ≡ Some t → s ≡ t) → option_or x (option_or y x)
    ≡ option_or y x
both_held None y same = refl
both_held (Some s) None same = refl
both_held (Some s) (Some t) same = ap Some (same s t refl refl)

joined_twice : (m n : Operations) → HaveOneBag m n → union m (map.entries (union n (map.entries m)))
    ≡ union n (map.entries m)
joined_twice m n same = map.same_map id_total id_exact _ _ (λ q.
    get-union m (map.entries (union n (map.entries m))) q
    ∙ ap (option_or (map.get m q)) (sym (map.get-entries (union n (map.entries m)) q) ∙ found q)
    ∙ both_held (map.get m q) (map.get n q) (same q) ∙ sym (found q))
  where
    found : (q : OpId) → map.get (union n (map.entries m)) q ≡ option_or (map.get n q) (map.get m q)
    found q = get-union n (map.entries m) q ∙ ap (option_or (map.get n q)) (sym (map.get-entries m q))

pub syncs_meet : ExchangeLaw → SyncsMeet
syncs_meet exchange p w v z a b m n s t s' t' at_a at_b same h g now_a now_b =
    elim (eqb_tells a b) as (λ _. s'.operations ≡ t'.operations) [ inl e ↦ with_itself e.1 | inr n ↦ with_another n.1 ]
  where
    with_itself : a ≡ b → s'.operations ≡ t'.operations
    with_itself e = ap (λ r. r.operations) (one_at z b s' t' (subst (λ k. IsAt z k s') e now_a) now_b)

    with_another : (a ≡ b → ⊥) → s'.operations ≡ t'.operations
    with_another other =
        let middle = h.2.after in
        let in_v = changed_at w v b _ h.2 in
        let first : middle.operations ≡ union t.operations (map.entries s.operations) =
        syncs_unite exchange p w v a b n s t middle h at_a at_b in_v in
        let second : s'.operations ≡ union s.operations (map.entries middle.operations) =
        syncs_unite exchange p v z b a m middle s s' g in_v (same_at w v b a _ s h.2 other at_a) now_a in
        let kept : middle ≡ t' = one_at z b middle t' (same_at v z a b _ middle g.2 (λ e. other (sym e)) in_v) now_b in
        second ∙ ap (λ o. union s.operations (map.entries o)) first ∙ joined_twice s.operations t.operations same
        ∙ sym first ∙ ap (λ r. r.operations) kept

pub syncs_are_declared : SyncsAreDeclared
syncs_are_declared p w v a b sound h =
    let taken = (h.2).changed in
    taken.merged.0 (lacking_declared p (h.0).operations taken.summary (holds_at (IsSound p) w a h.0 sound h.1).declared)
