-- One id that is put in among ranges, and what it touches.
use Rattle.std.specs.Prelude.{◌≡◌, ℕ, ◌+◌, ◌^◌, ◌<◌, Bool, true, false, ◌||◌, [], ◌∷◌, Some, None, cond}
use Rattle.std.proofs.Common.{refl, sym, ap, ◌∙◌, arith, subst}
use Rattle.std.specs.Option.{unwrap_or}
use Rattle.std.specs.List.{list_any}
use Rattle.std.specs.Ordering.{eq_by_cmp}
use Rattle.std.specs.FinMap as map
use Rattle.chr_ops.specs.declared.id.OpId.{OpId}
use Rattle.chr_ops.specs.Ids.{id_cmp}
use Rattle.chr_ops.specs.News.{is_one_of}
use Rattle.chr_ops.specs.Summaries.{covers}
use Rattle.chr_ops.specs.working.Covering.{Ends, end_ranges, AreDisjoint, AreAsLongAsPossible, AreJoined}
use Rattle.chr_ops.specs.working.Covering.{EndsRightBefore, IsLaid, IsPutIn, is_beside, next_id}
use Rattle.chr_ops.proofs.IdOrder.{id_total, id_exact, same_id}
use Rattle.chr_ops.proofs.RangeJoins.{differs, eq_self, joined_for, joined_twice, none_ends, none_past, touching_joined}
use Rattle.chr_ops.proofs.RangesLaid.{fresh_begin, joined_covers, joined_longest, laid_disjoint, laid_more, laid_none}

or_false : (b : Bool) → (b || false) ≡ b
or_false true = refl
or_false false = refl

module _ (m : Ends) (id : OpId) (d : AreAsLongAsPossible m) (new : covers (end_ranges m) id ≡ false) where
  all_new : (q : OpId) → is_one_of (id ∷ []) q ≡ true → covers (end_ranges m) q ≡ false
  all_new q a = ap (covers (end_ranges m)) (same_id q id (sym (or_false (eq_by_cmp id_cmp q id)) ∙ a)) ∙ new

  none_there : map.get m id ≡ None
  none_there = fresh_begin m (id ∷ []) d.disjoint all_new id (ap (λ b. b || false) (eq_self id))

  own : Ends
  own = map.insert m id id.number

  get_own : (q : OpId) → map.get own q ≡ cond (eq_by_cmp id_cmp q id) (Some id.number) (map.get m q)
  unfolding own
  get_own q = map.get-insert id_total m id id.number q

  own_laid : id.number < 2 ^ 64 → IsLaid m (id ∷ []) own
  unfolding own
  own_laid fit = laid_more m m (id ∷ []) 0 id (omega arith) fit (laid_none m)

  own_disjoint : id.number < 2 ^ 64 → AreDisjoint own
  own_disjoint fit = laid_disjoint m (id ∷ []) own d all_new (own_laid fit)

  -- the id becomes the last of the range that ends right before it
  module _ (k : OpId) (h : ℕ) (at : map.get m k ≡ Some h) (same : k.origin ≡ id.origin)
      (touch : h + 1 ≡ id.number) where
    k_not_id : k ≡ id → ⊥
    k_not_id e = (
        let low = (d.disjoint.fits k h at).0 in
        let n : k.number ≡ id.number = ap (λ a. a.number) e in
        omega (arith, n, low, touch)
        )

    at_own : map.get own k ≡ Some h
    at_own = get_own k ∙ ap (λ b. cond b (Some id.number) (map.get m k)) (differs k id k_not_id) ∙ at

    own_there : map.get own id ≡ Some id.number
    own_there = get_own id ∙ ap (λ b. cond b (Some id.number) (map.get m id)) (eq_self id)

    grown_is : map.remove (map.insert own k id.number) id ≡ map.insert m k id.number
    grown_is = map.same_map id_total id_exact _ _ (λ q.
        map.get-remove id_total (map.insert own k id.number) id q
        ∙ ap (cond (eq_by_cmp id_cmp q id) None) (map.get-insert id_total own k id.number q
        ∙ ap (cond (eq_by_cmp id_cmp q k) (Some id.number)) (get_own q))
        ∙ by q (eq_by_cmp id_cmp q id) refl ∙ sym (map.get-insert id_total m k id.number q))
      where
        by : (q : OpId) (b : Bool) → eq_by_cmp id_cmp q id ≡ b
            → cond b None (cond (eq_by_cmp id_cmp q k) (Some id.number) (cond b (Some id.number) (map.get m q)))
            ≡ cond (eq_by_cmp id_cmp q k) (Some id.number) (map.get m q)
        by q false e = refl
        by q true e =
            let is : q ≡ id = same_id q id e in
            let far : eq_by_cmp id_cmp q k ≡ false = differs q k (λ f. k_not_id (sym f ∙ is)) in
            sym (ap (λ b. cond b (Some id.number) (map.get m q)) far ∙ ap (map.get m) is ∙ none_there)

    pub grown : id.number < 2 ^ 64 → IsPutIn m id (map.insert m k id.number)
    grown fit = record {
      laid = own;
      is = own_laid fit;
      joined = subst (AreJoined own (λ q. eq_by_cmp id_cmp q id)) grown_is
          (touching_joined own k id h id.number (own_disjoint fit) at_own own_there same touch);
    }

  -- the id is a range of its own, where none ends right before it
  none_before : ((k : OpId) → ¬ (EndsRightBefore m id k)) → (k : OpId) → ¬ (EndsRightBefore own id k)
  none_before none k (h, at, org, touch) = by (eq_by_cmp id_cmp k id) refl
    where
      by : (b : Bool) → eq_by_cmp id_cmp k id ≡ b → ⊥
      by true e = (
          let last : h ≡ id.number = ap (λ o. unwrap_or o h)
          (sym at ∙ get_own k ∙ ap (λ b. cond b (Some id.number) (map.get m k)) e) in
          omega (arith, last, touch)
          )
      by false e = none k (h, sym (get_own k ∙ ap (λ b. cond b (Some id.number) (map.get m k)) e) ∙ at, org, touch)

  pub alone : id.number < 2 ^ 64 → ((k : OpId) → ¬ (EndsRightBefore m id k)) → IsPutIn m id (map.insert m id id.number)
  unfolding own
  alone fit none = record {
    laid = own;
    is = own_laid fit;
    joined = none_ends own id (own_disjoint fit) (none_before none);
  }

  -- ranges are as long as possible again, and cover the id too
  abbrev pub IsCoveredBy : Ends → Type 0
  IsCoveredBy o = AreAsLongAsPossible o
      × ((q : OpId) → covers (end_ranges o) q ≡ (covers (end_ranges m) q || is_one_of (id ∷ []) q))

  covered_after : (n o : Ends) (put : IsPutIn m id n) → AreJoined put.laid (λ q. is_beside q id) o → IsCoveredBy o
  covered_after n o put after =
      let joined = joined_for put.laid o (λ q. is_beside q id) (λ q. list_any (is_beside q) (id ∷ []))
      (λ q s e. ap (λ b. b || false) e) after in (
        joined_longest m (id ∷ []) put.laid d all_new put.is o joined,
        joined_covers m (id ∷ []) put.laid d all_new put.is o joined,
      )

  -- the id's range is then joined to the one that begins right behind it
  pub covered_before : (n o : Ends) → IsPutIn m id n → AreJoined n (λ q. eq_by_cmp id_cmp q (next_id id)) o
      → IsCoveredBy o
  covered_before n o put next =
      covered_after n o put
      (joined_twice put.laid n o (λ q. eq_by_cmp id_cmp q id) (λ q. eq_by_cmp id_cmp q (next_id id)) put.joined next)

  -- no number comes behind the id's
  pub covered_last : (n : Ends) → IsPutIn m id n → id.number + 1 ≡ 2 ^ 64 → IsCoveredBy n
  covered_last n put last =
      covered_after n n put
      (none_past put.laid n id (laid_disjoint m (id ∷ []) put.laid d all_new put.is) last put.joined)
