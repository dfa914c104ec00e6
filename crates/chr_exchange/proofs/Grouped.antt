-- The text of items in groups is that of their JSON value.
use Rattle.std.proofs.Common.{◌≡◌, ℕ, ◌≤◌, length, drop, List, [], ◌∷◌, ◌++◌, map, Bool, true, false, cond, ◌==◌}
use Rattle.std.proofs.Common.{Option, Some, None, decimal, refl, sym, ap, ◌∙◌, append_assoc}
use Rattle.std.specs.Prelude.{codes}
use Rattle.std.proofs.lemmas.List.{drop_all}
use Rattle.serde_json.specs.Data.{Data}
use Rattle.serde_json.specs.View.{items_of}
use Rattle.serde_json.specs.Written.{compact_text, items_text}
use Rattle.chr_json.specs.Messages.{before_groups, groups, group_data, grouped_data}
use Rattle.chr_exchange.specs.working.Groups.{opening, closing, grouped_from}

module _ {A : Type 0} (key : A → ℕ) (written : A → Data) where
  abbrev later_groups : List (ℕ × List A) → List ℕ
  later_groups gs = items_text true (items_of (map (group_data written) gs))

  -- the items of a group, and the groups behind it
  abbrev from_items : List A → List (ℕ × List A) → List ℕ
  from_items xs gs = items_text false (items_of (map written xs)) ++ 93 ∷ later_groups gs

  -- what stands behind an item with key k, before these groups
  abbrev behind : ℕ → List (ℕ × List A) → List ℕ
  behind k [] = codes "]]]"
  behind k (g ∷ gs) =
      cond (k == g.0) (items_text true (items_of (map written g.1)) ++ 93 ∷ later_groups gs)
      (93 ∷ 93 ∷ later_groups (g ∷ gs))

  -- a group, from its beginning
  group_text : (k : ℕ) (xs : List A) (gs : List (ℕ × List A)) → compact_text (group_data written (k, xs))
      ++ later_groups gs ≡ 91 ∷ (decimal k ++ (44 ∷ 91 ∷ from_items xs gs))
  group_text k xs gs =
      let inner = items_text false (items_of (map written xs)) in
      ap (λ l. 91 ∷ l) (append_assoc (decimal k) (44 ∷ 91 ∷ (inner ++ 93 ∷ [])) (later_groups gs)
      ∙ ap (λ l. decimal k ++ 44 ∷ 91 ∷ l) (append_assoc inner (93 ∷ []) (later_groups gs)))

  opening_case : (b : Bool) (k : ℕ) (x : A) (xs : List A) (gs : List (ℕ × List A))
      → cond b (codes ",") (codes "]],[" ++ decimal k ++ codes ",[") ++ from_items (x ∷ xs) gs
      ≡ cond b (items_text true (items_of (map written (x ∷ xs))) ++ 93 ∷ later_groups gs)
      (93 ∷ 93 ∷ later_groups ((k, x ∷ xs) ∷ gs))
  opening_case true k x xs gs = refl
  opening_case false k x xs gs =
      ap (λ l. 93 ∷ 93 ∷ 44 ∷ l) (ap (λ l. 91 ∷ l) (append_assoc (decimal k) (44 ∷ 91 ∷ []) (from_items (x ∷ xs) gs))
      ∙ sym (group_text k (x ∷ xs) gs))

  -- the first group from its first item, given what stands behind that
  abbrev first_from : List (ℕ × List A) → List ℕ
  first_from [] = []
  first_from (g ∷ gs) = from_items g.1 gs

  first_case : (b : Bool) (k : ℕ) (x : A) (g : ℕ × List A) (gs : List (ℕ × List A))
      → compact_text (written x) ++ cond b (items_text true (items_of (map written g.1)) ++ 93 ∷ later_groups gs)
      (93 ∷ 93 ∷ later_groups (g ∷ gs))
      ≡ first_from (cond b ((k, x ∷ g.1) ∷ gs) ((k, x ∷ []) ∷ g ∷ gs))
  first_case true k x g gs = sym (append_assoc (compact_text (written x)) (items_text true (items_of (map written g.1)))
      (93 ∷ later_groups gs))
  first_case false k x g gs = sym (append_assoc (compact_text (written x)) (93 ∷ []) (93 ∷ later_groups (g ∷ gs)))

  first_item : (k : ℕ) (x : A) (gs : List (ℕ × List A)) → compact_text (written x) ++ behind k gs
      ≡ first_from (before_groups k x gs)
  first_item k x [] = sym (append_assoc (compact_text (written x)) (93 ∷ []) (codes "]]"))
  first_item k x (g ∷ gs) = first_case (k == g.0) k x g gs

  opened_case : (o : Option ℕ) (b : Bool) (k : ℕ) (x : A) (g : ℕ × List A) (gs : List (ℕ × List A))
      (P : List (ℕ × List A) → Type 0)
      → ((xs : List A) (hs : List (ℕ × List A)) → P ((k, x ∷ xs) ∷ hs))
      → P (cond b ((k, x ∷ g.1) ∷ gs) ((k, x ∷ []) ∷ g ∷ gs))
  opened_case o true k x g gs P h = h g.1 gs
  opened_case o false k x g gs P h = h [] (g ∷ gs)

  -- what holds of groups of which the first begins with the item holds of these groups
  begun : (k : ℕ) (x : A) (gs : List (ℕ × List A)) (P : List (ℕ × List A) → Type 0)
      → ((xs : List A) (hs : List (ℕ × List A)) → P ((k, x ∷ xs) ∷ hs)) → P (before_groups k x gs)
  begun k x [] P h = h [] []
  begun k x (g ∷ gs) P h = opened_case None (k == g.0) k x g gs P h

  opened_behind : (j k : ℕ) (x : A) (gs : List (ℕ × List A)) → opening (Some j) k ++ first_from (before_groups k x gs)
      ≡ behind j (before_groups k x gs)
  opened_behind j k x gs = begun k x gs (λ hs. opening (Some j) k ++ first_from hs ≡ behind j hs)
      (λ xs hs. opening_case (j == k) k x xs hs)

  opened_first : (k : ℕ) (x : A) (gs : List (ℕ × List A)) → opening None k ++ first_from (before_groups k x gs) ≡ 91
      ∷ items_text false (items_of (map (group_data written) (before_groups k x gs)))
  opened_first k x gs = begun k x gs (λ hs. opening None k ++ first_from hs ≡ 91
      ∷ items_text false (items_of (map (group_data written) hs)))
      (λ xs hs. ap (λ l. 91 ∷ 91 ∷ l) (append_assoc (decimal k) (44 ∷ 91 ∷ []) (from_items (x ∷ xs) hs))
      ∙ ap (λ l. 91 ∷ l) (sym (group_text k (x ∷ xs) hs)))

  abbrev text : A → List ℕ
  text x = compact_text (written x)

  from_behind : (j : ℕ) (xs : List A) → grouped_from key text (Some j) xs ≡ behind j (groups key xs)
  from_behind j [] = refl
  from_behind j (x ∷ xs) =
      ap (λ l. opening (Some j) (key x) ++ (text x ++ l)) (from_behind (key x) xs)
      ∙ ap (λ l. opening (Some j) (key x) ++ l) (first_item (key x) x (groups key xs))
      ∙ opened_behind j (key x) x (groups key xs)

  pub grouped : (xs : List A) → grouped_from key (λ x. compact_text (written x)) None xs
      ≡ compact_text (grouped_data key written xs)
  grouped [] = refl
  grouped (x ∷ xs) =
      ap (λ l. opening None (key x) ++ (text x ++ l)) (from_behind (key x) xs)
      ∙ ap (λ l. opening None (key x) ++ l) (first_item (key x) x (groups key xs))
      ∙ opened_first (key x) x (groups key xs)

  -- a text that has all items ends as it is to
  pub grouped_whole : (xs : List A) (i : ℕ) (last : Option ℕ) (old out new : List ℕ) → length xs ≤ i
      → out ++ grouped_from key (λ x. compact_text (written x)) last (drop i xs) ≡ old
      ++ grouped_from key (λ x. compact_text (written x)) None xs → new ≡ out ++ closing last
      → new ≡ old ++ compact_text (grouped_data key written xs)
  grouped_whole xs i last old out new past so_far ended =
      ended ∙ ap (λ l. out ++ grouped_from key (λ x. compact_text (written x)) last l) (sym (drop_all i xs past))
      ∙ so_far ∙ ap (λ l. old ++ l) (grouped xs)

-- the text of items is that of what they are seen as
seen : {A B : Type 0} (key : B → ℕ) (text : B → List ℕ) (view : A → B) (last : Option ℕ) (xs : List A)
    → grouped_from (λ x. key (view x)) (λ x. text (view x)) last xs ≡ grouped_from key text last (map view xs)
seen key text view last [] = refl
seen key text view last (x ∷ xs) = ap (λ l. opening last (key (view x)) ++ (text (view x) ++ l))
    (seen key text view (Some (key (view x))) xs)

pub mapped_whole : {A B : Type 0} (key : B → ℕ) (written : B → Data) (view : A → B) (xs : List A) (i : ℕ)
    (last : Option ℕ) (old out new : List ℕ) → length xs ≤ i
    → out ++ grouped_from (λ x. key (view x)) (λ x. compact_text (written (view x))) last (drop i xs) ≡ old
    ++ grouped_from (λ x. key (view x)) (λ x. compact_text (written (view x))) None xs
    → new ≡ out ++ closing last → new ≡ old ++ compact_text (grouped_data key written (map view xs))
mapped_whole key written view xs i last old out new past so_far ended =
    ended ∙ ap (λ l. out ++ grouped_from (λ x. key (view x)) (λ x. compact_text (written (view x))) last l)
    (sym (drop_all i xs past)) ∙ so_far
    ∙ ap (λ l. old ++ l) (seen key (λ y. compact_text (written y)) view None xs ∙ grouped key written (map view xs))
