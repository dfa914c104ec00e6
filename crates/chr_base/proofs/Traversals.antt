-- Going over a list, one element after another.
use Rattle.std.proofs.Common.{◌≡◌, ℕ, suc, ◌+◌, ◌<◌, List, [], ◌∷◌, ◌++◌, length, map, drop, get_or, Option, Some, None}
use Rattle.std.proofs.Common.{option_map, option_and_then, refl, sym, ap, subst, ◌∙◌, append_assoc}
use Rattle.std.proofs.lemmas.List.{drop_more}
use Rattle.chr_base.specs.Traversals.{each}

-- what was found so far, before what is still found
abbrev pub front : {B : Type 0} → List B → Option (List B) → Option (List B)
front ys o = option_map (λ zs. ys ++ zs) o

pub front_nil : {B : Type 0} (o : Option (List B)) → front [] o ≡ o
front_nil None = refl
front_nil (Some x) = refl

pub front_push : {B : Type 0} (ys : List B) (y : B) (o : Option (List B)) → front ys (option_map (λ zs. y ∷ zs) o)
    ≡ front (ys ++ y ∷ []) o
front_push ys y None = refl
front_push ys y (Some zs) = ap Some (sym (append_assoc ys (y ∷ []) zs))

-- the k-th element is read, whatever the default
pub front_at : {A B C : Type 0} (f : B → Option C) (v : A → B) (xs : List A) (k : ℕ) (d : A) (y : C) (ys : List C)
    → k < length xs → f (v (get_or xs k d)) ≡ Some y
    → front ys (each f (map v (drop k xs))) ≡ front (ys ++ y ∷ []) (each f (map v (drop (k + 1) xs)))
front_at f v xs k d y ys within read =
    ap (λ l. front ys (each f (map v l))) (drop_more xs k d within)
    ∙ ap (λ o. front ys (option_and_then (λ y. option_map (λ zs. y ∷ zs) (each f (map v (drop (k + 1) xs)))) o)) read
    ∙ front_push ys y (each f (map v (drop (k + 1) xs)))

-- the k-th element is read, where x is its name
pub front_step : {A B C : Type 0} (f : B → Option C) (v : A → B) (xs : List A) (k : ℕ) (x : A) (y : C) (ys : List C)
    → k < length xs → x ≡ get_or xs k x → f (v x) ≡ Some y
    → front ys (each f (map v (drop k xs))) ≡ front (ys ++ y ∷ []) (each f (map v (drop (k + 1) xs)))
front_step f v xs k x y ys within is_x read = front_at f v xs k x y ys within (subst (λ z. f (v z) ≡ Some y) is_x read)

-- as many values are read as the list has elements
pub length-each : {A B : Type 0} (f : A → Option B) (xs : List A) (ys : List B) → each f xs ≡ Some ys → length ys
    ≡ length xs
length-each f [] ys h = ap length (let e : ys ≡ [] = cc in e)
length-each f (x ∷ xs) ys h = by (f x) refl (each f xs) refl h (length-each f xs)
  where
    by : (o : Option _) → f x ≡ o → (p : Option (List _)) → each f xs ≡ p
        → option_and_then (λ y. option_map (λ zs. y ∷ zs) p) o ≡ Some ys
        → ((zs : List _) → each f xs ≡ Some zs → length zs ≡ length xs) → length ys ≡ suc (length xs)
    by None q p r h more = absurd (let e : ◌≡◌ {A = Option (List _)} None (Some ys) = h in cc)
    by (Some y) q None r h more = absurd (let e : ◌≡◌ {A = Option (List _)} None (Some ys) = h in cc)
    by (Some y) q (Some zs) r h more = let e : y ∷ zs ≡ ys = cc in ap length (sym e) ∙ ap suc (more zs r)
