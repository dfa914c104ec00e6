-- The text of an array of items, each of which is seen as another.
use Rattle.std.proofs.Common.{◌≡◌, ℕ, List, [], ◌∷◌, ◌++◌, map, flat_map, true, refl, sym, ap, ◌∙◌, append_assoc}
use Rattle.std.specs.Prelude.{codes}
use Rattle.serde_json.specs.Data.{Data, array}
use Rattle.serde_json.specs.View.{items_of}
use Rattle.serde_json.specs.Written.{compact_text, items_text}

module _ {A B : Type 0} (written : B → Data) (view : A → B) where
  more_listed : (xs : List A) → flat_map (λ x. 44 ∷ compact_text (written (view x))) xs ++ 93 ∷ []
      ≡ items_text true (items_of (map written (map view xs)))
  more_listed [] = refl
  more_listed (x ∷ xs) =
      ap (λ l. 44 ∷ l)
      (append_assoc (compact_text (written (view x))) (flat_map (λ x. 44 ∷ compact_text (written (view x))) xs)
      (93 ∷ []) ∙ ap (λ l. compact_text (written (view x)) ++ l) (more_listed xs))

  -- items, from the text before them
  pub listed_pushed : (x : A) (all xs : List A) (old bracket first more new : List ℕ)
      → all ≡ x ∷ xs → bracket ≡ old ++ codes "[" → first ≡ bracket ++ compact_text (written (view x)) → more ≡ first
      ++ flat_map (λ x. 44 ∷ compact_text (written (view x))) xs → new ≡ more ++ codes "]"
      → new ≡ old ++ compact_text (array (items_of (map written (map view all))))
  listed_pushed x all xs old bracket first more new e h1 h2 h3 h4 =
      let this = compact_text (written (view x)) in
      let rest = flat_map (λ x. 44 ∷ compact_text (written (view x))) xs in
      let whole : new ≡ old ++ (codes "[" ++ (this ++ (rest ++ codes "]"))) = rw (h4, h3, h2, h1) (simp append_assoc) in
      whole ∙ ap (λ l. old ++ (91 ∷ (this ++ l))) (more_listed xs)
      ∙ ap (λ l. old ++ compact_text (array (items_of (map written (map view l))))) (sym e)
