-- Names are text, and what is no text is not declared.
use Rattle.std.proofs.Common.{◌≡◌, ℕ, List, [], ◌∷◌, Bool, true, false, ◌&&◌, nat_le, nat_eq, None, length, position}
use Rattle.std.proofs.Common.{refl, sym, ◌∙◌, subst}
use Rattle.std.proofs.lemmas.Bool.{false≢true, and_parts, or_from}
use Rattle.std.proofs.lemmas.Slice.Eq.{bytes_eq-Decides}
use Rattle.std.proofs.lemmas.Str.{IsUtf8-from_is_utf8, is_utf8-from_IsUtf8}
use Rattle.std.specs.List.{list_any, list_all}
use Rattle.std.specs.Str.{IsUtf8, is_utf8, bytes_eq}
use Rattle.chr_base.specs.declared.limits.TheConstants.{MAX_RULES, MAX_SYMBOLS}
use Rattle.chr_base.specs.declared.program.Program.{Program}
use Rattle.chr_base.specs.Names.{is_name}
use Rattle.chr_base.specs.Programs.{declarations, rules_of}
use Rattle.chr_base.specs.ProgramTests.{Declaration, declares, is_in_range, are_distinct, fits}
use Rattle.chr_read.proofs.DeclarationsBack.{in_range, name_is_word}
use Rattle.chr_read.proofs.NamesText.{name_text}
use Rattle.chr_read.proofs.Positions.{no_position}

pub text_is : (w : List ℕ) → IsUtf8 w → is_utf8 w ≡ true
text_is w h = is_utf8-from_IsUtf8 w h

pub no_text_is : (w : List ℕ) → ¬ (IsUtf8 w) → is_utf8 w ≡ false
no_text_is w h = by (is_utf8 w) (IsUtf8-from_is_utf8 w)
  where
    by : (b : Bool) → (b ≡ true → IsUtf8 w) → b ≡ false
    by true f = absurd (h (f refl))
    by false f = refl

pub name_is_text : (w : List ℕ) → is_name w ≡ true → is_utf8 w ≡ true
name_is_text w h = name_text w (name_is_word w h)

none_declares : (w : List ℕ) (n : ℕ) (ds : List Declaration) → is_utf8 w ≡ false → list_all is_in_range ds ≡ true
    → list_any (declares w n) ds ≡ false
none_declares w n [] bad h = refl
none_declares w n (d ∷ ds) bad h =
    let e = and_parts (is_in_range d) (list_all is_in_range ds) h in
    or_from (declares w n d) _ (by (declares w n d) refl (name_is_text d.name (in_range d e.0).name))
    (none_declares w n ds bad e.1)
  where
    by : (b : Bool) → declares w n d ≡ b → is_utf8 d.name ≡ true → b ≡ false
    by false is text = refl
    by true is text =
        let same = (bytes_eq-Decides w d.name).0 (and_parts (bytes_eq w d.name) (nat_eq n d.arity) is).0 in
        absurd (false≢true (sym bad ∙ subst (λ v. is_utf8 v ≡ true) (sym same) text))

pub no_text_is_declared : (p : Program) (w : List ℕ) (n : ℕ) → is_utf8 w ≡ false
    → position (declares w n) (declarations p) ≡ None
no_text_is_declared p w n bad =
    let ds = declarations p in let rs = rules_of p in
    let a = and_parts (nat_le (length ds) MAX_SYMBOLS && nat_le (length rs) MAX_RULES && list_all is_in_range ds
    && are_distinct ds) (list_all (fits ds) rs) p.well_formed in
    let b = and_parts (nat_le (length ds) MAX_SYMBOLS && nat_le (length rs) MAX_RULES && list_all is_in_range ds)
    (are_distinct ds) a.0 in
    no_position (declares w n) ds (none_declares w n ds bad
    (and_parts (nat_le (length ds) MAX_SYMBOLS && nat_le (length rs) MAX_RULES) (list_all is_in_range ds) b.0).1)
