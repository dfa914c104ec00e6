-- What is held of a line that has not ended, and the answers of the lines that it stands for.
use Rattle.std.proofs.Common.{◌≡◌, ℕ, suc, ◌+◌, ◌-◌, ◌<◌, ◌⊎◌, Bool, true, false, List, [], ◌∷◌, ◌++◌, length, take}
use Rattle.std.proofs.Common.{drop, refl, sym, ap, ◌∙◌, arith, append_assoc, append-nil, length-append, subst, inl, inr}
use Rattle.std.specs.Prelude.{◌==◌, ◌&&◌, ◌||◌, nat_eq, slice_index_or, slice_set, ◌≤◌, if◌then◌else◌, Err}
use Rattle.std.specs.Cmp.Lexicographic.{pointwise}
use Rattle.std.proofs.lemmas.Bool.{lt-leb}
use Rattle.std.proofs.lemmas.List.{get_or-drop, length-drop, length-take-le, take-append-drop, take_all, take_more}
use Rattle.std.proofs.lemmas.List.{take_more_set}
use Rattle.std.proofs.lemmas.List.Folds.{list_all-append}
use Rattle.chr_json.specs.declared.fault.LineFault.TheVariants as fault
use Rattle.chr_json.specs.declared.limits.TheConstants.{MAX_LINE}
use Rattle.chr_json.specs.Lines.{is_blank_line, has_line_length}
use Rattle.chr_json.specs.Reads.{line_said, value_said}
use Rattle.chr_json.specs.Values.{json_in}
use Rattle.chr_answers.specs.Lines.{without_return}
use Rattle.chr_answers.specs.Lines.{HasNoFeed}
use Rattle.chr_answers.specs.Shortened.{AreAlike, StandsFor}
use Rattle.chr_answers.proofs.Feeds.{none_in_both}

-- ---- what stands for what

pub stands_itself : (line : List ℕ) → StandsFor line line
stands_itself line rest = (refl, refl)

pub stands_after : (a b c : List ℕ) → StandsFor a b → StandsFor b c → StandsFor a c
stands_after a b c f g rest = ((f rest).0 ∙ (g rest).0, (f rest).1 ∙ (g rest).1)

pub stands_more : (cut whole more : List ℕ) → StandsFor cut whole → StandsFor (cut ++ more) (whole ++ more)
stands_more cut whole more f rest =
    subst (λ a. AreAlike (without_return a) (without_return ((whole ++ more) ++ rest)))
    (sym (append_assoc cut more rest))
    (subst (λ b. AreAlike (without_return (cut ++ (more ++ rest))) (without_return b))
    (sym (append_assoc whole more rest)) (f (more ++ rest)))

-- what stands for a line is answered like it where the line ends here
pub stands_now : (cut whole : List ℕ) → StandsFor cut whole → AreAlike (without_return cut) (without_return whole)
stands_now cut whole f =
    subst (λ a. AreAlike (without_return a) (without_return whole)) (append-nil cut)
    (subst (λ b. AreAlike (without_return (cut ++ [])) (without_return b)) (append-nil whole) (f []))

-- ---- a cut

if_cons : (b : Bool) (x : ℕ) (u v : List ℕ) → (if b then x ∷ u else x ∷ v) ≡ x ∷ (if b then u else v)
if_cons true x u v = refl
if_cons false x u v = refl

-- a carriage return before another byte is not dropped
return_next : (x y : ℕ) (ys : List ℕ) → without_return (x ∷ y ∷ ys) ≡ x ∷ without_return (y ∷ ys)
return_next x y ys =
    let one : length (x ∷ y ∷ ys) - 1 ≡ suc (length ys) = omega arith in
    let two : length (y ∷ ys) - 1 ≡ length ys = omega arith in
    ap (λ n. if pointwise nat_eq (13 ∷ []) (drop n (x ∷ y ∷ ys)) then take n (x ∷ y ∷ ys) else (x ∷ y ∷ ys)) one
    ∙ if_cons (pointwise nat_eq (13 ∷ []) (drop (length ys) (y ∷ ys))) x (take (length ys) (y ∷ ys)) (y ∷ ys)
    ∙ ap (λ n. x ∷ (if pointwise nat_eq (13 ∷ []) (drop n (y ∷ ys)) then take n (y ∷ ys) else (y ∷ ys))) (sym two)

return_later : (a : List ℕ) (b : ℕ) (c : List ℕ) → without_return (a ++ b ∷ c) ≡ a ++ without_return (b ∷ c)
return_later [] b c = refl
return_later (x ∷ []) b c = return_next x b c
return_later (x ∷ y ∷ ys) b c = return_next x y (ys ++ b ∷ c) ∙ ap (λ l. x ∷ l) (return_later (y ∷ ys) b c)

blank_after : (a : List ℕ) (b : ℕ) (c : List ℕ) → is_blank_line (without_return (a ++ b ∷ c))
    ≡ (is_blank_line a && is_blank_line (without_return (b ∷ c)))
blank_after a b c = ap is_blank_line (return_later a b c) ∙ list_all-append (λ b. b == 32 || b == 9) a
    (without_return (b ∷ c))

too_long : (a b : List ℕ) → MAX_LINE < length a → has_line_length (a ++ b) ≡ false
too_long a b l = lt-leb (length (a ++ b)) MAX_LINE (simp length-append (omega (arith, l)))

long_after : (a : List ℕ) (b : ℕ) (c : List ℕ) → MAX_LINE < length a → line_said (without_return (a ++ b ∷ c))
    ≡ Err fault.BadLine
long_after a b c l =
    ap line_said (return_later a b c)
    ∙ ap (λ h. if h then value_said (json_in (a ++ without_return (b ∷ c))) else Err fault.BadLine)
    (too_long a (without_return (b ∷ c)) l)

not_blank : (c : List ℕ) → is_blank_line (without_return (120 ∷ c)) ≡ false
not_blank [] = refl
not_blank (d ∷ ds) = ap is_blank_line (return_next 120 d ds)

blank_both : (h m k l : Bool) → (m ≡ true → k ≡ l) → (m ≡ false → k ≡ false) → (h && k) ≡ ((h && m) && l)
blank_both true true k l f g = f refl
blank_both true false k l f g = g refl
blank_both false m k l f g = refl

-- After more bytes than a line may have, the bytes `mid` before the last one may be left out. Where these are not all
-- blank, one byte that is not blank stands for them and the last one.
pub cut_stands : (head mid : List ℕ) (last kept : ℕ) → MAX_LINE < length head → (is_blank_line mid ≡ true → kept ≡ last)
    → (is_blank_line mid ≡ false → kept ≡ 120)
    → StandsFor (head ++ kept ∷ []) (head ++ (mid ++ last ∷ []))
cut_stands head mid last kept long same marked rest =
    let cut : (head ++ kept ∷ []) ++ rest ≡ head ++ kept ∷ rest = append_assoc head (kept ∷ []) rest in
    let whole : (head ++ (mid ++ last ∷ [])) ++ rest ≡ (head ++ mid) ++ last ∷ rest =
    append_assoc head (mid ++ last ∷ []) rest ∙ ap (λ l. head ++ l) (append_assoc mid (last ∷ []) rest)
    ∙ sym (append_assoc head mid (last ∷ rest)) in
    let both : MAX_LINE < length (head ++ mid) = simp length-append (omega (arith, long)) in
    let blank = blank_both (is_blank_line head) (is_blank_line mid) (is_blank_line (without_return (kept ∷ rest)))
    (is_blank_line (without_return (last ∷ rest)))
    (λ e. ap (λ k. is_blank_line (without_return (k ∷ rest))) (same e))
    (λ e. ap (λ k. is_blank_line (without_return (k ∷ rest))) (marked e) ∙ not_blank rest) in (
      ap (λ l. is_blank_line (without_return l)) cut ∙ blank_after head kept rest ∙ blank
          ∙ ap (λ b. b && is_blank_line (without_return (last ∷ rest)))
          (sym (list_all-append (λ b. b == 32 || b == 9) head mid))
          ∙ sym (blank_after (head ++ mid) last rest) ∙ sym (ap (λ l. is_blank_line (without_return l)) whole),
      ap (λ l. line_said (without_return l)) cut ∙ long_after head kept rest long
          ∙ sym (long_after (head ++ mid) last rest both) ∙ sym (ap (λ l. line_said (without_return l)) whole),
    )

abbrev pub between : List ℕ → ℕ → List ℕ
between line n = take (length line - 1 - n) (drop n line)

abbrev pub last_of : List ℕ → ℕ
last_of line = slice_index_or line (length line - 1) 0

-- a line is its first n bytes, those between, and the last one
line_parts : (line : List ℕ) (n : ℕ) → n + 1 < length line → line ≡ take n line ++ (between line n ++ last_of line ∷ [])
line_parts line n l =
    let k = length line - 1 - n in
    let rest = drop n line in
    let len = length-drop n line in
    let within : k < length rest = omega (arith, l, len) in
    let all : length rest ≤ k + 1 = omega (arith, l, len) in
    let place : n + k ≡ length line - 1 = omega (arith, l) in
    sym (take-append-drop n line)
    ∙ ap (λ r. take n line ++ r) (sym (take_all (k + 1) rest all) ∙ take_more rest k 0 within
    ∙ ap (λ b. take k rest ++ b ∷ []) (get_or-drop n line k 0 ∙ ap (λ i. slice_index_or line i 0) place))

pub shortened : (line : List ℕ) (n kept : ℕ) → MAX_LINE < n → n + 1 < length line
    → (is_blank_line (between line n) ≡ true → kept ≡ last_of line)
    → (is_blank_line (between line n) ≡ false → kept ≡ 120)
    → StandsFor (take (n + 1) (slice_set line n kept)) line
shortened line n kept long l same marked =
    let len : length (take n line) ≡ n = length-take-le n line (omega (arith, l)) in
    subst (λ cut. StandsFor cut line) (sym (take_more_set line n kept (omega (arith, l))))
    (subst (StandsFor (take n line ++ kept ∷ [])) (sym (line_parts line n l))
    (cut_stands (take n line) (between line n) (last_of line) kept (omega (arith, long, len)) same marked))

-- ---- a cut line has no line feed

pub none_in_second : (l m : List ℕ) → HasNoFeed (l ++ m) → HasNoFeed m
none_in_second [] m h = h
none_in_second (b ∷ bs) m h = none_in_second bs m h.1

none_in_first : (l m : List ℕ) → HasNoFeed (l ++ m) → HasNoFeed l
none_in_first [] m h = tt
none_in_first (b ∷ bs) m h = (h.0, none_in_first bs m h.1)

pub shortened_none : (line : List ℕ) (n kept : ℕ) → n + 1 < length line → HasNoFeed line → (kept ≡ last_of line)
    ⊎ (kept ≡ 120) → HasNoFeed (take (n + 1) (slice_set line n kept))
shortened_none line n kept l h which =
    let parts : HasNoFeed (take n line ++ (between line n ++ last_of line ∷ [])) =
    subst HasNoFeed (line_parts line n l) h in
    let last = none_in_second (between line n) (last_of line ∷ [])
    (none_in_second (take n line) (between line n ++ last_of line ∷ []) parts) in
    subst HasNoFeed (sym (take_more_set line n kept (omega (arith, l))))
    (none_in_both (take n line) (kept ∷ []) (none_in_first (take n line) (between line n ++ last_of line ∷ []) parts)
    (by which last.0, tt))
  where
    by : (kept ≡ last_of line) ⊎ (kept ≡ 120) → (last_of line == 10) ≡ false → (kept == 10) ≡ false
    by (inl e) f = ap (λ b. b == 10) e ∙ f
    by (inr e) f = ap (λ b. b == 10) e
