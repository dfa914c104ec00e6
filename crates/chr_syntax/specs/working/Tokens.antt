-- The tokens of a clause as they are found, each the longest that fits, and the bytes before its full stop.
use Rattle.std.specs.Prelude.{ℕ, zero, suc, not, ◌+◌, ◌-◌, List, [], ◌∷◌, take, ◌==◌, ◌||◌, nat_lt, nat_eq}
use Rattle.std.specs.Prelude.{if◌then◌else◌, Option, Some, None, option_map, codes}
use Rattle.std.specs.List.{prefix_len, starts_with}
use Rattle.chr_syntax.specs.declared.clause.Comparator.TheVariants as c
use Rattle.chr_syntax.specs.declared.token.Sign.TheVariants as s
use Rattle.chr_syntax.specs.Bytes.{is_layout, is_stop}
use Rattle.chr_base.specs.Names.{is_digit, is_lower, is_upper, is_word_byte}
use Rattle.chr_syntax.specs.Tokens.{Tok, name, variable, number, compare, sign}

abbrev pub word_len : List ℕ → ℕ
word_len bs = prefix_len is_word_byte bs

-- how long the number at the front is: digits, or a minus sign (45) and digits right after it; 0 where there is none
abbrev pub number_len : List ℕ → ℕ
number_len [] = 0
number_len (b ∷ bs) =
    if b == 45 then (if prefix_len is_digit bs == 0 then 0 else 1 + prefix_len is_digit bs)
    else prefix_len is_digit (b ∷ bs)

-- the signs of three bytes, of two and of one: comparators among them
abbrev pub long_sign : List ℕ → Option Tok
long_sign bs =
    if starts_with nat_eq bs (codes "<=>") then Some (sign s.Simplify)
    else (if starts_with nat_eq bs (codes "==>") then Some (sign s.Propagate)
    else (if starts_with nat_eq bs (codes "=:=") then Some (compare c.Equal)
    else (if starts_with nat_eq bs (codes "=\\=") || starts_with nat_eq bs (codes "\\==") then Some (compare c.NotEqual)
    else None)))

abbrev pub middle_sign : List ℕ → Option Tok
middle_sign bs =
    if starts_with nat_eq bs (codes "==") then Some (compare c.Equal)
    else (if starts_with nat_eq bs (codes "=<") then Some (compare c.AtMost)
    else (if starts_with nat_eq bs (codes ">=") then Some (compare c.AtLeast)
    else (if starts_with nat_eq bs (codes ":-") then Some (sign s.Directive) else None)))

-- by the codes of `<` `>` `=` `@` `\` `|` `,` `(` `)` `/`
abbrev pub short_sign : ℕ → Option Tok
short_sign b =
    if b == 60 then Some (compare c.Less)
    else (if b == 62 then Some (compare c.Greater)
    else (if b == 61 then Some (sign s.Equals)
    else (if b == 64 then Some (sign s.At)
    else (if b == 92 then Some (sign s.Backslash)
    else (if b == 124 then Some (sign s.Bar)
    else (if b == 44 then Some (sign s.Comma)
    else (if b == 40 then Some (sign s.Open)
    else (if b == 41 then Some (sign s.Close)
    else (if b == 47 then Some (sign s.Slash) else None)))))))))

-- the first that there is
abbrev pub or_else : {A : Type 0} → Option A → Option A → Option A
or_else (Some x) more = Some x
or_else None more = more

abbrev pub of_len : ℕ → Option Tok → Option (Tok × ℕ)
of_len n t = option_map (λ x. (x, n)) t

-- the longest sign at the front, and how many bytes it takes
abbrev pub sign_at : List ℕ → Option (Tok × ℕ)
sign_at [] = None
sign_at (b ∷ bs) =
    or_else (of_len 3 (long_sign (b ∷ bs))) (or_else (of_len 2 (middle_sign (b ∷ bs))) (of_len 1 (short_sign b)))

-- a token of the first n bytes, and n
abbrev pub of_first : (List ℕ → Tok) → ℕ → List ℕ → Option (Tok × ℕ)
of_first kind n bs = Some (kind (take n bs), n)

-- the longest token at the front, and how many bytes it takes
abbrev pub token_at : List ℕ → Option (Tok × ℕ)
token_at [] = None
token_at (b ∷ bs) =
    if is_lower b then of_first name (word_len (b ∷ bs)) (b ∷ bs)
    else (if is_upper b || (b == 95) then of_first variable (word_len (b ∷ bs)) (b ∷ bs)
    else (if nat_lt 0 (number_len (b ∷ bs)) then of_first number (number_len (b ∷ bs)) (b ∷ bs)
    else sign_at (b ∷ bs)))

abbrev pub with_token : Option (Tok × ℕ) → (ℕ → Option (List Tok)) → Option (List Tok)
with_token None more = None
with_token (Some p) more = option_map (λ ts. p.0 ∷ ts) (more (p.1 - 1))

-- the tokens after the first `skip` bytes
unfoldable pub tokens_after : ℕ → List ℕ → Option (List Tok)
tokens_after skip [] = Some []
tokens_after (suc skip) (b ∷ bs) = tokens_after skip bs
tokens_after zero (b ∷ bs) =
    if is_layout b then tokens_after 0 bs else with_token (token_at (b ∷ bs)) (λ skip. tokens_after skip bs)

-- the tokens of the bytes, if they are layout and tokens
abbrev pub tokens_of : List ℕ → Option (List Tok)
tokens_of bs = tokens_after 0 bs

-- how many bytes stand before the first full stop
abbrev pub clause_len : List ℕ → ℕ
clause_len text = prefix_len (λ b. not (is_stop b)) text
