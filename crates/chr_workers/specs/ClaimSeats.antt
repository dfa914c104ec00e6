-- Claims and their seats, as callers see them.
use Rattle.std.specs.Prelude.{◌≡◌, ℕ, ◌<◌, ◌≤◌, Bool, true, false, List, [], ◌∷◌, ◌++◌, refl, sum_by}
use Rattle.std.specs.Coded.{Coded, code_by, coded×, coded_ℕ, coded_bool, coded_list}
use Rattle.atomic_table.specs.Seated.{TableId, table_id_coded}
use Rattle.chr_workers.specs.Claiming.{times}

-- which claims they are, and with how many parts and seats they were opened
pub record Opened : Type 0 where
  pub name : TableId
  pub parts : ℕ
  pub seats : ℕ

-- one seat of these claims: the numbers that it drew, in their order, and whether it was told None
pub record Drawn : Type 0 where
  pub name : TableId
  pub parts : ℕ
  pub numbers : List ℕ
  pub spent : Bool

abbrev pub opened_code : Coded Opened
opened_code = code_by (TableId × (ℕ × ℕ)) (coded× table_id_coded (coded× coded_ℕ coded_ℕ))
    (λ o. (o.name, (o.parts, o.seats))) (λ p. record { name = p.0; parts = p.1.0; seats = p.1.1 }) (λ _. refl)

abbrev pub drawn_code : Coded Drawn
drawn_code = code_by (TableId × (ℕ × (List ℕ × Bool)))
    (coded× table_id_coded (coded× coded_ℕ (coded× (coded_list coded_ℕ) coded_bool)))
    (λ o. (o.name, (o.parts, (o.numbers, o.spent))))
    (λ p. record { name = p.0; parts = p.1.0; numbers = p.1.1.0; spent = p.1.1.1 }) (λ _. refl)

-- the seat is one of these claims
abbrev pub IsOf : Opened → Drawn → Type 0
IsOf claims seat = (seat.name ≡ claims.name) × (seat.parts ≡ claims.parts)

-- a seat that has drawn nothing yet
abbrev pub IsFresh : Opened → Drawn → Type 0
IsFresh claims seat = IsOf claims seat × (seat.numbers ≡ []) × (seat.spent ≡ false)

-- the seat draws a number of a part
abbrev pub DrawsPart : Opened → Drawn → Drawn → ℕ → Type 0
DrawsPart claims old new n = (n < claims.parts) × (new.numbers ≡ old.numbers ++ n ∷ []) × (new.spent ≡ false)

-- the seat draws a number past all parts, and is spent
abbrev pub DrawsPast : Opened → Drawn → Drawn → Type 0
DrawsPast claims old new = (new.spent ≡ true) × (n : ℕ) × (claims.parts ≤ n) × (new.numbers ≡ old.numbers ++ n ∷ [])

-- how often the seats drew the number x
abbrev pub times_drawn : ℕ → List Drawn → ℕ
times_drawn x seats = sum_by (λ s. times x s.numbers) seats
