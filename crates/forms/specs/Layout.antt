-- A layout: rows of leads by the number of trailing units, and the digits that trailing units carry. Document 01, "Byte layouts".
use Rattle.std.specs.Prelude.{ℕ, zero, suc, ◌+◌, ◌-◌, ◌*◌, ◌/◌, ◌%◌, ◌^◌, Bool, cond, ◌&&◌, List, [], ◌∷◌, map, length, get_or, leb, ltb}
use Rattle.std.proofs.Math.Option.{Option}
use Rattle.types.specs.declared.Fault.{Fault}
use Rattle.forms.specs.Form.{Role, lead, trailing, invalid, Sequence, sequence, Form}

-- the leads of one length, and the value of the first of them with digits of 0
pub record Row : Type 0 where
  pub first : ℕ
  pub last : ℕ
  pub origin : ℕ

abbrev pub row : ℕ → ℕ → ℕ → Row
row a b o = record { first = a; last = b; origin = o }

-- row k has the leads of k trailing units; the trailing units run from `low`, one for each digit below the radix
pub record Layout : Type 0 where
  pub rows : List Row
  pub low : ℕ
  pub radix : ℕ
  pub excluded : ℕ → Option Fault

abbrev pub within : ℕ → ℕ → ℕ → Bool
within a b u = leb a u && leb u b

abbrev pub or_lead : Role → Bool → ℕ → Role
or_lead (lead j) here k = lead j
or_lead trailing here k = trailing
or_lead invalid here k = cond here (lead k) invalid

-- the last row that has the unit: UTF-16's high units are not among those that stand alone
abbrev pub lead_in : List Row → ℕ → ℕ → Role
lead_in [] k u = invalid
lead_in (r ∷ rs) k u = or_lead (lead_in rs (suc k) u) (within r.first r.last u) k

abbrev pub role_of : Layout → ℕ → Role
role_of L u = cond (leb L.low u && ltb u (L.low + L.radix)) trailing (lead_in L.rows 0 u)

abbrev pub row_at : Layout → ℕ → Row
row_at L k = get_or L.rows k (row 0 0 0)

-- "The value is its free bits joined, first byte highest."
abbrev pub number : ℕ → ℕ → List ℕ → ℕ
number low R [] = 0
number low R (x ∷ xs) = (x - low) * R ^ length xs + number low R xs

abbrev pub value_of : Layout → Sequence → ℕ
value_of L c =
    let r = row_at L (length c.rest) in
    r.origin + ((c.first - r.first) * L.radix ^ length c.rest + number L.low L.radix c.rest)

-- the values of a row of k trailing units are below it
abbrev pub limit_of : ℕ → Row → ℕ → ℕ
limit_of R r k = r.origin + (r.last + 1 - r.first) * R ^ k

abbrev pub row_limit : Layout → ℕ → ℕ
row_limit L k = limit_of L.radix (row_at L k) k

-- the lowest value of k trailing units: all below fit an earlier row
abbrev pub lowest_of : Layout → ℕ → ℕ
lowest_of L zero = 0
lowest_of L (suc k) = row_limit L k

abbrev pub digits : ℕ → ℕ → ℕ → ℕ → List ℕ
digits low R zero v = []
digits low R (suc k) v = (low + v / R ^ k) ∷ digits low R k (v % R ^ k)

-- the sequence of k trailing units with the value v
abbrev pub spelled : Layout → Row → ℕ → ℕ → List ℕ
spelled L r k v =
    (r.first + (v - r.origin) / L.radix ^ k) ∷ digits L.low L.radix k ((v - r.origin) % L.radix ^ k)

-- "Only the shortest sequence is legal": by the first row that the value fits
abbrev pub shortest_in : Layout → List Row → ℕ → ℕ → List ℕ
shortest_in L [] k v = []
shortest_in L (r ∷ rs) k v = cond (ltb v (limit_of L.radix r k)) (spelled L r k v) (shortest_in L rs (suc k) v)

abbrev pub form_of : Layout → Form
form_of L =
    record {
      role = role_of L;
      value = value_of L;
      shortest = shortest_in L L.rows 0;
      excluded = L.excluded;
      longest = length L.rows;
    }

-- a form whose code units are another's, exchanged
abbrev pub exchanged : (ℕ → ℕ) → (ℕ → ℕ) → Form → Form
exchanged to from F =
    record {
      role = λ u. F.role (to u);
      value = λ c. F.value (sequence (to c.first) (map to c.rest));
      shortest = λ v. map from (F.shortest v);
      excluded = F.excluded;
      longest = F.longest;
    }
