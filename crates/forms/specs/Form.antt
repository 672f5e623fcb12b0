-- A form of text, and how a text in it falls into items: document 01, "Items". A text is the list of its code units.
use Rattle.std.specs.Prelude.{ℕ, zero, suc, ◌+◌, ◌≡◌, ◌≢◌, Bool, true, false, cond, List, [], ◌∷◌, ◌++◌, length, drop, ltb, eqb}
use Rattle.std.proofs.Math.Option.{Option, none, some}
use Rattle.types.specs.declared.Fault.{Fault}
use Rattle.types.specs.declared.Fault.TheVariants.{MissingTrailing, StrayTrailing, InvalidUnit, Overlong}
use Rattle.types.specs.declared.Span.{Span}
use Rattle.types.specs.declared.Item.{Item}
use Rattle.types.specs.declared.Item.TheVariants.{Character, Mark}

-- what a code unit does: it leads so many trailing units (none: it stands alone), it trails, or it does neither
pub data Role : Type 0 where
  lead : ℕ → Role
  trailing : Role
  invalid : Role

-- the code units of an item: a lead with the trailing units that it takes, or one unit alone
pub record Sequence : Type 0 where
  pub first : ℕ
  pub rest : List ℕ

abbrev pub sequence : ℕ → List ℕ → Sequence
sequence u t = record { first = u; rest = t }

abbrev pub units : Sequence → List ℕ
units c = c.first ∷ c.rest

abbrev pub size : Sequence → ℕ
size c = suc (length c.rest)

pub record Form : Type 0 where
  -- what each code unit does
  pub role : ℕ → Role
  -- the value of a lead with all its trailing units
  pub value : Sequence → ℕ
  -- the shortest sequence that the layout gives a value; [] where it gives none
  pub shortest : ℕ → List ℕ
  -- the fault of a value that the form does not carry
  pub excluded : ℕ → Option Fault
  -- document 01's longest item
  pub longest : ℕ

-- "A lead takes the trailing units that directly follow it, as many as its length asks and no more."
abbrev pub asked : Role → ℕ
asked (lead k) = k
asked trailing = 0
asked invalid = 0

abbrev pub is_trailing : Role → Bool
is_trailing (lead k) = false
is_trailing trailing = true
is_trailing invalid = false

abbrev pub taken : Form → ℕ → List ℕ → List ℕ
taken F zero us = []
taken F (suc k) [] = []
taken F (suc k) (u ∷ us) = cond (is_trailing (F.role u)) (u ∷ taken F k us) []

-- the first sequence of a text that begins with u
abbrev pub first_of : Form → ℕ → List ℕ → Sequence
first_of F u us = sequence u (taken F (asked (F.role u)) us)

-- the sequences of a text, when the first k units belong to one before
abbrev pub sequences_after : Form → List ℕ → ℕ → List Sequence
sequences_after F [] k = []
sequences_after F (u ∷ us) zero = first_of F u us ∷ sequences_after F us (length (first_of F u us).rest)
sequences_after F (u ∷ us) (suc k) = sequences_after F us k

-- "A text falls into items, from its first unit on."
abbrev pub sequences : Form → List ℕ → List Sequence
sequences F s = sequences_after F s 0

-- what an item shows, wherever it stands: a character's value, or document 01's mark, with its fault
pub data Content : Type 0 where
  character : ℕ → Content
  mark : Fault → Content

abbrev pub is_shorter : List ℕ → List ℕ → Bool
is_shorter [] t = false
is_shorter (u ∷ e) t = ltb (length e) (length t)

-- "the sequence is longer than its value needs"
abbrev pub overlong : Form → Sequence → Bool
overlong F c = is_shorter (F.shortest (F.value c)) c.rest

abbrev pub carried : ℕ → Option Fault → Content
carried v none = character v
carried v (some f) = mark f

-- "A full sequence is a character or, if a fault applies, one mark over all its bytes."
abbrev pub full_content : Form → Sequence → Content
full_content F c = cond (overlong F c) (mark Overlong) (carried (F.value c) (F.excluded (F.value c)))

abbrev pub content_as : Form → Role → Sequence → Content
content_as F (lead k) c = cond (eqb (length c.rest) k) (full_content F c) (mark MissingTrailing)
content_as F trailing c = mark StrayTrailing
content_as F invalid c = mark InvalidUnit

abbrev pub content : Form → Sequence → Content
content F c = content_as F (F.role c.first) c

abbrev pub span : ℕ → ℕ → Span
span p n = record { offset = p; length = n }

abbrev pub with_span : Content → Span → Item
with_span (character v) p = Character v p
with_span (mark f) p = Mark f p

abbrev pub span_of : Item → Span
span_of (Character v p) = p
span_of (Mark f p) = p

-- document 01's item: a sequence at its place
abbrev pub item_of : Form → ℕ → Sequence → Item
item_of F p c = with_span (content F c) (span p (size c))

abbrev pub items_from : Form → ℕ → List Sequence → List Item
items_from F p [] = []
items_from F p (c ∷ cs) = item_of F p c ∷ items_from F (p + size c) cs

-- the items of a text
abbrev pub items : Form → List ℕ → List Item
items F s = items_from F 0 (sequences F s)

abbrev pub unless : Option Fault → List ℕ → List ℕ
unless none e = e
unless (some f) e = []

-- the legal encoding of a value; [] where it has none
abbrev pub encode : Form → ℕ → List ℕ
encode F v = unless (F.excluded v) (F.shortest v)

-- the legal encodings of values, one behind the other
abbrev pub encode_all : Form → List ℕ → List ℕ
encode_all F [] = []
encode_all F (v ∷ vs) = encode F v ++ encode_all F vs

-- each of the values has one
abbrev pub AllEncodable : Form → List ℕ → Type 0
AllEncodable F [] = Unit {0}
AllEncodable F (v ∷ vs) = (encode F v ≢ []) × AllEncodable F vs

-- document 01's good character: the legal encoding of some value
pub record WellFormed (F : Form) (e : List ℕ) : Type 0 where
  pub value : ℕ
  pub has : encode F value ≢ []
  pub same : e ≡ encode F value

-- document 01's "stands at a place": the units from p on begin with the legal encoding of v
pub record OccursAt (F : Form) (s : List ℕ) (p v : ℕ) : Type 0 where
  pub has : encode F v ≢ []
  pub after : List ℕ
  pub begins : drop p s ≡ encode F v ++ after
