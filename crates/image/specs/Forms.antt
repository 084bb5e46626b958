-- How records are written as bytes. 02, L2: "records of one kind byte and a fixed body", "numbers and sets four bytes, categories two, the rest one".
use Rattle.std.specs.Prelude.{ℕ, suc, ◌+◌, Bool, cond, List, [], ◌∷◌, ◌++◌}
use Rattle.request.specs.Bytes.{◌#◌, pair_at, quad_at, pair_bytes, quad_bytes}

pub data Width : Type 0 where
  one two four : Width

abbrev pub size : Width → ℕ
size one = 1
size two = 2
size four = 4

abbrev pub sizes : List Width → ℕ
sizes [] = 0
sizes (w ∷ ws) = size w + sizes ws

-- the bytes of a field, the most significant first
abbrev pub spell : Width → ℕ → List ℕ
spell one n = n ∷ []
spell two n = pair_bytes n []
spell four n = quad_bytes n []

-- fields one after the other
abbrev pub spelt : List Width → List ℕ → List ℕ
spelt [] vs = []
spelt (w ∷ ws) [] = []
spelt (w ∷ ws) (v ∷ vs) = spell w v ++ spelt ws vs

-- the field that starts at byte i, and all of them from there on
abbrev pub field_at : Width → List ℕ → ℕ → ℕ
field_at one b i = b # i
field_at two b i = pair_at b i
field_at four b i = quad_at b i

abbrev pub fields_at : List Width → List ℕ → ℕ → List ℕ
fields_at [] b i = []
fields_at (w ∷ ws) b i = field_at w b i ∷ fields_at ws b (i + size w)

-- one kind of record: the widths of its fields, the fields of the element with that id, and the element that has those fields
pub record Form (A : Type 0) : Type 0 where
  pub kind : ℕ
  pub widths : List Width
  pub fields : ℕ → A → List ℕ
  pub of : (ℕ → ℕ) → A

-- the record of the element a with the id i; and where it is there
abbrev pub written : {A : Type 0} → Form A → ℕ → A → List ℕ
written form i a = form.kind ∷ spelt form.widths (form.fields i a)

abbrev pub written_if : {A : Type 0} → Form A → (A → Bool) → ℕ → A → List ℕ
written_if form there i a = cond (there a) (written form i a) []

-- the records of a list, each by its place and itself, the first being place n
abbrev pub listed : {A : Type 0} → (ℕ → A → List ℕ) → ℕ → List A → List ℕ
listed f n [] = []
listed f n (a ∷ more) = f n a ++ listed f (suc n) more
