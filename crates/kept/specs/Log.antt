-- The kept changes and how the log's bytes show them.
use Rattle.std.specs.Prelude.{ℕ, ◌+◌, ◌-◌, ◌%◌, min, cond, List, [], ◌∷◌, ◌++◌, ltb, length, take, drop}
use Rattle.records.specs.Tables.{Table, at, tabulate}
use Rattle.request.specs.Bytes.{◌#◌, quad, quad_bytes}
use Rattle.request.specs.Reading.{request_of}
use Rattle.request.specs.Writing.{framed}
use Rattle.request.specs.declared.Request.TheVariants.{TakeBack}
use Rattle.effects.specs.declared.Change.{Change}

-- a change without effect stands where no change does
abbrev pub no_change : Change
no_change = record { request = TakeBack 0; number = 0 }

-- 32 slots of 13 bytes: nine of the request, four of the number
abbrev pub change_table : Table Change
change_table = record {
  base = 2;
  width = 13;
  count = 32;
  of = λ f. record {
    request = request_of (f 0) (f 0 ∷ f 1 ∷ f 2 ∷ f 3 ∷ f 4 ∷ f 5 ∷ f 6 ∷ f 7 ∷ f 8 ∷ []);
    number = quad (f 9) (f 10) (f 11) (f 12);
  };
  cells = λ c. let b = framed c.request in b # 0 ∷ b # 1 ∷ b # 2 ∷ b # 3 ∷ b # 4 ∷ b # 5 ∷ b # 6 ∷ b # 7 ∷ b # 8 ∷ quad_bytes c.number [];
}

-- the kept changes, oldest first: byte 0 is the slot of the oldest, byte 1 their number; after slot 31 comes slot 0
unfoldable pub past : List ℕ → List Change
past s = tabulate (min (s # 1) 32) (λ i. at change_table s ((s # 0 + i) % 32))

-- one more; of 32 the oldest is given up
abbrev pub pushed : List Change → Change → List Change
pushed l c = cond (ltb (length l) 32) (l ++ (c ∷ [])) (drop 1 l ++ (c ∷ []))

-- all but the newest
abbrev pub popped : List Change → List Change
popped l = take (length l - 1) l
