-- The names of files: the folder that a name is in, and the name of a new file beside it.
use Rattle.std.specs.Prelude.{ℕ, suc, cond, not, ◌||◌, List, [], ◌∷◌, ◌++◌, eqb}

-- how many bytes of a name are its folder: up to its last `/`, that one too; none where it has no `/`
abbrev pub folder_length : List ℕ → ℕ
folder_length [] = 0
folder_length (byte ∷ name) = cond (eqb byte 47 || not (eqb (folder_length name) 0)) (suc (folder_length name)) 0

-- `.XXXXXX`: a new file has other letters for the six
abbrev pub beside_name : List ℕ → List ℕ
beside_name name = name ++ (46 ∷ 88 ∷ 88 ∷ 88 ∷ 88 ∷ 88 ∷ 88 ∷ [])
