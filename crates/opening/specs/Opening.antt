-- What bytes open as. 02, L2: "The reader accepts exactly the images in that form that keep 01's bounds and record rules."
use Rattle.std.specs.Prelude.{ℕ, ◌≡◌, Bool, true, false, cond, ◌&&◌, List, [], ◌∷◌, eqb, length, Result, Ok, Err}
use Rattle.request.specs.declared.FrameError.{FrameError}
use Rattle.rules.specs.Rules.{rules}
use Rattle.image.specs.Image.{image_of}
use Rattle.reader.specs.Reading.{Saved, blank, Walk, Taken, walked}
use Rattle.opening.specs.declared.OpenError.{OpenError}
use Rattle.opening.specs.declared.OpenError.TheVariants.{Cut, NoImage}

abbrev pub keeps : Saved → Bool
keeps s = rules s.house s.last

abbrev pub image : Saved → List ℕ
image s = image_of s.house s.last s.rule

-- there are records and a last number that keep the rules, and a rule, and these bytes are their image
pub record IsImage (b : List ℕ) : Type 0 where
  pub of : Saved
  pub kept : keeps of ≡ true
  pub written : image of ≡ b

-- ---- the numbers of the refusals, and which one is a frame's: "14 .. an image that is empty or ends inside a body; 15 not an image. .. an unknown kind met there is 15"
abbrev pub error_number : OpenError → ℕ
error_number Cut = 14
error_number NoImage = 15

abbrev pub of_frame : FrameError → OpenError
of_frame FrameError.Unknown = NoImage
of_frame FrameError.Cut = Cut

-- ---- the same as a definition that computes: the answer, and what is then open
abbrev pub Opening : Type 0
Opening = Result (Unit {0}) OpenError

pub record Opens : Type 0 where
  pub answer : Opening
  pub now : Saved

abbrev pub opens : Opening → Saved → Opens
opens answer s = record { answer = answer; now = s }

-- 02, L3: "like a refused image, gives the empty desk with last number 0 and rule 1"
abbrev pub refused : OpenError → Opens
refused e = opens (Err e) blank

abbrev pub accepted : Saved → Opens
accepted s = opens (Ok tt) s

-- what was taken in by then is open where it is accepted
abbrev pub settled : Opening → Saved → Opens
settled (Ok _) s = accepted s
settled (Err e) s = refused e

abbrev pub same_bytes : List ℕ → List ℕ → Bool
same_bytes [] [] = true
same_bytes [] (y ∷ ys) = false
same_bytes (x ∷ xs) [] = false
same_bytes (x ∷ xs) (y ∷ ys) = eqb x y && same_bytes xs ys

-- "otherwise 14 comes before 15"; what was taken in has to keep the rules, and the bytes have to be its image
abbrev pub by_walk : Taken → List ℕ → Walk → Opens
by_walk t b (Err e) = refused (of_frame e)
by_walk t b (Ok _) = cond (keeps t.got && same_bytes (image t.got) b) (accepted t.got) (refused NoImage)

-- "14 .. an image that is empty"
unfoldable pub opened_by : List ℕ → Opens
opened_by b = cond (eqb (length b) 0) (refused Cut) (by_walk (walked 0 blank b) b (walked 0 blank b).stop)
