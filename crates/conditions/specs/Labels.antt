-- What the tests of labels and of shared places say, without tests: refusals 8, 9 and 16 in plain words.
use Rattle.std.specs.Prelude.{ℕ, ◌≤◌, ◌≡◌, Bool, true, false}
use Rattle.records.specs.Places.{has}
use Rattle.records.specs.declared.Rule.{Rule}
use Rattle.records.specs.declared.Script.{Script}

-- the test holds exactly when P does
pub record Exactly (test : Bool) (P : Type 0) : Type 0 where
  pub says : test ≡ true → P
  pub shown : P → test ≡ true

-- 9 and 16: level' and c' are covered: neither "above the .. level" nor "with more categories". Category q is bit q of the set.
pub record Covered (level c level' c' : ℕ) : Type 0 where
  pub no_higher : level' ≤ level
  pub contained : (q : ℕ) → has c' q ≡ true → has c q ≡ true

-- 16: c lacks a category of c'
pub record Lacks (c c' : ℕ) : Type 0 where
  pub category : ℕ
  pub wanted : has c' category ≡ true
  pub not_held : has c category ≡ false

-- 9 and 16: two labels that do not "differ"
pub record Alike (level c level' c' : ℕ) : Type 0 where
  pub level_alike : level ≡ level'
  pub categories_alike : c ≡ c'

-- 9 and 16 at Import, of script 2 (the house's) and script 1. 02, L3: rule 1 "wants equal labels"; by rule 2 "the house script's categories need only contain the
-- room script's; take its level likewise as at least the room script's"
abbrev pub Importable : Rule → Script → Script → Type 0
Importable Rule.One k₂ k₁ = Alike k₂.level k₂.categories k₁.level k₁.categories
Importable Rule.Two k₂ k₁ = Covered k₂.level k₂.categories k₁.level k₁.categories

-- 8: a "place shared" by two sets
pub record Shared (a b : ℕ) : Type 0 where
  pub place : ℕ
  pub of_first : has a place ≡ true
  pub of_second : has b place ≡ true
