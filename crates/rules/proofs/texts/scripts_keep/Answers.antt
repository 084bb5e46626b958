-- `scripts_keep` meets its contract: a test of every place is one of every script, and a test of two rules is one of each.
use Prim.Native.Nat.{ℕ, suc}
use mathlib.Core.Path.{◌≡◌, refl, ap, ◌∙◌}
use mathlib.Core.Bool.{Bool, ◌&&◌}
use mathlib.Core.List.{List, [], ◌∷◌}
use Rattle.std.proofs.Common.{rules, tests}
use Rattle.records.specs.Lists.{all, all_from}
use Rattle.records.specs.House.{view, no_script}
use Rattle.records.specs.declared.Script.{Script}
use Rattle.records.proofs.Views.{count_scripts}
use Rattle.leads.proofs.Chains.{all_from_of}
use Rattle.rules.specs.Rules.{has_draft}
use Rattle.rules.specs.Walks.{script_keeps}
use Rattle.rules.proofs.Bools.{between}
use Rattle.rules.proofs.texts.scripts_keep.Goals as goal

both : (f : Script → Bool) (g : ℕ → Script → Bool) (n : ℕ) (l : List Script) → all_from n (λ i x. f x && g i x) l ≡ (all f l && all_from n g l)
both f g n [] = refl
both f g n (x ∷ xs) = ap (λ (b : Bool). (f x && g n x) && b) (both f g (suc n) xs) ∙ between (f x) (g n x) (all f xs) (all_from (suc n) g xs)

pub returns : goal.returns
returns c =
    let s = c.args.records.now in
    let h = view s in
    all_from_of no_script h.scripts 64 (count_scripts s) (λ i x. script_keeps h x && has_draft h i x) c.all.ensures.ran (λ i b k e. search (rules, tests))
    ∙ both (script_keeps h) (has_draft h) 0 h.scripts
